-- Whom a leader lists in the failsafe key, and whom it asks of those
-- that are listed (Patroni documentation, "DCS Failsafe Mode").
use Rattle.std.specs.Prelude.{ℕ, zero, suc, ◌==◌, ◌&&◌, ◌^◌, bit_xor, if◌then◌else◌, not, Bool, true, false, is_some, Option, Some, None}
use Rattle.pat_base.specs.MemberId.{member_of}
use Rattle.pat_base.specs.declared.member_id.MemberId.{MemberId}
use Rattle.pat_base.specs.declared.member_id.TheConstants.{MOST_MEMBERS}
use Rattle.pat_base.specs.declared.member_set.MemberSet.{MemberSet}
use Rattle.store_keys.specs.declared.key.Key.TheVariants as keys
use Rattle.cluster_view.specs.Snapshots.{SnapshotFacts, entry_in, failsafe_in}
use Rattle.failsafe.specs.Asks.{has, with_member}

-- the set without this member
abbrev pub without_member : MemberSet → MemberId → MemberSet
without_member set member =
    if has set member.number then record { bits = bit_xor set.bits (2 ^ member.number) } else set

-- the member has a member key
abbrev pub is_present : SnapshotFacts → MemberId → Bool
is_present seen member = is_some (entry_in (keys.Member member) seen)

-- the set and this member, where it has a member key
abbrev pub with_present : SnapshotFacts → Option MemberId → MemberSet → MemberSet
with_present seen None set = set
with_present seen (Some member) set = if is_present seen member then with_member set member else set

-- of the members of the numbers below this those that have a member key
abbrev pub present_below : SnapshotFacts → ℕ → MemberSet
present_below seen zero = record { bits = 0 }
present_below seen (suc n) = with_present seen (member_of n) (present_below seen n)

-- the members that have a member key
abbrev pub present_in : SnapshotFacts → MemberSet
present_in seen = present_below seen MOST_MEMBERS

-- the failsafe key lists these members
abbrev pub is_listed : MemberSet → Option MemberSet → Bool
is_listed members None = false
is_listed members (Some listed) = listed.bits == members.bits

-- these members, where the failsafe key lists others, or there is none
abbrev pub unless_listed : MemberSet → Option MemberSet → Option MemberSet
unless_listed members listed = if is_listed members listed then None else Some members

-- whom a leader is to write into the failsafe key, with the mode on:
-- the members that have a member key, where it doesn't list just these
abbrev pub set_to_write : Bool → SnapshotFacts → Option MemberSet
set_to_write mode seen = if mode then unless_listed (present_in seen) (failsafe_in seen) else None
