-- The request of a leader to all other members, and who acknowledged it (Patroni documentation, "DCS Failsafe Mode").
use Rattle.std.specs.Prelude.{ℕ, ◌==◌, ◌&&◌, ◌^◌, bit_and, bit_or, nat_lt, if◌then◌else◌, not, Bool, true, false, Option, Some, None}
use Rattle.std.specs.Int.{bit_at}
use Rattle.pat_base.specs.declared.member_id.MemberId.{MemberId}
use Rattle.pat_base.specs.declared.member_set.MemberSet.{MemberSet}
use Rattle.pat_base.specs.declared.ticks.Ticks.{Ticks}
use Rattle.failsafe.specs.declared.asks.Ask.{Ask}

-- the member of this number is in the set
abbrev pub has : MemberSet → ℕ → Bool
has set k = bit_at set.bits k == 1

-- the set and this member
abbrev pub with_member : MemberSet → MemberId → MemberSet
with_member set member = record { bits = bit_or set.bits (2 ^ member.number) }

-- each member of the first set is in the other
abbrev pub is_within : MemberSet → MemberSet → Bool
is_within one other = bit_and one.bits other.bits == one.bits

-- a request to these members, which nobody has acknowledged
abbrev pub asked : MemberSet → Ticks → Ask
asked members now = record { members = members; made = now; acknowledged = record { bits = 0 }; earliest = None }

-- a member was asked, and hasn't acknowledged yet
abbrev pub is_awaited : Ask → MemberId → Bool
is_awaited ask member = has ask.members member.number && not (has ask.acknowledged member.number)

-- the earlier of two moments, of which the first may be absent
abbrev pub earlier : Option Ticks → Ticks → Ticks
earlier None at = at
earlier (Some before) at = if nat_lt before.0 at.0 then before else at

-- an answer counts: a yes of one that was asked, and its first
abbrev pub counts : Ask → MemberId → Bool → Bool
counts ask member accepted = accepted && is_awaited ask member

-- a member acknowledged at this moment
abbrev pub with_acknowledgement : Ask → MemberId → Ticks → Ask
with_acknowledgement ask member at =
    record ask { acknowledged = with_member ask.acknowledged member; earliest = Some (earlier ask.earliest at) }

-- a member's answer of this moment
abbrev pub heard : Ask → MemberId → Bool → Ticks → Ask
heard ask member accepted at = if counts ask member accepted then with_acknowledgement ask member at else ask

-- the earliest moment of an acknowledgement; where there is none that of the request
abbrev pub earliest_or : Ticks → Option Ticks → Ticks
earliest_or made None = made
earliest_or made (Some at) = at

-- that moment, where each member that was asked has acknowledged
abbrev pub moment_of_all : Ask → Option Ticks
moment_of_all ask = if is_within ask.members ask.acknowledged then Some (earliest_or ask.made ask.earliest) else None
