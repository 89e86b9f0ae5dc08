-- Who may be a synchronous standby, and who of them is wanted.
use Rattle.std.specs.Prelude.{ℕ, not, nat_lt, Bool, true, false, List, map, count_by, slice_get, slice_index_or, Option, Some, None, option_and_then}
use Rattle.std.specs.Cmp.Lexicographic.{slice_cmp}
use Rattle.std.specs.List.{range_with_len}
use Rattle.std.specs.Ordering.{bool_cmp, nat_cmp, ordering_then, is_lt}
use Rattle.std.specs.declared.cmp.Ordering.{Ordering}
use Rattle.pat_base.specs.declared.host.Host.{Host}
use Rattle.pat_base.specs.declared.lsn.Lsn.{Lsn}
use Rattle.pat_base.specs.declared.member_id.MemberId.{MemberId}
use Rattle.pat_base.specs.declared.member_set.MemberSet.{MemberSet}
use Rattle.pat_base.specs.declared.name.Name.{Name}
use Rattle.pat_base.specs.MemberId.{member_of}
use Rattle.pat_base.specs.Name.{name_bytes}
use Rattle.store_keys.specs.declared.key.Key.TheVariants as keys
use Rattle.store_keys.specs.declared.value.KeyEntry.{KeyEntry}
use Rattle.store_keys.specs.declared.value.Value.{Value}
use Rattle.store_keys.specs.declared.value.Value.TheVariants as values
use Rattle.cluster_view.specs.declared.view.LeaderView.{LeaderView}
use Rattle.cluster_view.specs.KeyValues.{config_in}
use Rattle.cluster_view.specs.Naming.{is_one_of}
use Rattle.cluster_view.specs.Snapshots.{SnapshotFacts, entry_in}
use Rattle.sync_state.specs.declared.candidates.Candidate.{Candidate}
use Rattle.sync_state.specs.Published.{published_in}
use Rattle.sync_state.specs.Sets.{set_of}
use Rattle.pat_base.specs.declared.member_id.TheConstants.{MOST_MEMBERS}

-- a value of a member key doesn't say `nosync`
abbrev pub may_sync_by : Value → Bool
may_sync_by (values.Member info) = not info.tags.nosync
may_sync_by _ = false

-- the entry of a member key is there, and doesn't say `nosync`
abbrev pub may_sync_of_entry : Option KeyEntry → Bool
may_sync_of_entry None = false
may_sync_of_entry (Some found) = may_sync_by found.value

-- the member has a member key, without `nosync`
abbrev pub may_sync : MemberId → SnapshotFacts → Bool
may_sync member seen = may_sync_of_entry (entry_in (keys.Member member) seen)

-- the position that the member confirmed, if it is connected
abbrev pub connected_end : MemberId → LeaderView → Option Lsn
connected_end member view = slice_index_or view.confirmed_positions member.number None

-- the name of one of these members
abbrev pub name_by : Option (Name × Host) → Option Name
name_by None = None
name_by (Some member) = Some member.0

-- the name of the member, if there is such a member
abbrev pub name_in : MemberId → SnapshotFacts → Option Name
name_in member seen = name_by (slice_get seen.members member.number)

-- a connected member with a name as a candidate
abbrev pub candidate_by : Bool → Option Lsn → Option Name → Option Candidate
candidate_by published None name = None
candidate_by published (Some end) None = None
candidate_by published (Some end) (Some name) = Some (record { published = published; end = end; name = name })

-- a candidate, where it may be one
abbrev pub candidate_where : Bool → Option Candidate → Option Candidate
candidate_where false candidate = None
candidate_where true candidate = candidate

-- the member as a candidate, if it is one: the cluster has such a member,
-- it is connected, and its member key is there and doesn't say `nosync`
abbrev pub candidate_in : LeaderView → SnapshotFacts → MemberId → Option Candidate
candidate_in view seen member =
    candidate_where (may_sync member seen)
    (candidate_by (is_one_of member (published_in seen)) (connected_end member view) (name_in member seen))

-- the member of this number as a candidate
abbrev pub candidate_numbered : LeaderView → SnapshotFacts → ℕ → Option Candidate
candidate_numbered view seen number = option_and_then (candidate_in view seen) (member_of number)

-- the candidates among all members that there may be, by their numbers
unfoldable pub candidates_in : LeaderView → SnapshotFacts → List (Option Candidate)
candidates_in view seen = map (candidate_numbered view seen) (range_with_len 0 MOST_MEMBERS)

-- which of two candidates comes first: the one that is published, else the
-- one that confirmed more, else the one whose name is earlier in byte order
abbrev pub candidate_cmp : Candidate → Candidate → Ordering
candidate_cmp one other =
    ordering_then (ordering_then (bool_cmp other.published one.published) (nat_cmp other.end.position one.end.position))
    (slice_cmp nat_cmp (name_bytes one.name) (name_bytes other.name))

-- the other one is a candidate, and comes before this one
abbrev pub comes_before : Option Candidate → Candidate → Bool
comes_before None candidate = false
comes_before (Some other) candidate = is_lt (candidate_cmp other candidate)

-- how many of these come before the candidate
abbrev pub candidates_before : List (Option Candidate) → Candidate → ℕ
candidates_before candidates candidate = count_by (λ other. comes_before other candidate) candidates

-- a candidate is wanted where fewer than so many come before it
abbrev pub is_wanted : ℕ → List (Option Candidate) → Option Candidate → Bool
is_wanted most candidates None = false
is_wanted most candidates (Some candidate) = nat_lt (candidates_before candidates candidate) most

-- the wanted members, by the candidates: the first so many
abbrev pub wanted_of : ℕ → List (Option Candidate) → MemberSet
wanted_of most candidates = set_of (map (is_wanted most candidates) candidates)

-- the wanted members: of the candidates as many as the configuration's node count, in their order
abbrev pub wanted_in : LeaderView → SnapshotFacts → MemberSet
wanted_in view seen = wanted_of (config_in seen).synchronous_node_count (candidates_in view seen)
