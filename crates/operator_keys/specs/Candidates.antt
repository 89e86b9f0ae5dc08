-- Who leads and who may take over, by a snapshot.
use Rattle.std.specs.Prelude.{◌&&◌, not, Bool, false, Option, Some, None}
use Rattle.std.specs.List.{list_any}
use Rattle.pat_base.specs.declared.member_id.MemberId.{MemberId}
use Rattle.store_keys.specs.declared.key.Key.{Key}
use Rattle.store_keys.specs.declared.key.Key.TheVariants as keys
use Rattle.store_keys.specs.declared.value.MemberInfo.{MemberInfo}
use Rattle.store_keys.specs.declared.value.Value.{Value}
use Rattle.cluster_view.specs.declared.snapshot.LeaderEntry.{LeaderEntry}
use Rattle.cluster_view.specs.KeyValues.{info_by, info_in}
use Rattle.cluster_view.specs.Snapshots.{SnapshotFacts, leader_in}
use Rattle.cluster_view.specs.Naming.{leads}
use Rattle.leader_race.specs.Eligibility.{may_fail_over}
use Rattle.operator_keys.specs.declared.asked.Named.{Named}
use Rattle.operator_keys.specs.declared.asked.Named.TheVariants as named

-- the one who is named leads
abbrev pub names_leader : Named → Option LeaderEntry → Bool
names_leader named.Nobody leader = false
names_leader named.Unknown leader = false
names_leader (named.Member member) leader = leads member leader

-- what the one who is named tells of itself, where it is a member with a member key
abbrev pub info_of : Named → SnapshotFacts → Option MemberInfo
info_of named.Nobody seen = None
info_of named.Unknown seen = None
info_of (named.Member member) seen = info_in seen member

-- a member may take over that tells this of itself: it doesn't lead, and may fail over
abbrev pub may_take_over : MemberId → Option LeaderEntry → Option MemberInfo → Bool
may_take_over member leader None = false
may_take_over member leader (Some info) = not (leads member leader) && may_fail_over info.tags

-- what stands at a key lets a member take over from this leader: it is its member key
abbrev pub may_take_over_by : Option LeaderEntry → Key → Value → Bool
may_take_over_by leader (keys.Member member) value = may_take_over member leader (info_by value)
may_take_over_by leader _ value = false

-- any member with a member key may take over
abbrev pub anyone_may_take_over : SnapshotFacts → Bool
anyone_may_take_over seen = list_any (λ entry. may_take_over_by (leader_in seen) entry.0 entry.1.value) seen.entries
