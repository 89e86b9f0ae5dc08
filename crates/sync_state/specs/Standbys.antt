-- The standbys of a leader in synchronous mode.
use Rattle.std.specs.Prelude.{ℕ, nat_le, Bool, false, map, Option, Some, None}
use Rattle.pat_base.specs.declared.lsn.Lsn.{Lsn}
use Rattle.pat_base.specs.declared.member_set.MemberSet.{MemberSet}
use Rattle.pat_base.specs.declared.server_state.Required.{Required}
use Rattle.pat_base.specs.declared.server_state.Required.TheVariants as required
use Rattle.cluster_view.specs.declared.view.LeaderView.{LeaderView}
use Rattle.cluster_view.specs.Snapshots.{SnapshotFacts}
use Rattle.sync_state.specs.declared.steps.Standbys.{Standbys}
use Rattle.sync_state.specs.Candidates.{wanted_in}
use Rattle.sync_state.specs.Published.{published_in}
use Rattle.sync_state.specs.Sets.{nobody, set_of}

-- each member whose confirmation a commit waits for: nobody where it waits for any one, or for so many of a set
abbrev pub required_members : Required → MemberSet
required_members required.Nobody = nobody
required_members required.AnyOne = nobody
required_members (required.All members) = members
required_members (required.AtLeast number of) = nobody

-- the noted position: 0 where none was noted
abbrev pub noted_position : Option Lsn → ℕ
noted_position None = 0
noted_position (Some noted) = noted.position

-- a member has confirmed the noted position: it is connected, and what it confirmed is at or past that
abbrev pub has_confirmed : Option Lsn → Option Lsn → Bool
has_confirmed noted None = false
has_confirmed noted (Some end) = nat_le (noted_position noted) end.position

-- the members that have confirmed the noted position
abbrev pub confirmed_in : LeaderView → MemberSet
confirmed_in view = set_of (map (has_confirmed view.noted) view.confirmed_positions)

-- whom the sync key names, whose confirmation commits wait for, who is wanted, who has confirmed the noted position
abbrev pub standbys_in : LeaderView → SnapshotFacts → Standbys
standbys_in view seen = record {
  published = published_in seen;
  required = required_members view.required;
  wanted = wanted_in view seen;
  confirmed = confirmed_in view;
}
