-- Who wins the race for a free leader key: what bars a member that may race, by the answers of the others.
use Rattle.std.specs.Prelude.{◌≡◌, Bool, true, false, List, [], ◌∷◌, Option, None, Contains}
use Rattle.std.specs.Option.{option_map}
use Rattle.pat_base.specs.declared.ineligibility.Ineligibility.{Ineligibility}
use Rattle.pat_base.specs.declared.ineligibility.Ineligibility.TheVariants as bars
use Rattle.pat_base.specs.declared.peer_answer.PeerAnswer.{PeerAnswer}
use Rattle.cluster_view.specs.declared.view.AgentView.{AgentView}
use Rattle.cluster_view.specs.KeyValues.{failover_in, active_sync_in}
use Rattle.cluster_view.specs.Naming.{is_candidate}
use Rattle.cluster_view.specs.Snapshots.{SnapshotFacts}
use Rattle.leader_race.specs.declared.racer.RaceKeys.{RaceKeys}
use Rattle.leader_race.specs.declared.racer.Racer.{Racer}
use Rattle.leader_race.specs.declared.racer.Rule.TheVariants as rules
use Rattle.leader_race.specs.Bars.{first_bar}
use Rattle.leader_race.specs.Peers.{is_compared, bars_by, first_of}

-- what a snapshot says of a race: the failover key, and the sync key where the synchronous mode is active
abbrev pub race_keys_in : SnapshotFacts → RaceKeys
race_keys_in seen = record { failover = failover_in seen; sync = active_sync_in seen }

-- the member that races: what answers are compared with
abbrev pub racer_of : AgentView → RaceKeys → Racer
racer_of view keys =
    record { me = view.me; end = view.end; priority = view.tags.failover_priority; sync = keys.sync }

-- the server of another member accepts writes
abbrev pub other_writes : Racer → List PeerAnswer → Option Ineligibility
other_writes racer answers = option_map bars.OtherWrites (first_of (bars_by racer rules.OtherWrites) answers)

-- the log of another member ends further on
abbrev pub ahead : Racer → List PeerAnswer → Option Ineligibility
ahead racer answers = option_map bars.Ahead (first_of (bars_by racer rules.Ahead) answers)

-- the log of another member ends at the same position, and its priority is higher
abbrev pub priority : Racer → List PeerAnswer → Option Ineligibility
priority racer answers = option_map bars.Priority (first_of (bars_by racer rules.Priority) answers)

-- a rule that doesn't apply where this is so
abbrev pub unless : Bool → Option Ineligibility → Option Ineligibility
unless false bar = bar
unless true bar = None

-- why a member that may race doesn't win by these keys, by the first rule that applies; nothing
-- where it wins. Nobody is compared with a member that a failover names as candidate
abbrev pub outcome_by : AgentView → RaceKeys → List PeerAnswer → Option Ineligibility
outcome_by view keys answers = first_bar (
    other_writes (racer_of view keys) answers
    ∷ unless (is_candidate view.me keys.failover) (ahead (racer_of view keys) answers)
    ∷ unless (is_candidate view.me keys.failover) (priority (racer_of view keys) answers)
    ∷ [])

-- the same by what a snapshot says
abbrev pub outcome_of : AgentView → SnapshotFacts → List PeerAnswer → Option Ineligibility
outcome_of view seen answers = outcome_by view (race_keys_in seen) answers

-- a member is compared with another one by what that one told truly: the
-- answer was heard and counts, and no failover names the member as candidate
pub record ComparesWith (view : AgentView) (keys : RaceKeys) (answers : List PeerAnswer) (other : AgentView) : Type
    0 where
  pub answer : PeerAnswer
  pub member : answer.member ≡ other.me
  pub end : answer.end ≡ other.end
  pub tags : answer.tags ≡ other.tags
  pub heard : Contains answers answer
  pub compared : is_compared (racer_of view keys) answer ≡ true
  pub no_candidate : is_candidate view.me keys.failover ≡ false
