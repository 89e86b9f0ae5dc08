-- Who wins the race for a free leader key with quorum commit: what bars a member
-- that may race, by the sync key and by the answers of the others.
use Rattle.std.specs.Prelude.{ℕ, ◌==◌, ◌&&◌, ◌||◌, nat_lt, is_some, Bool, List, [], ◌∷◌, map, Option, Some, None}
use Rattle.std.specs.List.{list_any, range_with_len}
use Rattle.pat_base.specs.declared.ineligibility.Ineligibility.{Ineligibility}
use Rattle.pat_base.specs.declared.ineligibility.Ineligibility.TheVariants as bars
use Rattle.pat_base.specs.declared.member_id.TheConstants.{MOST_MEMBERS}
use Rattle.pat_base.specs.declared.member_set.MemberSet.{MemberSet}
use Rattle.pat_base.specs.declared.peer_answer.PeerAnswer.{PeerAnswer}
use Rattle.store_keys.specs.declared.value.SyncKey.{SyncKey}
use Rattle.cluster_view.specs.declared.view.AgentView.{AgentView}
use Rattle.cluster_view.specs.KeyValues.{failover_in, sync_in}
use Rattle.cluster_view.specs.Naming.{is_candidate}
use Rattle.cluster_view.specs.Snapshots.{SnapshotFacts}
use Rattle.leader_race.specs.declared.racer.RaceKeys.{RaceKeys}
use Rattle.leader_race.specs.declared.racer.Racer.{Racer}
use Rattle.leader_race.specs.Bars.{bar_where, first_bar}
use Rattle.leader_race.specs.Outcome.{ahead, other_writes, priority, racer_of, unless}
use Rattle.leader_race.specs.Peers.{is_compared}
use Rattle.sync_state.specs.Sets.{set_of}
use Rattle.quorum_commit.specs.Quorums.{size}

-- the answer is that of the member of this number: another standby, which may fail over and has a log
abbrev pub tells_end : Racer → ℕ → PeerAnswer → Bool
tells_end racer number answer = answer.member.number == number && (is_compared racer answer && is_some answer.end)

-- the member of this number is compared: one of the answers is such
abbrev pub is_told : Racer → List PeerAnswer → ℕ → Bool
is_told racer answers number = list_any (tells_end racer number) answers

-- the set of those that are compared: of the other standbys in the sync key those
-- that answered, may fail over and have a log, however often one answered
abbrev pub compared : Racer → List PeerAnswer → MemberSet
compared racer answers = set_of (map (is_told racer answers) (range_with_len 0 MOST_MEMBERS))

-- fewer are compared than may lack an acknowledged commit
abbrev pub too_few : ℕ → MemberSet → Option Ineligibility
too_few number members = bar_where (nat_lt (size members) number) bars.TooFewAnswers

-- the sync key names the member as leader: it has each acknowledged commit
abbrev pub is_leader_in : SyncKey → Racer → Bool
is_leader_in sync racer = sync.leader.number == racer.me.number

-- why a member doesn't win by this sync key, by the first rule that applies: the key's leader gives way to
-- nobody but one that accepts writes; a member that a failover names as candidate gives way to no priority
abbrev pub outcome_among : Racer → SyncKey → Bool → List PeerAnswer → Option Ineligibility
outcome_among racer sync named answers = first_bar (
    other_writes racer answers
    ∷ unless (is_leader_in sync racer) (ahead racer answers)
    ∷ unless (is_leader_in sync racer) (too_few sync.quorum (compared racer answers))
    ∷ unless (is_leader_in sync racer || named) (priority racer answers)
    ∷ [])

-- why a member doesn't win by a sync key, if there is one: an absent one names nobody that it would be compared with
abbrev pub outcome_with : Racer → Option SyncKey → Bool → List PeerAnswer → Option Ineligibility
outcome_with racer None named answers = other_writes racer answers
outcome_with racer (Some sync) named answers = outcome_among racer sync named answers

-- why a member that may race doesn't win by these keys with quorum commit; nothing where it wins
abbrev pub quorum_outcome_by : AgentView → RaceKeys → List PeerAnswer → Option Ineligibility
quorum_outcome_by view keys answers =
    outcome_with (racer_of view keys) keys.sync (is_candidate view.me keys.failover) answers

-- what a snapshot says of a race by quorum: the failover key and the sync key
abbrev pub quorum_keys_in : SnapshotFacts → RaceKeys
quorum_keys_in seen = record { failover = failover_in seen; sync = sync_in seen }

-- the same by what a snapshot says
abbrev pub quorum_outcome_of : AgentView → SnapshotFacts → List PeerAnswer → Option Ineligibility
quorum_outcome_of view seen answers = quorum_outcome_by view (quorum_keys_in seen) answers
