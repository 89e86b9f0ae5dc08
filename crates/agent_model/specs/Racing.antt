-- What a member without a lease does about a free leader key: where nothing bars it, it
-- asks the other members how far their servers are, and is judged by what they answer.
use Rattle.std.specs.Prelude.{ℕ, ◌+◌, ◌&&◌, if◌then◌else◌, not, Bool, [], Option, Some, None, option_map}
use Rattle.pat_base.specs.declared.ticks.Ticks.{Ticks}
use Rattle.pat_base.specs.declared.ineligibility.Ineligibility.{Ineligibility}
use Rattle.store_keys.specs.declared.txn.Txn.TheVariants as txns
use Rattle.store_keys.specs.declared.txn.LeaseTxn.TheVariants as lease_txns
use Rattle.pg_model.specs.declared.status.ServerStatus.{ServerStatus}
use Rattle.pg_model.specs.Facts.{is_down}
use Rattle.event_book.specs.declared.agent_note.AgentNote.TheVariants as agent_notes
use Rattle.event_book.specs.declared.message.Body.TheVariants as bodies
use Rattle.cluster_view.specs.declared.view.AgentView.{AgentView}
use Rattle.cluster_view.specs.declared.view.RoleWord.TheVariants as words
use Rattle.cluster_view.specs.KeyValues.{active_sync_where}
use Rattle.cluster_view.specs.Snapshots.{SnapshotFacts}
use Rattle.leader_race.specs.declared.racer.RaceKeys.{RaceKeys}
use Rattle.leader_race.specs.Eligibility.{eligibility_of}
use Rattle.leader_race.specs.Outcome.{outcome_by}
use Rattle.agent_model.specs.declared.knowledge.Knowledge.{Knowledge}
use Rattle.agent_model.specs.declared.knowledge.Question.TheVariants.{ComparingPositions, Creating}
use Rattle.agent_model.specs.declared.knowledge.SyncRead.{SyncRead}
use Rattle.agent_model.specs.declared.machine.Machine.{Machine}
use Rattle.agent_model.specs.declared.output.Output.TheVariants as outputs
use Rattle.agent_model.specs.declared.output.Noting.TheVariants as notings
use Rattle.agent_model.specs.Acting.{seconds_after, lease_span, counted, waiting, asking, touching, starting_replica, waiting_no_more}
use Rattle.agent_model.specs.Agents.{Follower, Outcome}
use Rattle.agent_model.specs.Answers.{asking_all, all_answered}
use Rattle.agent_model.specs.FailsafeKeys.{failsafe_compared}
use Rattle.agent_model.specs.Info.{info_of}
use Rattle.agent_model.specs.Outputs.{with_output}
use Rattle.agent_model.specs.Pausing.{is_paused}
use Rattle.agent_model.specs.Views.{view_of, shown}

-- a server can start as a replica: it is down, and its log didn't diverge
abbrev pub can_start : ServerStatus → Bool
can_start server = is_down server.state && not server.diverged

-- what bars a member from racing that shows this, by a snapshot; nothing where there is none
abbrev pub bar_by : AgentView → Option SnapshotFacts → Option Ineligibility
bar_by view None = None
bar_by view (Some seen) = eligibility_of view seen

-- what bars a member without a lease from racing for the leader key, by what it shows at this moment and by
-- the newest snapshot: who races begins to in the very input that hears a read, so that one is its turn's
abbrev pub bar_of : Ticks → Knowledge → Machine → Option Ineligibility
bar_of now knows machine = bar_by (view_of now words.Follower knows machine) knows.seen

-- the agent asks for the leader key
abbrev pub creating : Ticks → Outcome → Outcome
creating now o = asking now Creating (seconds_after now o.knows.settings.retry_timeout)
    (bodies.Request (txns.Lease (lease_txns.Create (info_of o.knows.who o.machine.server) (lease_span o.knows.settings)
    (failsafe_compared o.knows) None)))
    o

-- a member that is barred tells by what, and tells of itself
abbrev pub barred : Ineligibility → Outcome → Outcome
barred bar o =
    touching (record o { outputs = with_output (outputs.Note (notings.Agent (agent_notes.DoesNotRace bar))) o.outputs })

-- what the last turn read that a race is judged by: the failover key,
-- and the sync key where the synchronous mode is active
abbrev pub turn_keys : Knowledge → RaceKeys
turn_keys knows = record {
  failover = knows.turn_failover;
  sync = active_sync_where knows.turn_settings.synchronous_mode
      (option_map (λ (read : SyncRead). read.key) knows.turn_sync);
}

-- what bars a member from winning the race: by what the turn that asked read of the key
-- store, by the answers that it heard, and by what it shows at this moment
abbrev pub outcome_at : Ticks → Outcome → Option Ineligibility
outcome_at now o = outcome_by (shown now o) (turn_keys o.knows) o.knows.answers

-- who wins asks for the leader key
abbrev pub judged_as : Ticks → Option Ineligibility → Outcome → Outcome
judged_as now None o = creating now o
judged_as now (Some bar) o = barred bar o

-- the race is judged: no answers are waited for any more
abbrev pub judged : Ticks → Outcome → Outcome
judged now o = judged_as now (outcome_at now o) (waiting_no_more o)

-- for so many ticks a member waits for the answers of the others
abbrev pub answer_ticks : ℕ
answer_ticks = 20

-- the moment until which a member waits for answers that asks now
abbrev pub answers_until : Ticks → Ticks
answers_until now = record { 0 = now.0 + answer_ticks }

-- the agent asks each other member how far its server is, all under one number, and waits for the answers
abbrev pub asking_others : Ticks → Outcome → Outcome
asking_others now o = record o {
  knows = waiting now ComparingPositions (answers_until now) (counted o.knows);
  outputs = asking_all o.knows.who (o.knows.sequence + 1) o.outputs;
}

-- the agent forgets what it heard of other members
abbrev pub unheard : Outcome → Outcome
unheard o = record o { knows = record o.knows { answers = [] } }

-- the others are asked; where there is none, the race is judged at once
abbrev pub asks_or_judged : Ticks → Outcome → Outcome
asks_or_judged now o = if all_answered o.knows.who o.knows.answers then judged now o else asking_others now o

-- a member that nothing bars races
abbrev pub races : Ticks → Outcome → Outcome
races now o = asks_or_judged now (unheard o)

-- what a member does about the free leader key, by what bars it
abbrev pub races_unless : Ticks → Option Ineligibility → Outcome → Outcome
races_unless now None o = races now o
races_unless now (Some bar) o = barred bar o

-- a server starts as a replica of none, but in a pause
abbrev pub starts_alone : Ticks → Outcome → Outcome
starts_alone now o = if is_paused o.knows then o else starting_replica now None o

-- what a member without a lease does while nobody leads: a server that can start does so as a
-- replica of none, and its agent tells of itself; else the member races, unless something bars it
abbrev pub free_key : Ticks → Outcome → Outcome
free_key now o = if can_start o.machine.server then touching (starts_alone now o)
    else races_unless now (bar_of now o.knows o.machine) o

-- a follower, or a holder, whose lease is lost, finds that nobody leads
abbrev pub finds_free : Ticks → Outcome → Outcome
finds_free now o = free_key now (record o { role = Follower })
