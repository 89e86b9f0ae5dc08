-- How a leader changes its synchronous standbys, a step with each renewal (Patroni, "Replication modes").
use Rattle.std.specs.Prelude.{ℕ, Option, Some, None}
use Rattle.pat_base.specs.declared.member_set.MemberSet.{MemberSet}
use Rattle.pat_base.specs.declared.server_state.Required.TheVariants.{Nobody, All}
use Rattle.pat_base.specs.declared.ticks.Ticks.{Ticks}
use Rattle.store_keys.specs.declared.txn.Txn.{Txn}
use Rattle.store_keys.specs.declared.txn.Txn.TheVariants as txns
use Rattle.store_keys.specs.declared.txn.SyncTxn.TheVariants as sync_txns
use Rattle.lease_store.specs.Writes.{nobody}
use Rattle.event_book.specs.declared.message.Body.TheVariants as bodies
use Rattle.cluster_view.specs.declared.view.LeaderView.{LeaderView}
use Rattle.cluster_view.specs.Snapshots.{SnapshotFacts}
use Rattle.sync_state.specs.declared.steps.Plan.{Plan}
use Rattle.sync_state.specs.declared.steps.Plan.TheVariants as plans
use Rattle.sync_state.specs.Plans.{plan_of}
use Rattle.cluster_view.specs.declared.view.RoleWord.TheVariants as words
use Rattle.agent_model.specs.declared.knowledge.Knowledge.{Knowledge}
use Rattle.agent_model.specs.declared.machine.Machine.{Machine}
use Rattle.agent_model.specs.declared.knowledge.Question.TheVariants.{Syncing}
use Rattle.agent_model.specs.declared.knowledge.Settling.{Settling}
use Rattle.agent_model.specs.declared.knowledge.SyncRead.{SyncRead}
use Rattle.agent_model.specs.declared.knowledge.Settling.TheVariants.{KeepsList, NamesStandbys, ClearsList}
use Rattle.agent_model.specs.Acting.{seconds_after, asking, requiring}
use Rattle.agent_model.specs.Agents.{Outcome}
use Rattle.agent_model.specs.Synchronous.{sync_read_if, expected_of, waiting_for}
use Rattle.agent_model.specs.Views.{view_of}

-- what a leader shows of itself and of synchronous replication on its
-- server, but for its newest snapshot, which stands beside it
abbrev pub leader_view : Ticks → Knowledge → Machine → LeaderView
leader_view now knows machine = record {
  view = view_of now words.Leader knows machine;
  required = machine.replication.required;
  confirmed_positions = machine.replication.confirmed_positions;
  noted = knows.noted;
}

-- the agent asks for a write of the sync key, and waits for the answer; with a grant the required list settles so
abbrev pub writing_sync : Ticks → Settling → Txn → Outcome → Outcome
writing_sync now settling txn o =
    asking now (Syncing settling) (seconds_after now o.knows.settings.retry_timeout) (bodies.Request txn) o

-- it asks that these be the standbys in the sync key, as that was read last
abbrev pub naming : Ticks → ℕ → Settling → MemberSet → Outcome → Outcome
naming now revision settling standbys o =
    writing_sync now settling
    (txns.Sync (sync_txns.SetSync revision (expected_of (sync_read_if o.knows.seen)) standbys None)) o

-- it asks that the sync key be removed, which was read so
abbrev pub switching_off : Ticks → ℕ → Option SyncRead → Outcome → Outcome
switching_off now revision None o = o
switching_off now revision (Some read) o =
    writing_sync now ClearsList (txns.Sync (sync_txns.DropSync revision read.revision)) o

-- the end of the log is noted: who becomes a standby from now on must have confirmed it first
abbrev pub noting : Outcome → Outcome
noting o = record o { knows = record o.knows { noted = o.machine.server.end } }

-- a step of the plan, under the leader key of this revision
abbrev pub planned_as : Ticks → ℕ → Plan → Outcome → Outcome
planned_as now revision plans.Keep o = o
planned_as now revision plans.SwitchOff o = switching_off now revision (sync_read_if o.knows.seen) o
planned_as now revision plans.Mark o = naming now revision (NamesStandbys nobody) nobody o
planned_as now revision (plans.Withdraw standbys) o = naming now revision (NamesStandbys standbys) standbys o
planned_as now revision (plans.AddRequired members) o = requiring (All members) (noting o)
planned_as now revision (plans.Publish standbys) o = naming now revision KeepsList standbys o
planned_as now revision (plans.DropRequired members) o = requiring (waiting_for o.knows.settings members) o

-- the step that the newest snapshot calls for, if there is one
abbrev pub planned_on : Ticks → ℕ → Option SnapshotFacts → Outcome → Outcome
planned_on now revision None o = o
planned_on now revision (Some snapshot) o =
    planned_as now revision (plan_of (leader_view now o.knows o.machine) snapshot) o

-- a leader's step
abbrev pub planned : Ticks → ℕ → Outcome → Outcome
planned now revision o = planned_on now revision o.knows.seen o

-- what the required list becomes once a write of the sync key is granted
abbrev pub settled : Settling → Outcome → Outcome
settled KeepsList o = o
settled (NamesStandbys standbys) o = requiring (waiting_for o.knows.settings standbys) o
settled ClearsList o = requiring Nobody o
