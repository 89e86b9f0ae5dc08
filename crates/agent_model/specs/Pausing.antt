-- What agents do otherwise while the cluster is paused: by themselves they neither start nor end nor
-- rewind a server, but for a handover (Patroni's documentation, "Pause/Resume mode for the cluster").
use Rattle.std.specs.Prelude.{◌&&◌, ◌||◌, not, Bool, true, false, List, Option, Some, None}
use Rattle.pat_base.specs.declared.member_id.MemberId.{MemberId}
use Rattle.pat_base.specs.declared.server_state.State.{State}
use Rattle.pat_base.specs.declared.ticks.Ticks.{Ticks}
use Rattle.store_keys.specs.declared.config.Config.{Config}
use Rattle.store_keys.specs.declared.value.FailoverKey.{FailoverKey}
use Rattle.cluster_view.specs.KeyValues.{failover_in}
use Rattle.cluster_view.specs.Naming.{is_candidate}
use Rattle.cluster_view.specs.Snapshots.{SnapshotFacts}
use Rattle.event_book.specs.declared.agent_note.AgentNote.TheVariants as agent_notes
use Rattle.agent_model.specs.declared.knowledge.Knowledge.{Knowledge}
use Rattle.agent_model.specs.declared.output.Output.{Output}
use Rattle.agent_model.specs.declared.output.Output.TheVariants as outputs
use Rattle.agent_model.specs.declared.output.Feeding.TheVariants as feedings
use Rattle.agent_model.specs.declared.output.Noting.TheVariants as notings
use Rattle.agent_model.specs.Acting.{without_deadline}
use Rattle.agent_model.specs.Agents.{Unleased, Outcome}
use Rattle.agent_model.specs.Outputs.{with_output}
use Rattle.pg_model.specs.Facts.{is_replica}

-- the cluster is paused, by the newest snapshot
abbrev pub is_paused : Knowledge → Bool
is_paused knows = knows.settings.pause

-- an agent may start its server behind another leader: in a pause only after a handover of its own
abbrev pub may_start_behind : Knowledge → Bool
may_start_behind knows = not (is_paused knows) || knows.handed_over

-- these settings let a log be rewound that diverged
abbrev pub lets_rewind : Config → Bool
lets_rewind settings = settings.use_pg_rewind && not settings.pause

-- under them a replica shuts down whose log diverged
abbrev pub ends_forks : Config → Bool
ends_forks settings = not (settings.use_pg_rewind || settings.pause)

-- a primary runs on without the leader key
abbrev pub running_without_key : Outcome → Outcome
running_without_key o =
    record o {
      role = Unleased;
      outputs = with_output (outputs.Note (notings.Agent agent_notes.RunsWithoutKey)) o.outputs;
    }

-- a deadline that is removed is told; where that comes of a renewal, it is noted besides
abbrev pub disabling_told : Bool → Option Ticks → List Output → List Output
disabling_told renews None out = out
disabling_told true (Some deadline) out =
    with_output (outputs.Note (notings.Agent agent_notes.DisablesWatchdog))
    (with_output (outputs.Watchdog feedings.Disarmed) out)
disabling_told false (Some deadline) out = with_output (outputs.Watchdog feedings.Disarmed) out

-- a member leads without a watchdog: its deadline is removed, on a renewal or on the grant of a free key
abbrev pub disabling_watchdog : Bool → Outcome → Outcome
disabling_watchdog renews o = record o {
  machine = without_deadline o.machine;
  outputs = disabling_told renews o.machine.watchdog.deadline o.outputs;
}

-- an operator wants this member to lead, by a failover key, and its
-- server is a replica: only such a one takes the leader key in a pause
abbrev pub is_wanted : MemberId → Option FailoverKey → State → Bool
is_wanted me failover state = is_candidate me failover && is_replica state

-- so they do by the failover key of the newest snapshot
abbrev pub is_wanted_by : MemberId → Option SnapshotFacts → State → Bool
is_wanted_by me None state = false
is_wanted_by me (Some snapshot) state = is_wanted me (failover_in snapshot) state
