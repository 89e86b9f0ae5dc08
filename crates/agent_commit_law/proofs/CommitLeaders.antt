-- A leader under the lease that it was just granted, whatever became of its watchdog.
use Rattle.std.proofs.Common.{ℕ, Bool, List, All}
use Rattle.pat_base.specs.declared.ticks.Ticks.{Ticks}
use Rattle.cluster_view.specs.Snapshots.{SnapshotFacts}
use Rattle.agent_model.specs.declared.machine.Machine.{Machine}
use Rattle.agent_model.specs.declared.output.Output.{Output}
use Rattle.agent_model.specs.Acting.{deadline_after, fed_until, with_feed}
use Rattle.agent_model.specs.Agents.{Leader, Outcome}
use Rattle.agent_commit_law.specs.Committing.{IsCovered}
use Rattle.agent_commit_law.proofs.CommitQuiet.{Stands, all-fed, quiet-fed}
use Rattle.agent_roles.proofs.Granting.{Told}

-- the machine with that watchdog, and the outputs with what is told of it: no more than a feed
pub record WatchdogAfter (b : Outcome) : Type 0 where
  pub machine : Machine
  pub outs : List Output
  pub quiet : (leads : Bool) → All (Stands leads) b.outputs → All (Stands leads) outs
  pub covered : All IsCovered b.outputs → All IsCovered outs

-- it was fed on the grant
abbrev pub fed-by : (now ttl : Ticks) (b : Outcome) → WatchdogAfter b
fed-by now ttl b = record {
  machine = with_feed now ttl b.machine;
  outs = fed_until (deadline_after now ttl b.machine.watchdog) b.outputs;
  quiet = λ leads q. quiet-fed leads (deadline_after now ttl b.machine.watchdog) b.outputs q;
  covered = λ all. all-fed IsCovered b.outputs all (deadline_after now ttl b.machine.watchdog) (λ until. tt);
}

-- it is as it was
abbrev pub as-it-was : (b : Outcome) → WatchdogAfter b
as-it-was b = record { machine = b.machine; outs = b.outputs; quiet = λ leads q. q; covered = λ all. all }

-- the leader with that watchdog
abbrev pub led_by : (b : Outcome) → WatchdogAfter b → ℕ → SnapshotFacts → Outcome
led_by b w revision snapshot = record (Told snapshot b) {
  role = Leader revision;
  machine = record b.machine { watchdog = w.machine.watchdog; by_failsafe = w.machine.by_failsafe };
  outputs = w.outs;
}
