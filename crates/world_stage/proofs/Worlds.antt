-- A world as a cluster.
use Rattle.std.proofs.Common.{None}
use Rattle.world_stage.specs.declared.stage.Stage.TheInside.{Inside}
use Rattle.cluster_model.specs.State.{Cluster}

-- what the fields of a world stand for
abbrev pub seen : Inside → Cluster
seen w = record {
  scope = w.scope;
  options = w.options.items;
  facts = record {
    clock = w.clock.0;
    keys = w.store;
    members = w.members.items;
    processes = w.processes.items;
    cuts = w.cuts;
    flight = w.flight;
    sent = w.sent;
    servers = w.servers;
    remote = None;
    frozen = w.frozen.items;
    deadlines = w.deadlines.items;
    holds = w.holds.items;
    commits = w.commits;
    acknowledged = w.acknowledged;
  };
  failsafe_deadlines = w.failsafe_deadlines.items;
  agents = w.agents.items;
}
