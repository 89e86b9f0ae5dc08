use Rattle.std.proofs.Common.{◌≡◌, ◌++◌, map, take, drop}
use Rattle.pg_model.specs.Running.{ticked_unless_live}
use Rattle.pg_cluster.proofs.servers.tick_all.Given as goal

abbrev pub invariant-loop-place : goal.invariant-loop-place
invariant-loop-place l =
    l.servers ≡ map (ticked_unless_live l.now) (take l.place l.initial.servers) ++ drop l.place l.initial.servers
