use Rattle.std.proofs.Common.{map}
use Rattle.pg_model.specs.CatchingUp.{log_position_of}
use Rattle.pg_cluster.proofs.Rounds.{ForgetsBelow}
use Rattle.pg_cluster.proofs.servers.forget.Given as goal

abbrev pub invariant-loop-k : goal.invariant-loop-k
invariant-loop-k l = ForgetsBelow l.initial.in_step l.in_step (map log_position_of l.servers) l.place l.k
