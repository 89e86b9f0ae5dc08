use Rattle.std.proofs.Common.{◌≡◌, replicate}
use Rattle.pg_model.specs.Facts.{fresh}
use Rattle.pg_cluster.proofs.servers.replicas.Given as goal

abbrev pub invariant-loop-made : goal.invariant-loop-made
invariant-loop-made l = l.servers.items ≡ replicate l._made (fresh l.base)
