use Rattle.std.proofs.Common.{ap, rules}
use Rattle.pg_cluster.specs.Servers.{without_spare}
use Rattle.pg_model.specs.CatchingUp.{log_position_of}
use Rattle.pg_cluster.proofs.Clusters.{changed-read, kept-read}
use Rattle.pg_cluster.proofs.servers.Servers.set_required.Goals as goal

pub invariant_of-self : goal.invariant_of-self
invariant_of-self c =
    kept-read _ _ _ c.len.result _ _ c.self.invariant c.index_mut.ensures.value
    (search rules) c.if-place-len.true (ap log_position_of c.set_required.ensures)

pub returns-then-place-len : goal.returns-then-place-len
returns-then-place-len c =
    changed-read _ _ _ c.len.result c.index_mut.result.now _ _ c.self.view_is c.index_mut.ensures.value
    (search rules) c.if-place-len.true (ap without_spare c.set_required.ensures)
