use Rattle.std.proofs.Common.{◌≡◌, arith, ap, rules, ◌∙◌}
use Rattle.pg_model.specs.Running.{restarted}
use Rattle.pg_cluster.specs.Servers.{without_spare}
use Rattle.pg_model.specs.CatchingUp.{log_position_of}
use Rattle.pg_cluster.proofs.Clusters.{changed-read, kept-read}
use Rattle.pg_cluster.proofs.Sights.{without_spare-restarted, log_position-restarted}
use Rattle.pg_cluster.proofs.servers.Servers.restart.Goals as goal

pub invariant_of-self : goal.invariant_of-self
invariant_of-self c =
    let after : c.restart.new.self ≡ restarted c.args.now c.index_mut-server.result.now = search rules in
    kept-read _ _ _ c.len.result _ _ c.self.invariant c.index_mut-server.ensures.value (search rules)
    (omega arith) (ap log_position_of after ∙ log_position-restarted c.args.now c.index_mut-server.result.now)

pub returns : goal.returns
returns c =
    let after : c.restart.new.self ≡ restarted c.args.now c.index_mut-server.result.now = search rules in
    changed-read _ _ _ c.len.result c.index_mut-server.result.now _ _ c.self.view_is c.index_mut-server.ensures.value
    (search rules) (omega arith)
    (ap without_spare after ∙ without_spare-restarted c.args.now c.index_mut-server.result.now)
