use Rattle.std.proofs.Common.{arith, ◌≡◌, Some, ap, rules, sym, ◌∙◌}
use Rattle.std.specs.Prelude.{slice_get, option_and_then}
use Rattle.std.proofs.lemmas.Option.{slice_get_read}
use Rattle.pg_model.specs.Replication.{next_acknowledged}
use Rattle.pg_cluster.specs.Servers.{without_spare}
use Rattle.pg_model.specs.CatchingUp.{log_position_of}
use Rattle.pg_cluster.proofs.Clusters.{changed-read, kept-read, without_spare-at}
use Rattle.pg_cluster.proofs.Sights.{without_spare-acknowledged, log_position-acknowledged}
use Rattle.pg_cluster.proofs.servers.Servers.next_acknowledged.Goals as goal

pub invariant_of-self : goal.invariant_of-self
invariant_of-self c =
    kept-read _ _ _ c.len.result _ _ c.self.invariant c.index_mut.ensures.value (search rules) (omega arith)
    (ap log_position_of c.next_acknowledged.ensures.after ∙ log_position-acknowledged c.index_mut.result.now)

pub returns-clause-commit : goal.returns-clause-commit
returns-clause-commit c =
    let found : slice_get c.self.inside.servers.items c.args.place ≡ Some c.index_mut.result.now =
    slice_get_read c.self.inside.servers.items c.len.result c.args.place c.index_mut.result.now (search rules)
    (omega arith) c.index_mut.ensures.value in
    c.next_acknowledged.ensures.commit
    ∙ sym (ap (option_and_then next_acknowledged) (without_spare-at _ _ _ _ c.self.view_is found))

pub returns-clause-after : goal.returns-clause-after
returns-clause-after c =
    changed-read _ _ _ c.len.result c.index_mut.result.now _ _ c.self.view_is c.index_mut.ensures.value
    (search rules) (omega arith)
    (ap without_spare c.next_acknowledged.ensures.after ∙ without_spare-acknowledged c.index_mut.result.now)
