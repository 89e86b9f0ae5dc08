use Rattle.std.proofs.Common.{◌≡◌, map, arith, ap, rules, sym, subst}
use Rattle.std.specs.Prelude.{slice_set}
use Rattle.std.specs.Vec.{with_items}
use Rattle.std.proofs.lemmas.List.{with_items_is}
use Rattle.pg_model.specs.Running.{reserved, promoted}
use Rattle.pg_cluster.specs.Servers.{without_spare}
use Rattle.pg_model.specs.CatchingUp.{log_position_of}
use Rattle.pg_cluster.specs.InStep.{Forgets, MarksHold}
use Rattle.pg_cluster.proofs.Clusters.{changed-read, forgotten-at}
use Rattle.pg_cluster.proofs.servers.Servers.promote.Goals as goal

pub invariant_of-self-2 : goal.invariant_of-self-2
invariant_of-self-2 c =
    let forgets : Forgets c.self.inside.in_step.items c.forget.new.in_step
    (map log_position_of (slice_set c.self.inside.servers.items c.args.place c.promote.new.self)) c.args.place =
    rw (c.deref_mut.ensures.value, c.deref.ensures.value) at c.forget.ensures in
    let items : (with_items c.self.inside.in_step c.forget.new.in_step).items ≡ c.forget.new.in_step =
    with_items_is c.self.inside.in_step c.forget.new.in_step (search rules) in
    subst (λ marks.
    MarksHold marks (map log_position_of (slice_set c.self.inside.servers.items c.args.place c.promote.new.self)))
    (sym items)
    (forgotten-at c.self.inside.in_step.items c.forget.new.in_step c.self.inside.servers.items c.args.place
    c.promote.new.self c.self.invariant forgets)

pub returns-clause-ok : goal.returns-clause-ok
returns-clause-ok c =
    let after : c.promote.new.self ≡ promoted (reserved c.index_mut-server.result.now) = search rules in
    changed-read _ _ _ c.len.result c.index_mut-server.result.now _ _ c.self.view_is c.index_mut-server.ensures.value
    (search rules) (omega arith) (ap without_spare after)
