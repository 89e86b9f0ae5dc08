use Rattle.std.proofs.Common.{◌≡◌, map, ap, sym, subst, ◌∙◌, rules}
use Rattle.std.specs.Vec.{with_items}
use Rattle.std.proofs.lemmas.List.{with_items_is}
use Rattle.pg_cluster.specs.Servers.{without_spare}
use Rattle.pg_model.specs.Running.{ticked_unless_live}
use Rattle.pg_model.specs.CatchingUp.{log_position_of}
use Rattle.pg_cluster.specs.InStep.{MarksHold}
use Rattle.pg_cluster.proofs.Rounds.{without_spare-ticked, log_position-ticked}
use Rattle.pg_cluster.proofs.servers.Servers.tick.Goals as goal

pub invariant_of-self : goal.invariant_of-self
invariant_of-self c =
    let items : (with_items c.self.inside.servers c.tick_all.new.servers).items ≡ c.tick_all.new.servers =
    with_items_is c.self.inside.servers c.tick_all.new.servers (search rules) in
    let after : c.tick_all.new.servers ≡ map (ticked_unless_live c.args.now) c.self.inside.servers.items =
    c.tick_all.ensures ∙ ap (map (ticked_unless_live c.args.now)) c.deref_mut.ensures.value in
    subst (MarksHold c.self.inside.in_step.items)
    (sym (ap (map log_position_of) (items ∙ after) ∙ log_position-ticked c.args.now c.self.inside.servers.items))
    c.self.invariant

pub returns : goal.returns
returns c =
    let items : (with_items c.self.inside.servers c.tick_all.new.servers).items ≡ c.tick_all.new.servers =
    with_items_is c.self.inside.servers c.tick_all.new.servers (search rules) in
    let after : c.tick_all.new.servers ≡ map (ticked_unless_live c.args.now) c.self.inside.servers.items =
    c.tick_all.ensures ∙ ap (map (ticked_unless_live c.args.now)) c.deref_mut.ensures.value in
    ap (map without_spare) (items ∙ after) ∙ without_spare-ticked c.args.now c.self.inside.servers.items
    ∙ ap (map (ticked_unless_live c.args.now)) c.self.view_is
