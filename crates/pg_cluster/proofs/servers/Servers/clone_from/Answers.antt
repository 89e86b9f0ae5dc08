use Rattle.std.proofs.Common.{◌≡◌, true, map, ap, rules, sym, subst, refl, ◌∙◌}
use Rattle.std.specs.Vec.{with_items}
use Rattle.std.proofs.lemmas.List.{with_items_is}
use Rattle.pg_model.specs.Rewinding.{may_clone, cloned}
use Rattle.pg_cluster.specs.Rewinding.{may_clone_at, cloned_at}
use Rattle.pg_cluster.specs.Servers.{without_spare}
use Rattle.pg_model.specs.CatchingUp.{log_position_of}
use Rattle.pg_cluster.specs.InStep.{MarksHold, Forgets}
use Rattle.pg_cluster.proofs.Rewinds.{changed-seen, changed-marks, holds-seen}
use Rattle.pg_cluster.proofs.servers.Servers.clone_from.Goals as goal

pub invariant_of-self-2 : goal.invariant_of-self-2
invariant_of-self-2 c =
    let servers : (with_items c.self.inside.servers c.clone_to.new.servers).items ≡ c.clone_to.new.servers =
    with_items_is c.self.inside.servers c.clone_to.new.servers (search rules) in
    let marks : (with_items c.self.inside.in_step c.forget.new.in_step).items ≡ c.forget.new.in_step =
    with_items_is c.self.inside.in_step c.forget.new.in_step (search rules) in
    let tested : c.may_clone_at.result ≡ true = search rules in
    let may : may_clone_at c.self.inside.servers.items c.args.place c.args.from ≡ true =
    ap (λ t. may_clone_at t c.args.place c.args.from) (sym c.deref.ensures.value) ∙ sym c.may_clone_at.ensures
    ∙ tested in
    let after : c.clone_to.new.servers ≡ cloned_at c.self.inside.servers.items c.args.place c.args.from =
    rw c.deref_mut.ensures.value at c.in_ok-clone_to.ensures.ok in
    let all = c.deref-2.ensures.value ∙ servers in
    let forgets : Forgets c.self.inside.in_step.items c.forget.new.in_step
    (map log_position_of c.clone_to.new.servers) c.args.place =
    rw (c.deref_mut-2.ensures.value, all) at c.forget.ensures in
    subst (λ items.
    MarksHold items (map log_position_of (with_items c.self.inside.servers c.clone_to.new.servers).items))
    (sym marks)
    (subst (λ items. MarksHold c.forget.new.in_step (map log_position_of items)) (sym servers)
    (changed-marks may_clone cloned c.self.inside.in_step.items c.forget.new.in_step c.self.inside.servers.items
    c.clone_to.new.servers c.args.place c.args.from c.self.invariant may after forgets))

pub returns-clause-cloned : goal.returns-clause-cloned
returns-clause-cloned c =
    let tested : c.may_clone_at.result ≡ true = search rules in
    let may : may_clone_at c.self.inside.servers.items c.args.place c.args.from ≡ true =
    ap (λ t. may_clone_at t c.args.place c.args.from) (sym c.deref.ensures.value) ∙ sym c.may_clone_at.ensures
    ∙ tested in
    sym (holds-seen may_clone
    (λ s source. refl) c.self.inside.servers.items c.args.self.now c.args.place c.args.from c.self.view_is ∙ may)

pub returns-clause-ok : goal.returns-clause-ok
returns-clause-ok c =
    let servers : (with_items c.self.inside.servers c.clone_to.new.servers).items ≡ c.clone_to.new.servers =
    with_items_is c.self.inside.servers c.clone_to.new.servers (search rules) in
    let tested : c.may_clone_at.result ≡ true = search rules in
    let may : may_clone_at c.self.inside.servers.items c.args.place c.args.from ≡ true =
    ap (λ t. may_clone_at t c.args.place c.args.from) (sym c.deref.ensures.value) ∙ sym c.may_clone_at.ensures
    ∙ tested in
    let after : c.clone_to.new.servers ≡ cloned_at c.self.inside.servers.items c.args.place c.args.from =
    rw c.deref_mut.ensures.value at c.in_ok-clone_to.ensures.ok in
    ap (map without_spare) (servers ∙ after)
    ∙ changed-seen may_clone cloned (λ s source. refl)
    (λ s source. refl) c.self.inside.servers.items c.args.self.now c.args.place c.args.from c.self.view_is may
