use Rattle.std.proofs.Common.{◌≡◌, true, map, ap, rules, sym, subst, refl, ◌∙◌}
use Rattle.std.specs.Vec.{with_items}
use Rattle.std.proofs.lemmas.List.{with_items_is}
use Rattle.pg_model.specs.Rewinding.{may_rewind, rewound}
use Rattle.pg_cluster.specs.Rewinding.{may_rewind_at, rewound_at}
use Rattle.pg_cluster.specs.Servers.{without_spare}
use Rattle.pg_model.specs.CatchingUp.{log_position_of}
use Rattle.pg_cluster.specs.InStep.{MarksHold, Forgets}
use Rattle.pg_cluster.proofs.Rewinds.{changed-seen, changed-marks, rewind_at-seen}
use Rattle.pg_cluster.proofs.servers.Servers.rewind.Goals as goal

pub invariant_of-self-2 : goal.invariant_of-self-2
invariant_of-self-2 c =
    let servers : (with_items c.self.inside.servers c.rewind_to.new.servers).items ≡ c.rewind_to.new.servers =
    with_items_is c.self.inside.servers c.rewind_to.new.servers (search rules) in
    let marks : (with_items c.self.inside.in_step c.forget.new.in_step).items ≡ c.forget.new.in_step =
    with_items_is c.self.inside.in_step c.forget.new.in_step (search rules) in
    let tested : c.may_rewind_at.result ≡ true = search rules in
    let may : may_rewind_at c.self.inside.servers.items c.args.place c.args.from ≡ true =
    ap (λ t. may_rewind_at t c.args.place c.args.from) (sym c.deref.ensures.value)
    ∙ sym c.may_rewind_at.ensures ∙ tested in
    let after : c.rewind_to.new.servers ≡ rewound_at c.self.inside.servers.items c.args.place c.args.from =
    rw c.deref_mut.ensures.value at c.in_ok-rewind.ensures.ok in
    let all = c.deref-2.ensures.value ∙ servers in
    let forgets : Forgets c.self.inside.in_step.items c.forget.new.in_step
    (map log_position_of c.rewind_to.new.servers) c.args.place =
    rw (c.deref_mut-2.ensures.value, all) at c.forget.ensures in
    subst (λ items.
    MarksHold items (map log_position_of (with_items c.self.inside.servers c.rewind_to.new.servers).items))
    (sym marks)
    (subst (λ items. MarksHold c.forget.new.in_step (map log_position_of items)) (sym servers)
    (changed-marks may_rewind rewound c.self.inside.in_step.items c.forget.new.in_step c.self.inside.servers.items
    c.rewind_to.new.servers c.args.place c.args.from c.self.invariant may after forgets))

pub returns-clause-rewind : goal.returns-clause-rewind
returns-clause-rewind c =
    let is = rw c.deref_mut.ensures.value at c.in_ok-rewind.ensures.rewind in
    is ∙ sym (rewind_at-seen c.self.inside.servers.items c.args.self.now c.args.place c.args.from c.self.view_is)

pub returns-clause-ok : goal.returns-clause-ok
returns-clause-ok c =
    let servers : (with_items c.self.inside.servers c.rewind_to.new.servers).items ≡ c.rewind_to.new.servers =
    with_items_is c.self.inside.servers c.rewind_to.new.servers (search rules) in
    let tested : c.may_rewind_at.result ≡ true = search rules in
    let may : may_rewind_at c.self.inside.servers.items c.args.place c.args.from ≡ true =
    ap (λ t. may_rewind_at t c.args.place c.args.from) (sym c.deref.ensures.value)
    ∙ sym c.may_rewind_at.ensures ∙ tested in
    let after : c.rewind_to.new.servers ≡ rewound_at c.self.inside.servers.items c.args.place c.args.from =
    rw c.deref_mut.ensures.value at c.in_ok-rewind.ensures.ok in
    ap (map without_spare) (servers ∙ after)
    ∙ changed-seen may_rewind rewound (λ s source. refl)
    (λ s source. refl) c.self.inside.servers.items c.args.self.now c.args.place c.args.from c.self.view_is may
