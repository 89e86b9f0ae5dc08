use Rattle.std.proofs.Common.{◌-◌, get_or, set, ap, arith, sym, subst, ◌∙◌}
use Rattle.std.proofs.lemmas.List.{get_or-take}
use Rattle.wal_model.specs.Pieces.{AreChained, joined}
use Rattle.wal_model.proofs.Chains.{IsLastBefore, IsCut, last-before, joined-cut, joined-none, chained-cut}
use Rattle.wal_model.proofs.pieces.cut.Goals as goal

last : (c : goal.After-truncate-arg-then-kept-gt0-1)
    → IsLastBefore c.index_mut-last.result.now c.args.placed.now.items c.pieces_before-kept.result c.args.entries
last c =
    let items = c.args.placed.now.items in
    let count = c.pieces_before-kept.result in
    let p = c.index_mut-last.result.now in
    last-before items count c.args.entries p c.requires.chained c.requires.within
    (rw (← c.deref.ensures.value) c.pieces_before-kept.ensures.within)
    c.if-kept-gt0.true
    (c.index_mut-last.ensures.value ∙ ap (λ t. get_or t (count - 1) p) c.truncate.ensures.items
    ∙ get_or-take count items (count - 1) p (omega (arith, c.if-kept-gt0.true)))
    (rw (← c.deref.ensures.value) c.pieces_before-kept.ensures.before)
    (rw (← c.deref.ensures.value) c.pieces_before-kept.ensures.behind)

pub truncate-requires-then-kept-gt0-clause-within :
    goal.truncate-requires-then-kept-gt0-clause-within
truncate-requires-then-kept-gt0-clause-within c = omega (arith, (last c).within)

pub truncate-requires-then-kept-gt0-clause-end : goal.truncate-requires-then-kept-gt0-clause-end
truncate-requires-then-kept-gt0-clause-end c = omega (arith, (last c).among.end)

lastly : (c : goal.After-placed-1)
    → IsLastBefore c.index_mut-last.result.now c.args.placed.now.items c.pieces_before-kept.result c.args.entries
lastly c =
    let items = c.args.placed.now.items in
    let count = c.pieces_before-kept.result in
    let p = c.index_mut-last.result.now in
    last-before items count c.args.entries p c.requires.chained c.requires.within
    (rw (← c.deref.ensures.value) c.pieces_before-kept.ensures.within)
    c.if-kept-gt0.true
    (c.index_mut-last.ensures.value ∙ ap (λ t. get_or t (count - 1) p) c.truncate.ensures.items
    ∙ get_or-take count items (count - 1) p (omega (arith, c.if-kept-gt0.true)))
    (rw (← c.deref.ensures.value) c.pieces_before-kept.ensures.before)
    (rw (← c.deref.ensures.value) c.pieces_before-kept.ensures.behind)

is-cut : (c : goal.After-placed-1) → IsCut c.truncate-then-kept-gt0.new.self c.index_mut-last.result.now c.args.entries
is-cut c = record {
  piece = c.truncate-then-kept-gt0.ensures.piece;
  before = c.truncate-then-kept-gt0.ensures.before;
  end = c.truncate-then-kept-gt0.ensures.end;
}

pub returns-then-kept-gt0-clause-chained : goal.returns-then-kept-gt0-clause-chained
returns-then-kept-gt0-clause-chained c =
    let count = c.pieces_before-kept.result in
    let q = c.truncate-then-kept-gt0.new.self in
    subst (λ t. AreChained (set t (count - 1) q)) (sym c.truncate.ensures.items)
    (chained-cut c.args.placed.now.items count c.args.entries c.index_mut-last.result.now q c.requires.chained
    c.requires.within c.if-kept-gt0.true
    (rw (← c.deref.ensures.value) c.pieces_before-kept.ensures.within)
    (lastly c) (is-cut c))

pub returns-then-kept-gt0-clause-kept : goal.returns-then-kept-gt0-clause-kept
returns-then-kept-gt0-clause-kept c =
    let count = c.pieces_before-kept.result in
    let q = c.truncate-then-kept-gt0.new.self in
    ap (λ t. joined (set t (count - 1) q)) c.truncate.ensures.items
    ∙ joined-cut c.args.placed.now.items count c.args.entries c.index_mut-last.result.now q c.if-kept-gt0.true
    (rw (← c.deref.ensures.value) c.pieces_before-kept.ensures.within)
    (lastly c) (is-cut c)

pub returns-else-kept-gt0-clause-kept : goal.returns-else-kept-gt0-clause-kept
returns-else-kept-gt0-clause-kept c =
    ap joined c.truncate.ensures.items
    ∙ joined-none c.args.placed.now.items c.pieces_before-kept.result c.args.entries c.requires.chained
    c.requires.within (rw (← c.deref.ensures.value) c.pieces_before-kept.ensures.behind)
    (omega (arith, c.if-kept-gt0.false))
