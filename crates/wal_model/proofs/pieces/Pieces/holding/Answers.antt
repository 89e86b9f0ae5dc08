use Rattle.std.proofs.Common.{◌+◌, ◌≤◌, ◌<◌, length, ap, subst, arith, get_or}
use Rattle.wal_model.specs.declared.placed.Placed.{Placed}
use Rattle.wal_model.specs.Pieces.{Holds, joined}
use Rattle.wal_model.proofs.Chains.{any-before, last-before, holds-last}
use Rattle.wal_model.proofs.pieces.Pieces.holding.Goals as goal

within : (c : goal.After-pieces_before) → c.args.place + 1 ≤ length (joined c.self.inside.placed.items)
within c = omega (arith, c.requires, ap length c.self.view_is)

behind : (c : goal.After-pieces_before) (d : Placed) → c.pieces_before.result < length c.self.inside.placed.items
    → c.args.place + 1 ≤ (get_or c.self.inside.placed.items c.pieces_before.result d).before
behind c = rw (← c.deref.ensures.value) c.pieces_before.ensures.behind

pub overflow_sub-pieces_before : goal.overflow_sub-pieces_before
overflow_sub-pieces_before c =
    omega (
      arith,
      any-before c.self.inside.placed.items c.pieces_before.result (c.args.place + 1) c.self.invariant.chained
          (within c) (behind c) (omega arith),
    )

pub returns : goal.returns
returns c =
    let items = c.self.inside.placed.items in
    let count = c.pieces_before.result in
    let within : c.args.place + 1 ≤ length (joined items) = omega (arith, c.requires, ap length c.self.view_is) in
    let behind : (d : Placed) → count < length items → c.args.place + 1 ≤ (get_or items count d).before =
    rw (← c.deref.ensures.value) c.pieces_before.ensures.behind in
    subst (λ t. Holds c.index.result.now t c.args.place) c.self.view_is
    (holds-last items count c.args.place c.index.result.now
    (last-before items count (c.args.place + 1) c.index.result.now c.self.invariant.chained within
    (rw (← c.deref.ensures.value) c.pieces_before.ensures.within)
    (any-before items count (c.args.place + 1) c.self.invariant.chained within behind (omega arith))
    c.index.ensures
    (rw (← c.deref.ensures.value) c.pieces_before.ensures.before)
    behind))
