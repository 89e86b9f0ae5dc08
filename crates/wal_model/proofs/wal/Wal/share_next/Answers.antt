use Rattle.std.proofs.Common.{◌+◌, ◌-◌, ◌++◌, length, length-append, take, drop, subst, sym, ap, arith, ◌∙◌}
use Rattle.wal_model.specs.declared.placed.Placed.{Placed}
use Rattle.wal_model.specs.Log.{IsPrefixOf}
use Rattle.wal_model.specs.Pieces.{Continues, Holds}
use Rattle.wal_model.proofs.Growth.{TakesOver, share-continues, over-longer, over-shorter, over-grows}
use Rattle.wal_model.proofs.wal.Wal.share_next.Goals as goal

pub put-requires : goal.put-requires
put-requires c =
    let front = c.self.inside.pieces in
    let tail = c.self.inside.tail.items in
    let pieces = c.from.inside.pieces in
    let behind = c.from.inside.tail.items in
    let prefix : IsPrefixOf (front ++ tail) (pieces ++ behind) =
    subst (λ t. IsPrefixOf t (pieces ++ behind)) (sym c.self.view_is)
    (subst (λ t. IsPrefixOf c.args.self.now t) (sym c.from.view_is) c.requires.prefix) in
    let holds : Holds c.holding-next.result.now pieces (length front) =
    subst (λ n. Holds c.holding-next.result.now pieces n) c.len-sealed.ensures.count c.holding-next.ensures in
    subst (λ (t : Placed). Continues t front) (sym c.in_ok-try_clone.ensures)
    (share-continues front tail pieces behind c.holding-next.result.now prefix holds)

shorter : (c : goal.Else-reached-had)
    → TakesOver c.self.inside.pieces c.self.inside.tail.items c.from.inside.pieces c.from.inside.tail.items
    c.holding-next.result.now
    (c.holding-next.result.now.before + c.len-2.result) c.put.new.self c.drop_first.new.entries.items
shorter c = record {
  prefix = subst (λ t. IsPrefixOf t (c.from.inside.pieces ++ c.from.inside.tail.items)) (sym c.self.view_is)
      (subst (λ t. IsPrefixOf c.args.self.now t) (sym c.from.view_is) c.requires.prefix);
  holds = subst (λ n. Holds c.holding-next.result.now c.from.inside.pieces n) c.len-sealed.ensures.count
      c.holding-next.ensures;
  reached = ap (λ n. c.holding-next.result.now.before + n) c.len-2.ensures.count;
  front-is = c.in_ok-put.ensures.ok
      ∙ ap (λ (t : Placed). take t.before c.self.inside.pieces ++ t.piece) c.in_ok-try_clone.ensures;
  tail-is = c.drop_first.ensures
      ∙ ap (λ n. drop (c.holding-next.result.now.before + c.len-2.result - n) c.self.inside.tail.items)
      c.len-sealed.ensures.count;
}

pub invariant_of-self-then-reached-had : goal.invariant_of-self-then-reached-had
invariant_of-self-then-reached-had c =
    let over : TakesOver c.self.inside.pieces c.self.inside.tail.items c.from.inside.pieces
    c.from.inside.tail.items c.holding-next.result.now
    (c.holding-next.result.now.before + c.len-2.result) c.put.new.self c.drop_first.new.entries.items =
    record {
      prefix = subst (λ t. IsPrefixOf t (c.from.inside.pieces ++ c.from.inside.tail.items)) (sym c.self.view_is)
          (subst (λ t. IsPrefixOf c.args.self.now t) (sym c.from.view_is) c.requires.prefix);
      holds = subst (λ n. Holds c.holding-next.result.now c.from.inside.pieces n) c.len-sealed.ensures.count
          c.holding-next.ensures;
      reached = ap (λ n. c.holding-next.result.now.before + n) c.len-2.ensures.count;
      front-is = c.in_ok-put.ensures.ok
          ∙ ap (λ (t : Placed). take t.before c.self.inside.pieces ++ t.piece) c.in_ok-try_clone.ensures;
      tail-is = c.drop_first.ensures
          ∙ ap (λ n. drop (c.holding-next.result.now.before + c.len-2.result - n) c.self.inside.tail.items)
          c.len-sealed.ensures.count;
    } in
    let front = c.self.inside.pieces in
    let tail = c.self.inside.tail.items in
    let n = c.holding-next.result.now.before + c.len-2.result in
    over-longer front tail c.from.inside.pieces c.from.inside.tail.items c.holding-next.result.now n
    c.self.inside.end.position c.put.new.self c.drop_first.new.entries.items over c.self.invariant
    (omega (arith, c.if-reached-had.true, c.len-sealed.ensures.count, c.len-3.ensures, length-append front tail))

pub invariant_of-self-else-reached-had : goal.invariant_of-self-else-reached-had
invariant_of-self-else-reached-had c =
    let front = c.self.inside.pieces in
    let tail = c.self.inside.tail.items in
    let n = c.holding-next.result.now.before + c.len-2.result in
    over-shorter front tail c.from.inside.pieces c.from.inside.tail.items c.holding-next.result.now n
    c.self.inside.end.position c.put.new.self c.drop_first.new.entries.items (shorter c) c.self.invariant
    (omega (arith, c.if-reached-had.false, c.len-sealed.ensures.count, c.len-3.ensures, length-append front tail))

pub returns-then-reached-had : goal.returns-then-reached-had
returns-then-reached-had c =
    let over : TakesOver c.self.inside.pieces c.self.inside.tail.items c.from.inside.pieces
    c.from.inside.tail.items c.holding-next.result.now
    (c.holding-next.result.now.before + c.len-2.result) c.put.new.self c.drop_first.new.entries.items =
    record {
      prefix = subst (λ t. IsPrefixOf t (c.from.inside.pieces ++ c.from.inside.tail.items)) (sym c.self.view_is)
          (subst (λ t. IsPrefixOf c.args.self.now t) (sym c.from.view_is) c.requires.prefix);
      holds = subst (λ n. Holds c.holding-next.result.now c.from.inside.pieces n) c.len-sealed.ensures.count
          c.holding-next.ensures;
      reached = ap (λ n. c.holding-next.result.now.before + n) c.len-2.ensures.count;
      front-is = c.in_ok-put.ensures.ok
          ∙ ap (λ (t : Placed). take t.before c.self.inside.pieces ++ t.piece) c.in_ok-try_clone.ensures;
      tail-is = c.drop_first.ensures
          ∙ ap (λ n. drop (c.holding-next.result.now.before + c.len-2.result - n) c.self.inside.tail.items)
          c.len-sealed.ensures.count;
    } in
    over-grows c.self.inside.pieces c.self.inside.tail.items c.from.inside.pieces c.from.inside.tail.items
    c.holding-next.result.now (c.holding-next.result.now.before + c.len-2.result) c.args.until
    c.put.new.self c.drop_first.new.entries.items c.args.self.now c.args.from.now over c.self.view_is
    c.from.view_is c.requires.longer (omega (arith, c.if-reached-until.false))

pub returns-else-reached-had : goal.returns-else-reached-had
returns-else-reached-had c =
    over-grows c.self.inside.pieces c.self.inside.tail.items c.from.inside.pieces c.from.inside.tail.items
    c.holding-next.result.now (c.holding-next.result.now.before + c.len-2.result) c.args.until
    c.put.new.self c.drop_first.new.entries.items c.args.self.now c.args.from.now
    (shorter c) c.self.view_is c.from.view_is c.requires.longer (omega (arith, c.if-reached-until.false))
