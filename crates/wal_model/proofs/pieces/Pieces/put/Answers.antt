use Rattle.std.proofs.Common.{◌≡◌, ◌++◌, take, length, ap, subst, sym, arith, ◌∙◌}
use Rattle.std.proofs.lemmas.List.{length-append, length-take-le}
use Rattle.wal_model.specs.Pieces.{AreChained, joined}
use Rattle.wal_model.proofs.Chains.{chained-push, joined-push}
use Rattle.wal_model.proofs.pieces.Pieces.put.Goals as goal

kept : (c : goal.After-self-1) → joined c.cut.new.placed.items ≡ take c.args.next.before c.args.self.now
kept c = c.cut.ensures.kept ∙ ap (λ t. take c.args.next.before (joined t)) c.in_ok-reserve.ensures.items
    ∙ ap (take c.args.next.before) c.self.view_is

whole : (c : goal.After-self-1)
    → joined c.push.new.self.items ≡ take c.args.next.before c.args.self.now ++ c.args.next.piece
whole c = ap joined c.in_ok-push.ensures.items ∙ joined-push c.cut.new.placed.items c.args.next
    ∙ ap (λ t. t ++ c.args.next.piece) (kept c)

pub invariant_of-self-2 : goal.invariant_of-self-2
invariant_of-self-2 c = record {
  chained =
      subst (λ t. AreChained t) (sym c.in_ok-push.ensures.items)
      (chained-push c.cut.new.placed.items c.args.next c.args.self.now c.cut.ensures.chained (kept c) c.requires
      (omega (arith, c.if-len-saturating_sub.false, c.saturating_sub.ensures, c.len.ensures.count))
      (omega (arith, c.requires.before, ap length c.self.view_is, c.self.invariant.chained.most)));
  count =
      omega (
        arith,
        c.len-2.ensures.count,
        ap length (whole c),
        length-append (take c.args.next.before c.args.self.now) c.args.next.piece,
        length-take-le c.args.next.before c.args.self.now c.requires.before,
      );
}

pub returns-clause-ok : goal.returns-clause-ok
returns-clause-ok c = whole c
