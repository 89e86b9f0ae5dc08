use Rattle.std.proofs.Common.{◌≡◌, ◌∙◌, ap, subst, sym}
use Rattle.std.proofs.lemmas.List.{take_all}
use Rattle.wal_model.specs.Pieces.{AreCounted, joined}
use Rattle.wal_model.proofs.pieces.Pieces.try_clone.Goals as goal

same : (c : goal.After-loop-each) → c.loop-each.placed.items ≡ c.self.inside.placed.items
same c = c.loop-each.invariant ∙ take_all c.loop-each.each-index c.deref-each-items.result.now c.loop-each-test.false
    ∙ c.deref-each-items.ensures.value

pub invariant_of-result : goal.invariant_of-result
invariant_of-result c = subst (λ t. AreCounted t c.self.inside.count) (sym (same c)) c.self.invariant

pub returns : goal.returns
returns c = ap joined (same c) ∙ c.self.view_is
