use Rattle.std.proofs.Common.{◌≡◌, ◌-◌, ◌++◌, length, take, min, subst, sym, ap, arith, ◌∙◌}
use Rattle.wal_model.specs.Log.{end_of}
use Rattle.wal_model.specs.Sealed.{IsLog}
use Rattle.wal_model.proofs.Runs.{cut-log, take-both}
use Rattle.wal_model.proofs.wal.Wal.truncate.Goals as goal

front-is : (c : goal.After-truncate-2)
    → c.truncate-2.new.self ≡ take (min c.args.entries (length c.self.inside.pieces)) c.self.inside.pieces
front-is c =
    let n : c.min.result ≡ min c.args.entries (length c.self.inside.pieces) =
    omega (arith, c.min.ensures, c.len-sealed.ensures.count) in
    c.truncate-2.ensures ∙ ap (λ k. take k c.self.inside.pieces) n

tail-is : (c : goal.After-truncate-2)
    → c.truncate.new.self.items ≡ take (c.args.entries - length c.self.inside.pieces) c.self.inside.tail.items
tail-is c =
    let n : c.saturating_sub.result ≡ c.args.entries - length c.self.inside.pieces =
    omega (arith, c.saturating_sub.ensures, c.len-sealed.ensures.count) in
    c.truncate.ensures.items ∙ ap (λ k. take k c.self.inside.tail.items) n

pub invariant_of-self : goal.invariant_of-self
invariant_of-self c =
    let front = c.self.inside.pieces in
    let tail = c.self.inside.tail.items in
    let end = c.end_within-self-inside.result.position in
    subst (λ t. IsLog t c.truncate.new.self.items end) (sym (front-is c))
    (subst (λ t. IsLog (take (min c.args.entries (length front)) front) t end) (sym (tail-is c))
    (cut-log front tail c.args.entries c.self.inside.end.position c.self.invariant end
    (c.end_within-self-inside.ensures ∙ ap (λ t. end_of (take c.args.entries t)) (sym c.self.view_is))))

pub returns : goal.returns
returns c =
    let front = c.self.inside.pieces in
    let tail = c.self.inside.tail.items in
    ap (λ t. t ++ c.truncate.new.self.items) (front-is c)
    ∙ ap (λ t. take (min c.args.entries (length front)) front ++ t) (tail-is c)
    ∙ take-both c.args.entries front tail
    ∙ ap (take c.args.entries) c.self.view_is
