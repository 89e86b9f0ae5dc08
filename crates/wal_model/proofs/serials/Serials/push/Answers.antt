use Rattle.std.proofs.Common.{ℕ, List, ◌∷◌, ◌++◌, [], arith, ◌∙◌, refl, ap}
use Rattle.wal_model.proofs.Successions.{last-more}
use Rattle.wal_model.proofs.serials.Serials.push.Goals as goal

pub returns-then-goes_on_with-clause-ok : goal.returns-then-goes_on_with-clause-ok
returns-then-goes_on_with-clause-ok c =
    last-more c.self.inside.runs.items c.in-Some.last c.index-run.result.now
    (record { first = c.index-run.result.now.first; last = c.args.serial; order = _ })
    (omega (arith, c.in-Some.ensures, c.len.ensures)) c.index-run.ensures refl (omega arith)
    ∙ ap (λ (l : List ℕ). l ++ c.args.serial ∷ []) c.self.view_is
