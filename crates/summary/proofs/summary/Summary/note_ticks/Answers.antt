use Rattle.std.proofs.Common.{ℕ, ap, sym, ◌∙◌}
use Rattle.summary_model.specs.Passing.{summary_later}
use Rattle.summary.proofs.Ticks.{ticks-noted}
use Rattle.summary.proofs.summary.Summary.note_ticks.Goals as goal

pub returns-clause-noted : goal.returns-clause-noted
returns-clause-noted c = λ steps long all. c.pass.ensures
    ∙ ap (λ (n : ℕ). summary_later c.args.self.now n) (sym long) ∙ sym (ticks-noted c.args.self.now steps all)
