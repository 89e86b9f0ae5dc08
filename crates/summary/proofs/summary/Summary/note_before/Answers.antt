use Rattle.std.proofs.Common.{sym, ◌∙◌}
use Rattle.summary.proofs.Ticks.{nothing-noted}
use Rattle.summary.proofs.summary.Summary.note_before.Goals as goal

pub returns-then-not-tells_loss : goal.returns-then-not-tells_loss
returns-then-not-tells_loss c =
    sym (nothing-noted c.args.self.now c.args.event.now c.args.behind.now
    (sym c.tells_nothing.ensures ∙ c.if-tells_nothing.true) (sym c.tells_loss.ensures ∙ c.if-not-tells_loss.true))
