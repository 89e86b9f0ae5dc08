use Rattle.std.proofs.Common.{ap, sym, ◌∙◌, arith}
use Rattle.std.proofs.lemmas.Result.{on_ok_weaker}
use Rattle.patronictl.specs.Answers.{answer_told}
use Rattle.world_model.specs.Room.{request_cost}
use Rattle.world_play.proofs.Changing.{told-took}
use Rattle.world_play.proofs.ctl.take_words.Goals as goal

pub returns-in-Prints : goal.returns-in-Prints
returns-in-Prints c = on_ok_weaker c.print.result
    (λ took. told-took _ _ _ _ _ _ 0 (ap answer_told (sym c.in-Prints.is) ∙ c.in_ok-lines.ensures) took (omega arith))
    c.print.ensures

pub returns-in-Asks : goal.returns-in-Asks
returns-in-Asks c = on_ok_weaker c.ask.result
    (λ took.
    told-took _ _ _ _ _ _ request_cost (ap answer_told (sym c.in-Asks.is) ∙ c.in_ok-lines.ensures) took (omega arith))
    c.ask.ensures
