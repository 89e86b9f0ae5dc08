use Rattle.std.proofs.Common.{ap, ◌∙◌}
use Rattle.std.proofs.lemmas.Result.{on_ok_weaker}
use Rattle.event_book.specs.Text.{lines_of}
use Rattle.event_list.proofs.Printed.{kept-lines}
use Rattle.run_printing.proofs.printing.set_text.Goals as goal

pub returns : goal.returns
returns c =
    let events = c.args.events.now in
    on_ok_weaker c.set_lines.result
    (λ same. same ∙ ap (lines_of c.args.trace) c.kept.ensures
    ∙ kept-lines events.traced c.args.trace events.items c.requires)
    c.set_lines.ensures
