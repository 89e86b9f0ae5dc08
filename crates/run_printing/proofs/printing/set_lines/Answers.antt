use Rattle.std.proofs.Common.{◌+◌, ◌++◌, append_assoc, append-nil, ap, ◌∙◌, sym, drop, arith}
use Rattle.std.proofs.lemmas.List.{drop_all}
use Rattle.std.specs.String.{string_bytes}
use Rattle.event_book.specs.Text.{lines_of, line_of, bytes_or_none}
use Rattle.event_text.proofs.Lines.{lines_of-drop}
use Rattle.run_printing.proofs.printing.set_lines.Goals as goal

pub loop-event-preserved : goal.loop-event-preserved
loop-event-preserved c =
    let rest = lines_of c.args.trace (drop (c.loop-event.event-index + 1) c.args.events.now) in
    ap (λ t. t ++ rest) c.in_ok-write_line.ensures
    ∙ append_assoc (string_bytes c.loop-event.text) (bytes_or_none (line_of c.args.trace c.event-item.result)) rest
    ∙ ap (λ t. string_bytes c.loop-event.text ++ t)
    (sym (lines_of-drop c.args.trace c.args.events.now c.loop-event.event-index c.event-item.result
    c.loop-event-test.true c.event-item.is))
    ∙ c.loop-event.invariant

pub returns : goal.returns
returns c =
    sym (append-nil (string_bytes c.loop-event.text))
    ∙ ap (λ es. string_bytes c.loop-event.text ++ lines_of c.args.trace es)
    (sym (drop_all c.loop-event.event-index c.args.events.now (omega arith)))
    ∙ c.loop-event.invariant
