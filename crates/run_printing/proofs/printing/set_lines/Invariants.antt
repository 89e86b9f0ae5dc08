use Rattle.std.proofs.Common.{◌≡◌, ◌++◌, drop}
use Rattle.std.specs.String.{string_bytes}
use Rattle.event_book.specs.Text.{lines_of}
use Rattle.run_printing.proofs.printing.set_lines.Given as goal

abbrev pub invariant-loop-event : goal.invariant-loop-event
invariant-loop-event l =
    string_bytes l.text ++ lines_of l.trace (drop l.event-index l.events) ≡ lines_of l.trace l.events
