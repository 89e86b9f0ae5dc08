use Rattle.std.proofs.Common.{◌≡◌, ◌++◌, replicate, string_bytes}
use Rattle.text_table.proofs.printing.push_copies.Given as goal

abbrev pub invariant-loop-step : goal.invariant-loop-step
invariant-loop-step l = string_bytes l.line ≡ string_bytes l.fn.line ++ replicate l._step l.sign
