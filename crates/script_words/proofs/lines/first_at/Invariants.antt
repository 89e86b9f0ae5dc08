use Rattle.std.proofs.Common.{◌≡◌, ◌+◌, drop, Some}
use Rattle.std.specs.Option.{option_and_then}
use Rattle.script_words.specs.Lines.{first_at}
use Rattle.script_words.proofs.lines.first_at.Given as goal

abbrev pub invariant-loop-place : goal.invariant-loop-place
invariant-loop-place l =
    option_and_then (λ n. Some (l.place + n)) (first_at l.byte (drop l.place l.bytes)) ≡ first_at l.byte l.bytes
