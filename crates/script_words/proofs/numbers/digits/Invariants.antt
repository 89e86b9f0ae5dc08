use Rattle.std.proofs.Common.{◌≡◌, drop}
use Rattle.script_words.specs.Numbers.{digits_from}
use Rattle.script_words.proofs.numbers.digits.Given as goal

abbrev pub invariant-loop-b : goal.invariant-loop-b
invariant-loop-b l = digits_from l.n (drop l.b-index l.bytes) ≡ digits_from 0 l.bytes
