use Rattle.pat_base.proofs.Digits.{HasReadHex}
use Rattle.pat_base.proofs.lsn.hex_value.Given as goal

abbrev pub invariant-loop-digit : goal.invariant-loop-digit
invariant-loop-digit l = HasReadHex l.digits l.digit-index l.value
