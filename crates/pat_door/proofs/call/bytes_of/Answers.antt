use Rattle.std.proofs.Common.{◌∙◌}
use Rattle.std.proofs.lemmas.List.{take_all}
use Rattle.pat_door.proofs.call.bytes_of.Goals as goal

pub returns : goal.returns
returns c = c.loop-byte.invariant ∙ take_all c.loop-byte.byte-index c.args.bytes.now c.loop-byte-test.false
