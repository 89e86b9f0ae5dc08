use Rattle.std.proofs.Common.{◌≡◌, take}
use Rattle.pat_door.proofs.call.bytes_of.Given as goal

abbrev pub invariant-loop-byte : goal.invariant-loop-byte
invariant-loop-byte l = l.items.items ≡ take l.byte-index l.bytes
