use Rattle.std.proofs.Common.{◌+◌, arith}
use Rattle.world_model.proofs.Taking.{Emits-then}
use Rattle.world_model.proofs.laws.parts_follow_one_another.Goals as goal

pub returns : goal.returns
returns c first second third had has all events more cost next one two =
    Emits-then first second third had has all events more cost next (cost + next) one two (omega arith)
