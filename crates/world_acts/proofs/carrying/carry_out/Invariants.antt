use Rattle.std.proofs.Common.{length}
use Rattle.world_acts.proofs.Carried.{IsCarrying}
use Rattle.world_acts.proofs.carrying.carry_out.Given as goal

-- what is left in the list is still to be carried out
abbrev pub invariant-loop-output : goal.invariant-loop-output
invariant-loop-output l =
    IsCarrying l.fn.member l.fn.heard l.fn.stage l.stage l.fn.events l.events l.fn.outputs.outputs l.outputs.outputs

abbrev pub decreases-loop-output : goal.decreases-loop-output
decreases-loop-output l = length l.outputs.outputs
