use Rattle.std.proofs.Common.{◌≡◌, [], rules}
use Rattle.world_acts.proofs.Carried.{carrying-end, carrying-more, carrying-room, carrying-short}
use Rattle.world_acts.proofs.carrying.carry_out.Goals as goal

pub carry-requires-clause-room : goal.carry-requires-clause-room
carry-requires-clause-room c = carrying-room _ _ _ _ _ _ _ _ _ _ c.in-Some.output c.loop-output.invariant
    c.take.ensures.outputs c.in-Some.is c.requires.room

pub carry-requires-clause-short : goal.carry-requires-clause-short
carry-requires-clause-short c =
    carrying-short _ _ _ _ _ _ _ _ _ _ c.in-Some.output c.loop-output.invariant c.take.ensures.outputs c.in-Some.is

pub loop-output-preserved : goal.loop-output-preserved
loop-output-preserved c = carrying-more _ _ _ _ _ _ _ _ _ _ _ _ c.in-Some.output c.loop-output.invariant
    c.take.ensures.outputs c.in-Some.is c.in_ok-carry.ensures

pub returns-clause-emits : goal.returns-clause-emits
returns-clause-emits c =
    let empty : c.loop-output.outputs.outputs ≡ [] = search rules in
    carrying-end _ _ _ _ _ _ _ _ c.loop-output.invariant empty
