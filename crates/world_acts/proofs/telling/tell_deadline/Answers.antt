use Rattle.world_acts.proofs.telling.tell_deadline.Goals as goal

pub happen_then-requires-clause-second : goal.happen_then-requires-clause-second
happen_then-requires-clause-second c = c.requires.comes _
