use Rattle.world_play.proofs.steps.take_tick.Goals as goal

pub returns-then-not-branch-clause-lull : goal.returns-then-not-branch-clause-lull
returns-then-not-branch-clause-lull c = c.unknown.ensures c.tick.new.stage
