use Rattle.std.proofs.Common.{◌+◌, ◌-◌}
use Rattle.world_acts.specs.Asleep.{AreAsleep}
use Rattle.world_play.proofs.Passing.{IsPassing}
use Rattle.world_play.proofs.messages.pass_messages.Given as goal

-- the messages with numbers from this one on are still to move
abbrev pub invariant-loop-number : goal.invariant-loop-number
invariant-loop-number l = record {
  passing : IsPassing l.fn.stage l.stage l.fn.events l.events l.from l.last;
  asleep : AreAsleep l.asleep l.stage;
}

abbrev pub decreases-loop-number : goal.decreases-loop-number
decreases-loop-number l = l.last + 1 - l.from
