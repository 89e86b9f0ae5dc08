use Rattle.std.proofs.Common.{◌-◌, ◌*◌}
use Rattle.cluster_model.specs.Next.{rounds_events}
use Rattle.cluster_model.specs.Limits.{most_rounds}
use Rattle.world_model.specs.Room.{round_cost, rounds_cost}
use Rattle.world_model.proofs.Rest.{Left}
use Rattle.world_acts.specs.Asleep.{AreAsleep}
use Rattle.world_play.proofs.steps.rounds.Given as goal

-- so many rounds may still follow
abbrev pub invariant-loop-done : goal.invariant-loop-done
invariant-loop-done l = record {
  left : Left l.fn.stage l.stage l.fn.events l.events (rounds_events l.fn.stage most_rounds)
      (rounds_events l.stage (most_rounds - l.done)) rounds_cost (round_cost * (most_rounds - l.done));
  asleep : AreAsleep l.asleep l.stage;
}
