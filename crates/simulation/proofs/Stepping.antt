-- Steps that were taken, and those that may be.
use Rattle.std.proofs.Common.{◌≡◌, ℕ, ◌+◌, ◌*◌, ◌≤◌, arith}
use Rattle.simulation.specs.Steps.{HasStepsLeft, TookSteps, WorldFacts}
use Rattle.world_model.specs.Room.{step_cost}
use Rattle.world_model.proofs.Rooms.{HasRoom-fewer}

-- who may take many may take fewer
pub steps-left-fewer : (world : WorldFacts) (more fewer : ℕ) → fewer ≤ more → HasStepsLeft world more
    → HasStepsLeft world fewer
steps-left-fewer world more fewer h left = record {
  room = record {
    room = HasRoom-fewer world.cluster (step_cost * more) (step_cost * fewer) (omega (arith, h)) left.room.room;
  };
  steps = omega (arith, h, left.steps);
}

-- no step was taken yet
pub TookSteps-none : (world : WorldFacts) → TookSteps world world 0
TookSteps-none world = record {
  steps = omega arith;
  room = λ more has.
      record { room = HasRoom-fewer world.cluster (step_cost * (0 + more)) (step_cost * more) (omega arith) has.room };
  counted = λ counted. counted;
}

-- some were taken, and then others
pub TookSteps-then : (first second third : WorldFacts) (some more whole : ℕ) → some + more ≡ whole
    → TookSteps first second some → TookSteps second third more → TookSteps first third whole
TookSteps-then first second third some more whole is one two = record {
  steps = omega (arith, is, one.steps, two.steps);
  room = λ spare has. two.room spare (one.room (more + spare) (record {
    room = HasRoom-fewer first.cluster (step_cost * (whole + spare)) (step_cost * (some + (more + spare)))
        (omega (arith, is)) has.room;
  }));
  counted = λ counted. two.counted (one.counted counted);
}

-- the others are left
pub steps-left-behind : (before after : WorldFacts) (count more : ℕ) → TookSteps before after count
    → HasStepsLeft before (count + more) → HasStepsLeft after more
steps-left-behind before after count more taken left =
    record { room = taken.room more left.room; steps = omega (arith, taken.steps, left.steps) }
