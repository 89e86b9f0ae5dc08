-- Time passes by the default schedule alone.
use Rattle.std.specs.Prelude.{List, [], ◌∷◌}
use Rattle.cluster_model.specs.declared.step.Step.{Step}
use Rattle.cluster_model.specs.declared.step.Step.TheVariants as steps

-- a step by which no time passes, or a tick with all that the schedule brings
abbrev pub KeepsSchedule : Step → Type 0
KeepsSchedule steps.Tick = ⊥
KeepsSchedule _ = Unit {0}

-- each of these steps
abbrev pub KeepSchedule : List Step → Type 0
KeepSchedule [] = Unit {0}
KeepSchedule (step ∷ more) = KeepsSchedule step × KeepSchedule more
