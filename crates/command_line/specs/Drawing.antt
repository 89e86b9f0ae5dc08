-- How many lines may be drawn.
use Rattle.std.specs.Prelude.{ℕ, ◌≤◌, ◌<◌}
use Rattle.generator_model.specs.declared.bounds.TheConstants.{MOST_GENERATED}
use Rattle.command_line.specs.declared.ending.Ending.{Ending}
use Rattle.command_line.specs.declared.ending.Ending.TheVariants as endings

-- so many lines may be drawn
abbrev pub CanBeDrawn : ℕ → Type 0
CanBeDrawn count = count ≤ MOST_GENERATED

-- an ending says why no script is made of a number: too many lines are to be drawn, or else memory is wanting
abbrev pub RefusesToDraw : ℕ → Ending → Type 0
RefusesToDraw count endings.PastCount = MOST_GENERATED < count
RefusesToDraw count endings.Memory = CanBeDrawn count
RefusesToDraw count _ = ⊥
