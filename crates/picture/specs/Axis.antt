-- The time axis.
use Rattle.std.specs.Prelude.{ℕ, ◌+◌, ◌/◌, ◌%◌, ◌++◌, nat_lt, if◌then◌else◌, List, [], ◌∷◌, codes}
use Rattle.std.specs.Fmt.{decimal}
use Rattle.pat_base.specs.declared.ticks.TheConstants.{TICKS_OF_SECOND}
use Rattle.run_reading.specs.Runs.{SightText}
use Rattle.svg.specs.Forests.{Forest, beside, nothing}
use Rattle.svg.specs.Shapes.{label_tree}
use Rattle.svg.specs.declared.paint.Paint.TheVariants.{Heading, Label}
use Rattle.picture.specs.Frames.{x_at}
use Rattle.picture.specs.declared.axis.TheConstants.{MOMENT}

-- a moment in seconds
abbrev pub seconds_text : ℕ → List ℕ
seconds_text tick = decimal (tick / TICKS_OF_SECOND) ++ (codes "." ++ decimal (tick % TICKS_OF_SECOND))

-- a moment on the axis
unfoldable pub time_tree : ℕ → ℕ → ℕ → Forest
time_tree x y tick = label_tree (record { x = x; y = y }) Label (seconds_text tick)

-- a moment where there is room from `free` on
abbrev pub time_if : ℕ → ℕ → ℕ → ℕ → Forest
time_if free x y tick = if nat_lt x free then nothing else time_tree x y tick

-- from where on there is room behind it
abbrev pub room_after : ℕ → ℕ → ℕ
room_after free x = if nat_lt x free then free else x + MOMENT

-- the moments of these lines, each where there is room behind those before it
abbrev pub times_tree : ℕ → ℕ → ℕ → List SightText → Forest
times_tree end y free [] = nothing
times_tree end y free (sight ∷ sights) =
    beside (time_if free (x_at end sight.offset) y sight.tick)
    (times_tree end y (room_after free (x_at end sight.offset)) sights)

-- what the axis counts
unfoldable pub axis_heading : ℕ → Forest
axis_heading y = label_tree (record { x = 8; y = y }) Heading (codes "seconds")

-- the time axis
unfoldable pub axis_tree : ℕ → ℕ → List SightText → Forest
axis_tree end y sights = beside (axis_heading y) (times_tree end y 0 sights)
