-- The numbers of which lines are made.
use Rattle.std.specs.Prelude.{ℕ, ◌+◌, ◌*◌, ◌/◌, ◌%◌, ◌^◌}

-- each number is the one before it times this
abbrev pub multiplier : ℕ
multiplier = 6364136223846793005

-- and this more
abbrev pub increment : ℕ
increment = 1442695040888963407

-- numbers are below this
abbrev pub number_range : ℕ
number_range = 2 ^ 64

-- what lies below this in a number isn't drawn
abbrev pub dropped_range : ℕ
dropped_range = 2 ^ 33

-- the number behind this one
abbrev pub next_number : ℕ → ℕ
next_number number = (number * multiplier + increment) % number_range

-- what is drawn by a number
abbrev pub draw_of : ℕ → ℕ
draw_of number = number / dropped_range
