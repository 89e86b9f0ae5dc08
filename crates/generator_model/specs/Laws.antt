-- What each generated script has.
use Rattle.std.specs.Prelude.{ℕ}

-- the lines beside those that are drawn: four of the head, the first run and the last
abbrev pub opening_lines : ℕ
opening_lines = 6

-- the most ticks of a generated script
abbrev pub most_generated_ticks : ℕ
most_generated_ticks = 960700
