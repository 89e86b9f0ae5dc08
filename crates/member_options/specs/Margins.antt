-- How long a margin is.
use Rattle.std.specs.Prelude.{ℕ}

-- how many seconds a margin has at most
abbrev pub longest_margin : ℕ
longest_margin = 15

-- how many seconds the margin has that no option says
abbrev pub unsaid_margin : ℕ
unsaid_margin = 5
