-- How many there may be of what a script has, and how long it may be.
use Rattle.std.specs.Prelude.{ℕ, ◌^◌}

-- so many bytes a line may have
abbrev pub longest_line : ℕ
longest_line = 8192

-- with so many bytes of data a log may begin
abbrev pub greatest_base : ℕ
greatest_base = 2 ^ 40

-- so many bytes a commit may have
abbrev pub longest_commit : ℕ
longest_commit = 2 ^ 30

-- so many ticks a stop or a start may take
abbrev pub longest_delay : ℕ
longest_delay = 100000
