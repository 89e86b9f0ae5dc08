-- How many there may be.
use Rattle.std.specs.Prelude.{ℕ}

-- so many messages may be in flight
abbrev pub most_in_flight : ℕ
most_in_flight = 65536

-- so many rounds may come in one tick
abbrev pub most_rounds : ℕ
most_rounds = 40
