-- The clock of a run beside that of the world.
use Rattle.std.specs.Prelude.{ℕ, ◌+◌, ◌-◌, ◌*◌, ◌/◌, ◌≤◌, ℤ, pos, negsuc, ◌+ℤ◌, ◌-ℤ◌, ◌≤ℤ◌}
use Rattle.pat_base.specs.declared.ticks.Ticks.{Ticks}
use Rattle.schedule_at.specs.declared.clock.TheConstants.{FIRST_SECOND}

-- tick 0 of every run, in nanoseconds since the Unix epoch
abbrev pub first_instant : ℤ
first_instant = pos (FIRST_SECOND * 1000000000)

-- how many nanoseconds a tick has, which is 100 ms
abbrev pub nanoseconds_of_tick : ℕ
nanoseconds_of_tick = 100000000

-- the instant of a tick, in nanoseconds since the Unix epoch
abbrev pub instant_of : ℕ → ℤ
instant_of tick = first_instant +ℤ pos (tick * nanoseconds_of_tick)

-- how many ticks so many nanoseconds need, a part of one counting whole; none for less than nothing
abbrev pub ticks_for : ℤ → ℕ
ticks_for (pos n) = (n + (nanoseconds_of_tick - 1)) / nanoseconds_of_tick
ticks_for (negsuc n) = 0

-- the first tick whose instant isn't before this one
abbrev pub first_tick_from : ℤ → Ticks
first_tick_from instant = record { 0 = ticks_for (instant -ℤ first_instant) }

-- of all ticks whose instants aren't before this one, this is the first
pub record IsFirstTickFrom (instant : ℤ) (tick : ℕ) : Type 0 where
  pub reached : instant ≤ℤ instant_of tick
  pub first : (other : ℕ) → instant ≤ℤ instant_of other → tick ≤ other
