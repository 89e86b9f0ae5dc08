use Rattle.std.proofs.Common.{ℕ, ◌≡◌, ◌<◌, []}
use Rattle.world_flight.specs.FlightIndex.{IsLooser, kept_on, way_of}
use Rattle.world_flight.proofs.flight_index.FlightIndex.wake_receiver.Given as goal

-- the messages from the ends before this one may move
abbrev pub invariant-loop-from : goal.invariant-loop-from
invariant-loop-from l = record {
  looser : IsLooser l.fn.self l.self;
  woken : (from : ℕ) → from < l.from → kept_on l.self (way_of l.to from) ≡ [];
}
