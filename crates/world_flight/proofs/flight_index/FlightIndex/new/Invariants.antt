use Rattle.std.proofs.Common.{◌≡◌, length}
use Rattle.world_flight.proofs.flight_index.FlightIndex.new.Given as goal

abbrev pub invariant-loop : goal.invariant-loop
invariant-loop l = length l.kept.items ≡ l.counter
