use Rattle.std.proofs.Common.{ℕ, ◌≡◌, false, take}
use Rattle.world_flight.specs.FlightIndex.{is_among}
use Rattle.world_flight.proofs.flight_index.insert_all.Given as goal

-- those so far are in, and none left
abbrev pub invariant-loop-number : goal.invariant-loop-number
invariant-loop-number l = record {
  grows : (n : ℕ) → is_among l.moving.keys n ≡ false → is_among l.fn.moving.keys n ≡ false;
  all : (n : ℕ) → is_among l.moving.keys n ≡ false → is_among (take l.number-index l.numbers) n ≡ false;
}
