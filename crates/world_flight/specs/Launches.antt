-- Messages that are sent, and what holds of all in flight.
use Rattle.std.specs.Prelude.{ℕ, ◌≤◌, nat_le, length, if◌then◌else◌}
use Rattle.std.specs.BTreeMap.{insert_entry}
use Rattle.std.specs.Ordering.{nat_cmp}
use Rattle.event_book.specs.Flight.{Flight, InFlightFacts, without_message}
use Rattle.cluster_model.specs.Limits.{most_in_flight}
use Rattle.world_model.specs.Short.{AllSent}
use Rattle.world_flight.specs.Rising.{RiseTo}

-- the messages in flight after one is sent: beyond the most in flight it is lost at once
abbrev pub launched_into : Flight → ℕ → InFlightFacts → Flight
launched_into flight number message =
    let with_it = insert_entry nat_cmp flight number message in
    if nat_le most_in_flight (length flight) then without_message with_it number else with_it

-- what holds of all messages in flight together
pub record IsFlight (flight : Flight) : Type 0 where
  pub few : length flight ≤ most_in_flight
  pub sent : AllSent flight
  pub rise : (high : ℕ) × RiseTo 0 flight high
