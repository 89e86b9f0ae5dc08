use Rattle.lease_book.proofs.Flights.{flight-first, flight-by}
use Rattle.lease_book.proofs.laws.same_flight.Goals as goal

pub returns : goal.returns
returns c = record { first = flight-first; each = flight-by }
