use Rattle.event_book.proofs.NamePlaces.{Passed}
use Rattle.event_book.proofs.name_order.place.Given as goal

abbrev pub invariant-loop-at : goal.invariant-loop-at
invariant-loop-at l = Passed l.name l.names l.at
