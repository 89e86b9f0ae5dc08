use Rattle.std.proofs.Common.{◌++◌, subst}
use Rattle.std.specs.List.Sorted.{IsStrictlySortedBy}
use Rattle.std.specs.Map.{keys_of}
use Rattle.std.specs.Ordering.{nat_cmp}
use Rattle.event_book.specs.Flight.{Flight}
use Rattle.world_flight.specs.Launches.{IsFlight}
use Rattle.world_flight.proofs.Rising.{rise-sorted}
use Rattle.world_flight.proofs.flight.Flight.is_empty.Goals as goal

-- the numbers of messages in flight ascend
ordered : (flight : Flight) → IsFlight flight → IsStrictlySortedBy nat_cmp (keys_of flight)
ordered flight is = rise-sorted 0 is.rise.0 flight is.rise.1

pub returns-then-len-eq0-clause-order : goal.returns-then-len-eq0-clause-order
returns-then-len-eq0-clause-order c = subst (λ (flight : Flight). IsStrictlySortedBy nat_cmp (keys_of flight))
    c.self.view_is (ordered (c.self.inside.earlier.entries ++ c.self.inside.latest.items) c.self.invariant)

pub returns-else-len-eq0-clause-order : goal.returns-else-len-eq0-clause-order
returns-else-len-eq0-clause-order c = subst (λ (flight : Flight). IsStrictlySortedBy nat_cmp (keys_of flight))
    c.self.view_is (ordered (c.self.inside.earlier.entries ++ c.self.inside.latest.items) c.self.invariant)
