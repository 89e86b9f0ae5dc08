-- Events by their kinds.
use Rattle.std.specs.Prelude.{List, [], ◌∷◌}
use Rattle.event_book.specs.declared.event.Event.{Event}
use Rattle.event_book.specs.declared.event.EventKind.{EventKind}

-- each of these events is of a kind of which this holds
abbrev pub AllAre : (EventKind → Type 0) → List Event → Type 0
AllAre P [] = Unit {0}
AllAre P (event ∷ events) = P event.kind × AllAre P events
