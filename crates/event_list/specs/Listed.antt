-- The events of a step so far.
use Rattle.std.specs.Prelude.{Bool, true, List, ◌++◌}
use Rattle.event_book.specs.declared.event.Event.{Event}

-- what happened in a step so far, and whether messages are traced in it
pub record Listed : Type 0 where
  pub items : List Event
  pub traced : Bool

infixr 65 ◌+++◌
-- `listed +++ events` is the same with these events behind those. It groups to the right.
abbrev pub ◌+++◌ : Listed → List Event → Listed
listed +++ events = record listed { items = listed.items ++ events }

-- these events of a step in which messages are traced
abbrev pub traced_list : List Event → Listed
traced_list events = record { items = events; traced = true }
