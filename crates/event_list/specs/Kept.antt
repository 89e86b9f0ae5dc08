-- What is kept of the events of a step.
use Rattle.std.specs.Prelude.{ℕ, ◌≡◌, Bool, not, List, [], ◌∷◌, length}
use Rattle.std.specs.List.{filter}
use Rattle.event_book.specs.declared.event.Event.{Event}
use Rattle.event_list.specs.Marks.{IsLast, rouses_agents, stirs_replicas}
use Rattle.event_list.specs.Silence.{is_silent}

-- these events without those that are silent
abbrev pub without_silent : Bool → List Event → List Event
without_silent traced events = filter (λ event. not (is_silent traced event.kind)) events

-- what is kept of the events of a step: the first, behind which a loss may be told, and then those that aren't silent
abbrev pub kept_of : Bool → List Event → List Event
kept_of traced [] = []
kept_of traced (event ∷ events) = event ∷ without_silent traced events

-- what one more event adds to what is kept
abbrev pub kept_more : Bool → List Event → Event → List Event
kept_more traced [] event = event ∷ []
kept_more traced (first ∷ kept) event = without_silent traced (event ∷ [])

-- what is kept, how many there are, and the last that stirs replicas and that rouses agents, are those of these events
pub record IsListOf (kept : List Event) (traced : Bool) (count stirred roused : ℕ) (items : List Event) : Type 0 where
  pub holds : kept ≡ kept_of traced items
  pub counted : count ≡ length items
  pub stirs : IsLast stirs_replicas items stirred
  pub rouses : IsLast rouses_agents items roused
