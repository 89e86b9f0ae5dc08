-- Runs as books: actions one after another, each with its events and with what the members are after it.
use Rattle.std.specs.Prelude.{ℕ, ◌≡◌, List, [], ◌∷◌, ◌++◌}
use Rattle.event_book.specs.declared.event.Event.{Event}
use Rattle.lease_model.specs.States.{Declared}
use Rattle.lease_model.specs.Past.{VolatileState, first_volatile_state, past_of, state_of}
use Rattle.lease_model.specs.Actions.{Action, state_after, IsAllowed}

-- an action, its events, and the volatile states after it
pub record Transition : Type 0 where
  pub action : Action
  pub events : List Event
  pub volatile_states : ℕ → VolatileState

-- the book with these events, and these volatile states, tell the action: they are the state after it
abbrev pub IsShown : Declared → List Event → (ℕ → VolatileState) → Transition → Type 0
IsShown declared book volatile_states transition =
    state_of declared (past_of (book ++ transition.events)) transition.volatile_states
    ≡ state_after (state_of declared (past_of book) volatile_states) transition.action transition.events

-- each transition is allowed behind this book, and shown by its events
abbrev pub AreAllowed : Declared → List Event → (ℕ → VolatileState) → List Transition → Type 0
AreAllowed declared book volatile_states [] = Unit {0}
AreAllowed declared book volatile_states (transition ∷ transitions) =
    IsAllowed (state_of declared (past_of book) volatile_states) transition.action transition.events
    × (IsShown declared book volatile_states transition ×
    AreAllowed declared (book ++ transition.events) transition.volatile_states transitions)

-- before the first event: no server is live, and each agent is in its first incarnation
abbrev pub first_volatile_states : ℕ → VolatileState
first_volatile_states m = first_volatile_state

-- the book of a run: the events of its transitions, one after another
abbrev pub book_of : List Transition → List Event
book_of [] = []
book_of (transition ∷ transitions) = transition.events ++ book_of transitions

-- the volatile states behind these transitions
abbrev pub volatile_states_over : (ℕ → VolatileState) → List Transition → ℕ → VolatileState
volatile_states_over volatile_states [] = volatile_states
volatile_states_over volatile_states (transition ∷ transitions) =
    volatile_states_over transition.volatile_states transitions
