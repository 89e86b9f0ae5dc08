-- Events that are actions of the law of commits, one after another.
use Rattle.std.specs.Prelude.{ℕ, ◌≡◌, List, [], ◌∷◌}
use Rattle.event_book.specs.declared.event.Event.{Event}
use Rattle.cluster_model.specs.Cluster.{cluster_over}
use Rattle.cluster_model.specs.State.{Cluster}
use Rattle.commit_showing.specs.Books.{AreAllowed, Transition, book_of}
use Rattle.commit_actions.specs.Past.{Past, Setup, VolatileState, past_over}
use Rattle.commit_servers.specs.Acting.{Fits}
use Rattle.commit_showing.specs.Changes.{EachChangesOnce}
use Rattle.commit_parts.specs.Reading.{volatile_of}

-- what no event says of members after these actions
abbrev pub volatile_last : (ℕ → VolatileState) → List Transition → ℕ → VolatileState
volatile_last volatile_states [] = volatile_states
volatile_last volatile_states (transition ∷ transitions) = volatile_last transition.volatile_states transitions

-- these events are allowed actions, one after another, which they show, from these
-- volatile states on; and servers, and what no event says of members, fit behind them
pub record MovesFrom (setup : Setup) (past : Past) (states : ℕ → VolatileState) (cluster : Cluster)
    (events : List Event) : Type 0 where
  pub transitions : List Transition
  pub whole : book_of transitions ≡ events
  pub allowed : AreAllowed setup past states transitions
  pub once : EachChangesOnce transitions
  pub last : volatile_last states transitions ≡ volatile_of (cluster_over cluster events)
  pub fits : Fits (past_over past events) (cluster_over cluster events).facts
      (volatile_of (cluster_over cluster events))

-- the same from where servers and agents stand
abbrev pub Moves : Setup → Past → Cluster → List Event → Type 0
Moves setup past cluster events = MovesFrom setup past (volatile_of cluster) cluster events
