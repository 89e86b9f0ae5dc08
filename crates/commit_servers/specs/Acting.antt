-- Events that are actions of the law of commits.
use Rattle.std.specs.Prelude.{ℕ, List, [], ◌∷◌}
use Rattle.pat_base.specs.declared.ticks.Ticks.{Ticks}
use Rattle.event_book.specs.declared.event.Event.{Event}
use Rattle.event_book.specs.declared.event.EventKind.{EventKind}
use Rattle.event_book.specs.declared.event.EventKind.TheVariants as kinds
use Rattle.event_book.specs.declared.event.WatchdogEvent.TheVariants as watchdogs
use Rattle.event_book.specs.Facts.{Facts, facts_after}
use Rattle.commit_actions.specs.Actions.{Action, IsAllowed}
use Rattle.commit_showing.specs.Books.{IsShown}
use Rattle.commit_actions.specs.Past.{Setup, Past, VolatileState, past_after, state_of}
use Rattle.commit_showing.specs.Showing.{event_at}
use Rattle.commit_servers.specs.Matching.{IsSameServers, IsLiveAs, volatile_after}
use Rattle.commit_servers.specs.Sound.{AreServersSound}

-- an event is one allowed action, which it shows whenever it happens: from the state of a
-- book and of these volatile states to that of the book with the event, and of the later ones
pub record IsAction (setup : Setup) (past : Past) (volatile_states : ℕ → VolatileState) (kind : EventKind)
    (later : ℕ → VolatileState) : Type 0 where
  pub action : Action
  pub allowed : IsAllowed (state_of setup past volatile_states) action
  pub shown : (tick : Ticks)
      → IsShown setup past volatile_states
      (record { action = action; events = event_at tick kind; volatile_states = later })

-- a book's past and what no event says of members fit what the book leaves, of which each server is sound
pub record Fits (past : Past) (facts : Facts) (volatile_states : ℕ → VolatileState) : Type 0 where
  pub same : IsSameServers past facts
  pub live : IsLiveAs volatile_states facts.servers
  pub sound : AreServersSound facts

-- an event is such an action, behind which all fits
pub record Leads (setup : Setup) (past : Past) (facts : Facts) (volatile_states : ℕ → VolatileState)
    (kind : EventKind) (later : ℕ → VolatileState) : Type 0 where
  pub action : IsAction setup past volatile_states kind later
  pub fits : Fits (past_after past kind) (facts_after facts kind) later

-- an event that changes no server but those whose start or stop is complete with a tick
abbrev pub IsAside : EventKind → Type 0
IsAside (kinds.Server happening) = ⊥
IsAside (kinds.Log happening) = ⊥
IsAside (kinds.Replication happening) = ⊥
IsAside (kinds.Watchdog (watchdogs.Reset member)) = ⊥
IsAside _ = Unit {0}

-- these events are such actions, one after another
abbrev pub AreActions : Setup → Past → Facts → (ℕ → VolatileState) → List Event → Type 0
AreActions setup past facts volatile_states [] = Unit {0}
AreActions setup past facts volatile_states (event ∷ events) =
    Leads setup past facts volatile_states event.kind (volatile_after volatile_states event.kind)
    × AreActions setup (past_after past event.kind) (facts_after facts event.kind)
    (volatile_after volatile_states event.kind) events
