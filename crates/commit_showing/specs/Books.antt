-- Kept commits, and runs as books: actions one after another, each with its events and what its members are after it.
use Rattle.std.specs.Prelude.{ℕ, ◌≡◌, ◌⊎◌, List, [], ◌∷◌, ◌++◌, Some, slice_get}
use Rattle.wal_model.specs.declared.entry.Entry.{Entry}
use Rattle.event_book.specs.declared.event.Event.{Event}
use Rattle.event_book.specs.declared.event.EventKind.{EventKind}
use Rattle.event_book.specs.declared.event.EventKind.TheVariants as kinds
use Rattle.event_book.specs.declared.event.ReplicationEvent.TheVariants as replications
use Rattle.event_book.specs.declared.event.ServerEvent.TheVariants as servers
use Rattle.event_book.specs.declared.event.WatchdogEvent.TheVariants as watchdogs
use Rattle.event_book.specs.Kept.{WritersHold}
use Rattle.event_book.specs.Logs.{Logs}
use Rattle.commit_actions.specs.States.{HaveBytes}
use Rattle.commit_actions.specs.Actions.{Action, act, IsAllowed}
use Rattle.commit_actions.specs.Past.{Setup, Past, past_over, VolatileState, first_volatile_state, log_found, state_of}

-- each server that accepts writes has an entry of each acknowledged commit in its log, by what a book determines
abbrev pub KeepsNow : Past → Type 0
KeepsNow past = WritersHold past.lease.writes past.logs past.acknowledged

-- in each of these logs, each entry has bytes
abbrev pub AllHaveBytes : Logs → Type 0
AllHaveBytes logs = (m : ℕ) (log : List Entry) → log_found (slice_get logs.members m) ≡ Some log → HaveBytes log

-- an action, its events, and what no event says of the members after it
pub record Transition : Type 0 where
  pub action : Action
  pub events : List Event
  pub volatile_states : ℕ → VolatileState

-- an event that is no change of a log, of who accepts writes, or of what is acknowledged
abbrev pub LeavesCommits : EventKind → Type 0
LeavesCommits (kinds.Log happening) = ⊥
LeavesCommits (kinds.Server (servers.Began server timeline)) = ⊥
LeavesCommits (kinds.Server (servers.Ended server)) = ⊥
LeavesCommits (kinds.Server (servers.Crashed server)) = ⊥
LeavesCommits (kinds.Watchdog (watchdogs.Reset member)) = ⊥
LeavesCommits (kinds.Replication (replications.Acknowledged server commit)) = ⊥
LeavesCommits _ = Unit {0}

-- all of these events are such
abbrev pub AllLeaveCommits : List Event → Type 0
AllLeaveCommits [] = Unit {0}
AllLeaveCommits (event ∷ events) = LeavesCommits event.kind × AllLeaveCommits events

-- at most one of these events is such a change
abbrev pub ChangeOnce : List Event → Type 0
ChangeOnce [] = Unit {0}
ChangeOnce (event ∷ events) = (LeavesCommits event.kind × ChangeOnce events) ⊎ AllLeaveCommits events

-- the events, and what no event says of the members after them, show the action: they are the state after it
abbrev pub IsShown : Setup → Past → (ℕ → VolatileState) → Transition → Type 0
IsShown setup past volatile_states transition =
    state_of setup (past_over past transition.events) transition.volatile_states
    ≡ act (state_of setup past volatile_states) transition.action

-- each action is allowed, shown by its events, and at most one of these changes what commits being kept speaks of
abbrev pub AreAllowed : Setup → Past → (ℕ → VolatileState) → List Transition → Type 0
AreAllowed setup past volatile_states [] = Unit {0}
AreAllowed setup past volatile_states (transition ∷ transitions) =
    IsAllowed (state_of setup past volatile_states) transition.action
    × IsShown setup past volatile_states transition × ChangeOnce transition.events
    × AreAllowed setup (past_over past transition.events) transition.volatile_states transitions

-- the volatile states before the first event
abbrev pub first_volatile_states : ℕ → VolatileState
first_volatile_states m = first_volatile_state

-- the events of these transitions
abbrev pub book_of : List Transition → List Event
book_of [] = []
book_of (transition ∷ transitions) = transition.events ++ book_of transitions
