-- Which events may give replicas or agents something to do.
use Rattle.std.specs.Prelude.{ℕ, ◌≡◌, nat_lt, Bool, true, false, List, drop}
use Rattle.std.specs.List.{list_any}
use Rattle.event_book.specs.declared.event.Event.{Event}
use Rattle.event_book.specs.declared.event.EventKind.{EventKind}
use Rattle.event_book.specs.declared.event.EventKind.TheVariants as kinds
use Rattle.event_book.specs.declared.event.LogEvent.TheVariants as logs
use Rattle.event_book.specs.declared.event.MessageEvent.TheVariants as messages
use Rattle.event_book.specs.declared.event.WatchdogEvent.TheVariants as watchdogs

-- after such a happening a server may have something to receive or to confirm: it changes servers or links
abbrev pub stirs_replicas : EventKind → Bool
stirs_replicas kinds.Tick = true
stirs_replicas (kinds.Watchdog (watchdogs.Reset member)) = true
stirs_replicas (kinds.Server happening) = true
stirs_replicas (kinds.Log happening) = true
stirs_replicas (kinds.Replication happening) = true
stirs_replicas (kinds.Link happening) = true
stirs_replicas _ = false

-- so it is after one of these events
abbrev pub stir_replicas : List Event → Bool
stir_replicas events = list_any (λ event. stirs_replicas event.kind) events

-- after such a happening an agent that had nothing to do may have: time passes, or something changes that agents go by
abbrev pub rouses_agents : EventKind → Bool
rouses_agents (kinds.Message (messages.Sent number message)) = false
rouses_agents (kinds.Message (messages.Lost number)) = false
rouses_agents (kinds.Store happening) = false
rouses_agents (kinds.Log (logs.Appended server entry)) = false
rouses_agents (kinds.Log (logs.Received server from count)) = false
rouses_agents (kinds.Replication happening) = false
rouses_agents (kinds.Watchdog (watchdogs.Reset member)) = true
rouses_agents (kinds.Watchdog happening) = false
rouses_agents (kinds.Note note) = false
rouses_agents _ = true

-- so it is after one of these events
abbrev pub rouse_agents : List Event → Bool
rouse_agents events = list_any (λ event. rouses_agents event.kind) events

-- the last of these events that passes the test is the one of this number, counted from 1; none does where that is 0
pub record IsLast (test : EventKind → Bool) (events : List Event) (last : ℕ) : Type 0 where
  pub behind : (from : ℕ) → list_any (λ event. test event.kind) (drop from events) ≡ nat_lt from last
