-- What happenings concern.
use Rattle.event_book.specs.declared.event.EventKind.{EventKind}
use Rattle.event_book.specs.declared.event.EventKind.TheVariants as kinds

-- what a happening concerns: time, messages, the key store, watchdogs, servers, logs, synchronous replication, agents,
-- links or notes
pub data Concern : Type 0 where
  Time : Concern
  Messages : Concern
  Store : Concern
  Watchdogs : Concern
  Servers : Concern
  Logs : Concern
  Replication : Concern
  Agents : Concern
  Links : Concern
  Notes : Concern

-- what this happening concerns
abbrev pub concern_of : EventKind → Concern
concern_of kinds.Tick = Time
concern_of (kinds.Message happening) = Messages
concern_of (kinds.Store happening) = Store
concern_of (kinds.Watchdog happening) = Watchdogs
concern_of (kinds.Server happening) = Servers
concern_of (kinds.Log happening) = Logs
concern_of (kinds.Replication happening) = Replication
concern_of (kinds.Agent happening) = Agents
concern_of (kinds.Link happening) = Links
concern_of (kinds.Note note) = Notes
