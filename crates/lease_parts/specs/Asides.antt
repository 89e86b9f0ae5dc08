-- Events at which no agent acts, and the key store decides nothing.
use Rattle.std.specs.Prelude.{ℕ}
use Rattle.event_book.specs.declared.event.AgentEvent.TheVariants as agents
use Rattle.event_book.specs.declared.event.EventKind.{EventKind}
use Rattle.event_book.specs.declared.event.EventKind.TheVariants as kinds
use Rattle.event_book.specs.declared.event.MessageEvent.TheVariants as messages
use Rattle.event_book.specs.declared.event.ServerEvent.TheVariants as servers
use Rattle.event_book.specs.declared.event.StoreEvent.TheVariants as stores
use Rattle.event_book.specs.declared.event.WatchdogEvent.TheVariants as watchdogs

-- an event beside the inputs and the starts of agents and the decisions of the
-- key store, and no operator's promotion. Who begins in it meets a premise
abbrev pub IsAsideIn : (ℕ → Type 0) → EventKind → Type 0
IsAsideIn May (kinds.Message (messages.Sent number message)) = ⊥
IsAsideIn May (kinds.Message (messages.Delivered number)) = ⊥
IsAsideIn May (kinds.Store (stores.Granted number by txn standbys)) = ⊥
IsAsideIn May (kinds.Watchdog (watchdogs.Armed member until answer)) = ⊥
IsAsideIn May (kinds.Watchdog (watchdogs.Fed member until basis)) = ⊥
IsAsideIn May (kinds.Watchdog (watchdogs.HoldTaken member until from incarnation sequence)) = ⊥
IsAsideIn May (kinds.Server (servers.Began server timeline)) = May server.id.number
IsAsideIn May (kinds.Server (servers.Promoted server)) = ⊥
IsAsideIn May (kinds.Agent (agents.Woken agent)) = ⊥
IsAsideIn May (kinds.Agent (agents.Operated agent action)) = ⊥
IsAsideIn May (kinds.Agent (agents.Started agent incarnation)) = ⊥
IsAsideIn May _ = Unit {0}

-- such an event in which nobody begins
abbrev pub IsAside : EventKind → Type 0
IsAside kind = IsAsideIn (λ n. ⊥) kind

-- an event that changes nothing of what the law of one writer reads
abbrev pub IsQuiet : EventKind → Type 0
IsQuiet (kinds.Store (stores.Granted number by txn standbys)) = ⊥
IsQuiet (kinds.Store happening) = Unit {0}
IsQuiet (kinds.Server (servers.Follows server upstream)) = Unit {0}
IsQuiet (kinds.Server (servers.Diverged server upstream at)) = Unit {0}
IsQuiet (kinds.Server (servers.Frozen server)) = Unit {0}
IsQuiet (kinds.Server (servers.Thawed server)) = Unit {0}
IsQuiet (kinds.Server (servers.Slowed server stop start)) = Unit {0}
IsQuiet (kinds.Log happening) = Unit {0}
IsQuiet (kinds.Replication happening) = Unit {0}
IsQuiet (kinds.Agent (agents.Suspended agent)) = Unit {0}
IsQuiet (kinds.Agent (agents.Resumed agent)) = Unit {0}
IsQuiet (kinds.Agent (agents.Passed agent)) = Unit {0}
IsQuiet (kinds.Link happening) = Unit {0}
IsQuiet (kinds.Note note) = Unit {0}
IsQuiet _ = ⊥
