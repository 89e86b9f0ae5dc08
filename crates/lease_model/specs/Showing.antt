-- How the events of an action tell it.
use Rattle.std.specs.Prelude.{ℕ, ◌≡◌, Bool, List, [], ◌∷◌, Option}
use Rattle.pat_base.specs.declared.name.Name.{Name}
use Rattle.pat_base.specs.declared.ticks.Ticks.{Ticks}
use Rattle.store_keys.specs.declared.key.Key.{Key}
use Rattle.store_keys.specs.declared.txn.Expected.{Expected}
use Rattle.store_keys.specs.declared.txn.Txn.{Txn}
use Rattle.store_keys.specs.declared.txn_kind.TxnKind.{TxnKind}
use Rattle.lease_store.specs.Writes.{is_lease}
use Rattle.event_book.specs.declared.event.MessageEvent.TheVariants as messages
use Rattle.event_book.specs.declared.link.LinkEnd.TheVariants as ends
use Rattle.event_book.specs.declared.member.Member.{Member}
use Rattle.event_book.specs.declared.message.Body.TheVariants as bodies
use Rattle.event_book.specs.declared.event.Event.{Event}
use Rattle.event_book.specs.declared.event.EventKind.{EventKind}
use Rattle.event_book.specs.declared.event.EventKind.TheVariants as kinds
use Rattle.event_book.specs.declared.event.StoreEvent.TheVariants as stores
use Rattle.event_book.specs.declared.event.WatchdogEvent.{WatchdogEvent}
use Rattle.event_book.specs.declared.event.WatchdogEvent.TheVariants as watchdogs
use Rattle.event_book.specs.declared.event.AgentEvent.TheVariants as agents
use Rattle.lease_model.specs.Leases.{FailsafeRequest}
use Rattle.lease_model.specs.Inputs.{AgentInput}
use Rattle.lease_model.specs.Actions.{Action, Start, Kill, Crash, Note}
use Rattle.lease_model.specs.Past.{Past, past_over, VolatileState, machine_of}

-- an event of this member's watchdog or of its hold
abbrev pub IsOwnWatchdog : ℕ → WatchdogEvent → Type 0
IsOwnWatchdog m (watchdogs.Armed member until answer) = member.id.number ≡ m
IsOwnWatchdog m (watchdogs.Fed member until basis) = member.id.number ≡ m
IsOwnWatchdog m (watchdogs.Disarmed member) = member.id.number ≡ m
IsOwnWatchdog m (watchdogs.Reset member) = member.id.number ≡ m
IsOwnWatchdog m (watchdogs.Measured member since) = member.id.number ≡ m
IsOwnWatchdog m (watchdogs.HoldTaken member until from incarnation sequence) = member.id.number ≡ m

-- an event that one input of this member's agent may bring: of watchdogs and holds it changes that member's alone
abbrev pub IsOwn : ℕ → EventKind → Type 0
IsOwn m kinds.Tick = ⊥
IsOwn m (kinds.Store (stores.Granted number by txn standbys)) = ⊥
IsOwn m (kinds.Watchdog happening) = IsOwnWatchdog m happening
IsOwn m (kinds.Agent (agents.Started agent incarnation)) = ⊥
IsOwn m _ = Unit {0}

-- the input that these events behind the past tell, where this is the volatile state after it
abbrev pub input_of : Past → ℕ → VolatileState → Option ℕ → Bool → Option FailsafeRequest → List Event → AgentInput
input_of past m volatile_state heard feeds takes events = record {
  heard = heard;
  feeds = feeds;
  takes = takes;
  machine = machine_of (past_over past events) volatile_state m;
  flight = (past_over past events).flight;
}

-- the events of one delivery to the key store at this moment: of a
-- request that is granted, of one that is refused, and of a read
abbrev pub granted_events : Ticks → ℕ → ℕ → Member → ℕ → ℕ → Txn → List Name → List Event
granted_events tick number answer by incarnation sequence txn standbys =
    record { tick = tick; kind = kinds.Message (messages.Delivered number) }
    ∷ record { tick = tick; kind = kinds.Store (stores.Granted number by txn standbys) }
    ∷ record {
      tick = tick;
      kind = kinds.Message (messages.Sent answer (record {
        from = ends.Store;
        to = ends.Member by;
        incarnation = incarnation;
        sequence = sequence;
        body = bodies.Granted number (is_lease txn);
      }));
    }
    ∷ []

-- the events of one delivery to the key store, of a request that is refused
abbrev pub refused_events : Ticks → ℕ → ℕ → Member → ℕ → ℕ → TxnKind → Key → Expected → List Event
refused_events tick number answer by incarnation sequence request key found =
    record { tick = tick; kind = kinds.Message (messages.Delivered number) }
    ∷ record { tick = tick; kind = kinds.Store (stores.Refused number by request key found) }
    ∷ record {
      tick = tick;
      kind = kinds.Message (messages.Sent answer (record {
        from = ends.Store;
        to = ends.Member by;
        incarnation = incarnation;
        sequence = sequence;
        body = bodies.Refused number key found;
      }));
    }
    ∷ []

-- the events of one delivery to the key store, of a read
abbrev pub read_events : Ticks → ℕ → ℕ → Member → ℕ → ℕ → List Event
read_events tick number answer by incarnation sequence =
    record { tick = tick; kind = kinds.Message (messages.Delivered number) }
    ∷ record {
      tick = tick;
      kind = kinds.Message (messages.Sent answer (record {
        from = ends.Store;
        to = ends.Member by;
        incarnation = incarnation;
        sequence = sequence;
        body = bodies.Snapshot;
      }));
    }
    ∷ []

-- an event that changes neither clock nor keys nor messages nor holds
abbrev pub IsLocal : EventKind → Type 0
IsLocal kinds.Tick = ⊥
IsLocal (kinds.Message happening) = ⊥
IsLocal (kinds.Store (stores.Granted number by txn standbys)) = ⊥
IsLocal (kinds.Watchdog (watchdogs.HoldTaken member until from incarnation sequence)) = ⊥
IsLocal _ = Unit {0}

-- an action that changes machines alone
abbrev pub IsLocalAction : Action → Type 0
IsLocalAction (Start member) = Unit {0}
IsLocalAction (Kill member) = Unit {0}
IsLocalAction (Crash member) = Unit {0}
IsLocalAction Note = Unit {0}
IsLocalAction _ = ⊥
