-- A watchdog is armed or fed by a grant only on that very grant to its member.
use Rattle.std.specs.Prelude.{ℕ, ◌≡◌, ◌++◌, true, List, ◌∷◌}
use Rattle.pat_base.specs.declared.name.Name.{Name}
use Rattle.pat_base.specs.declared.ticks.Ticks.{Ticks}
use Rattle.store_keys.specs.declared.txn.Txn.{Txn}
use Rattle.lease_store.specs.Writes.{is_lease}
use Rattle.event_book.specs.declared.event.AgentEvent.TheVariants as agents
use Rattle.event_book.specs.declared.event.Event.{Event}
use Rattle.event_book.specs.declared.event.EventKind.{EventKind}
use Rattle.event_book.specs.declared.event.EventKind.TheVariants as kinds
use Rattle.event_book.specs.declared.event.MessageEvent.TheVariants as messages
use Rattle.event_book.specs.declared.event.StoreEvent.TheVariants as stores
use Rattle.event_book.specs.declared.event.WatchdogEvent.{WatchdogEvent}
use Rattle.event_book.specs.declared.event.WatchdogEvent.TheVariants as watchdogs
use Rattle.event_book.specs.declared.link.LinkEnd.TheVariants as ends
use Rattle.event_book.specs.declared.member.Member.{Member}
use Rattle.event_book.specs.declared.message.Body.TheVariants as bodies
use Rattle.event_book.specs.declared.message.Message.{Message}
use Rattle.event_book.specs.declared.reason.Basis.TheVariants as bases
use Rattle.event_book.specs.Kinds.{AllAre}

-- no input of an agent begins in this event, and no time passes in it
abbrev pub BeginsNoInput : EventKind → Type 0
BeginsNoInput kinds.Tick = ⊥
BeginsNoInput (kinds.Message (messages.Delivered number)) = ⊥
BeginsNoInput (kinds.Agent (agents.Woken member)) = ⊥
BeginsNoInput (kinds.Agent (agents.Operated member action)) = ⊥
BeginsNoInput _ = Unit {0}

-- the key store's answer to this member that the request which this message carried was granted, and
-- gave it the lease of the leader key or extended that
abbrev pub lease_answer : Member → ℕ → ℕ → ℕ → Message
lease_answer member incarnation sequence request = record {
  from = ends.Store;
  to = ends.Member member;
  incarnation = incarnation;
  sequence = sequence;
  body = bodies.Granted request true;
}

-- behind these events this member acts on the answer of this number: it tells that its own request for a lease of
-- the leader key was granted, was sent as that was granted, and is the last message that came to an agent
pub record ActsOnItsGrant (book : List Event) (member : Member) (answer : ℕ) : Type 0 where
  pub earlier : List Event
  pub between : List Event
  pub within : List Event
  pub granted : Ticks
  pub sent : Ticks
  pub came : Ticks
  pub request : ℕ
  pub txn : Txn
  pub standbys : List Name
  pub incarnation : ℕ
  pub sequence : ℕ
  pub is : book ≡ earlier
      ++ record { tick = granted; kind = kinds.Store (stores.Granted request member txn standbys) }
      ∷ record {
        tick = sent;
        kind = kinds.Message (messages.Sent answer (lease_answer member incarnation sequence request));
      }
      ∷ (between ++ record { tick = came; kind = kinds.Message (messages.Delivered answer) } ∷ within)
  pub leases : is_lease txn ≡ true
  pub input : AllAre BeginsNoInput within

-- where a watchdog is armed or fed by a grant in this happening, its member acts on that grant
abbrev pub IsFedOnItsGrant : List Event → WatchdogEvent → Type 0
IsFedOnItsGrant before (watchdogs.Armed member until answer) = ActsOnItsGrant before member answer
IsFedOnItsGrant before (watchdogs.Fed member until (bases.Grant answer)) = ActsOnItsGrant before member answer
IsFedOnItsGrant before _ = Unit {0}

-- the same of an event
abbrev pub FeedsOnItsGrant : List Event → EventKind → Type 0
FeedsOnItsGrant before (kinds.Watchdog happening) = IsFedOnItsGrant before happening
FeedsOnItsGrant before _ = Unit {0}

-- so it is of each event of this book
abbrev pub FeedOnTheirGrants : List Event → Type 0
FeedOnTheirGrants book = (front rest : List Event) (event : Event) → front ++ event ∷ rest ≡ book
    → FeedsOnItsGrant front event.kind
