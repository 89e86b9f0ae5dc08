-- Events beside a leader: they leave the key store as it is, and send under
-- numbers to come, from other members. Events by which its server serves on.
use Rattle.std.specs.Prelude.{ℕ, ◌≡◌, ◌≢◌, ◌≤◌, ◌<◌, ◌⊎◌, Some}
use Rattle.event_book.specs.declared.event.EventKind.{EventKind}
use Rattle.event_book.specs.declared.event.EventKind.TheVariants as kinds
use Rattle.event_book.specs.declared.event.MessageEvent.TheVariants as messages
use Rattle.event_book.specs.declared.event.ServerEvent.TheVariants as servers
use Rattle.event_book.specs.declared.event.StoreEvent.TheVariants as stores
use Rattle.event_book.specs.declared.event.WatchdogEvent.TheVariants as watchdogs
use Rattle.event_book.specs.declared.link.LinkEnd.{LinkEnd}
use Rattle.event_book.specs.declared.link.LinkEnd.TheVariants as ends
use Rattle.event_book.specs.Flight.{InFlightFacts, in_flight}
use Rattle.cluster_model.specs.State.{Cluster}
use Rattle.lease_book.specs.Flights.{Rises}
use Rattle.leading_parts.specs.Alone.{IsWithStore}

-- this end of a link is another member
abbrev pub IsOther : ℕ → LinkEnd → Type 0
IsOther n (ends.Member member) = n ≢ member.id.number
IsOther n ends.Store = ⊥

-- no time passes and nothing is granted; no message comes, and one that
-- is sent has a number past this one, and is another member's
abbrev pub IsBeside : ℕ → ℕ → EventKind → Type 0
IsBeside n last kinds.Tick = ⊥
IsBeside n last (kinds.Message (messages.Sent number message)) = (last < number) × IsOther n message.from
IsBeside n last (kinds.Message (messages.Delivered number)) = ⊥
IsBeside n last (kinds.Store (stores.Granted number by txn standbys)) = ⊥
IsBeside n last _ = Unit {0}

-- what such events leave, of the key store and of the message of this number
pub record LeavesMail (n number : ℕ) (before after : Cluster) : Type 0 where
  pub keys : after.facts.keys ≡ before.facts.keys
  pub clock : after.facts.clock ≡ before.facts.clock
  pub order : Rises 0 after.facts.flight
  pub last : number ≤ after.facts.sent
  pub mail : (carried : InFlightFacts) → in_flight before.facts.flight number ≡ Some carried
      → IsWithStore n carried.message.from carried.message.to
      → in_flight after.facts.flight number ≡ Some carried
  pub fresh : (i : ℕ) (carried : InFlightFacts) → in_flight after.facts.flight i ≡ Some carried
      → (in_flight before.facts.flight i ≡ Some carried) ⊎ IsOther n carried.message.from

-- the server of the member of this number doesn't cease to accept writes
abbrev pub ServesOn : ℕ → EventKind → Type 0
ServesOn n (kinds.Server (servers.Ended server)) = n ≢ server.id.number
ServesOn n (kinds.Server (servers.Crashed server)) = n ≢ server.id.number
ServesOn n (kinds.Watchdog (watchdogs.Reset member)) = n ≢ member.id.number
ServesOn n _ = Unit {0}
