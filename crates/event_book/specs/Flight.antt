-- Messages in flight.
use Rattle.std.specs.Prelude.{ℕ, Bool, List, [], Option, Some, None}
use Rattle.std.specs.Ordering.{nat_cmp}
use Rattle.std.specs.BTreeMap.{insert_entry, is_at}
use Rattle.std.specs.Map.{remove_entry, lookup}
use Rattle.pat_base.specs.declared.ticks.Ticks.{Ticks}
use Rattle.lease_store.specs.Answers.{present_pairs}
use Rattle.lease_store.specs.declared.granted.Granted.{Granted}
use Rattle.store_keys.specs.declared.key.Key.{Key}
use Rattle.store_keys.specs.declared.value.KeyEntry.{KeyEntry}
use Rattle.lease_store.specs.Keys.{Keys}
use Rattle.event_book.specs.declared.event.EventKind.{EventKind}
use Rattle.event_book.specs.declared.event.EventKind.TheVariants as kinds
use Rattle.event_book.specs.declared.event.MessageEvent.{MessageEvent}
use Rattle.event_book.specs.declared.event.MessageEvent.TheVariants.{Sent, Delivered, Lost}
use Rattle.event_book.specs.declared.link.LinkEnd.{LinkEnd}
use Rattle.event_book.specs.declared.link.LinkEnd.TheVariants as link_ends
use Rattle.event_book.specs.declared.message.Body.{Body}
use Rattle.event_book.specs.declared.message.Body.TheVariants as bodies
use Rattle.event_book.specs.declared.message.Message.{Message}

-- a message on its way, with the moment of its sending, and with what an answer
-- of the store carries beside its words: the store's entries then, and the grant
pub record InFlightFacts : Type 0 where
  pub message : Message
  pub sent : Ticks
  pub snapshot : List (Key × KeyEntry)
  pub grant : Option Granted

-- messages in flight by their numbers
abbrev pub Flight : Type 0
Flight = List (ℕ × InFlightFacts)

-- what the store holds, for an answer that tells it
abbrev pub snapshot_for : Body → List (Key × KeyEntry) → List (Key × KeyEntry)
snapshot_for bodies.Snapshot present = present
snapshot_for (bodies.Granted request leased) present = present
snapshot_for _ present = []

-- the grant of this revision, for an answer to this end of a link; no grant is told to the key store
abbrev pub grant_to : LinkEnd → ℕ → Bool → Option Granted
grant_to link_ends.Store revision leased = None
grant_to (link_ends.Member member) revision leased =
    Some (record { revision = revision; by = member.id; leased = leased })

-- the grant of the last revision, for an answer that tells it
abbrev pub grant_for : Body → LinkEnd → ℕ → Option Granted
grant_for (bodies.Granted request leased) to revision = grant_to to revision leased
grant_for _ to revision = None

-- a message that is sent at this moment: it carries the snapshot of its sending
abbrev pub launched : ℕ → Keys → Message → InFlightFacts
launched now known message = record {
  message = message;
  sent = record { 0 = now };
  snapshot = snapshot_for message.body (present_pairs now known.pairs);
  grant = grant_for message.body message.to known.revision;
}

-- the message of this number, where it is in flight
abbrev pub in_flight : Flight → ℕ → Option InFlightFacts
in_flight flight number = lookup (is_at (nat_cmp number)) flight

-- the messages in flight, but for the one of this number
abbrev pub without_message : Flight → ℕ → Flight
without_message flight number = remove_entry (is_at (nat_cmp number)) flight

-- the messages in flight after what happens to one at this moment
abbrev pub flight_by : ℕ → Keys → Flight → MessageEvent → Flight
flight_by now known flight (Sent number message) = insert_entry nat_cmp flight number (launched now known message)
flight_by now known flight (Delivered number) = without_message flight number
flight_by now known flight (Lost number) = without_message flight number

-- the messages in flight after an event of this moment
abbrev pub flight_after : ℕ → Keys → Flight → EventKind → Flight
flight_after now known flight (kinds.Message happening) = flight_by now known flight happening
flight_after now known flight _ = flight

-- the number of the message that was sent last, after what happens to one
abbrev pub sent_by : ℕ → MessageEvent → ℕ
sent_by last (Sent number message) = number
sent_by last _ = last

-- the number of the message that was sent last
abbrev pub sent_after : ℕ → EventKind → ℕ
sent_after last (kinds.Message happening) = sent_by last happening
sent_after last _ = last
