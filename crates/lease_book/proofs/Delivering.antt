-- A delivery to the key store, from the facts of the book: it is shown, and the law has after it what the book leaves.
use Rattle.std.proofs.Common.{◌≡◌, ℕ, ◌<◌, true, false, List, ◌++◌, Some, sym, subst}
use Rattle.pat_base.specs.declared.name.Name.{Name}
use Rattle.pat_base.specs.declared.ticks.Ticks.{Ticks}
use Rattle.lease_store.specs.Decision.{Refusal, Grant as Grants, decision_on}
use Rattle.store_keys.specs.declared.key.Key.{Key}
use Rattle.store_keys.specs.declared.txn.Expected.{Expected}
use Rattle.store_keys.specs.declared.txn.Txn.{Txn}
use Rattle.store_keys.specs.declared.txn_kind.TxnKind.{TxnKind}
use Rattle.event_book.specs.declared.event.Event.{Event}
use Rattle.event_book.specs.declared.link.LinkEnd.TheVariants as ends
use Rattle.event_book.specs.declared.member.Member.{Member}
use Rattle.event_book.specs.declared.message.Body.TheVariants as bodies
use Rattle.event_book.specs.Flight.{InFlightFacts, in_flight}
use Rattle.event_book.specs.Facts.{Facts, facts_over}
use Rattle.lease_model.specs.Actions.{Deliver}
use Rattle.lease_model.specs.Books.{IsShown}
use Rattle.lease_model.specs.Past.{Past, VolatileState, first_past, past_of}
use Rattle.lease_model.specs.States.{Declared}
use Rattle.lease_model.specs.Stores.{IsSpannedTxn}
use Rattle.lease_model.specs.Showing.{granted_events, refused_events, read_events}
use Rattle.lease_law.proofs.Delivering.{granted-shown, refused_outcome-shown, read-shown}
use Rattle.lease_law.proofs.Showing.{past-append}
use Rattle.lease_book.specs.Flights.{AreCausal, IsSameBook}
use Rattle.lease_book.proofs.Groups.{book-after, granted-causal, refused-causal, read-causal}
use Rattle.lease_book.proofs.Hearing.{heard-asked, heard-read}

-- after a book and causal events
pub book-over : (book : List Event) (facts : Facts) (events : List Event) → AreCausal (past_of book) facts events
    → IsSameBook (past_of book) facts → IsSameBook (past_of (book ++ events)) (facts_over facts events)
book-over book facts events causal old = subst (λ (p : Past). IsSameBook p (facts_over facts events))
    (sym (past-append first_past book events)) (book-after (past_of book) facts events causal old)

pub granted-delivery : (declared : Declared) (book : List Event) (facts : Facts)
    (volatile_states : ℕ → VolatileState) (tick : Ticks) (i j : ℕ) (carried : InFlightFacts) (by : Member)
    (incarnation sequence : ℕ) (txn : Txn) (standbys : List Name)
    → IsSameBook (past_of book) facts → in_flight facts.flight i ≡ Some carried
    → carried.message ≡ record {
      from = ends.Member by;
      to = ends.Store;
      incarnation = incarnation;
      sequence = sequence;
      body = bodies.Request txn;
    }
    → facts.sent < j → IsSpannedTxn txn → decision_on facts.keys facts.clock txn ≡ Grants
    → let events = granted_events tick i j by incarnation sequence txn standbys in
    IsShown declared book volatile_states
    (record { action = Deliver i j true; events = events; volatile_states = volatile_states })
    × IsSameBook (past_of (book ++ events)) (facts_over facts events)
granted-delivery declared book facts volatile_states tick i j carried by incarnation sequence txn standbys =
    λ same here is above span decision. (
      granted-shown declared book facts volatile_states tick i j by incarnation sequence carried.sent.0 txn standbys
          same.store decision
          (heard-asked (past_of book) facts i carried by incarnation sequence txn same.flight here is),
      book-over book facts (granted_events tick i j by incarnation sequence txn standbys)
          (granted-causal (past_of book) facts tick i j carried by incarnation sequence txn standbys same.flight
          here is above span)
          same,
    )

pub refused-delivery : (declared : Declared) (book : List Event) (facts : Facts)
    (volatile_states : ℕ → VolatileState) (tick : Ticks) (i j : ℕ) (carried : InFlightFacts) (by : Member)
    (incarnation sequence : ℕ) (txn : Txn) (request : TxnKind) (key : Key) (found : Expected)
    → IsSameBook (past_of book) facts → in_flight facts.flight i ≡ Some carried
    → carried.message ≡ record {
      from = ends.Member by;
      to = ends.Store;
      incarnation = incarnation;
      sequence = sequence;
      body = bodies.Request txn;
    }
    → facts.sent < j → decision_on facts.keys facts.clock txn ≡ Refusal key found
    → let events = refused_events tick i j by incarnation sequence request key found in
    IsShown declared book volatile_states
    (record { action = Deliver i j false; events = events; volatile_states = volatile_states })
    × IsSameBook (past_of (book ++ events)) (facts_over facts events)
refused-delivery declared book facts volatile_states tick i j carried by incarnation sequence txn request key found =
    λ same here is above decision. (
      refused_outcome-shown declared book facts volatile_states tick i j by incarnation sequence carried.sent.0
          txn request key found same.store decision
          (heard-asked (past_of book) facts i carried by incarnation sequence txn same.flight here is),
      book-over book facts (refused_events tick i j by incarnation sequence request key found)
          (refused-causal (past_of book) facts tick i j by incarnation sequence request key found above) same,
    )

pub read-delivery : (declared : Declared) (book : List Event) (facts : Facts) (volatile_states : ℕ → VolatileState)
    (tick : Ticks) (i j : ℕ) (carried : InFlightFacts) (by : Member) (incarnation sequence : ℕ)
    → IsSameBook (past_of book) facts → in_flight facts.flight i ≡ Some carried
    → carried.message ≡ record {
      from = ends.Member by;
      to = ends.Store;
      incarnation = incarnation;
      sequence = sequence;
      body = bodies.Read;
    }
    → facts.sent < j
    → let events = read_events tick i j by incarnation sequence in
    IsShown declared book volatile_states
    (record { action = Deliver i j true; events = events; volatile_states = volatile_states })
    × IsSameBook (past_of (book ++ events)) (facts_over facts events)
read-delivery declared book facts volatile_states tick i j carried by incarnation sequence = λ same here is above. (
  read-shown declared book volatile_states tick i j by incarnation sequence carried.sent.0
      (heard-read (past_of book) facts i carried by incarnation sequence same.flight here is),
  book-over book facts (read_events tick i j by incarnation sequence)
      (read-causal (past_of book) facts tick i j by incarnation sequence above) same,
)
