-- What an agent knows that its turn read of the sync key, an answer of the key store told it.
use Rattle.std.proofs.Common.{ℕ, ◌≡◌, ◌++◌, List, [], ◌∷◌, Option, Some, None, refl, ◌∙◌, ap, sym, subst, append_assoc, arith, inl, inr}
use Rattle.std.proofs.lemmas.Bool.{cases_eq}
use Rattle.pat_base.specs.declared.ticks.Ticks.{Ticks}
use Rattle.event_book.specs.declared.event.Event.{Event}
use Rattle.event_book.specs.declared.event.EventKind.{EventKind}
use Rattle.event_book.specs.declared.event.EventKind.TheVariants as kinds
use Rattle.event_book.specs.declared.event.MessageEvent.TheVariants as messages
use Rattle.event_book.specs.declared.message.Message.{Message}
use Rattle.event_book.specs.Facts.{Facts, facts_after, facts_over}
use Rattle.event_book.specs.Flight.{Flight, InFlightFacts, in_flight, launched, without_message}
use Rattle.event_book.specs.Functions.{put_at}
use Rattle.lease_model.proofs.Tools.{dropped, put-here, put-there, some-is}
use Rattle.lease_book.specs.Flights.{Rises}
use Rattle.lease_book.proofs.Entries.{in-with, in-without, rises-with, rises-without}

none-some : {A : Type 0} (x : A) → ◌≡◌ {A = Option A} None (Some x) → ⊥
none-some x e = cc

-- ---- messages in flight were sent, and carry what there was then
pub record WasSent (start : Facts) (book : List Event) (number : ℕ) (carried : InFlightFacts) : Type 0 where
  pub earlier : List Event
  pub later : List Event
  pub tick : Ticks
  pub is : book
      ≡ earlier ++ record { tick = tick; kind = kinds.Message (messages.Sent number carried.message) } ∷ later
  pub carries : carried
      ≡ launched (facts_over start earlier).clock (facts_over start earlier).keys carried.message

pub record Flown (start : Facts) (book : List Event) (flight : Flight) : Type 0 where
  pub order : Rises 0 flight
  pub sent : (i : ℕ) (carried : InFlightFacts) → in_flight flight i ≡ Some carried → WasSent start book i carried

-- one more event stands behind the others
pub behind : (earlier later : List Event) (first event : Event) (book : List Event) → book ≡ earlier ++ first ∷ later
    → book ++ event ∷ [] ≡ earlier ++ first ∷ (later ++ event ∷ [])
behind earlier later first event book is =
    ap (λ (l : List Event). l ++ event ∷ []) is ∙ append_assoc earlier (first ∷ later) (event ∷ [])

sent-on : (start : Facts) (book : List Event) (event : Event) (i : ℕ) (carried : InFlightFacts)
    → WasSent start book i carried → WasSent start (book ++ event ∷ []) i carried
sent-on start book event i carried was = record {
  earlier = was.earlier;
  later = was.later ++ event ∷ [];
  tick = was.tick;
  is = behind was.earlier was.later _ event book was.is;
  carries = was.carries;
}

sent-here : (start : Facts) (book : List Event) (tick : Ticks) (number : ℕ) (message : Message)
    → WasSent start (book ++ record { tick = tick; kind = kinds.Message (messages.Sent number message) } ∷ []) number
    (launched (facts_over start book).clock (facts_over start book).keys message)
sent-here start book tick number message =
    record { earlier = book; later = []; tick = tick; is = refl; carries = refl }

flown-with : (start : Facts) (book : List Event) (tick : Ticks) (number : ℕ) (message : Message)
    → Flown start book (facts_over start book).flight
    → Flown start (book ++ record { tick = tick; kind = kinds.Message (messages.Sent number message) } ∷ [])
    (facts_after (facts_over start book) (kinds.Message (messages.Sent number message))).flight
flown-with start book tick number message old =
    let facts : Facts = facts_over start book in
    let one : InFlightFacts = launched facts.clock facts.keys message in
    let event : Event = record { tick = tick; kind = kinds.Message (messages.Sent number message) } in
    record {
      order = rises-with 0 facts.flight number one (omega arith) old.order;
      sent = λ i carried e. elim (cases_eq i number) [
        | inl here ↦
            subst (λ (n : ℕ). WasSent start (book ++ event ∷ []) n carried) (sym here)
            (subst (λ (c : InFlightFacts). WasSent start (book ++ event ∷ []) number c)
            (some-is one carried
            (sym (put-here (in_flight facts.flight) number (Some one))
            ∙ ap (put_at (in_flight facts.flight) number (Some one)) (sym here)
            ∙ sym (in-with facts.flight number one i) ∙ e))
            (sent-here start book tick number message))
        | inr other ↦
            sent-on start book event i carried
            (old.sent i carried
            (sym (put-there (in_flight facts.flight) number (Some one) i other)
            ∙ sym (in-with facts.flight number one i) ∙ e))
      ];
    }

flown-without : (start : Facts) (book : List Event) (event : Event) (number : ℕ) (flight : Flight)
    → Flown start book flight
    → Flown start (book ++ event ∷ []) (without_message flight number)
flown-without start book event number flight old = record {
  order = rises-without 0 flight number old.order;
  sent = λ i carried e. sent-on start book event i carried
      (old.sent i carried
      (dropped (in_flight flight) number i carried (sym (in-without 0 flight number i old.order) ∙ e)));
}

flown-same : (start : Facts) (book : List Event) (event : Event) (flight : Flight) → Flown start book flight
    → Flown start (book ++ event ∷ []) flight
flown-same start book event flight old =
    record { order = old.order; sent = λ i carried e. sent-on start book event i carried (old.sent i carried e) }

pub flown-on : (start : Facts) (book : List Event) (tick : Ticks) (kind : EventKind)
    → Flown start book (facts_over start book).flight
    → Flown start (book ++ record { tick = tick; kind = kind } ∷ []) (facts_after (facts_over start book) kind).flight
flown-on start book tick (kinds.Message (messages.Sent number message)) old =
    flown-with start book tick number message old
flown-on start book tick (kinds.Message (messages.Delivered number)) old =
    flown-without start book _ number (facts_over start book).flight old
flown-on start book tick (kinds.Message (messages.Lost number)) old =
    flown-without start book _ number (facts_over start book).flight old
flown-on start book tick kind old = flown-same start book _ (facts_over start book).flight old
