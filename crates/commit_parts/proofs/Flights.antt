-- What holds of each message in flight, after an event.
use Rattle.std.proofs.Common.{ℕ, ◌≡◌, ◌==◌, Bool, true, false, cond, Option, Some, None, ◌∙◌, sym, subst}
use Rattle.event_book.specs.declared.event.EventKind.{EventKind}
use Rattle.event_book.specs.declared.event.EventKind.TheVariants as kinds
use Rattle.event_book.specs.declared.event.MessageEvent.TheVariants.{Sent, Delivered, Lost}
use Rattle.event_book.specs.declared.message.Message.{Message}
use Rattle.event_book.specs.Facts.{Facts, facts_after}
use Rattle.event_book.specs.Flight.{Flight, InFlightFacts, in_flight, launched}
use Rattle.lease_model.proofs.Tools.{none-some, some-is}
use Rattle.lease_book.specs.Flights.{Rises}
use Rattle.lease_book.proofs.Entries.{in-with, in-without}

-- this holds of each message in flight
abbrev pub AllIn : (InFlightFacts → Type 0) → Flight → Type 0
AllIn H flight = (i : ℕ) (carried : InFlightFacts) → in_flight flight i ≡ Some carried → H carried

-- of a message that this event sends, it holds as it is sent
abbrev pub HoldsAsSent : (InFlightFacts → Type 0) → Facts → EventKind → Type 0
HoldsAsSent H facts (kinds.Message (Sent number message)) = H (launched facts.clock facts.keys message)
HoldsAsSent H facts _ = Unit {0}

put-one : (H : InFlightFacts → Type 0) (test : Bool) (new old : Option InFlightFacts) (carried : InFlightFacts)
    → ((c : InFlightFacts) → new ≡ Some c → H c) → ((c : InFlightFacts) → old ≡ Some c → H c)
    → cond test new old ≡ Some carried → H carried
put-one H true new old carried first rest is = first carried is
put-one H false new old carried first rest is = rest carried is

module _ (H : InFlightFacts → Type 0) (facts : Facts) (order : Rises 0 facts.flight) (all : AllIn H facts.flight) where
  without : (number : ℕ) → AllIn H (facts_after facts (kinds.Message (Lost number))).flight
  without number i carried is =
      put-one H (i == number) None (in_flight facts.flight i) carried (λ c e. absurd (none-some c e)) (all i)
      (sym (in-without 0 facts.flight number i order) ∙ is)

  with : (number : ℕ) (message : Message) → H (launched facts.clock facts.keys message)
      → AllIn H (facts_after facts (kinds.Message (Sent number message))).flight
  with number message new i carried is =
      put-one H (i == number) (Some (launched facts.clock facts.keys message)) (in_flight facts.flight i) carried
      (λ c e. subst H (some-is (launched facts.clock facts.keys message) c e) new) (all i)
      (sym (in-with facts.flight number (launched facts.clock facts.keys message) i) ∙ is)

  pub all-after : (kind : EventKind) → HoldsAsSent H facts kind → AllIn H (facts_after facts kind).flight
  all-after (kinds.Message (Sent number message)) new = with number message new
  all-after (kinds.Message (Delivered number)) new = without number
  all-after (kinds.Message (Lost number)) new = without number
  all-after _ new = all
