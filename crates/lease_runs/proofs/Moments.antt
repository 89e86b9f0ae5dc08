-- The moment at which each message in flight was sent is known to the premises.
use Rattle.std.proofs.Common.{ℕ, ◌≡◌, ◌≤◌, ◌<◌, ◌+◌, ◌++◌, List, [], ◌∷◌, Option, Some, refl, ◌∙◌, ap, sym, arith, inl, inr}
use Rattle.event_book.specs.declared.event.Event.{Event}
use Rattle.event_book.specs.declared.event.EventKind.{EventKind}
use Rattle.event_book.specs.declared.event.EventKind.TheVariants as kinds
use Rattle.event_book.specs.declared.event.MessageEvent.TheVariants.{Sent, Delivered, Lost}
use Rattle.event_book.specs.Facts.{Facts, facts_after}
use Rattle.event_book.specs.Flight.{InFlightFacts, in_flight, launched}
use Rattle.event_book.specs.Functions.{put_at}
use Rattle.cluster_model.specs.Cluster.{cluster_after, cluster_over}
use Rattle.cluster_model.specs.State.{Cluster}
use Rattle.event_book.specs.Premises.{Moments, moments_after}
use Rattle.lease_model.proofs.Tools.{dropped, put-all, put-here, put-there, some-is}
use Rattle.std.proofs.lemmas.Bool.{cases_eq}
use Rattle.lease_book.specs.Flights.{Rises}
use Rattle.lease_book.specs.Groups.{AreNumberedAbove, IsNumberedAbove}
use Rattle.lease_book.proofs.Entries.{in-with, in-without, rises-with, rises-without}

pub record KnowsSending (moments : Moments) (facts : Facts) : Type 0 where
  pub clock : moments.clock ≡ facts.clock
  pub order : Rises 0 facts.flight
  pub flown : (i : ℕ) (carried : InFlightFacts) → in_flight facts.flight i ≡ Some carried → i ≤ facts.sent
  pub known : (i : ℕ) (carried : InFlightFacts) → in_flight facts.flight i ≡ Some carried
      → moments.sent i ≡ Some carried.sent.0

above-old : (i last number : ℕ) → i ≤ last → last < number → i ≤ number
above-old i last number low above = omega (arith, low, above)

self-le : (n : ℕ) → n ≤ n
self-le n = omega arith

zero-least : (n : ℕ) → 0 ≤ n
zero-least n = omega arith

same-moment : (clock : ℕ) (one c : InFlightFacts) → one ≡ c → clock ≡ one.sent.0
    → ◌≡◌ {A = Option ℕ} (Some clock) (Some c.sent.0)
same-moment clock one c is at = ap (λ n. Some n) (at ∙ ap (λ (x : InFlightFacts). x.sent.0) is)

pub sending-by : (moments : Moments) (facts : Facts) (kind : EventKind) → IsNumberedAbove facts.sent kind
    → KnowsSending moments facts → KnowsSending (moments_after moments kind) (facts_after facts kind)
sending-by moments facts kinds.Tick above old =
    record { clock = ap (λ n. n + 1) old.clock; order = old.order; flown = old.flown; known = old.known }
sending-by moments facts (kinds.Message (Sent number message)) above old =
    let one : InFlightFacts = launched facts.clock facts.keys message in
    record {
      clock = old.clock;
      order = rises-with 0 facts.flight number one (zero-least number) old.order;
      flown = λ i c e.
          put-all (in_flight facts.flight) number (Some one) (λ n o. (c : InFlightFacts) → o ≡ Some c → n ≤ number)
          (λ c is. self-le number) (λ n other c is. above-old n facts.sent number (old.flown n c is) above)
          i c (sym (in-with facts.flight number one i) ∙ e);
      known = λ i c e. elim (cases_eq i number) [
        | inl here ↦
            ap (put_at moments.sent number (Some moments.clock)) here
            ∙ put-here moments.sent number (Some moments.clock)
            ∙ same-moment moments.clock one c
            (some-is one c
            (sym (put-here (in_flight facts.flight) number (Some one))
            ∙ ap (put_at (in_flight facts.flight) number (Some one)) (sym here)
            ∙ sym (in-with facts.flight number one i) ∙ e))
            old.clock
        | inr other ↦
            put-there moments.sent number (Some moments.clock) i other
            ∙ old.known i c
            (sym (put-there (in_flight facts.flight) number (Some one) i other)
            ∙ sym (in-with facts.flight number one i) ∙ e)
      ];
    }
sending-by moments facts (kinds.Message (Delivered number)) above old = record {
  clock = old.clock;
  order = rises-without 0 facts.flight number old.order;
  flown = λ i c e. old.flown i c
      (dropped (in_flight facts.flight) number i c (sym (in-without 0 facts.flight number i old.order) ∙ e));
  known = λ i c e. old.known i c
      (dropped (in_flight facts.flight) number i c (sym (in-without 0 facts.flight number i old.order) ∙ e));
}
sending-by moments facts (kinds.Message (Lost number)) above old = record {
  clock = old.clock;
  order = rises-without 0 facts.flight number old.order;
  flown = λ i c e. old.flown i c
      (dropped (in_flight facts.flight) number i c (sym (in-without 0 facts.flight number i old.order) ∙ e));
  known = λ i c e. old.known i c
      (dropped (in_flight facts.flight) number i c (sym (in-without 0 facts.flight number i old.order) ∙ e));
}
sending-by moments facts _ above old =
    record { clock = old.clock; order = old.order; flown = old.flown; known = old.known }

-- behind events
abbrev pub moments_over : Moments → List Event → Moments
moments_over moments [] = moments
moments_over moments (event ∷ events) = moments_over (moments_after moments event.kind) events

pub sending-over : (moments : Moments) (cluster : Cluster) (events : List Event)
    → AreNumberedAbove cluster.facts.sent events → KnowsSending moments cluster.facts
    → KnowsSending (moments_over moments events) (cluster_over cluster events).facts
sending-over moments cluster [] above old = old
sending-over moments cluster (event ∷ events) above old =
    sending-over (moments_after moments event.kind) (cluster_after cluster event.kind) events above.1
    (sending-by moments cluster.facts event.kind above.0 old)

pub moments-append : (moments : Moments) (xs ys : List Event)
    → moments_over moments (xs ++ ys) ≡ moments_over (moments_over moments xs) ys
moments-append moments [] ys = refl
moments-append moments (x ∷ xs) ys = moments-append (moments_after moments x.kind) xs ys
