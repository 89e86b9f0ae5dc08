-- Servers begin under the names that the head declares. Between the parts of a step messages
-- in flight go from and to declared members, since who hears one acts, and may begin.
use Rattle.std.proofs.Common.{ℕ, ◌≡◌, ◌∙◌, List, [], ◌∷◌, Some, slice_get, sym, subst, arith}
use Rattle.script_model.specs.Script.{HeadText, names_of}
use Rattle.event_book.specs.declared.event.Event.{Event}
use Rattle.event_book.specs.declared.event.EventKind.{EventKind}
use Rattle.event_book.specs.declared.event.EventKind.TheVariants as kinds
use Rattle.event_book.specs.declared.event.MessageEvent.TheVariants.{Delivered, Lost, Sent}
use Rattle.event_book.specs.declared.link.LinkEnd.{LinkEnd}
use Rattle.event_book.specs.declared.link.LinkEnd.TheVariants as ends
use Rattle.event_book.specs.declared.message.Message.{Message}
use Rattle.event_book.specs.Facts.{Facts, facts_after}
use Rattle.event_book.specs.Flight.{Flight, InFlightFacts, in_flight, launched, without_message}
use Rattle.event_book.specs.Kinds.{AllAre}
use Rattle.cluster_model.specs.Cluster.{cluster_after, cluster_over}
use Rattle.cluster_model.specs.State.{Cluster}
use Rattle.cluster_model.proofs.Lists.{all-both, all-more}
use Rattle.lease_model.proofs.Tools.{dropped, put-all, some-is}
use Rattle.lease_book.specs.Flights.{Rises}
use Rattle.lease_book.proofs.Entries.{in-with, in-without, rises-with, rises-without}
use Rattle.run_promise.specs.Members.{declared_members, IsDeclared}
use Rattle.run_promise.specs.Promise.{IsComposable, Promise, Upholds}
use Rattle.run_promise.proofs.Members.{members-over}
use Rattle.summary_model.specs.Listed.{NamesServer}

-- this end of a link is the key store, or a declared member
abbrev pub IsDeclaredEnd : HeadText → LinkEnd → Type 0
IsDeclaredEnd head ends.Store = Unit {0}
IsDeclaredEnd head (ends.Member member) = IsDeclared head member

-- both ends of a message are
abbrev pub HasDeclaredEnds : HeadText → Message → Type 0
HasDeclaredEnds head message = IsDeclaredEnd head message.from × IsDeclaredEnd head message.to

-- an event in which who begins is named as the head declares, and what is sent goes from and to declared members
abbrev pub IsOwn : HeadText → EventKind → Type 0
IsOwn head (kinds.Message (Sent number message)) = HasDeclaredEnds head message
IsOwn head kind = NamesServer (slice_get (names_of head)) kind

own-named : (head : HeadText) (kind : EventKind) → IsOwn head kind → NamesServer (slice_get (names_of head)) kind
own-named head (kinds.Message (Sent number message)) own = tt
own-named head kind own = own

-- ---- messages in flight
-- the ends of each are declared, and their numbers rise
pub record IsDeclaredFlight (head : HeadText) (flight : Flight) : Type 0 where
  pub order : Rises 0 flight
  pub ends : (i : ℕ) (carried : InFlightFacts) → in_flight flight i ≡ Some carried
      → HasDeclaredEnds head carried.message

module _ (head : HeadText) where
  flight-with : (facts : Facts) (number : ℕ) (message : Message) → HasDeclaredEnds head message
      → IsDeclaredFlight head facts.flight
      → IsDeclaredFlight head (facts_after facts (kinds.Message (Sent number message))).flight
  flight-with facts number message own old =
      let one : InFlightFacts = launched facts.clock facts.keys message in
      record {
        order = rises-with 0 facts.flight number one (omega arith) old.order;
        ends = λ i c e. put-all (in_flight facts.flight) number (Some one)
            (λ n o. (c : InFlightFacts) → o ≡ Some c → HasDeclaredEnds head c.message)
            (λ c is. subst (λ (x : InFlightFacts). HasDeclaredEnds head x.message) (some-is one c is) own)
            (λ n other c is. old.ends n c is)
            i c (sym (in-with facts.flight number one i) ∙ e);
      }

  flight-without : (flight : Flight) (number : ℕ) → IsDeclaredFlight head flight
      → IsDeclaredFlight head (without_message flight number)
  flight-without flight number old = record {
    order = rises-without 0 flight number old.order;
    ends = λ i c e.
        old.ends i c (dropped (in_flight flight) number i c (sym (in-without 0 flight number i old.order) ∙ e));
  }

  flight-after : (facts : Facts) (kind : EventKind) → IsOwn head kind → IsDeclaredFlight head facts.flight
      → IsDeclaredFlight head (facts_after facts kind).flight
  flight-after facts (kinds.Message (Sent number message)) own old = flight-with facts number message own old
  flight-after facts (kinds.Message (Delivered number)) own old = flight-without facts.flight number old
  flight-after facts (kinds.Message (Lost number)) own old = flight-without facts.flight number old
  flight-after facts _ own old = old

  flight-over : (cluster : Cluster) (events : List Event) → AllAre (IsOwn head) events
      → IsDeclaredFlight head cluster.facts.flight
      → IsDeclaredFlight head (cluster_over cluster events).facts.flight
  flight-over cluster [] all old = old
  flight-over cluster (event ∷ events) all old =
      flight-over (cluster_after cluster event.kind) events all.1 (flight-after cluster.facts event.kind all.0 old)

-- ---- what holds between two parts of a step
pub record NamesSoFar (head : HeadText) (book : List Event) (cluster : Cluster) : Type 0 where
  pub named : AllAre (NamesServer (slice_get (names_of head))) book
  pub members : cluster.facts.members ≡ declared_members head
  pub flight : IsDeclaredFlight head cluster.facts.flight

-- each part of a step names who begins, whatever the premises
abbrev pub names_told : HeadText → Promise
names_told head = record { premises = λ book. Unit {0}; moment = λ book. Unit {0}; between = NamesSoFar head }

pub composable : (head : HeadText) → IsComposable (names_told head)
composable head = record { front = λ front rest meets. tt; now = λ book cluster good. tt }

-- own events keep what holds between two parts of a step
pub upheld-own : (head : HeadText) (book : List Event) (cluster : Cluster) (events : List Event)
    → NamesSoFar head book cluster → AllAre (IsOwn head) events
    → Upholds (names_told head) book cluster events
upheld-own head book cluster events good all = record {
  inside = λ front rest e meets. tt;
  behind = λ meets. record {
    named = all-both (NamesServer (slice_get (names_of head))) book events good.named
        (all-more (IsOwn head) (NamesServer (slice_get (names_of head))) events (own-named head) all);
    members = members-over cluster events ∙ good.members;
    flight = flight-over head cluster events all good.flight;
  };
}
