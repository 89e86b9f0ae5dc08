-- What a past and a cluster keep of one another, event by event, where agents aren't looked at.
use Rattle.std.proofs.Common.{◌≡◌, ◌<◌, ℕ, Bool, true, false, cond, List, [], ◌∷◌, Option, Some, None, length, sym, subst, ◌∙◌}
use Rattle.std.specs.FinMap.{find}
use Rattle.lease_store.specs.Keys.{is_present, present}
use Rattle.lease_store.specs.Answers.{present_pairs}
use Rattle.store_keys.specs.declared.key.Key.{Key}
use Rattle.store_keys.specs.declared.key.Key.TheVariants as keys
use Rattle.store_keys.specs.declared.value.KeyEntry.{KeyEntry}
use Rattle.lease_store.specs.KeyOrder.{key_cmp}
use Rattle.event_book.specs.declared.event.Event.{Event}
use Rattle.event_book.specs.declared.event.EventKind.{EventKind}
use Rattle.event_book.specs.declared.event.EventKind.TheVariants as kinds
use Rattle.event_book.specs.declared.event.MessageEvent.TheVariants.{Sent, Delivered, Lost}
use Rattle.event_book.specs.declared.message.Body.{Body}
use Rattle.event_book.specs.declared.message.Body.TheVariants as bodies
use Rattle.event_book.specs.Facts.{Facts}
use Rattle.event_book.specs.Flight.{InFlightFacts, flight_after, in_flight, launched, snapshot_for}
use Rattle.cluster_model.specs.Deliveries.{is_answer}
use Rattle.cluster_model.specs.Cluster.{cluster_after, cluster_over}
use Rattle.script_model.specs.Script.{HeadText}
use Rattle.cluster_model.specs.Starting.{options_of}
use Rattle.cluster_model.specs.State.{Cluster}
use Rattle.lease_model.specs.Past.{Past, past_after, past_over}
use Rattle.lease_model.specs.Pauses.{NobodyPauses}
use Rattle.event_book.specs.Premises.{IsHandsOffKind}
use Rattle.event_book.specs.Kinds.{AllAre}
use Rattle.lease_model.specs.Stores.{IsLeased}
use Rattle.lease_model.proofs.Tools.{dropped, put-all, some-is}
use Rattle.lease_law.proofs.Unpaused.{pauses-by}
use Rattle.lease_book.specs.Flights.{IsSameBook, AreCausal}
use Rattle.lease_book.proofs.Entries.{in-with, in-without}
use Rattle.lease_book.proofs.Groups.{book-by}
use Rattle.lease_model.specs.Modes.{AskMode, IsModeAsked, LeavesMode}
use Rattle.lease_law.proofs.Modes.{mode-by}
use Rattle.lease_parts.specs.Bridged.{FitsFailsafe, IsMatched, KnowThemselves}
use Rattle.lease_parts.specs.Declaring.{declared_of}
use Rattle.run_promise.specs.Members.{declared_members, member_count}
use Rattle.lease_parts.specs.Machines.{IsWithinMembers, IsSameEverywhere, IsSized, run_in}
use Rattle.event_book.specs.declared.member.Member.{Member}
use Rattle.lease_parts.specs.Waiting.{AreBetweenMembers, IsKnownEnd, IsAddressed, IsCarriedWell, AreCarriedWell, AreAgentsSound}
use Rattle.lease_parts.proofs.Machines.{bases-sized, basis-of, machines-by, sized-by}
use Rattle.lease_book.specs.Waiting.{IsLastRun}
use Rattle.lease_store.proofs.Keeping.{find_present}

-- a message is sent that is a question under a number that counts from 1, or an answer to one.
-- It doesn't ask to change failsafe mode, and goes between these members and the key store
abbrev pub SendsAddressed : List Member → Bool → EventKind → Type 0
SendsAddressed members mode (kinds.Message (Sent number message)) =
    IsAddressed message.from message.to message.body
    × ((is_answer message.body ≡ false → 0 < message.sequence) ×
    (IsModeAsked mode message.body × (IsKnownEnd members message.from × IsKnownEnd members message.to)))
SendsAddressed members mode _ = Unit {0}

-- ---- messages in flight
leased-if : (test : Bool) (held : KeyEntry) → IsLeased (Some held) → IsLeased (cond test (Some held) None)
leased-if true held is = is
leased-if false held is = tt

leased-present : (now : ℕ) (found : Option KeyEntry) → IsLeased found → IsLeased (present now found)
leased-present now None is = tt
leased-present now (Some held) is = leased-if (is_present now held.expiry) held is

leased-snapshot : (body : Body) (pairs : List (Key × KeyEntry)) → IsLeased (find key_cmp keys.Leader pairs)
    → IsLeased (find key_cmp keys.Leader (snapshot_for body pairs))
leased-snapshot bodies.Snapshot pairs is = is
leased-snapshot (bodies.Granted request leased) pairs is = is
leased-snapshot _ pairs is = tt

pub carried-by : (members : List Member) (mode : Bool) (past : Past) (facts : Facts) (kind : EventKind)
    → IsSameBook past facts → SendsAddressed members mode kind → AreCarriedWell facts.flight
    → AreCarriedWell (flight_after facts.clock facts.keys facts.flight kind)
carried-by members mode past facts (kinds.Message (Sent number message)) same sends old i carried e =
    let one : InFlightFacts = launched facts.clock facts.keys message in
    put-all (in_flight facts.flight) number (Some one) (λ n o. (c : InFlightFacts) → o ≡ Some c → IsCarriedWell c)
    (λ c is. subst IsCarriedWell (some-is one c is) (record {
      addressed = sends.0;
      numbered = sends.1.0;
      leased = leased-snapshot message.body (present_pairs facts.clock facts.keys.pairs)
          (subst IsLeased (sym (find_present facts.clock keys.Leader facts.keys.pairs same.store.kept.order))
          (leased-present facts.clock (find key_cmp keys.Leader facts.keys.pairs) same.store.leased));
    }))
    (λ n other c is. old n c is) i carried (sym (in-with facts.flight number one i) ∙ e)
carried-by members mode past facts (kinds.Message (Delivered number)) same sends old i carried e = old i carried
    (dropped (in_flight facts.flight) number i carried (sym (in-without 0 facts.flight number i same.flight.order) ∙ e))
carried-by members mode past facts (kinds.Message (Lost number)) same sends old i carried e = old i carried
    (dropped (in_flight facts.flight) number i carried (sym (in-without 0 facts.flight number i same.flight.order) ∙ e))
carried-by members mode past facts _ same sends old i carried e = old i carried e

-- nobody asks to change the mode
asked-by : (members : List Member) (mode : Bool) (past : Past) (facts : Facts) (kind : EventKind)
    → IsSameBook past facts → SendsAddressed members mode kind → AskMode mode facts.flight
    → AskMode mode (flight_after facts.clock facts.keys facts.flight kind)
asked-by members mode past facts (kinds.Message (Sent number message)) same sends old i carried e =
    let one : InFlightFacts = launched facts.clock facts.keys message in
    put-all (in_flight facts.flight) number (Some one)
    (λ n o. (c : InFlightFacts) → o ≡ Some c → IsModeAsked mode c.message.body)
    (λ c is. subst (λ (x : InFlightFacts). IsModeAsked mode x.message.body) (some-is one c is) sends.1.1.0)
    (λ n other c is. old n c is) i carried (sym (in-with facts.flight number one i) ∙ e)
asked-by members mode past facts (kinds.Message (Delivered number)) same sends old i carried e = old i carried
    (dropped (in_flight facts.flight) number i carried (sym (in-without 0 facts.flight number i same.flight.order) ∙ e))
asked-by members mode past facts (kinds.Message (Lost number)) same sends old i carried e = old i carried
    (dropped (in_flight facts.flight) number i carried (sym (in-without 0 facts.flight number i same.flight.order) ∙ e))
asked-by members mode past facts _ same sends old i carried e = old i carried e

-- messages go between members
between-by : (members : List Member) (mode : Bool) (past : Past) (facts : Facts) (kind : EventKind)
    → IsSameBook past facts → SendsAddressed members mode kind → AreBetweenMembers members facts.flight
    → AreBetweenMembers members (flight_after facts.clock facts.keys facts.flight kind)
between-by members mode past facts (kinds.Message (Sent number message)) same sends old i carried e =
    let one : InFlightFacts = launched facts.clock facts.keys message in
    put-all (in_flight facts.flight) number (Some one)
    (λ n o. (c : InFlightFacts) → o ≡ Some c → IsKnownEnd members c.message.from × IsKnownEnd members c.message.to)
    (λ c is. subst (λ (x : InFlightFacts). IsKnownEnd members x.message.from × IsKnownEnd members x.message.to)
    (some-is one c is) sends.1.1.1)
    (λ n other c is. old n c is) i carried (sym (in-with facts.flight number one i) ∙ e)
between-by members mode past facts (kinds.Message (Delivered number)) same sends old i carried e = old i carried
    (dropped (in_flight facts.flight) number i carried (sym (in-without 0 facts.flight number i same.flight.order) ∙ e))
between-by members mode past facts (kinds.Message (Lost number)) same sends old i carried e = old i carried
    (dropped (in_flight facts.flight) number i carried (sym (in-without 0 facts.flight number i same.flight.order) ∙ e))
between-by members mode past facts _ same sends old i carried e = old i carried e

-- what an event leaves of failsafe mode
pub failsafe-by : (mode : Bool) (count : ℕ) (past : Past) (cluster : Cluster) (kind : EventKind)
    → IsSameBook past cluster.facts → IsWithinMembers count kind
    → SendsAddressed cluster.facts.members mode kind → LeavesMode mode kind
    → FitsFailsafe mode count past cluster → FitsFailsafe mode count (past_after past kind) (cluster_after cluster kind)
failsafe-by mode count past cluster kind same within sends leaves old = record {
  sized = bases-sized cluster.failsafe_deadlines kind ∙ old.sized;
  bases = basis-of past.by_failsafe cluster.failsafe_deadlines kind
      (subst (λ (n : ℕ). IsWithinMembers n kind) (sym old.sized) within) old.bases;
  told = mode-by mode cluster.facts kind leaves old.told;
  asked = asked-by cluster.facts.members mode past cluster.facts kind same sends old.asked;
  numbered = old.numbered;
  between = between-by cluster.facts.members mode past cluster.facts kind same sends old.between;
}

-- ---- all but agents
pub record Fits (head : HeadText) (past : Past) (cluster : Cluster) : Type 0 where
  pub members : cluster.facts.members ≡ declared_members head
  pub options : cluster.options ≡ options_of head
  pub sized : IsSized (member_count head) cluster.facts
  pub book : IsSameBook past cluster.facts
  pub machines : IsSameEverywhere past cluster.facts
  pub unpaused : NobodyPauses cluster.facts
  pub failsafe : FitsFailsafe (declared_of head).failsafe (member_count head) past cluster
  pub carried : AreCarriedWell cluster.facts.flight

pub fits-of : (head : HeadText) (past : Past) (cluster : Cluster) → IsMatched head past cluster → Fits head past cluster
fits-of head past cluster matched = record {
  members = matched.members;
  options = matched.options;
  sized = matched.sized;
  book = record { store = matched.store; flight = matched.flight };
  machines = matched.machines;
  unpaused = matched.unpaused;
  failsafe = matched.failsafe;
  carried = matched.waiting.carried;
}

-- such an event keeps it
abbrev pub IsFitting : HeadText → EventKind → Type 0
IsFitting head kind = IsHandsOffKind kind
    × (IsWithinMembers (member_count head) kind ×
    (SendsAddressed (declared_members head) (declared_of head).failsafe kind ×
    LeavesMode (declared_of head).failsafe kind))

pub fits-over : (head : HeadText) (past : Past) (cluster : Cluster) (events : List Event)
    → AreCausal past cluster.facts events → AllAre (IsFitting head) events
    → Fits head past cluster → Fits head (past_over past events) (cluster_over cluster events)
fits-over head past cluster [] causal all old = old
fits-over head past cluster (event ∷ events) causal all old =
    fits-over head (past_after past event.kind) (cluster_after cluster event.kind) events causal.1.1 all.1 (record {
      members = old.members;
      options = old.options;
      sized = sized-by (member_count head) cluster.facts event.kind old.sized;
      book = book-by past cluster.facts event.kind causal.0 causal.1.0 old.book;
      machines = machines-by (member_count head) past cluster.facts event.kind old.sized all.0.1.0 old.machines;
      unpaused = pauses-by cluster.facts event.kind all.0.0 old.unpaused;
      failsafe = failsafe-by (declared_of head).failsafe (member_count head) past cluster event.kind old.book all.0.1.0
          (subst (λ (members : List Member). SendsAddressed members (declared_of head).failsafe event.kind)
          (sym old.members) all.0.1.1.0)
          all.0.1.1.1 old.failsafe;
      carried = carried-by (declared_members head)
          (declared_of head).failsafe past cluster.facts event.kind old.book all.0.1.1.0 old.carried;
    })

-- with agents
pub matched-from : (head : HeadText) (past : Past) (cluster : Cluster) → Fits head past cluster
    → length cluster.agents ≡ member_count head
    → KnowThemselves (declared_of head).failsafe cluster.facts.processes cluster.agents
    → ((m : ℕ) → IsLastRun past.asked m (run_in cluster.facts.processes m))
    → AreAgentsSound past.asked cluster.agents → IsMatched head past cluster
matched-from head past cluster fits sized knows runs sound = record {
  members = fits.members;
  options = fits.options;
  sized = fits.sized;
  agents_sized = sized;
  store = fits.book.store;
  flight = fits.book.flight;
  machines = fits.machines;
  unpaused = fits.unpaused;
  failsafe = fits.failsafe;
  agents = knows;
  waiting = record { carried = fits.carried; runs = runs; agents = sound };
}
