-- Events that send only what is well, and grant only spanned leases, keep the key store and the messages in flight.
use Rattle.std.proofs.Common.{ℕ, ◌≡◌, ◌≤◌, ◌<◌, true, List, [], ◌∷◌, Option, Some, None, refl, sym, ap, subst, ◌∙◌, arith}
use Rattle.std.specs.FinMap.{find}
use Rattle.store_keys.specs.declared.key.Key.{Key}
use Rattle.store_keys.specs.declared.key.Key.TheVariants as keys
use Rattle.store_keys.specs.declared.value.KeyEntry.{KeyEntry}
use Rattle.lease_store.specs.declared.granted.Granted.{Granted}
use Rattle.lease_store.specs.Answers.{present_pairs}
use Rattle.lease_store.specs.KeyOrder.{key_cmp}
use Rattle.lease_store.specs.Keys.{Keys, present}
use Rattle.lease_store.proofs.Keeping.{find_present}
use Rattle.cluster_view.specs.Snapshots.{found_by, leader_by}
use Rattle.event_book.specs.declared.event.Event.{Event}
use Rattle.event_book.specs.declared.event.EventKind.{EventKind}
use Rattle.event_book.specs.declared.event.EventKind.TheVariants as kinds
use Rattle.event_book.specs.declared.event.MessageEvent.TheVariants.{Sent, Delivered, Lost}
use Rattle.event_book.specs.declared.event.StoreEvent.TheVariants as stores
use Rattle.event_book.specs.declared.link.LinkEnd.TheVariants as ends
use Rattle.event_book.specs.declared.member.Member.{Member}
use Rattle.event_book.specs.declared.message.Body.{Body}
use Rattle.event_book.specs.declared.message.Body.TheVariants as bodies
use Rattle.event_book.specs.declared.message.Message.{Message}
use Rattle.event_book.specs.Facts.{Facts, facts_after}
use Rattle.event_book.specs.Flight.{Flight, InFlightFacts, grant_for, in_flight, launched, sent_after, snapshot_for}
use Rattle.agent_roles.specs.Seen.{leader_entry_seen}
use Rattle.cluster_model.specs.Cluster.{cluster_after, cluster_over}
use Rattle.cluster_model.specs.State.{Cluster}
use Rattle.lease_book.specs.Flights.{Rises}
use Rattle.lease_book.proofs.Entries.{in-with, in-without, rises-with, rises-without}
use Rattle.lease_law.proofs.SameStore.{same-by}
use Rattle.lease_model.specs.Carried.{IsVouched}
use Rattle.lease_model.specs.Leases.{LeaderKey, LeaderSeen}
use Rattle.lease_model.specs.Past.{past_after}
use Rattle.lease_model.specs.Stores.{IsSpanned, IsSpannedTxn, leader_key_of}
use Rattle.lease_model.proofs.Tools.{dropped, none-some, put-all, some-is}
use Rattle.lease_parts.specs.Waiting.{IsAddressed, IsKnownEnd}
use Rattle.lease_owners.specs.Asking.{AsksFor}
use Rattle.lease_owners.specs.Kept.{FactsAreKept, IsSentWell}
use Rattle.lease_owners.specs.Owning.{CarriesOwn, IsOf}
use Rattle.lease_owners.proofs.Entry.{shown-present}
use Rattle.lease_owners.proofs.Revisions.{bounded-by, of-by, of-past}

-- ---- which events are well
-- a message is sent under a number above the last, between these members
-- and the key store, and asks and tells only what these keys bear out
pub record SendsWell (members : List Member) (known : Keys) (last number : ℕ) (message : Message) : Type 0 where
  pub above : last < number
  pub addressed : IsAddressed message.from message.to message.body
  pub from : IsKnownEnd members message.from
  pub to : IsKnownEnd members message.to
  pub asks : (by : Member) (revision : ℕ) → message.from ≡ ends.Member by → AsksFor revision message.body
      → IsOf known by.id.number revision
  pub tells : (granted : Granted) → grant_for message.body message.to known.revision ≡ Some granted
      → granted.leased ≡ true → IsOf known granted.by.number granted.revision

abbrev pub IsTidy : List Member → Facts → EventKind → Type 0
IsTidy members facts (kinds.Message (Sent number message)) = SendsWell members facts.keys facts.sent number message
IsTidy members facts (kinds.Store (stores.Granted number by txn standbys)) = IsSpannedTxn txn
IsTidy members facts _ = Unit {0}

abbrev pub AreTidy : List Member → Facts → List Event → Type 0
AreTidy members facts [] = Unit {0}
AreTidy members facts (event ∷ events) =
    IsTidy members facts event.kind × AreTidy members (facts_after facts event.kind) events

spanned-of : (members : List Member) (facts : Facts) (kind : EventKind) → IsTidy members facts kind → IsSpanned kind
spanned-of members facts (kinds.Store (stores.Granted number by txn standbys)) tidy = tidy
spanned-of members facts _ tidy = tt

-- ---- messages in flight
-- what holds of those in flight, and of one that is sent, holds of those behind an event
all-flown : (P : ℕ → InFlightFacts → Type 0) (facts : Facts) (kind : EventKind) → Rises 0 facts.flight
    → ((number : ℕ) (message : Message) → kind ≡ kinds.Message (Sent number message)
    → P number (launched facts.clock facts.keys message))
    → ((i : ℕ) (carried : InFlightFacts) → in_flight facts.flight i ≡ Some carried → P i carried)
    → (i : ℕ) (carried : InFlightFacts) → in_flight (facts_after facts kind).flight i ≡ Some carried → P i carried
all-flown P facts (kinds.Message (Sent number message)) order new old i carried is =
    let one : InFlightFacts = launched facts.clock facts.keys message in
    put-all (in_flight facts.flight) number (Some one) (λ n o. (c : InFlightFacts) → o ≡ Some c → P n c)
    (λ c same. subst (P number) (some-is one c same) (new number message refl))
    (λ n other c there. old n c there) i carried (sym (in-with facts.flight number one i) ∙ is)
all-flown P facts (kinds.Message (Delivered number)) order new old i carried is = old i carried
    (dropped (in_flight facts.flight) number i carried (sym (in-without 0 facts.flight number i order) ∙ is))
all-flown P facts (kinds.Message (Lost number)) order new old i carried is = old i carried
    (dropped (in_flight facts.flight) number i carried (sym (in-without 0 facts.flight number i order) ∙ is))
all-flown P facts _ order new old i carried is = old i carried is

from-none : (n : ℕ) → 0 ≤ n
from-none n = omega arith

rises-by : (facts : Facts) (kind : EventKind) → Rises 0 facts.flight → Rises 0 (facts_after facts kind).flight
rises-by facts (kinds.Message (Sent number message)) order =
    rises-with 0 facts.flight number (launched facts.clock facts.keys message) (from-none number) order
rises-by facts (kinds.Message (Delivered number)) order = rises-without 0 facts.flight number order
rises-by facts (kinds.Message (Lost number)) order = rises-without 0 facts.flight number order
rises-by facts _ order = order

same-at : (n : ℕ) → n ≤ n
same-at n = omega arith

below : (low last number : ℕ) → low ≤ last → last < number → low ≤ number
below low last number less above = omega (arith, less, above)

flown-by : (members : List Member) (facts : Facts) (kind : EventKind) → IsTidy members facts kind
    → Rises 0 facts.flight
    → ((i : ℕ) (carried : InFlightFacts) → in_flight facts.flight i ≡ Some carried → i ≤ facts.sent)
    → (i : ℕ) (carried : InFlightFacts) → in_flight (facts_after facts kind).flight i ≡ Some carried
    → i ≤ (facts_after facts kind).sent
flown-by members facts (kinds.Message (Sent number message)) tidy order old i carried is =
    let one : InFlightFacts = launched facts.clock facts.keys message in
    put-all (in_flight facts.flight) number (Some one) (λ n o. (c : InFlightFacts) → o ≡ Some c → n ≤ number)
    (λ c same. same-at number) (λ n other c there. below n facts.sent number (old n c there) tidy.above) i carried
    (sym (in-with facts.flight number one i) ∙ is)
flown-by members facts (kinds.Message (Delivered number)) tidy order old i carried is = old i carried
    (dropped (in_flight facts.flight) number i carried (sym (in-without 0 facts.flight number i order) ∙ is))
flown-by members facts (kinds.Message (Lost number)) tidy order old i carried is = old i carried
    (dropped (in_flight facts.flight) number i carried (sym (in-without 0 facts.flight number i order) ∙ is))
flown-by members facts _ tidy order old i carried is = old i carried is

pub carries-on : (known later : Keys) (carried : InFlightFacts)
    → ((m revision : ℕ) → IsOf known m revision → IsOf later m revision) → CarriesOwn known carried
    → CarriesOwn later carried
carries-on known later carried grow old = record {
  asks = λ by revision from asks. grow by.id.number revision (old.asks by revision from asks);
  tells = λ granted is leased. grow granted.by.number granted.revision (old.tells granted is leased);
  shows = λ seen is. grow seen.holder seen.revision (old.shows seen is);
}

-- ---- a message that is sent
module _ (members : List Member) (facts : Facts) (kept : FactsAreKept members facts) where
  -- the leader key as it is now is its holder's
  pub own-key : (key : LeaderKey) → leader_key_of (find key_cmp keys.Leader facts.keys.pairs) ≡ Some key
      → IsOf facts.keys key.holder key.revision
  own-key key is = of-past kept.past facts kept.store key.holder key.revision (record {
    bound = kept.bounded key (kept.store.leader ∙ is);
    owner = λ other there same. ap (λ (k : LeaderKey). k.holder)
        (some-is other key (sym there ∙ (kept.store.leader ∙ is)));
  })

  shows-now : (seen : LeaderSeen)
      → leader_entry_seen
      (found_by leader_by (find key_cmp keys.Leader (present_pairs facts.clock facts.keys.pairs))) ≡ Some seen
      → IsOf facts.keys seen.holder seen.revision
  shows-now seen is =
      let found : Option KeyEntry = find key_cmp keys.Leader facts.keys.pairs in
      let shown = shown-present facts.clock found seen kept.store.leased
      (subst (λ (o : Option KeyEntry). leader_entry_seen (found_by leader_by o) ≡ Some seen)
      (find_present facts.clock keys.Leader facts.keys.pairs kept.store.kept.order) is) in
      subst (λ (m : ℕ). IsOf facts.keys m seen.revision) shown.holder
      (subst (IsOf facts.keys shown.key.holder) shown.revision (own-key shown.key shown.is))

  shows-sent : (body : Body) (seen : LeaderSeen)
      → leader_entry_seen (found_by leader_by
      (find key_cmp keys.Leader (snapshot_for body (present_pairs facts.clock facts.keys.pairs)))) ≡ Some seen
      → IsOf facts.keys seen.holder seen.revision
  shows-sent bodies.Snapshot seen is = shows-now seen is
  shows-sent (bodies.Granted request leased) seen is = shows-now seen is
  shows-sent _ seen is = absurd (none-some seen is)

  launched-well : (number : ℕ) (message : Message) → SendsWell members facts.keys facts.sent number message
      → IsSentWell members (launched facts.clock facts.keys message)
      × CarriesOwn facts.keys (launched facts.clock facts.keys message)
  launched-well number message well = (
    record {
      addressed = well.addressed;
      from = well.from;
      to = well.to;
      grant = (facts.keys.revision, refl);
    },
    record { asks = well.asks; tells = well.tells; shows = shows-sent message.body },
  )

  sent-well : (kind : EventKind) → IsTidy members facts kind → (number : ℕ) (message : Message)
      → kind ≡ kinds.Message (Sent number message)
      → IsSentWell members (launched facts.clock facts.keys message)
      × CarriesOwn facts.keys (launched facts.clock facts.keys message)
  sent-well kind tidy number message is =
      launched-well number message (subst (IsTidy members facts) is tidy)

  pub of-kept : (kind : EventKind) → IsTidy members facts kind → (m revision : ℕ) → IsOf facts.keys m revision
      → IsOf (facts_after facts kind).keys m revision
  of-kept kind tidy = of-by kept.past facts kind (spanned-of members facts kind tidy) kept.store

  pub kept-by : (kind : EventKind) → IsTidy members facts kind → FactsAreKept members (facts_after facts kind)
  kept-by kind tidy =
      let later : Facts = facts_after facts kind in
      record {
        past = past_after kept.past kind;
        store = same-by kept.past facts kind (spanned-of members facts kind tidy) kept.store;
        bounded = bounded-by kept.past kind kept.bounded;
        order = rises-by facts kind kept.order;
        flown = flown-by members facts kind tidy kept.order kept.flown;
        sent = λ i carried is.
            let was = all-flown (λ n c. IsSentWell members c × CarriesOwn facts.keys c) facts kind kept.order
            (sent-well kind tidy) kept.sent i carried is in
            (was.0, carries-on facts.keys later.keys carried (of-kept kind tidy) was.1);
      }

-- ---- over events
pub kept-over : (members : List Member) (cluster : Cluster) (events : List Event)
    → AreTidy members cluster.facts events → FactsAreKept members cluster.facts
    → FactsAreKept members (cluster_over cluster events).facts
kept-over members cluster [] tidy kept = kept
kept-over members cluster (event ∷ events) tidy kept =
    kept-over members (cluster_after cluster event.kind) events tidy.1
    (kept-by members cluster.facts kept event.kind tidy.0)

pub of-over : (members : List Member) (cluster : Cluster) (events : List Event)
    → AreTidy members cluster.facts events → FactsAreKept members cluster.facts → (m revision : ℕ)
    → IsOf cluster.facts.keys m revision → IsOf (cluster_over cluster events).facts.keys m revision
of-over members cluster [] tidy kept m revision is = is
of-over members cluster (event ∷ events) tidy kept m revision is =
    of-over members (cluster_after cluster event.kind) events tidy.1
    (kept-by members cluster.facts kept event.kind tidy.0) m revision
    (of-kept members cluster.facts kept event.kind tidy.0 m revision is)
