-- What comes to the key store is answered well: a lease that it grants is its asker's.
use Rattle.std.proofs.Common.{ℕ, ◌≡◌, ◌≤◌, ◌<◌, ◌+◌, ◌++◌, nat_le, Bool, true, false, List, [], ◌∷◌, length, slice_get, Option, Some, None, refl, sym, ap, subst, ◌∙◌, arith}
use Rattle.std.specs.FinMap.{find}
use Rattle.pat_base.specs.declared.name.Name.{Name}
use Rattle.store_keys.specs.declared.key.Key.TheVariants as keys
use Rattle.store_keys.specs.declared.txn.Txn.{Txn}
use Rattle.store_keys.specs.declared.txn.Txn.TheVariants as txns
use Rattle.store_keys.specs.declared.txn.LeaseTxn.TheVariants as lease_txns
use Rattle.store_keys.specs.declared.txn.Expected.{Expected}
use Rattle.store_keys.specs.declared.txn.Expected.TheVariants.{Revision}
use Rattle.store_keys.specs.declared.value.KeyEntry.{KeyEntry}
use Rattle.lease_store.specs.declared.granted.Granted.{Granted}
use Rattle.lease_store.specs.Decision.{Decision, Grant, Refusal, decision_on, found_in}
use Rattle.lease_store.specs.KeyOrder.{key_cmp}
use Rattle.lease_store.specs.Keys.{key_in}
use Rattle.lease_store.specs.Writes.{is_lease}
use Rattle.script_model.specs.Script.{HeadText}
use Rattle.event_book.specs.declared.agent_process.AgentProcess.{AgentProcess}
use Rattle.event_book.specs.declared.event.Event.{Event}
use Rattle.event_book.specs.declared.event.EventKind.{EventKind}
use Rattle.event_book.specs.declared.event.EventKind.TheVariants as kinds
use Rattle.event_book.specs.declared.event.MessageEvent.TheVariants.{Delivered, Lost, Sent}
use Rattle.event_book.specs.declared.event.StoreEvent.TheVariants as stores
use Rattle.event_book.specs.declared.link.LinkEnd.{LinkEnd}
use Rattle.event_book.specs.declared.link.LinkEnd.TheVariants as ends
use Rattle.event_book.specs.declared.member.Member.{Member}
use Rattle.event_book.specs.declared.message.Body.{Body}
use Rattle.event_book.specs.declared.message.Body.TheVariants as bodies
use Rattle.event_book.specs.declared.message.Message.{Message}
use Rattle.event_book.specs.Facts.{Facts, facts_after}
use Rattle.event_book.specs.Flight.{InFlightFacts, grant_for, in_flight}
use Rattle.event_book.specs.Kinds.{AllAre}
use Rattle.agent_model.specs.Agents.{AgentFacts}
use Rattle.cluster_model.specs.Cluster.{agent_facts_reached, agent_facts_reached_at, cluster_after, cluster_over}
use Rattle.cluster_model.specs.Limits.{most_in_flight}
use Rattle.cluster_model.specs.Messages.{answer_events, answer_message, arrival_events_at, decision_body, decision_events, lost_at_once, published_names, send_events}
use Rattle.cluster_model.specs.Parts.{event_of, events_of}
use Rattle.cluster_model.specs.State.{Cluster}
use Rattle.run_promise.specs.Members.{member_count}
use Rattle.lease_model.specs.Carried.{IsVouched}
use Rattle.lease_model.specs.Leases.{LeaderKey}
use Rattle.lease_model.specs.Outcomes.{renewed}
use Rattle.lease_model.specs.Past.{extended_by, past_after}
use Rattle.lease_model.specs.Stores.{IsSpannedTxn, leader_key_of}
use Rattle.lease_model.proofs.Tools.{none-some, some-is}
use Rattle.lease_law.proofs.SameStore.{same-by}
use Rattle.lease_parts.specs.Machines.{IsSized}
use Rattle.lease_parts.specs.Waiting.{IsAddressed, IsKnownEnd}
use Rattle.lease_parts.proofs.Machines.{sized-by}
use Rattle.lease_owners.specs.Asking.{AsksFor}
use Rattle.lease_owners.specs.Kept.{AgentsAreKept, FactsAreKept, IsOwned, KnowsItsRun}
use Rattle.lease_owners.specs.Owning.{IsOf}
use Rattle.lease_owners.proofs.Agents.{holds-on}
use Rattle.lease_owners.proofs.Entry.{entry-found, entry-of, entry-present, first-granted, same-revision}
use Rattle.lease_owners.proofs.Flights.{AreTidy, IsTidy, SendsWell, kept-by, kept-over, of-over}
use Rattle.lease_owners.proofs.Revisions.{of-past, past-of}
use Rattle.lease_owners.proofs.ToStore.{Decided, Later, Next, Question, to-store}

-- ---- who is granted a lease is the holder
clash : false ≡ true → ⊥
clash e = cc

at-least : (given revision : ℕ) → given ≡ revision → revision ≤ given
at-least given revision same = omega (arith, same)

module _ (members : List Member) (facts : Facts) (kept : FactsAreKept members facts) (by : Member) where
  compared-there : (key : LeaderKey) → kept.past.leader ≡ Some key
      → found_in (key_in facts.keys.pairs facts.clock keys.Leader) ≡ Revision key.revision
  compared-there key is =
      let found : Option KeyEntry = find key_cmp keys.Leader facts.keys.pairs in
      let entry = entry-of found key (sym kept.store.leader ∙ is) in
      ap found_in (entry-present facts.clock key found entry
      (subst (λ (now : ℕ). now < key.expiry) kept.store.clock (kept.store.present key is)))
      ∙ entry-found key found entry

  abbrev Asks : Txn → Type 0
  Asks txn = (revision : ℕ) → AsksFor revision (bodies.Request txn) → IsOf facts.keys by.id.number revision

  extended-own : (compared ttl : ℕ) → IsOf facts.keys by.id.number compared
      → ((key : LeaderKey) → kept.past.leader ≡ Some key → key.revision ≡ compared) → (leader : Option LeaderKey)
      → kept.past.leader ≡ leader → (later : LeaderKey)
      → extended_by kept.past.clock (kept.past.revision + 1) ttl leader ≡ Some later → later.holder ≡ by.id.number
  extended-own compared ttl own same None is later e = absurd (none-some later e)
  extended-own compared ttl own same (Some key) is later e =
      ap (λ (k : LeaderKey). k.holder)
      (sym (some-is (renewed kept.past.clock (kept.past.revision + 1) ttl key) later e))
      ∙ (past-of kept.past facts kept.store by.id.number compared own).owner key is (same key is)

  grant-owner : (number : ℕ) (standbys : List Name) (txn : Txn) → is_lease txn ≡ true
      → decision_on facts.keys facts.clock txn ≡ Grant → Asks txn → (later : LeaderKey)
      → (past_after kept.past (kinds.Store (stores.Granted number by txn standbys))).leader ≡ Some later
      → later.holder ≡ by.id.number
  grant-owner number standbys (txns.Lease (lease_txns.Create info ttl failsafe sync)) leased granted asks later e =
      ap (λ (k : LeaderKey). k.holder) (sym (some-is _ later e))
  grant-owner number standbys (txns.Lease (lease_txns.Renew compared info ttl status row failsafe)) leased granted asks
      later e =
      let found : Expected = found_in (key_in facts.keys.pairs facts.clock keys.Leader) in
      extended-own compared ttl.0 (asks compared refl)
      (λ key is. sym (same-revision compared key.revision found (compared-there key is)
      (first-granted _ keys.Leader found Grant granted)))
      kept.past.leader refl later e
  grant-owner number standbys (txns.Lease (lease_txns.Release compared)) leased granted asks later e =
      absurd (clash leased)
  grant-owner number standbys _ leased granted asks later e = absurd (clash leased)

  pub grant-own : (number : ℕ) (standbys : List Name) (txn : Txn) → IsSpannedTxn txn → is_lease txn ≡ true
      → decision_on facts.keys facts.clock txn ≡ Grant → Asks txn
      → (let later : Facts = facts_after facts (kinds.Store (stores.Granted number by txn standbys)) in
      IsOf later.keys by.id.number later.keys.revision)
  grant-own number standbys txn spanned leased granted asks =
      let kind : EventKind = kinds.Store (stores.Granted number by txn standbys) in
      let later : Facts = facts_after facts kind in
      let store = same-by kept.past facts kind spanned kept.store in
      of-past (past_after kept.past kind) later store by.id.number later.keys.revision (record {
        bound = at-least (past_after kept.past kind).revision later.keys.revision store.revision;
        owner = λ key is same. grant-owner number standbys txn leased granted asks key is;
      })

-- ---- an answer that is sent
store-asks : (by : Member) → ends.Store ≡ ends.Member by → ⊥
store-asks by e = cc

next-above : (sent : ℕ) → sent < sent + 1
next-above sent = omega arith

lost-tidy : (members : List Member) (facts : Facts) (cluster : Cluster) (test : Bool) (number : ℕ)
    → AreTidy members facts (events_of cluster (lost_at_once test number))
lost-tidy members facts cluster true number = (tt, tt)
lost-tidy members facts cluster false number = tt

pub sends-tidy : (members : List Member) (cluster : Cluster) (message : Message)
    → SendsWell members cluster.facts.keys cluster.facts.sent (cluster.facts.sent + 1) message
    → AreTidy members cluster.facts (send_events cluster message)
sends-tidy members cluster message well = (
  well,
  lost-tidy members _ (Next cluster message)
      (nat_le most_in_flight (length cluster.facts.flight)) (cluster.facts.sent + 1),
)

-- an answer without a grant
answer-well : (members : List Member) (cluster : Cluster) (by : Member) (incarnation sequence : ℕ) (asked body : Body)
    → IsKnownEnd members (ends.Member by) → IsAddressed ends.Store (ends.Member by) body
    → ((granted : Granted) → grant_for body (ends.Member by) cluster.facts.keys.revision ≡ Some granted
    → granted.leased ≡ true → IsOf cluster.facts.keys granted.by.number granted.revision)
    → SendsWell members cluster.facts.keys cluster.facts.sent (cluster.facts.sent + 1)
    (answer_message (Question by incarnation sequence asked) body)
answer-well members cluster by incarnation sequence asked body known addressed tells = record {
  above = next-above cluster.facts.sent;
  addressed = addressed;
  from = tt;
  to = known;
  asks = λ other revision from asks. absurd (store-asks other from);
  tells = tells;
}

told-own : (cluster : Cluster) (by : Member) (leased : Bool)
    → (leased ≡ true → IsOf cluster.facts.keys by.id.number cluster.facts.keys.revision) → (granted : Granted)
    → ◌≡◌ {A = Option Granted}
    (Some (record { revision = cluster.facts.keys.revision; by = by.id; leased = leased })) (Some granted)
    → granted.leased ≡ true → IsOf cluster.facts.keys granted.by.number granted.revision
told-own cluster by leased own granted is so =
    let same = some-is (record { revision = cluster.facts.keys.revision; by = by.id; leased = leased }) granted is in
    subst (λ (g : Granted). IsOf cluster.facts.keys g.by.number g.revision) same
    (own (ap (λ (g : Granted). g.leased) same ∙ so))

module _ (members : List Member) (cluster : Cluster) (number : ℕ) (by : Member) (incarnation sequence : ℕ)
    (known : IsKnownEnd members (ends.Member by)) (kept : FactsAreKept members cluster.facts) where
  later-kept : FactsAreKept members (Later cluster number).facts
  later-kept = kept-by members cluster.facts kept (kinds.Message (Delivered number)) tt

  read-tidy : AreTidy members (Later cluster number).facts
      (answer_events (Later cluster number) number (Question by incarnation sequence bodies.Read))
  read-tidy = sends-tidy members (Later cluster number)
      (answer_message (Question by incarnation sequence bodies.Read) bodies.Snapshot)
      (answer-well members (Later cluster number) by incarnation sequence bodies.Read bodies.Snapshot known tt
      (λ granted is leased. absurd (none-some granted is)))

  decided-tidy : (txn : Txn) (decision : Decision) → IsSpannedTxn txn
      → decision_on cluster.facts.keys cluster.facts.clock txn ≡ decision
      → ((revision : ℕ) → AsksFor revision (bodies.Request txn) → IsOf cluster.facts.keys by.id.number revision)
      → AreTidy members (Later cluster number).facts
      (decision_events (Later cluster number) number (Question by incarnation sequence (bodies.Request txn)) txn
      decision (ends.Member by))
  decided-tidy txn Grant spanned decides asks = (
    spanned,
    sends-tidy members (Decided cluster number by txn Grant)
        (answer_message (Question by incarnation sequence (bodies.Request txn)) (bodies.Granted number (is_lease txn)))
        (answer-well members (Decided cluster number by txn Grant) by incarnation sequence (bodies.Request txn)
        (bodies.Granted number (is_lease txn)) known tt
        (told-own (Decided cluster number by txn Grant) by (is_lease txn)
        (λ leased. grant-own members (Later cluster number).facts later-kept by number
        (published_names cluster.facts.members txn) txn spanned leased decides asks))),
  )
  decided-tidy txn (Refusal key found) spanned decides asks = (
    tt,
    sends-tidy members (Decided cluster number by txn (Refusal key found))
        (answer_message (Question by incarnation sequence (bodies.Request txn)) (bodies.Refused number key found))
        (answer-well members (Decided cluster number by txn (Refusal key found)) by incarnation sequence
        (bodies.Request txn) (bodies.Refused number key found) known tt
        (λ granted is leased. absurd (none-some granted is))),
  )

arrival-tidy : (members : List Member) (cluster : Cluster) (number : ℕ) (carried : InFlightFacts)
    → FactsAreKept members cluster.facts → in_flight cluster.facts.flight number ≡ Some carried
    → carried.message.to ≡ ends.Store
    → AreTidy members cluster.facts (arrival_events_at cluster number carried ends.Store)
arrival-tidy members cluster number carried kept found to =
    let sent = kept.sent number carried found in (
      tt,
      to-store (λ m. IsKnownEnd members m.from
          → ((by : Member) (revision : ℕ) → m.from ≡ ends.Member by → AsksFor revision m.body
          → IsOf cluster.facts.keys by.id.number revision)
          → AreTidy members (Later cluster number).facts (answer_events (Later cluster number) number m))
          (λ by incarnation sequence known asks. read-tidy members cluster number by incarnation sequence known kept)
          (λ by incarnation sequence txn addressed known asks.
          decided-tidy members cluster number by incarnation sequence known kept txn
          (decision_on cluster.facts.keys cluster.facts.clock txn) addressed refl
          (λ revision asked. asks by revision refl asked))
          carried.message to sent.0.addressed sent.0.from sent.1.asks,
    )

-- ---- no agent acts
abbrev IsMail : EventKind → Type 0
IsMail (kinds.Message (Sent number message)) = Unit {0}
IsMail (kinds.Message (Lost number)) = Unit {0}
IsMail (kinds.Store happening) = Unit {0}
IsMail _ = ⊥

record LeavesAgents (before after : Cluster) : Type 0 where
  agents : after.agents ≡ before.agents
  processes : after.facts.processes ≡ before.facts.processes
  members : after.facts.members ≡ before.facts.members

mail-one : (cluster : Cluster) (kind : EventKind) → IsMail kind → LeavesAgents cluster (cluster_after cluster kind)
mail-one cluster (kinds.Message (Sent number message)) is = record { agents = refl; processes = refl; members = refl }
mail-one cluster (kinds.Message (Delivered number)) is = absurd is
mail-one cluster (kinds.Message (Lost number)) is = record { agents = refl; processes = refl; members = refl }
mail-one cluster (kinds.Store happening) is = record { agents = refl; processes = refl; members = refl }
mail-one cluster _ is = absurd is

mail-over : (cluster : Cluster) (events : List Event) → AllAre IsMail events
    → LeavesAgents cluster (cluster_over cluster events)
mail-over cluster [] all = record { agents = refl; processes = refl; members = refl }
mail-over cluster (event ∷ events) all =
    let one = mail-one cluster event.kind all.0 in
    let more = mail-over (cluster_after cluster event.kind) events all.1 in
    record {
      agents = more.agents ∙ one.agents;
      processes = more.processes ∙ one.processes;
      members = more.members ∙ one.members;
    }

lost-mail : (cluster : Cluster) (test : Bool) (number : ℕ)
    → AllAre IsMail (events_of cluster (lost_at_once test number))
lost-mail cluster true number = (tt, tt)
lost-mail cluster false number = tt

sends-mail : (cluster : Cluster) (message : Message) → AllAre IsMail (send_events cluster message)
sends-mail cluster message = (
  tt,
  lost-mail (Next cluster message)
      (nat_le most_in_flight (length cluster.facts.flight)) (cluster.facts.sent + 1),
)

decided-mail : (cluster : Cluster) (number : ℕ) (message : Message) (by : Member) (txn : Txn) (decision : Decision)
    → AllAre IsMail (decision_events (Later cluster number) number message txn decision (ends.Member by))
decided-mail cluster number message by txn Grant = (tt, sends-mail (Decided cluster number by txn Grant) _)
decided-mail cluster number message by txn (Refusal key found) =
    (tt, sends-mail (Decided cluster number by txn (Refusal key found)) _)

answers-mail : (cluster : Cluster) (number : ℕ) (carried : InFlightFacts) → carried.message.to ≡ ends.Store
    → IsAddressed carried.message.from carried.message.to carried.message.body
    → AllAre IsMail (answer_events (Later cluster number) number carried.message)
answers-mail cluster number carried to addressed =
    to-store (λ m. AllAre IsMail (answer_events (Later cluster number) number m))
    (λ by incarnation sequence. sends-mail (Later cluster number) _)
    (λ by incarnation sequence txn asks.
    decided-mail cluster number (Question by incarnation sequence (bodies.Request txn)) by txn
    (decision_on cluster.facts.keys cluster.facts.clock txn))
    carried.message to addressed

-- ---- the whole arrival
sized-over : (count : ℕ) (cluster : Cluster) (events : List Event) → IsSized count cluster.facts
    → IsSized count (cluster_over cluster events).facts
sized-over count cluster [] sized = sized
sized-over count cluster (event ∷ events) sized =
    sized-over count (cluster_after cluster event.kind) events (sized-by count cluster.facts event.kind sized)

-- events that are tidy keep it where the agents behind them do
pub owned-over : (head : HeadText) (cluster : Cluster) (events : List Event)
    → AreTidy cluster.facts.members cluster.facts events
    → (let later : Cluster = cluster_over cluster events in later.facts.members ≡ cluster.facts.members
    → AgentsAreKept later.facts.keys later.facts.processes later.agents → IsOwned head cluster → IsOwned head later)
owned-over head cluster events tidy members agents good =
    let later : Cluster = cluster_over cluster events in
    record {
      members = members ∙ good.members;
      sized = sized-over (member_count head) cluster events good.sized;
      facts = subst (λ (ms : List Member). FactsAreKept ms later.facts) (sym members)
          (kept-over cluster.facts.members cluster events tidy good.facts);
      agents = agents;
    }

pub arrival-owned : (head : HeadText) (cluster : Cluster) (number : ℕ) (carried : InFlightFacts)
    → IsOwned head cluster → in_flight cluster.facts.flight number ≡ Some carried → carried.message.to ≡ ends.Store
    → IsOwned head (cluster_over cluster (arrival_events_at cluster number carried ends.Store))
arrival-owned head cluster number carried good found to =
    let events : List Event = arrival_events_at cluster number carried ends.Store in
    let later : Cluster = cluster_over cluster events in
    let members : List Member = cluster.facts.members in
    let tidy = arrival-tidy members cluster number carried good.facts found to in
    let addressed = (good.facts.sent number carried found).0.addressed in
    let rest = mail-over (Later cluster number) (answer_events (Later cluster number) number carried.message)
    (answers-mail cluster number carried to addressed) in
    let agents : later.agents ≡ cluster.agents = rest.agents
    ∙ ap (agent_facts_reached cluster) found ∙ ap (agent_facts_reached_at cluster carried) to in
    owned-over head cluster events tidy rest.members
    (λ m agent is.
    let was = good.agents m agent (ap (λ (l : List (Option AgentFacts)). slice_get l m) (sym agents) ∙ is) in (
      subst (λ (l : List AgentProcess). KnowsItsRun m (slice_get l m) agent) (sym rest.processes) was.0,
      holds-on cluster.facts.keys later.facts.keys m agent (of-over members cluster events tidy good.facts) was.1,
    )) good
