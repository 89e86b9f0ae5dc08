-- What an agent knows that its turn read of the sync key, an answer of the key store told it, in every book.
use Rattle.std.proofs.Common.{ℕ, ◌≡◌, ◌++◌, List, [], ◌∷◌, slice_get, Option, Some, None, option_map, refl, ◌∙◌, ap, sym, subst, append_assoc, append-nil, inl, inr}
use Rattle.std.proofs.lemmas.Bool.{cases_eq}
use Rattle.std.specs.FinMap.{find}
use Rattle.pat_base.specs.Changes.{with_changed}
use Rattle.pat_base.specs.declared.member_id.MemberId.{MemberId}
use Rattle.pat_base.specs.declared.ticks.Ticks.{Ticks}
use Rattle.lease_store.specs.Answers.{present_pairs}
use Rattle.lease_store.specs.KeyOrder.{key_cmp}
use Rattle.lease_store.specs.declared.granted.Granted.{Granted}
use Rattle.store_keys.specs.declared.key.Key.TheVariants as keys
use Rattle.store_keys.specs.declared.value.KeyEntry.{KeyEntry}
use Rattle.store_keys.specs.declared.value.SyncKey.{SyncKey}
use Rattle.store_keys.specs.declared.value.Value.{Value}
use Rattle.store_keys.specs.declared.value.Value.TheVariants as values
use Rattle.cluster_view.specs.KeyValues.{sync_by}
use Rattle.cluster_view.specs.Snapshots.{SnapshotFacts, found_by}
use Rattle.event_book.specs.declared.event.AgentEvent.TheVariants as agents
use Rattle.event_book.specs.declared.event.Event.{Event}
use Rattle.event_book.specs.declared.event.EventKind.{EventKind}
use Rattle.event_book.specs.declared.event.EventKind.TheVariants as kinds
use Rattle.event_book.specs.declared.event.MessageEvent.TheVariants as messages
use Rattle.event_book.specs.declared.event.WatchdogEvent.TheVariants as watchdogs
use Rattle.event_book.specs.declared.link.LinkEnd.{LinkEnd}
use Rattle.event_book.specs.declared.link.LinkEnd.TheVariants as ends
use Rattle.event_book.specs.declared.member.Member.{Member}
use Rattle.event_book.specs.declared.message.Body.{Body}
use Rattle.event_book.specs.declared.message.Body.TheVariants as bodies
use Rattle.event_book.specs.Facts.{Facts, facts_after, facts_over}
use Rattle.event_book.specs.Flight.{InFlightFacts, in_flight, snapshot_for}
use Rattle.agent_model.specs.declared.heard.Heard.{Heard}
use Rattle.agent_model.specs.declared.heard.Heard.TheVariants as heards
use Rattle.agent_model.specs.declared.knowledge.SyncRead.{SyncRead}
use Rattle.agent_model.specs.declared.machine.Machine.{Machine}
use Rattle.agent_model.specs.declared.who.Who.{Who}
use Rattle.agent_model.specs.Agents.{AgentFacts, Outcome, outcome_from}
use Rattle.agent_model.specs.Synchronous.{sync_read_by, sync_read_in, sync_read_at}
use Rattle.agent_model.specs.Table.{step}
use Rattle.agent_roles.proofs.Knowing.{step-onward}
use Rattle.cluster_model.specs.Cluster.{agent_after, agent_facts_after, agent_facts_reached, agent_facts_reached_at, agent_facts_with, cluster_after, cluster_over}
use Rattle.cluster_model.specs.Hearing.{heard_from, heard_in, member_at_end, snapshot_in}
use Rattle.cluster_model.specs.Inputs.{agent_at, moment_of, outcome_at, outcome_of, outcome_of_heard, starting_agent}
use Rattle.cluster_model.specs.Machines.{machine_of, points_of, who_of}
use Rattle.cluster_model.specs.State.{Cluster}
use Rattle.cluster_model.proofs.Lists.{all-both}
use Rattle.cluster_model.proofs.Places.{get-elsewhere, get-here}
use Rattle.premise_law.specs.Passing.{HasRead, HasSync, IsMemberAt, StartsNone}
use Rattle.premise_law.proofs.Readings.{Flown, WasSent, behind, flown-on}
use Rattle.premise_law.proofs.TakeOvers.{at-place, none-some, some-same}
use Rattle.premise_law.proofs.Telling.{step-told, told_by}

-- whose agent it is, and what it knows that its turn read of the sync key
pub record KnowsRead (start : Facts) (book : List Event) (m : ℕ) (agent : AgentFacts) : Type 0 where
  pub me : agent.knows.who.me.number ≡ m
  pub read : (read : SyncRead) → agent.knows.turn_sync ≡ Some read → HasRead start book m read.key read.revision

abbrev pub KnowRead : Facts → List Event → List (Option AgentFacts) → Type 0
KnowRead start book known =
    (m : ℕ) (agent : AgentFacts) → slice_get known m ≡ Some (Some agent) → KnowsRead start book m agent

-- a sync key that was read stands in its entry
entry-is : (found : Option KeyEntry) (read : SyncRead) → found_by sync_read_at found ≡ Some read
    → (stored : KeyEntry) × (found ≡ Some stored) × (stored.value ≡ values.Sync read.key)
    × (stored.revision ≡ read.revision)
entry-is None read e = absurd (none-some read e)
entry-is (Some stored) read e = by stored.value refl e
  where
    by : (value : Value) → stored.value ≡ value → sync_read_by stored.revision (sync_by value) ≡ Some read
        → (entry : KeyEntry) × (◌≡◌ {A = Option KeyEntry} (Some stored) (Some entry))
        × (entry.value ≡ values.Sync read.key) × (entry.revision ≡ read.revision)
    by (values.Sync key) is e =
        let same : record { key = key; revision = stored.revision } ≡ read = some-same _ read e in
        (stored, refl, is ∙ ap (λ (r : SyncRead). values.Sync r.key) same, ap (λ (r : SyncRead). r.revision) same)
    by _ is e = absurd (none-some read e)

-- what a message tells as a snapshot, it is one of
abbrev told_if : Option Heard → Option SnapshotFacts
told_if None = None
told_if (Some heard) = told_by heard

no-snapshot : {X : Type 0} (snapshot : SnapshotFacts) (f : X → Heard) → ((x : X) → told_by (f x) ≡ None)
    → (found : Option X) → told_if (option_map f found) ≡ Some snapshot → ⊥
no-snapshot snapshot f none None e = none-some snapshot e
no-snapshot snapshot f none (Some x) e = none-some snapshot (sym (none x) ∙ e)

told-snapshot : (cluster : Cluster) (carried : InFlightFacts) (snapshot : SnapshotFacts) (body : Body)
    → carried.message.body ≡ body → told_if (heard_in cluster carried body) ≡ Some snapshot
    → (carried.message.body ≡ bodies.Snapshot) × (snapshot ≡ snapshot_in cluster carried)
told-snapshot cluster carried snapshot bodies.Snapshot is e = (is, sym (some-same _ snapshot e))
told-snapshot cluster carried snapshot (bodies.Granted request leased) is e = absurd
    (no-snapshot snapshot (λ (grant : Granted).
    heards.Granted carried.message.sequence grant (snapshot_in cluster carried)) (λ grant. refl) carried.grant e)
told-snapshot cluster carried snapshot (bodies.Refused request key found) is e = absurd (none-some snapshot e)
told-snapshot cluster carried snapshot bodies.Ask is e = absurd
    (no-snapshot snapshot (λ (from : MemberId).
    heards.Asked from carried.message.incarnation carried.message.sequence) (λ from. refl)
    (member_at_end carried.message.from) e)
told-snapshot cluster carried snapshot (bodies.Answer answer) is e = absurd (none-some snapshot e)
told-snapshot cluster carried snapshot (bodies.FailsafeRequest ttl) is e = absurd
    (no-snapshot snapshot (λ (from : MemberId).
    heards.FailsafeAsked from carried.message.incarnation carried.message.sequence ttl) (λ from. refl)
    (member_at_end carried.message.from) e)
told-snapshot cluster carried snapshot (bodies.FailsafeAnswer accepted) is e = absurd
    (no-snapshot snapshot (λ (from : MemberId).
    heards.FailsafeAnswered from carried.message.sequence accepted carried.sent) (λ from. refl)
    (member_at_end carried.message.from) e)
told-snapshot cluster carried snapshot bodies.Read is e = absurd (none-some snapshot e)
told-snapshot cluster carried snapshot (bodies.Request txn) is e = absurd (none-some snapshot e)

-- ---- one event
module _ (start : Facts) (book : List Event) (cluster : Cluster) (left : cluster.facts ≡ facts_over start book)
    (flown : Flown start book cluster.facts.flight) (known : KnowRead start book cluster.agents) (tick : Ticks)
    (kind : EventKind) where
  abbrev Happening : Event
  Happening = record { tick = tick; kind = kind }

  abbrev Later : List Event
  Later = book ++ Happening ∷ []

  read-later : (m : ℕ) (key : SyncKey) (revision : ℕ) → StartsNone m kind → HasRead start book m key revision
      → HasRead start Later m key revision
  read-later m key revision none was = let came : Event = record {
    tick = was.came;
    kind = kinds.Message (messages.Delivered was.number);
  } in
      let sent : Event = record { tick = was.sent; kind = kinds.Message (messages.Sent was.number was.message) } in
      record {
        earlier = was.earlier;
        between = was.between;
        later = was.later ++ Happening ∷ [];
        sent = was.sent;
        came = was.came;
        number = was.number;
        message = was.message;
        is = behind was.earlier (was.between ++ came ∷ was.later) sent Happening book was.is
            ∙ ap (λ (l : List Event). was.earlier ++ sent ∷ l)
            (append_assoc was.between (came ∷ was.later) (Happening ∷ []));
        answers = was.answers;
        to = was.to;
        tells = was.tells;
        since = all-both (StartsNone m) was.later (Happening ∷ []) was.since (none, tt);
      }

  knows-later : (m : ℕ) (agent : AgentFacts) → StartsNone m kind → KnowsRead start book m agent
      → KnowsRead start Later m agent
  knows-later m agent none was =
      record { me = was.me; read = λ read is. read-later m read.key read.revision none (was.read read is) }

  module _ (starts : (m : ℕ) → StartsNone m kind) where
    still : KnowRead start Later cluster.agents
    still m agent is = knows-later m agent (starts m) (known m agent is)

    -- an agent ended
    ended-by : (found : Option (Option AgentFacts)) (agent : AgentFacts)
        → option_map (λ (old : Option AgentFacts). None) found ≡ Some (Some agent) → ⊥
    ended-by None agent e = none-some (Some agent) e
    ended-by (Some old) agent e = none-some agent (some-same _ _ e)

    ended : (k : ℕ) → KnowRead start Later (with_changed cluster.agents k (λ agent. None))
    ended k m agent is = elim (cases_eq m k) [
      | inl here ↦ absurd (ended-by (slice_get cluster.agents m) agent
          (sym (ap (λ n. slice_get (with_changed cluster.agents n (λ old. None)) m) (sym here)
          ∙ get-here cluster.agents m (λ old. None)) ∙ is))
      | inr other ↦ still m agent (sym (get-elsewhere cluster.agents k m (λ old. None) other) ∙ is)
    ]

    -- an agent hears nothing, or something
    unheard-by : (found : Option (Option AgentFacts)) → option_map (agent_after None) found ≡ found
    unheard-by None = refl
    unheard-by (Some agent) = refl

    unheard : (member : Member) → KnowRead start Later (agent_facts_with cluster.agents member None)
    unheard member m agent is = elim (cases_eq m member.id.number) [
      | inl here ↦ still m agent
          (sym (ap (λ n. slice_get (with_changed cluster.agents n (agent_after None)) m) (sym here)
          ∙ get-here cluster.agents m (agent_after None) ∙ unheard-by (slice_get cluster.agents m)) ∙ is)
      | inr other ↦ still m agent (sym (get-elsewhere cluster.agents member.id.number m (agent_after None) other) ∙ is)
    ]

    acts : (member : Member) (heard : Heard) (agent : AgentFacts) (machine : Machine)
        → agent_at cluster.agents member.id.number ≡ Some agent
        → ((snapshot : SnapshotFacts) (read : SyncRead) → told_by heard ≡ Some snapshot
        → sync_read_in snapshot ≡ Some read → HasRead start Later member.id.number read.key read.revision)
        → KnowRead start Later (agent_facts_with cluster.agents member
        (Some (step (moment_of cluster) (points_of cluster member) heard
        (outcome_from agent.role agent.knows machine []))))
    acts member heard agent machine a reads m after is = elim (cases_eq m member.id.number) [
      | inl here ↦
          let x : Outcome = step (moment_of cluster) (points_of cluster member) heard
          (outcome_from agent.role agent.knows machine []) in
          let there : slice_get cluster.agents m ≡ Some (Some agent) =
          at-place (slice_get cluster.agents m) agent (ap (agent_at cluster.agents) here ∙ a) in
          let same : record { role = x.role; knows = x.knows } ≡ after = some-same _ after (some-same _ (Some after)
          (sym (ap (λ n. slice_get (with_changed cluster.agents n (agent_after (Some x))) m) (sym here)
          ∙ get-here cluster.agents m (agent_after (Some x)) ∙ ap (option_map (agent_after (Some x))) there) ∙ is)) in
          let was : KnowsRead start book m agent = known m agent there in
          let who : x.knows.who ≡ agent.knows.who = (step-onward (moment_of cluster) (points_of cluster member) heard
          (outcome_from agent.role agent.knows machine [])).who in
          subst (KnowsRead start Later m) same (record {
            me = ap (λ (w : Who). w.me.number) who ∙ was.me;
            read =
                λ read turn. elim (step-told (moment_of cluster) (points_of cluster member) agent machine heard).turn [
                  | inl kept ↦ read-later m read.key read.revision (starts m) (was.read read (sym kept ∙ turn))
                  | inr new ↦ subst (λ n. HasRead start Later n read.key read.revision) (sym here)
                      (reads new.0 read new.1 (sym new.2 ∙ turn))
                ];
          })
      | inr other ↦ still m after (sym (get-elsewhere cluster.agents member.id.number m _ other) ∙ is)
    ]

    hears-by : (member : Member) (heard : Heard) (agent : Option AgentFacts) (machine : Option Machine)
        → agent_at cluster.agents member.id.number ≡ agent
        → ((snapshot : SnapshotFacts) (read : SyncRead) → told_by heard ≡ Some snapshot
        → sync_read_in snapshot ≡ Some read → HasRead start Later member.id.number read.key read.revision)
        → KnowRead start Later (agent_facts_with cluster.agents member
        (outcome_at (moment_of cluster) (points_of cluster member) heard agent machine))
    hears-by member heard None machine a reads = unheard member
    hears-by member heard (Some agent) None a reads = unheard member
    hears-by member heard (Some agent) (Some machine) a reads = acts member heard agent machine a reads

    hears : (member : Member) (heard : Heard)
        → ((snapshot : SnapshotFacts) (read : SyncRead) → told_by heard ≡ Some snapshot
        → sync_read_in snapshot ≡ Some read → HasRead start Later member.id.number read.key read.revision)
        → KnowRead start Later (agent_facts_with cluster.agents member (outcome_of cluster member heard))
    hears member heard reads = hears-by member heard (agent_at cluster.agents member.id.number)
        (machine_of cluster member) refl reads

-- what an answer to a read tells of the sync key
tells-key : (start : Facts) (book : List Event) (cluster : Cluster) (number : ℕ) (carried : InFlightFacts)
    (was : WasSent start book number carried) (snapshot : SnapshotFacts) (read : SyncRead)
    → carried.message.body ≡ bodies.Snapshot → snapshot ≡ snapshot_in cluster carried
    → sync_read_in snapshot ≡ Some read → HasSync (facts_over start was.earlier) read.key read.revision
tells-key start book cluster number carried was snapshot read body told is =
    let facts : Facts = facts_over start was.earlier in
    let found = entry-is (find key_cmp keys.Sync snapshot.entries) read is in
    let carries : carried.snapshot ≡ present_pairs facts.clock facts.keys.pairs =
    ap (λ (c : InFlightFacts). c.snapshot) was.carries
    ∙ ap (λ (b : Body). snapshot_for b (present_pairs facts.clock facts.keys.pairs)) body in
    record {
      stored = found.0;
      is = sym (ap (find key_cmp keys.Sync) (ap (λ (s : SnapshotFacts). s.entries) told ∙ carries)) ∙ found.1;
      value = found.2;
      written = found.3;
    }

module _ (start : Facts) (book : List Event) (cluster : Cluster) (left : cluster.facts ≡ facts_over start book)
    (flown : Flown start book cluster.facts.flight) (known : KnowRead start book cluster.agents) (tick : Ticks) where
  -- a message comes to a member
  abbrev Came : ℕ → List Event
  Came number = book ++ record { tick = tick; kind = kinds.Message (messages.Delivered number) } ∷ []

  read-now : (number : ℕ) (carried : InFlightFacts) (member : Member) (heard : Heard)
      → in_flight cluster.facts.flight number ≡ Some carried → carried.message.to ≡ ends.Member member
      → heard_from cluster carried ≡ Some heard → (snapshot : SnapshotFacts) (read : SyncRead)
      → told_by heard ≡ Some snapshot → sync_read_in snapshot ≡ Some read
      → HasRead start (Came number) member.id.number read.key read.revision
  read-now number carried member heard found to says snapshot read told is =
      let was : WasSent start book number carried = flown.sent number carried found in
      let parts = told-snapshot cluster carried snapshot carried.message.body refl (ap told_if says ∙ told) in
      record {
        earlier = was.earlier;
        between = was.later;
        later = [];
        sent = was.tick;
        came = tick;
        number = number;
        message = carried.message;
        is = behind was.earlier was.later
            (record { tick = was.tick; kind = kinds.Message (messages.Sent number carried.message) })
            (record { tick = tick; kind = kinds.Message (messages.Delivered number) }) book was.is;
        answers = parts.0;
        to = subst (IsMemberAt member.id.number) (sym to) refl;
        tells = tells-key start book cluster number carried was snapshot read parts.0 parts.1 is;
        since = tt;
      }

  arrived-as : (number : ℕ) (carried : InFlightFacts) (member : Member)
      → in_flight cluster.facts.flight number ≡ Some carried → carried.message.to ≡ ends.Member member
      → (heard : Option Heard) → heard_from cluster carried ≡ heard
      → KnowRead start (Came number) (agent_facts_with cluster.agents member (outcome_of_heard cluster member heard))
  arrived-as number carried member found to None says =
      unheard start book cluster left flown known tick (kinds.Message (messages.Delivered number)) (λ m. tt) member
  arrived-as number carried member found to (Some heard) says =
      hears start book cluster left flown known tick (kinds.Message (messages.Delivered number)) (λ m. tt) member heard
      (read-now number carried member heard found to says)

  arrived-at : (number : ℕ) (carried : InFlightFacts) → in_flight cluster.facts.flight number ≡ Some carried
      → (end : LinkEnd) → carried.message.to ≡ end
      → KnowRead start (Came number) (agent_facts_reached_at cluster carried end)
  arrived-at number carried found ends.Store to =
      still start book cluster left flown known tick (kinds.Message (messages.Delivered number)) (λ m. tt)
  arrived-at number carried found (ends.Member member) to =
      arrived-as number carried member found to (heard_from cluster carried) refl

  arrived : (number : ℕ) (found : Option InFlightFacts) → in_flight cluster.facts.flight number ≡ found
      → KnowRead start (Came number) (agent_facts_reached cluster found)
  arrived number None e =
      still start book cluster left flown known tick (kinds.Message (messages.Delivered number)) (λ m. tt)
  arrived number (Some carried) e = arrived-at number carried e carried.message.to refl

  -- an agent starts
  abbrev Fresh : Member → ℕ → AgentFacts
  Fresh member incarnation =
      starting_agent (who_of cluster.scope cluster.options cluster.facts.members member) cluster.facts.clock incarnation

  fresh-by : (found : Option (Option AgentFacts)) (fresh agent : AgentFacts)
      → option_map (λ (old : Option AgentFacts). Some fresh) found ≡ Some (Some agent) → fresh ≡ agent
  fresh-by None fresh agent e = absurd (none-some (Some agent) e)
  fresh-by (Some old) fresh agent e = some-same _ _ (some-same _ _ e)

  started : (member : Member) (incarnation : ℕ)
      → KnowRead start
      (book ++ record { tick = tick; kind = kinds.Agent (agents.Started member incarnation) } ∷ [])
      (with_changed cluster.agents member.id.number (λ agent. Some (Fresh member incarnation)))
  started member incarnation m agent is = let fresh : AgentFacts = Fresh member incarnation in
      let kind : EventKind = kinds.Agent (agents.Started member incarnation) in
      elim (cases_eq m member.id.number) [
        | inl here ↦
            subst (KnowsRead start (book ++ record { tick = tick; kind = kind } ∷ []) m)
            (fresh-by (slice_get cluster.agents m) fresh agent
            (sym (ap (λ n. slice_get (with_changed cluster.agents n (λ old. Some fresh)) m) (sym here)
            ∙ get-here cluster.agents m (λ old. Some fresh)) ∙ is))
            (record { me = sym here; read = λ read turn. absurd (none-some read turn) })
        | inr other ↦ knows-later start book cluster left flown known tick kind m agent (λ e. other (sym e))
            (known m agent (sym (get-elsewhere cluster.agents member.id.number m (λ old. Some fresh) other) ∙ is))
      ]

  pub one-known : (kind : EventKind)
      → KnowRead start (book ++ record { tick = tick; kind = kind } ∷ []) (agent_facts_after cluster kind)
  one-known (kinds.Message (messages.Delivered number)) = arrived number (in_flight cluster.facts.flight number) refl
  one-known (kinds.Message happening) =
      still start book cluster left flown known tick (kinds.Message happening) (λ m. tt)
  one-known (kinds.Watchdog (watchdogs.Reset member)) =
      ended start book cluster left flown known tick (kinds.Watchdog (watchdogs.Reset member))
      (λ m. tt) member.id.number
  one-known (kinds.Watchdog happening) =
      still start book cluster left flown known tick (kinds.Watchdog happening) (λ m. tt)
  one-known (kinds.Agent (agents.Woken member)) =
      hears start book cluster left flown known tick (kinds.Agent (agents.Woken member)) (λ m. tt) member heards.Wake
      (λ snapshot read told. absurd (none-some snapshot told))
  one-known (kinds.Agent (agents.Operated member action)) =
      hears start book cluster left flown known tick (kinds.Agent (agents.Operated member action)) (λ m. tt) member
      (heards.Operated action) (λ snapshot read told. absurd (none-some snapshot told))
  one-known (kinds.Agent (agents.Killed member)) =
      ended start book cluster left flown known tick (kinds.Agent (agents.Killed member)) (λ m. tt) member.id.number
  one-known (kinds.Agent (agents.Started member incarnation)) = started member incarnation
  one-known (kinds.Agent (agents.Suspended member)) =
      still start book cluster left flown known tick (kinds.Agent (agents.Suspended member)) (λ m. tt)
  one-known (kinds.Agent (agents.Resumed member)) =
      still start book cluster left flown known tick (kinds.Agent (agents.Resumed member)) (λ m. tt)
  one-known (kinds.Agent (agents.Passed member)) =
      still start book cluster left flown known tick (kinds.Agent (agents.Passed member)) (λ m. tt)
  one-known kind = still start book cluster left flown known tick kind (λ m. tt)

-- ---- every book
pub record Knowing (start : Facts) (book : List Event) (cluster : Cluster) : Type 0 where
  pub left : cluster.facts ≡ facts_over start book
  pub flown : Flown start book cluster.facts.flight
  pub known : KnowRead start book cluster.agents

facts-on : (start : Facts) (book : List Event) (event : Event)
    → facts_over start (book ++ event ∷ []) ≡ facts_after (facts_over start book) event.kind
facts-on start [] event = refl
facts-on start (first ∷ more) event = facts-on (facts_after start first.kind) more event

knowing-on : (start : Facts) (book : List Event) (cluster : Cluster) (event : Event) → Knowing start book cluster
    → Knowing start (book ++ event ∷ []) (cluster_after cluster event.kind)
knowing-on start book cluster event old = record {
  left = ap (λ (facts : Facts). facts_after facts event.kind) old.left ∙ sym (facts-on start book event);
  flown =
      subst (λ (facts : Facts). Flown start (book ++ event ∷ []) (facts_after facts event.kind).flight) (sym old.left)
      (flown-on start book event.tick event.kind
      (subst (λ (facts : Facts). Flown start book facts.flight) old.left old.flown));
  known = one-known start book cluster old.left old.flown old.known event.tick event.kind;
}

pub knowing-over : (start : Facts) (book : List Event) (cluster : Cluster) (events : List Event)
    → Knowing start book cluster → Knowing start (book ++ events) (cluster_over cluster events)
knowing-over start book cluster [] old =
    subst (λ (l : List Event). Knowing start l cluster) (sym (append-nil book)) old
knowing-over start book cluster (event ∷ events) old =
    subst (λ (l : List Event). Knowing start l (cluster_over (cluster_after cluster event.kind) events))
    (append_assoc book (event ∷ []) events)
    (knowing-over start (book ++ event ∷ []) (cluster_after cluster event.kind) events
    (knowing-on start book cluster event old))
