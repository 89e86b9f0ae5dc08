-- A leader's question comes to the key store in its turn: the answer is on its way.
use Rattle.std.proofs.Common.{ℕ, ◌≡◌, ◌≢◌, ◌+◌, ◌≤◌, ◌<◌, max, true, List, [], ◌∷◌, Option, Some, None, option_and_then, slice_get, refl, sym, ap, subst, ◌∙◌, inl, inr, arith}
use Rattle.std.specs.FinMap.{find}
use Rattle.std.specs.Prelude.{◌⊎◌}
use Rattle.pat_base.specs.declared.lsn.Lsn.{Lsn}
use Rattle.pat_base.specs.declared.member_set.MemberSet.{MemberSet}
use Rattle.store_keys.specs.declared.key.Key.TheVariants as keys
use Rattle.store_keys.specs.declared.txn.Txn.{Txn}
use Rattle.store_keys.specs.declared.txn.Txn.TheVariants as txns
use Rattle.store_keys.specs.declared.txn.LeaseTxn.TheVariants as lease_txns
use Rattle.store_keys.specs.declared.value.HistoryRow.{HistoryRow}
use Rattle.store_keys.specs.declared.value.MemberInfo.{MemberInfo}
use Rattle.lease_store.specs.Answers.{present_pairs}
use Rattle.lease_store.specs.Decision.{Decision, Grant, decision_on}
use Rattle.lease_store.specs.KeyOrder.{key_cmp}
use Rattle.script_model.specs.Script.{HeadText}
use Rattle.event_book.specs.declared.event.Event.{Event}
use Rattle.event_book.specs.declared.event.EventKind.{EventKind}
use Rattle.event_book.specs.declared.event.EventKind.TheVariants as kinds
use Rattle.event_book.specs.declared.event.StoreEvent.TheVariants as stores
use Rattle.event_book.specs.declared.link.LinkEnd.TheVariants as ends
use Rattle.event_book.specs.declared.member.Member.{Member}
use Rattle.event_book.specs.declared.message.Body.{Body}
use Rattle.event_book.specs.declared.message.Body.TheVariants as bodies
use Rattle.event_book.specs.declared.message.Message.{Message}
use Rattle.event_book.specs.Flight.{InFlightFacts, grant_for, in_flight, snapshot_for}
use Rattle.event_book.specs.Kinds.{AllAre}
use Rattle.agent_model.specs.declared.knowledge.Question.TheVariants.{Reading, Renewing, Syncing}
use Rattle.agent_model.specs.declared.knowledge.Settling.{Settling}
use Rattle.agent_model.specs.Acting.{lease_span}
use Rattle.agent_model.specs.Agents.{AgentFacts}
use Rattle.cluster_model.specs.Cluster.{cluster_after, cluster_over}
use Rattle.cluster_model.specs.Messages.{answer_events, answer_message, arrival_events_at, decision_body}
use Rattle.cluster_model.specs.State.{Cluster}
use Rattle.lease_model.specs.Leases.{LeaderKey}
use Rattle.lease_owners.specs.Kept.{IsOwned}
use Rattle.run_promise.proofs.Members.{members-over}
use Rattle.leading_law.specs.Leading.{WritesSync}
use Rattle.leading_parts.specs.Alone.{LeaveAlone, LeavesAlone}
use Rattle.lease_owners.specs.Asking.{AsksFor}
use Rattle.leading_parts.specs.Holding.{GrantsNoOperator, HasKey, HasRoom, IsAnswered, IsDecidedOn, IsRenewal, LeavesAnswer, LeavesSettings, renewed_key}
use Rattle.leading_parts.proofs.Answering.{arrival-left, decided-answered, read-room, request-room}
use Rattle.lease_owners.proofs.ToStore.{Behind, Later}
use Rattle.leading_parts.proofs.Arrivals.{reads-answered, renews-granted, stays-left}
use Rattle.leading_parts.proofs.Frames.{same-over}
use Rattle.leading_parts.proofs.Others.{arrival-elsewhere}
use Rattle.leading_parts.proofs.Settings.{failover-shown, settings-left, settings-shown}
use Rattle.leading_runs.specs.Steady.{SetsConfig}
use Rattle.leading_runs.proofs.Keeping.{Leaves, leaves-elsewhere, options-over, stands-left, undisturbed-left}
use Rattle.leading_runs.proofs.Stages.{Asked, Decides, Grants, InTurn, IsOwn, LastsOn, Mail, Phase, Seen, Shows, Stands, Turns, settings_seen}

-- ---- nobody operates
none-operates : (n : ℕ) (cluster : Cluster) (kind : EventKind) → LeavesAlone n cluster kind → GrantsNoOperator kind
none-operates n cluster (kinds.Store (stores.Granted number by txn standbys)) alone = alone
none-operates n cluster _ alone = tt

pub nobody-operates : (n : ℕ) (cluster : Cluster) (events : List Event) → LeaveAlone n cluster events
    → AllAre GrantsNoOperator events
nobody-operates n cluster events alone = all events cluster alone
  where
    all : (events : List Event) (c : Cluster) → LeaveAlone n c events → AllAre GrantsNoOperator events
    all [] c alone = tt
    all (event ∷ events) c alone =
        (none-operates n c event.kind alone.0, all events (cluster_after c event.kind) alone.1)

-- ---- a message that comes to the key store
module _ (head : HeadText) (member : Member) (cluster : Cluster) (seen : Seen)
    (number : ℕ) (carried : InFlightFacts) (good : IsOwned head cluster)
    (stands : Stands member seen cluster) (flies : in_flight cluster.facts.flight number ≡ Some carried)
    (to : carried.message.to ≡ ends.Store)
    (left : LeaveAlone member.id.number cluster (arrival_events_at cluster number carried ends.Store)) where
  abbrev pub Came : Cluster
  Came = cluster_over cluster (arrival_events_at cluster number carried ends.Store)

  pub answer-left : LeavesAnswer carried.message number cluster Came
  answer-left = arrival-left head cluster number carried good flies to

  pub settings-so : LeavesSettings cluster Came
  settings-so = settings-left head cluster number carried good flies to
      (nobody-operates member.id.number cluster (arrival_events_at cluster number carried ends.Store) left)

  -- one that doesn't ask for its key leaves it
  pub leaves-came : (AsksFor seen.key.revision carried.message.body → ⊥) → Leaves member cluster Came
  leaves-came other =
      leaves-elsewhere member cluster (arrival_events_at cluster number carried ends.Store)
      (arrival-elsewhere member.id.number cluster number carried flies to) answer-left.clock
      (stays-left head cluster seen.key number carried good stands.key_is flies to other)
      settings-so

  -- the same with the key that it then has
  stands-keyed : (key : LeaderKey) → HasKey key Came → key.holder ≡ member.id.number
      → Stands member (record seen { key = key }) Came
  stands-keyed key has holder =
      let same = same-over member.id.number cluster (arrival_events_at cluster number carried ends.Store)
      (arrival-elsewhere member.id.number cluster number carried flies to) in
      record {
        clock_is = answer-left.clock ∙ stands.clock_is;
        process_is = same.process ∙ stands.process_is;
        acts = stands.acts;
        agent_is = ap (option_and_then (λ (a : Option AgentFacts). a)) same.agent ∙ stands.agent_is;
        revision = stands.revision;
        role = stands.role;
        unasked = stands.unasked;
        declared = ap (λ (ms : List Member). slice_get ms member.id.number)
            (members-over cluster (arrival_events_at cluster number carried ends.Store)) ∙ stands.declared;
        options_are = ap (λ os. slice_get os member.id.number)
            (options-over cluster (arrival_events_at cluster number carried ends.Store)) ∙ stands.options_are;
        primary = same.state ∙ stands.primary;
        key_is = has;
        holder = holder;
        deadline_is = same.deadline ∙ stands.deadline_is;
        settings = undisturbed-left member seen cluster Came settings-so stands.settings;
        times = stands.times;
      }

  -- what it waits for is now the answer
  module _ (only : (i : ℕ) (one : InFlightFacts) → in_flight cluster.facts.flight i ≡ Some one →
      AsksFor seen.key.revision one.message.body → i ≡ number)
      (older : (i : ℕ) (one : InFlightFacts) → in_flight cluster.facts.flight i ≡ Some one → (i ≡ number → ⊥) →
      IsOwn member seen one.message → one.message.sequence < seen.agent.knows.sequence) where
    only-by : (P : Type 0) (i : ℕ) (one : InFlightFacts) → AsksFor seen.key.revision one.message.body
        → ((i ≢ number) × (in_flight cluster.facts.flight i ≡ Some one))
        ⊎ ((i ≡ cluster.facts.sent + 1) × ((said : Body) × (one.message ≡ answer_message carried.message said)))
        → (i ≡ cluster.facts.sent + 1 → P) → P
    only-by P i one asks (inl was) is_new = absurd (was.0 (only i one was.1 asks))
    only-by P i one asks (inr new) is_new = is_new new.0

    older-by : (P : Type 0) (i : ℕ) (one : InFlightFacts)
        → ((i ≢ number) × (in_flight cluster.facts.flight i ≡ Some one))
        ⊎ ((i ≡ cluster.facts.sent + 1) × ((said : Body) × (one.message ≡ answer_message carried.message said)))
        → (i ≡ cluster.facts.sent + 1 → ⊥) → IsOwn member seen one.message
        → one.message.sequence < seen.agent.knows.sequence
    older-by P i one (inl was) other own = older i one was.1 was.0 own
    older-by P i one (inr new) other own = absurd (other new.0)

    pub answer-only : (i : ℕ) (one : InFlightFacts) → in_flight Came.facts.flight i ≡ Some one
        → AsksFor seen.key.revision one.message.body → i ≡ cluster.facts.sent + 1
    answer-only i one found asks =
        only-by (i ≡ cluster.facts.sent + 1) i one asks (answer-left.fresh i one found) (λ same. same)

    pub answer-older : (i : ℕ) (one : InFlightFacts) → in_flight Came.facts.flight i ≡ Some one
        → (i ≡ cluster.facts.sent + 1 → ⊥) → IsOwn member seen one.message
        → one.message.sequence < seen.agent.knows.sequence
    answer-older i one found other own =
        older-by (one.message.sequence < seen.agent.knows.sequence) i one (answer-left.fresh i one found) other own

    -- ---- its read
    module _ (then : IsOwned head Came) (turn : InTurn seen) (asks : turn.waited.question ≡ Reading)
        (last : seen.agent.knows.last_turn ≡ Some (record { 0 = seen.clock }))
        (is : carried.message ≡ Asked member seen turn.waited.sequence bodies.Read) where
      read-leaves : Leaves member cluster Came
      read-leaves = leaves-came
          (λ renews. subst (λ (m : Message). AsksFor seen.key.revision m.body) is renews)

      now-stands : Stands member seen Came
      now-stands = stands-left member seen cluster Came read-leaves stands

      had-room : HasRoom cluster number
      had-room = read-room member seen.process.incarnation turn.waited.sequence number cluster
          (subst (λ (m : Message). LeaveAlone member.id.number (Later cluster number)
          (answer_events (Later cluster number) number m)) is left.1)

      answered : IsAnswered carried.message bodies.Snapshot seen.key (cluster.facts.sent + 1) Came
      answered = reads-answered head cluster seen.key number carried good stands.key_is flies to
          (ap (λ (m : Message). m.body) is) had-room

      abbrev shows-mail : Mail member seen turn.waited answered.carried
      shows-mail = Shows asks last
          (answered.message ∙ ap (λ (m : Message). answer_message m bodies.Snapshot) is) answered.shows
          (subst (SetsConfig (settings_seen seen))
          (sym (ap (find key_cmp keys.Config) answered.taken ∙ settings-shown head Came then))
          now-stands.settings.sets)
          (ap (find key_cmp keys.Failover) answered.taken
          ∙ failover-shown head Came then now-stands.settings.unasked.failover)

      pub turn-shows : Phase member 5 (cluster.facts.sent + 1) Came
      turn-shows = record {
        seen = seen;
        stands = now-stands;
        stage = Turns (cluster.facts.sent + 1) answered.carried turn shows-mail;
        numbered = refl;
        ranked = omega arith;
        flying = answered.is;
        only = answer-only;
        older = answer-older;
      }

    -- ---- its renewal
    module _ (then : IsOwned head Came) (turn : InTurn seen) (asks : turn.waited.question ≡ Renewing)
        (sent : turn.waited.sent ≡ record { 0 = seen.clock })
        (span : turn.waited.ttl ≡ lease_span (settings_seen seen)) (none : seen.agent.knows.turn_failover ≡ None)
        (info : MemberInfo) (status : Option Lsn) (row : Option HistoryRow) (listed : Option MemberSet)
        (is : carried.message
        ≡ Asked member seen turn.waited.sequence
        (bodies.Request (txns.Lease (lease_txns.Renew seen.key.revision info turn.waited.ttl status row listed)))) where
      abbrev Renewal : Txn
      Renewal = txns.Lease (lease_txns.Renew seen.key.revision info turn.waited.ttl status row listed)

      renewal-room : HasRoom cluster number
      renewal-room = request-room member seen.process.incarnation turn.waited.sequence number cluster Renewal
          (decision_on cluster.facts.keys cluster.facts.clock Renewal)
          (subst (λ (m : Message). LeaveAlone member.id.number (Later cluster number)
          (answer_events (Later cluster number) number m)) is left.1).1

      renewal : IsRenewal carried.message number turn.waited.ttl.0 seen.key cluster Came
      renewal = renews-granted head cluster seen.key number carried info turn.waited.ttl status row listed good
          stands.key_is flies to (ap (λ (m : Message). m.body) is) renewal-room

      abbrev Key_now : LeaderKey
      Key_now = renewed_key cluster seen.key turn.waited.ttl.0

      abbrev Seen_now : Seen
      Seen_now = record seen { key = Key_now }

      stands-renewed : Stands member Seen_now Came
      stands-renewed = stands-keyed Key_now renewal.has stands.holder

      abbrev turn-now : InTurn Seen_now
      turn-now = record {
        waited = turn.waited;
        waits = turn.waits;
        numbered = turn.numbered;
        until = turn.until;
        next = turn.next;
      }

      at-least-end : (expiry clock now span : ℕ) → clock ≡ now → now + span ≤ max expiry (clock + span)
      at-least-end expiry clock now span same = omega (arith, same)

      abbrev grants-mail : Mail member Seen_now turn.waited renewal.answered.carried
      grants-mail = Grants asks sent span none Renewal number
          (renewal.answered.message ∙ ap (λ (m : Message). answer_message m (bodies.Granted number true)) is)
          (renewal.answered.grant
          ∙ ap (λ (m : Message). grant_for (bodies.Granted number true) m.from Came.facts.keys.revision) is
          ∙ ap (grant_for (bodies.Granted number true) (ends.Member member)) renewal.granted)
          (subst (SetsConfig (settings_seen seen))
          (sym (ap (find key_cmp keys.Config) renewal.answered.taken ∙ settings-shown head Came then))
          stands-renewed.settings.sets)
          (at-least-end seen.key.expiry cluster.facts.clock seen.clock turn.waited.ttl.0 stands.clock_is)

      pub turn-grants : Phase member 3 (cluster.facts.sent + 1) Came
      turn-grants = record {
        seen = Seen_now;
        stands = stands-renewed;
        stage = Turns (cluster.facts.sent + 1) renewal.answered.carried turn-now grants-mail;
        numbered = refl;
        ranked = omega arith;
        flying = renewal.answered.is;
        only = λ i one found renews. absurd (renewal.alone i one found renews);
        older = answer-older;
      }

    -- ---- its write of the sync key
    module _ (then : IsOwned head Came) (turn : InTurn seen) (settling : Settling)
        (asks : turn.waited.question ≡ Syncing settling) (past : LastsOn seen) (txn : Txn) (writes : WritesSync txn)
        (is : carried.message ≡ Asked member seen turn.waited.sequence (bodies.Request txn)) where
      not-asked : (t : Txn) → WritesSync t → AsksFor seen.key.revision (bodies.Request t) → ⊥
      not-asked (txns.Lease (lease_txns.Renew compared info ttl status row failsafe)) writing asking = writing
      not-asked (txns.Lease (lease_txns.Release compared)) writing asking = writing
      not-asked _ writing asking = asking

      sync-leaves : Leaves member cluster Came
      sync-leaves = leaves-came (λ renews. not-asked txn writes
          (subst (λ (m : Message). AsksFor seen.key.revision m.body) is renews))

      stands-synced : Stands member seen Came
      stands-synced = stands-left member seen cluster Came sync-leaves stands

      abbrev Decision_now : Decision
      Decision_now = decision_on cluster.facts.keys cluster.facts.clock txn

      sync-room : HasRoom cluster number
      sync-room = request-room member seen.process.incarnation turn.waited.sequence number cluster txn Decision_now
          (subst (λ (m : Message). LeaveAlone member.id.number (Later cluster number)
          (answer_events (Later cluster number) number m)) is left.1).1

      decided : IsDecidedOn (Asked member seen turn.waited.sequence (bodies.Request txn)) number txn
          (cluster.facts.sent + 1) Came
      decided = subst (λ (m : Message). IsDecidedOn (Asked member seen turn.waited.sequence (bodies.Request txn)) number
          txn (cluster.facts.sent + 1) (Behind cluster number m)) (sym is)
          (decided-answered member seen.process.incarnation turn.waited.sequence number cluster txn Decision_now
          sync-room)

      shown-granted : (decision : Decision) → decision ≡ Grant
          → snapshot_for (decision_body number txn decision)
          (present_pairs Came.facts.clock Came.facts.keys.pairs)
          ≡ present_pairs Came.facts.clock Came.facts.keys.pairs
      shown-granted decision same = ap (λ (d : Decision). snapshot_for (decision_body number txn d)
          (present_pairs Came.facts.clock Came.facts.keys.pairs)) same

      abbrev decides-mail : Mail member seen turn.waited decided.carried
      decides-mail = Decides settling asks past txn writes number decided.decision decided.message
          Came.facts.keys.revision decided.grant
          (λ granted. subst (SetsConfig (settings_seen seen))
          (sym (ap (find key_cmp keys.Config) (decided.taken ∙ shown-granted decided.decision granted)
          ∙ settings-shown head Came then))
          stands-synced.settings.sets)

      pub turn-decides : Phase member 1 (cluster.facts.sent + 1) Came
      turn-decides = record {
        seen = seen;
        stands = stands-synced;
        stage = Turns (cluster.facts.sent + 1) decided.carried turn decides-mail;
        numbered = refl;
        ranked = omega arith;
        flying = decided.is;
        only = answer-only;
        older = answer-older;
      }
