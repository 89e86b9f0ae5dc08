-- What comes to an agent is what commits have in flight of it; with it
-- come synchronous mode, and a sync key that names members.
use Rattle.std.proofs.Common.{ℕ, ◌≡◌, ◌<◌, ◌==◌, Bool, true, List, [], Option, Some, None, slice_get, option_map, refl, ◌∙◌, ap, sym, subst}
use Rattle.std.specs.FinMap.{find}
use Rattle.pat_base.specs.declared.ticks.Ticks.{Ticks}
use Rattle.pat_base.specs.declared.member_id.MemberId.{MemberId}
use Rattle.pat_base.specs.declared.peer_answer.PeerAnswer.{PeerAnswer}
use Rattle.lease_store.specs.declared.granted.Granted.{Granted}
use Rattle.store_keys.specs.declared.key.Key.{Key}
use Rattle.store_keys.specs.declared.key.Key.TheVariants as keys
use Rattle.store_keys.specs.declared.txn.Expected.{Expected}
use Rattle.store_keys.specs.declared.value.KeyEntry.{KeyEntry}
use Rattle.store_keys.specs.declared.value.Value.{Value}
use Rattle.store_keys.specs.declared.value.Value.TheVariants as values
use Rattle.store_keys.specs.Defaults.{default_config}
use Rattle.lease_store.specs.KeyOrder.{key_cmp}
use Rattle.cluster_view.specs.KeyValues.{sync_by}
use Rattle.cluster_view.specs.Snapshots.{SnapshotFacts, settings_by, settings_of_entry, found_by, value_by}
use Rattle.event_book.specs.declared.event.Event.{Event}
use Rattle.event_book.specs.declared.link.LinkEnd.{LinkEnd}
use Rattle.event_book.specs.declared.link.LinkEnd.TheVariants as ends
use Rattle.event_book.specs.declared.member.Member.{Member}
use Rattle.event_book.specs.declared.message.Body.{Body}
use Rattle.event_book.specs.declared.message.Body.TheVariants as bodies
use Rattle.event_book.specs.declared.message.Message.{Message}
use Rattle.event_book.specs.Flight.{InFlightFacts, in_flight}
use Rattle.sync_state.specs.Published.{standbys_of}
use Rattle.sync_state.specs.Sets.{nobody}
use Rattle.script_model.specs.Script.{HeadText}
use Rattle.agent_model.specs.declared.heard.Heard.{Heard}
use Rattle.agent_model.specs.declared.heard.Heard.TheVariants as heards
use Rattle.agent_model.specs.declared.knowledge.PendingQuestion.{PendingQuestion}
use Rattle.agent_model.specs.declared.machine.Machine.{Machine}
use Rattle.agent_model.specs.Agents.{AgentFacts, outcome_from}
use Rattle.agent_commit_law.specs.Committing.{HearsBelow, HearsGranted, HearsLease, HearsSynchronousMode, HearsToCommit, HearsWrite, IsAskedBy, sync_seen}
use Rattle.agent_model.specs.Decisions.{asks_sync, is_sync_decision}
use Rattle.agent_model.specs.Synchronous.{sync_read_by, sync_read_in, sync_read_at}
use Rattle.agent_commit_law.proofs.CommitTools.{no-members}
use Rattle.agent_roles.proofs.Granting.{both-true}
use Rattle.cluster_model.specs.Hearing.{heard_from, heard_in, member_at_end, snapshot_in}
use Rattle.cluster_model.specs.State.{Cluster}
use Rattle.lease_model.specs.Leases.{FailsafeKey, LeaderKey}
use Rattle.lease_model.specs.Past as lease_past
use Rattle.event_book.specs.Functions.{set_members}
use Rattle.lease_model.specs.Stores.{failsafe_key_of, leader_key_of}
use Rattle.lease_model.proofs.Tools.{and-first, eq-from, none-some, not-false, some-is}
use Rattle.lease_book.proofs.Hearing.{heard-granted}
use Rattle.commit_actions.specs.Actions.{sync_key_by}
use Rattle.commit_actions.specs.Flights.{Flying, LeaseGranted, SnapshotSent, SyncGranted, SyncRequest}
use Rattle.commit_actions.specs.Inputs.{AgentInput, HearsSnapshot}
use Rattle.commit_actions.specs.Keys.{SyncKey, strict_quorum}
use Rattle.commit_actions.specs.Past.{Past, Query, SyncQuery, failsafe_revision_of, is_keyless, is_leaderless}
use Rattle.commit_actions.specs.States.{State}
use Rattle.commit_book.specs.Flights.{Answers, IsNamed, past_at_sending}
use Rattle.commit_book.specs.Keys.{sync_key_of, sync_value}
use Rattle.commit_book.proofs.Hearing.{heard-lease, heard-snapshot, heard-write}
use Rattle.run_promise.specs.Members.{member_count}
use Rattle.lease_parts.specs.Waiting.{IsAddressed, IsAnswer, IsPeerBody}
use Rattle.lease_hearing.proofs.InputHears.{message-is, unpaused-told}
use Rattle.commit_showing.specs.Order.{NamesMembers}
use Rattle.commit_parts.specs.Bridged.{CommitsBridged}
use Rattle.commit_parts.specs.Modes.{IsSynchronousEntry, IsSynchronousTold, IsSynchronousValue}
use Rattle.commit_parts.specs.Reading.{past_of, state_of_run}

-- ---- the keys of a snapshot, as agents and as commits see them
sync-by : (revision : ℕ) (value : Value) → sync_seen (sync_read_by revision (sync_by value)) ≡ sync_value value revision
sync-by revision (values.Sync key) = refl
sync-by revision _ = refl

sync-is : (found : Option KeyEntry) → sync_seen (found_by sync_read_at found) ≡ sync_key_of found
sync-is None = refl
sync-is (Some found) = sync-by found.revision found.value

on-by : (value : Value) → IsSynchronousValue value → (settings_by default_config value).synchronous_mode ≡ true
on-by (values.Config config) on = on
on-by _ on = absurd on

on-is : (found : Option KeyEntry) → IsSynchronousEntry found
    → (settings_of_entry default_config found).synchronous_mode ≡ true
on-is None on = absurd on
on-is (Some found) on = on-by found.value on

nobody-below : (count n : ℕ) → set_members nobody n ≡ true → n < count
nobody-below count n is = absurd (not-false (set_members nobody n) (no-members nobody refl n) is)

below-by : (count quorum revision : ℕ) (value : Value) → NamesMembers count quorum (sync_value value revision)
    → (n : ℕ) → set_members (standbys_of (sync_by value)) n ≡ true → n < count
below-by count quorum revision (values.Sync key) names n is = (names _ refl).members n is
below-by count quorum revision _ names n is = nobody-below count n is

below-is : (count quorum : ℕ) (found : Option KeyEntry) → NamesMembers count quorum (sync_key_of found)
    → (n : ℕ) → set_members (standbys_of (value_by sync_by found)) n ≡ true → n < count
below-is count quorum None names n is = nobody-below count n is
below-is count quorum (Some found) names n is = below-by count quorum found.revision found.value names n is

-- ---- what a message says
-- whatever holds of what the key store answers, and of what other members ask and answer, holds of what is heard
module _ (cluster : Cluster) (carried : InFlightFacts) (P : Heard → Type 0)
    (got : carried.message.body ≡ bodies.Snapshot →
    P (heards.ReadAnswered carried.message.sequence (snapshot_in cluster carried)))
    (granted : (request : ℕ) (leased : Bool) (grant : Granted) → carried.message.body ≡ bodies.Granted request leased →
    carried.grant ≡ Some grant → P (heards.Granted carried.message.sequence grant (snapshot_in cluster carried)))
    (mismatch : (key : Key) (expected : Expected) → P (heards.Mismatch carried.message.sequence key expected))
    (asked : (by : MemberId) → P (heards.Asked by carried.message.incarnation carried.message.sequence))
    (answered : (answer : PeerAnswer) → P (heards.Answered carried.message.sequence answer))
    (stay-asked : (by : MemberId) (ttl : Ticks) →
    P (heards.FailsafeAsked by carried.message.incarnation carried.message.sequence ttl))
    (stay-answered : (by : MemberId) (accepted : Bool) →
    P (heards.FailsafeAnswered by carried.message.sequence accepted carried.sent)) where
  granted-all : (request : ℕ) (leased : Bool) → carried.message.body ≡ bodies.Granted request leased
      → (given : Option Granted) → carried.grant ≡ given → (heard : Heard)
      → option_map (λ grant. heards.Granted carried.message.sequence grant (snapshot_in cluster carried)) given
      ≡ Some heard
      → P heard
  granted-all request leased body None is heard e = absurd (none-some heard e)
  granted-all request leased body (Some grant) is heard e =
      subst P (some-is _ heard e) (granted request leased grant body is)

  asked-all : (from : Option MemberId) (heard : Heard)
      → option_map (λ by. heards.Asked by carried.message.incarnation carried.message.sequence) from ≡ Some heard
      → P heard
  asked-all None heard e = absurd (none-some heard e)
  asked-all (Some by) heard e = subst P (some-is _ heard e) (asked by)

  stay-asked-all : (ttl : Ticks) (from : Option MemberId) (heard : Heard)
      → option_map (λ by. heards.FailsafeAsked by carried.message.incarnation carried.message.sequence ttl) from
      ≡ Some heard
      → P heard
  stay-asked-all ttl None heard e = absurd (none-some heard e)
  stay-asked-all ttl (Some by) heard e = subst P (some-is _ heard e) (stay-asked by ttl)

  stay-answered-all : (accepted : Bool) (from : Option MemberId) (heard : Heard)
      → option_map (λ by. heards.FailsafeAnswered by carried.message.sequence accepted carried.sent) from ≡ Some heard
      → P heard
  stay-answered-all accepted None heard e = absurd (none-some heard e)
  stay-answered-all accepted (Some by) heard e = subst P (some-is _ heard e) (stay-answered by accepted)

  heard-all : (body : Body) → carried.message.body ≡ body → (heard : Heard)
      → heard_in cluster carried body ≡ Some heard → P heard
  heard-all bodies.Snapshot body heard e = subst P (some-is _ heard e) (got body)
  heard-all (bodies.Granted request leased) body heard e = granted-all request leased body carried.grant refl heard e
  heard-all (bodies.Refused request key expected) body heard e = subst P (some-is _ heard e) (mismatch key expected)
  heard-all bodies.Ask body heard e = asked-all (member_at_end carried.message.from) heard e
  heard-all (bodies.Answer answer) body heard e = subst P (some-is _ heard e) (answered answer)
  heard-all (bodies.FailsafeRequest ttl) body heard e = stay-asked-all ttl (member_at_end carried.message.from) heard e
  heard-all (bodies.FailsafeAnswer accepted) body heard e =
      stay-answered-all accepted (member_at_end carried.message.from) heard e
  heard-all _ body heard e = absurd (none-some heard e)

-- an answer of the key store comes from there
no-answer : (body : Body) → IsPeerBody body → IsAnswer body → ⊥
no-answer bodies.Ask peer answer = answer
no-answer (bodies.Answer told) peer answer = answer
no-answer (bodies.FailsafeRequest ttl) peer answer = answer
no-answer (bodies.FailsafeAnswer accepted) peer answer = answer
no-answer _ peer answer = peer

from-store : (from : LinkEnd) (member : Member) (body : Body) → IsAddressed from (ends.Member member) body
    → IsAnswer body → from ≡ ends.Store
from-store ends.Store member body addressed answer = refl
from-store (ends.Member by) member body addressed answer = absurd (no-answer body addressed answer)

lease-eq : (m incarnation also sequence r v : ℕ) (k l : Option SyncKey) → incarnation ≡ also → r ≡ v → k ≡ l
    → ◌≡◌ {A = Option Flying}
    (Some
    (LeaseGranted (record { member = m; incarnation = incarnation; sequence = sequence; revision = r; sync = k })))
    (Some (LeaseGranted (record { member = m; incarnation = also; sequence = sequence; revision = v; sync = l })))
lease-eq m incarnation also sequence r v k l a b c = cc

-- ---- what is heard
module _ (head : HeadText) (book : List Event) (cluster : Cluster) (good : CommitsBridged head book cluster)
    (member : Member) (agent : AgentFacts)
    (here : slice_get cluster.agents member.id.number ≡ Some (Some agent))
    (number : ℕ) (carried : InFlightFacts) (there : in_flight cluster.facts.flight number ≡ Some carried)
    (to : carried.message.to ≡ ends.Member member)
    (incarnation : IsAnswer carried.message.body → carried.message.incarnation ≡ agent.knows.incarnation) where
  abbrev Law : State
  Law = state_of_run head book cluster

  abbrev Told : SnapshotFacts
  Told = snapshot_in cluster carried

  abbrev Leader : Option LeaderKey
  Leader = leader_key_of (find key_cmp keys.Leader carried.snapshot)

  abbrev Failsafe : Option FailsafeKey
  Failsafe = failsafe_key_of (find key_cmp keys.Failsafe carried.snapshot)

  sync-told : sync_seen (sync_read_in (snapshot_in cluster carried))
      ≡ sync_key_of (find key_cmp keys.Sync carried.snapshot)
  sync-told = sync-is (find key_cmp keys.Sync carried.snapshot)

  says : (body : Body) → carried.message.body ≡ body → IsAnswer body
      → carried.message ≡ record {
        from = ends.Store;
        to = ends.Member member;
        incarnation = carried.message.incarnation;
        sequence = carried.message.sequence;
        body = body;
      }
  says body is answer =
      let addressed = subst (λ (end : LinkEnd). IsAddressed carried.message.from end carried.message.body) to
      (good.lease.matched.waiting.carried number carried there).addressed in
      message-is carried.message ends.Store (ends.Member member) body
      (from-store carried.message.from member carried.message.body addressed (subst IsAnswer (sym is) answer)) to is

  snapshot-heard : (input : AgentInput) → input.heard ≡ Some number → carried.message.body ≡ bodies.Snapshot
      → HearsSnapshot (state_of_run head book cluster) input (sync_seen (sync_read_in (snapshot_in cluster carried)))
  snapshot-heard input heard body = record {
    number = number;
    heard = heard;
    keyless = is_keyless Leader Failsafe;
    leaderless = is_leaderless Leader;
    failsafe_revision = failsafe_revision_of Failsafe;
    is = heard-snapshot (past_of head book) cluster.facts number carried member carried.message.incarnation
        carried.message.sequence good.fits.store.flight there (says bodies.Snapshot body tt)
        ∙ ap (λ (sync : Option SyncKey). Some (SnapshotSent (record {
          sync = sync;
          keyless = is_keyless Leader Failsafe;
          leaderless = is_leaderless Leader;
          failsafe_revision = failsafe_revision_of Failsafe;
        }))) (sym sync-told);
  }

  -- a grant of the lease
  lease-heard : (input : AgentInput) → input.heard ≡ Some number → (request : ℕ) (grant : Granted)
      → carried.message.body ≡ bodies.Granted request true → carried.grant ≡ Some grant
      → HearsLease (state_of_run head book cluster) member.id.number input.heard carried.message.sequence grant.revision
      (snapshot_in cluster carried) agent.knows
  lease-heard input heard request grant body given =
      let told = heard-lease (past_of head book) cluster.facts number carried member carried.message.incarnation
      carried.message.sequence request good.fits.store.flight there (says (bodies.Granted request true) body tt) in
      let same : record { revision = told.revision; by = member.id; leased = true } ≡ grant =
      some-is _ grant (sym told.grant ∙ given) in
      record {
        number = number;
        heard_is = heard;
        is = told.flying
            ∙ lease-eq member.id.number carried.message.incarnation agent.knows.incarnation
            carried.message.sequence told.revision grant.revision
            (sync_key_of (find key_cmp keys.Sync carried.snapshot)) (sync_seen (sync_read_in Told))
            (incarnation (subst IsAnswer (sym body) tt)) (ap (λ (g : Granted). g.revision) same) (sym sync-told);
      }

  -- the grant of the write of the sync key that is waited for
  write-heard : (input : AgentInput) → input.heard ≡ Some number → (request : ℕ) (leased : Bool)
      → carried.message.body ≡ bodies.Granted request leased
      → (waited : PendingQuestion) → agent.knows.waited ≡ Some waited
      → is_sync_decision waited carried.message.sequence ≡ true
      → HearsWrite (state_of_run head book cluster) member.id.number input.heard carried.message.sequence
      waited.question agent.knows
  write-heard input heard request leased body waited waits decision =
      let m : ℕ = member.id.number in
      let past : Past = past_of head book in
      let sequence : ℕ = carried.message.sequence in
      let is = says (bodies.Granted request leased) body tt in
      let in_run : carried.message.incarnation ≡ agent.knows.incarnation = incarnation (subst IsAnswer (sym body) tt) in
      let answers =
      (heard-granted (lease_past.past_of book) cluster.facts number carried member carried.message.incarnation
      sequence request leased good.lease.matched.flight there is).answers in
      let decides = both-true (asks_sync waited.question) (waited.sequence == sequence) decision in
      let numbered : answers.question.sequence ≡ waited.sequence = answers.numbered
      ∙ sym (eq-from waited.sequence sequence decides.1) in
      let write = (good.fits.agents.each m agent here).writes waited waits decides.0 request answers.question
      answers.is answers.asker (answers.in_run ∙ in_run) numbered in
      let asked : SyncRequest = write.0 in
      let told = heard-write past cluster.facts number carried member carried.message.incarnation sequence
      request leased asked good.fits.store.flight there is write.1 write.2.writes in
      let named : IsNamed m carried.message.incarnation sequence (past.asked request) =
      (subst (λ (x : Message).
      Answers (past_at_sending past.asked carried) cluster.facts.sent x.from x.to x.incarnation x.sequence x.body)
      is (good.fits.store.flight.answers number carried there)).named in
      let mine : IsNamed m carried.message.incarnation sequence (SyncQuery asked) =
      subst (λ (q : Query). IsNamed m carried.message.incarnation sequence q) write.1 named in
      record {
        number = number;
        key = sync_key_by m told.revision asked.aim;
        heard_is = heard;
        is = subst (λ (r : ℕ). past.flight number ≡ Some (SyncGranted (record {
          member = m;
          incarnation = r;
          sequence = sequence;
          key = sync_key_by m told.revision asked.aim;
        }))) in_run told.flying;
        asked = subst (λ (k : ℕ). IsAskedBy waited.question (sync_key_by k told.revision asked.aim)) mine.0
            (write.2.standbys told.revision);
      }

  granted-heard : (input : AgentInput) → input.heard ≡ Some number → (request : ℕ) (leased : Bool) (grant : Granted)
      → carried.message.body ≡ bodies.Granted request leased → carried.grant ≡ Some grant
      → HearsGranted (state_of_run head book cluster) member.id.number input.heard carried.message.sequence grant
      (snapshot_in cluster carried) agent.knows
  granted-heard input heard request leased grant body given =
      let told = heard-granted (lease_past.past_of book) cluster.facts number carried member
      carried.message.incarnation carried.message.sequence request leased good.lease.matched.flight there
      (says (bodies.Granted request leased) body tt) in
      let same : record { revision = told.revision; by = member.id; leased = leased } ≡ grant =
      some-is _ grant (sym told.grant ∙ given) in
      record {
        lease = λ awaited.
            let leases : leased ≡ true = ap (λ (g : Granted). g.leased) same
            ∙ and-first grant.leased (grant.by.number == agent.knows.who.me.number) awaited.mine in
            lease-heard input heard request grant (body ∙ ap (λ (b : Bool). bodies.Granted request b) leases) given;
        write = λ awaited. write-heard input heard request leased body awaited.waited awaited.is awaited.decision;
      }

  -- what comes to an agent is heard so by the law
  pub hears-commits : (machine : Machine) (heard : Heard) → heard_from cluster carried ≡ Some heard
      → (input : AgentInput) → input.heard ≡ Some number
      → HearsToCommit (state_of_run head book cluster) member.id.number input heard
      (outcome_from agent.role agent.knows machine [])
  hears-commits machine heard is input by =
      heard-all cluster carried
      (λ (h : Heard). HearsToCommit (state_of_run head book cluster) member.id.number input h
      (outcome_from agent.role agent.knows machine []))
      (λ body. snapshot-heard input by body)
      (λ request leased grant body given. granted-heard input by request leased grant body given)
      (λ key expected. tt) (λ from. tt) (λ answer. tt) (λ from ttl. tt) (λ from accepted. tt)
      carried.message.body refl heard is

  -- synchronous mode is on in the snapshot that comes with it, and no pause
  pub hears-on : (heard : Heard) → heard_from cluster carried ≡ Some heard → HearsSynchronousMode heard
  hears-on heard is =
      let told = good.fits.mode.flight number carried there in
      let found : Option KeyEntry = find key_cmp keys.Config carried.snapshot in
      let calm = unpaused-told cluster number carried good.lease.matched.unpaused there in
      heard-all cluster carried HearsSynchronousMode
      (λ body. record {
        synchronous = on-is found (subst (λ (b : Body). IsSynchronousTold b carried.snapshot) body told);
        unpaused = calm;
      })
      (λ request leased grant body given. record {
        synchronous = on-is found (subst (λ (b : Body). IsSynchronousTold b carried.snapshot) body told);
        unpaused = calm;
      })
      (λ key expected. tt) (λ from. tt) (λ answer. tt) (λ from ttl. tt)
      (λ from accepted. tt) carried.message.body refl heard is

  -- and its sync key names members
  pub hears-below : (heard : Heard) → heard_from cluster carried ≡ Some heard → HearsBelow (member_count head) heard
  hears-below heard is =
      let below = below-is (member_count head) strict_quorum (find key_cmp keys.Sync carried.snapshot)
      (good.fits.told number carried there) in
      heard-all cluster carried (HearsBelow (member_count head)) (λ body. below)
      (λ request leased grant body given. below) (λ key expected. tt) (λ from. tt) (λ answer. tt)
      (λ from ttl. tt) (λ from accepted. tt) carried.message.body refl heard is
