-- What comes to the key store: it leaves the leader key, or renews it, and is answered.
use Rattle.std.proofs.Common.{ℕ, ◌≡◌, ◌+◌, ◌<◌, ◌++◌, nat_le, max, Bool, true, false, List, length, Option, Some, refl, ◌∙◌, ap, sym, subst, arith}
use Rattle.std.proofs.lemmas.Bool.Decides.{nat_tests}
use Rattle.std.specs.FinMap.{find}
use Rattle.std.specs.Ordering.{nat_cmp}
use Rattle.std.specs.BTreeMap.{insert_entry}
use Rattle.pat_base.specs.declared.lsn.Lsn.{Lsn}
use Rattle.pat_base.specs.declared.member_set.MemberSet.{MemberSet}
use Rattle.pat_base.specs.declared.ticks.Ticks.{Ticks}
use Rattle.store_keys.specs.declared.key.Key.TheVariants as keys
use Rattle.store_keys.specs.declared.txn.Txn.{Txn}
use Rattle.store_keys.specs.declared.txn.Txn.TheVariants as txns
use Rattle.store_keys.specs.declared.txn.LeaseTxn.TheVariants as lease_txns
use Rattle.store_keys.specs.declared.value.HistoryRow.{HistoryRow}
use Rattle.store_keys.specs.declared.value.KeyEntry.{KeyEntry}
use Rattle.store_keys.specs.declared.value.MemberInfo.{MemberInfo}
use Rattle.lease_store.specs.Answers.{present_pairs}
use Rattle.lease_store.specs.Decision.{Decision, Grant, Refusal, decision_on}
use Rattle.lease_store.specs.KeyOrder.{key_cmp}
use Rattle.lease_store.specs.Keys.{Keys}
use Rattle.lease_store.specs.Writes.{keys_after_grant}
use Rattle.lease_store.proofs.Keeping.{find_present, kept_after}
use Rattle.lease_store.proofs.OneKey.{find_leader_after, renewed as entry_renewed}
use Rattle.script_model.specs.Script.{HeadText}
use Rattle.event_book.specs.declared.event.Event.{Event}
use Rattle.event_book.specs.declared.event.EventKind.TheVariants as kinds
use Rattle.event_book.specs.declared.event.MessageEvent.TheVariants.{Delivered, Sent}
use Rattle.event_book.specs.declared.link.LinkEnd.{LinkEnd}
use Rattle.event_book.specs.declared.link.LinkEnd.TheVariants as ends
use Rattle.event_book.specs.declared.member.Member.{Member}
use Rattle.event_book.specs.declared.message.Body.{Body}
use Rattle.event_book.specs.declared.message.Body.TheVariants as bodies
use Rattle.event_book.specs.declared.message.Message.{Message}
use Rattle.event_book.specs.Flight.{Flight, InFlightFacts, in_flight, launched, snapshot_for, without_message}
use Rattle.cluster_model.specs.Cluster.{cluster_after, cluster_over}
use Rattle.cluster_model.specs.Limits.{most_in_flight}
use Rattle.cluster_model.specs.Messages.{answer_events, answer_message, arrival_events_at, decision_body, decision_events, decision_kind, lost_at_once, send_events}
use Rattle.cluster_model.specs.Parts.{event_of, events_of}
use Rattle.cluster_model.specs.State.{Cluster}
use Rattle.lease_model.specs.Leases.{LeaderKey}
use Rattle.lease_model.specs.Stores.{leader_key_of}
use Rattle.lease_model.proofs.Tools.{dropped, put-all, put-here, some-is}
use Rattle.lease_book.specs.Flights.{Rises}
use Rattle.lease_book.proofs.Entries.{in-with, in-without, rises-with, rises-without}
use Rattle.lease_owners.specs.Kept.{IsOwned}
use Rattle.lease_owners.specs.Asking.{AsksFor}
use Rattle.lease_owners.proofs.Entry.{IsEntryOf, granted-leaves}
use Rattle.lease_owners.proofs.ToStore.{Answering, Behind, Decided, Later, Next, Question, to-store}
use Rattle.leading_parts.specs.Holding.{HasKey, HasRoom, IsAnswered, IsMemberOf, IsRenewal, LeavesKey, NoneAsks, ShowsKey, renewed_key}
use Rattle.leading_parts.proofs.Askers.{asker-of, asks-own}
use Rattle.leading_parts.proofs.Entry.{entry-there, is-found, is-shown, not-expired, renewal-granted, shown-in}

-- ---- a message that is sent
abbrev Lost : Cluster → Bool → ℕ → Cluster
Lost cluster test number = cluster_over cluster (events_of cluster (lost_at_once test number))

lost-keys : (cluster : Cluster) (test : Bool) (number : ℕ) → (Lost cluster test number).facts.keys ≡ cluster.facts.keys
lost-keys cluster true number = refl
lost-keys cluster false number = refl

abbrev Full : Cluster → Bool
Full cluster = nat_le most_in_flight (length cluster.facts.flight)

pub sent-keys : (cluster : Cluster) (message : Message)
    → (cluster_over cluster (send_events cluster message)).facts.keys ≡ cluster.facts.keys
sent-keys cluster message = lost-keys (Next cluster message) (Full cluster) (cluster.facts.sent + 1)

pub sent-whole : (cluster : Cluster) (message : Message) → Full cluster ≡ false
    → cluster_over cluster (send_events cluster message) ≡ Next cluster message
sent-whole cluster message room = ap (λ (b : Bool). Lost (Next cluster message) b (cluster.facts.sent + 1)) room

-- the answer is in flight
sent-answer : (cluster : Cluster) (question : Message) (body : Body) (key : LeaderKey) → Full cluster ≡ false
    → ShowsKey key (snapshot_for body (present_pairs cluster.facts.clock cluster.facts.keys.pairs))
    → IsAnswered question body key (cluster.facts.sent + 1)
    (cluster_over cluster (send_events cluster (answer_message question body)))
sent-answer cluster question body key room shows =
    let message : Message = answer_message question body in
    let number : ℕ = cluster.facts.sent + 1 in
    let carried : InFlightFacts = launched cluster.facts.clock cluster.facts.keys message in
    subst (IsAnswered question body key number) (sym (sent-whole cluster message room)) (record {
      carried = carried;
      is = in-with cluster.facts.flight number carried number
          ∙ put-here (in_flight cluster.facts.flight) number (Some carried);
      message = refl;
      sent = refl;
      shows = shows;
      taken = refl;
      grant = refl;
    })

-- ---- nothing is asked more
none-with : (revision : ℕ) (flight : Flight) (number : ℕ) (carried : InFlightFacts)
    → (AsksFor revision carried.message.body → ⊥) → NoneAsks revision flight
    → NoneAsks revision (insert_entry nat_cmp flight number carried)
none-with revision flight number carried other none i one is =
    put-all (in_flight flight) number (Some carried)
    (λ n o. (c : InFlightFacts) → o ≡ Some c → AsksFor revision c.message.body → ⊥)
    (λ c same asks.
    other (subst (λ (x : InFlightFacts). AsksFor revision x.message.body) (sym (some-is carried c same)) asks))
    (λ n apart c found. none n c found) i one (sym (in-with flight number carried i) ∙ is)

none-without : (revision : ℕ) (flight : Flight) (number : ℕ) → Rises 0 flight → NoneAsks revision flight
    → NoneAsks revision (without_message flight number)
none-without revision flight number rises none i one is =
    none i one (dropped (in_flight flight) number i one (sym (in-without 0 flight number i rises) ∙ is))

none-lost : (revision : ℕ) (cluster : Cluster) (test : Bool) (number : ℕ) → Rises 0 cluster.facts.flight
    → NoneAsks revision cluster.facts.flight → NoneAsks revision (Lost cluster test number).facts.flight
none-lost revision cluster true number rises none = none-without revision cluster.facts.flight number rises none
none-lost revision cluster false number rises none = none

none-sent : (revision : ℕ) (cluster : Cluster) (message : Message) → (AsksFor revision message.body → ⊥)
    → Rises 0 cluster.facts.flight → NoneAsks revision cluster.facts.flight
    → NoneAsks revision (cluster_over cluster (send_events cluster message)).facts.flight
none-sent revision cluster message other rises none =
    let number : ℕ = cluster.facts.sent + 1 in
    let carried : InFlightFacts = launched cluster.facts.clock cluster.facts.keys message in
    none-lost revision (Next cluster message) (Full cluster) number
    (rises-with 0 cluster.facts.flight number carried (omega arith) rises)
    (none-with revision cluster.facts.flight number carried other none)

abbrev Leader : Cluster → Option KeyEntry
Leader cluster = find key_cmp keys.Leader cluster.facts.keys.pairs

module _ (head : HeadText) (cluster : Cluster) (key : LeaderKey) (number : ℕ)
    (carried : InFlightFacts) (good : IsOwned head cluster) (has : HasKey key cluster)
    (found : in_flight cluster.facts.flight number ≡ Some carried) where
  decided-leaves : (by : Member) (message : Message) (txn : Txn) (decision : Decision)
      → decision_on cluster.facts.keys cluster.facts.clock txn ≡ decision
      → (AsksFor key.revision (bodies.Request txn) → ⊥)
      → LeavesKey cluster (Answering cluster number message by txn decision)
  decided-leaves by message txn Grant decides other =
      ap (λ (k : Keys). find key_cmp keys.Leader k.pairs)
      (sent-keys (Decided cluster number by txn Grant) (answer_message message (decision_body number txn Grant)))
      ∙ find_leader_after cluster.facts.keys cluster.facts.clock by.id txn
      ∙ granted-leaves cluster.facts.keys cluster.facts.clock key
      (is-found head cluster key good has) by.id txn (Leader cluster) decides other
  decided-leaves by message txn (Refusal first there) decides other =
      ap (λ (k : Keys). find key_cmp keys.Leader k.pairs)
      (sent-keys (Decided cluster number by txn (Refusal first there))
      (answer_message message (decision_body number txn (Refusal first there))))

  -- who asks neither for the renewal of the key nor for its release leaves it
  pub stays-left : carried.message.to ≡ ends.Store → (AsksFor key.revision carried.message.body → ⊥)
      → LeavesKey cluster (Behind cluster number carried.message)
  stays-left to other =
      to-store (λ m. (AsksFor key.revision m.body → ⊥) → LeavesKey cluster (Behind cluster number m))
      (λ by incarnation sequence none. ap (λ (k : Keys). find key_cmp keys.Leader k.pairs)
      (sent-keys (Later cluster number)
      (answer_message (Question by incarnation sequence bodies.Read) bodies.Snapshot)))
      (λ by incarnation sequence txn addressed none.
      decided-leaves by (Question by incarnation sequence (bodies.Request txn)) txn
      (decision_on cluster.facts.keys cluster.facts.clock txn) refl none)
      carried.message to (good.facts.sent number carried found).0.addressed other

  pub others-leave : carried.message.to ≡ ends.Store → (IsMemberOf key.holder carried.message.from → ⊥)
      → LeavesKey cluster (Behind cluster number carried.message)
  others-leave to other =
      stays-left to (λ asks. other (asks-own head cluster good number carried found key has asks))

-- ---- nothing is asked
answer-none : (revision number : ℕ) (txn : Txn) (decision : Decision)
    → AsksFor revision (decision_body number txn decision) → ⊥
answer-none revision number txn Grant asks = asks
answer-none revision number txn (Refusal key there) asks = asks

decided-rises : (cluster : Cluster) (number : ℕ) (by : Member) (txn : Txn) (decision : Decision)
    → Rises 0 cluster.facts.flight → Rises 0 (Decided cluster number by txn decision).facts.flight
decided-rises cluster number by txn Grant rises = rises-without 0 cluster.facts.flight number rises
decided-rises cluster number by txn (Refusal key there) rises = rises-without 0 cluster.facts.flight number rises

decided-none : (revision : ℕ) (cluster : Cluster) (number : ℕ) (by : Member) (txn : Txn) (decision : Decision)
    → Rises 0 cluster.facts.flight → NoneAsks revision cluster.facts.flight
    → NoneAsks revision (Decided cluster number by txn decision).facts.flight
decided-none revision cluster number by txn Grant rises none =
    none-without revision cluster.facts.flight number rises none
decided-none revision cluster number by txn (Refusal key there) rises none =
    none-without revision cluster.facts.flight number rises none

answering-none : (revision : ℕ) (cluster : Cluster) (number : ℕ) (message : Message) (by : Member) (txn : Txn)
    (decision : Decision) → Rises 0 cluster.facts.flight → NoneAsks revision cluster.facts.flight
    → NoneAsks revision (Answering cluster number message by txn decision).facts.flight
answering-none revision cluster number message by txn decision rises none =
    none-sent revision (Decided cluster number by txn decision)
    (answer_message message (decision_body number txn decision)) (answer-none revision number txn decision)
    (decided-rises cluster number by txn decision rises)
    (decided-none revision cluster number by txn decision rises none)

pub brought-none : (head : HeadText) (cluster : Cluster) (revision number : ℕ)
    (carried : InFlightFacts) → IsOwned head cluster
    → in_flight cluster.facts.flight number ≡ Some carried → carried.message.to ≡ ends.Store
    → NoneAsks revision cluster.facts.flight
    → NoneAsks revision (cluster_over cluster (arrival_events_at cluster number carried ends.Store)).facts.flight
brought-none head cluster revision number carried good found to none =
    let rises = good.facts.order in
    to-store (λ m. NoneAsks revision (Behind cluster number m).facts.flight)
    (λ by incarnation sequence. none-sent revision (Later cluster number)
    (answer_message (Question by incarnation sequence bodies.Read) bodies.Snapshot) (λ asks. asks)
    (rises-without 0 cluster.facts.flight number rises) (none-without revision cluster.facts.flight number rises none))
    (λ by incarnation sequence txn addressed.
    answering-none revision cluster number (Question by incarnation sequence (bodies.Request txn)) by txn
    (decision_on cluster.facts.keys cluster.facts.clock txn) rises none)
    carried.message to (good.facts.sent number carried found).0.addressed

-- ---- the holder is answered in place
not-full : (most count : ℕ) → count < most → nat_le most count ≡ false
not-full most count less = grind (arith, nat_tests, less)

module _ (head : HeadText) (cluster : Cluster) (key : LeaderKey) (number : ℕ)
    (carried : InFlightFacts) where
  pub reads-answered : IsOwned head cluster → HasKey key cluster
      → in_flight cluster.facts.flight number ≡ Some carried → carried.message.to ≡ ends.Store
      → carried.message.body ≡ bodies.Read → HasRoom cluster number
      → IsAnswered carried.message bodies.Snapshot key (cluster.facts.sent + 1)
      (cluster_over cluster (arrival_events_at cluster number carried ends.Store))
  reads-answered good has found to says room =
      to-store (λ m. m.body ≡ bodies.Read →
      IsAnswered m bodies.Snapshot key (cluster.facts.sent + 1) (Behind cluster number m))
      (λ by incarnation sequence same. sent-answer (Later cluster number) (Question by incarnation sequence bodies.Read)
      bodies.Snapshot key (not-full most_in_flight _ room) (is-shown head cluster key good has))
      (λ by incarnation sequence txn addressed same. absurd (apart txn same))
      carried.message to (good.facts.sent number carried found).0.addressed says
    where
      apart : (txn : Txn) → bodies.Request txn ≡ bodies.Read → ⊥
      apart txn e = cc

entry-extended : (now revision ttl : ℕ) (key : LeaderKey) (found : Option KeyEntry) → IsEntryOf key found
    → leader_key_of (entry_renewed revision (now + ttl) found)
    ≡ Some (record { holder = key.holder; revision = revision; expiry = max key.expiry (now + ttl) })
entry-extended now revision ttl key found entry =
    ap (λ (o : Option KeyEntry). leader_key_of (entry_renewed revision (now + ttl) o)) entry.is
    ∙ ap (λ (h : ℕ). let one : LeaderKey =
    record { holder = h; revision = revision; expiry = max entry.expiry.0 (now + ttl) } in Some one)
    entry.holder
    ∙ ap (λ (e : ℕ). let one : LeaderKey =
    record { holder = key.holder; revision = revision; expiry = max e (now + ttl) } in Some one)
    entry.until

module _ (head : HeadText) (cluster : Cluster) (good : IsOwned head cluster) where
  -- nobody asks for a revision that isn't given yet
  fresh-none : NoneAsks (cluster.facts.keys.revision + 1) cluster.facts.flight
  fresh-none i one found asks =
      let bound = (asker-of head cluster good i one found (cluster.facts.keys.revision + 1) asks).own.bound in
      absurd (omega (arith, bound))

module _ (head : HeadText) (cluster : Cluster) (key : LeaderKey) (number : ℕ)
    (carried : InFlightFacts) (info : MemberInfo) (ttl : Ticks) (status : Option Lsn)
    (row : Option HistoryRow) (failsafe : Option MemberSet) where
  abbrev Renewal : Txn
  Renewal = txns.Lease (lease_txns.Renew key.revision info ttl status row failsafe)

  renewed-by : IsOwned head cluster → HasKey key cluster → (by : Member) (incarnation sequence : ℕ)
      → HasRoom cluster number
      → IsRenewal (Question by incarnation sequence (bodies.Request Renewal)) number ttl.0 key cluster
      (Answering cluster number (Question by incarnation sequence (bodies.Request Renewal)) by Renewal Grant)
  renewed-by good has by incarnation sequence room =
      let question : Message = Question by incarnation sequence (bodies.Request Renewal) in
      let decided : Cluster = Decided cluster number by Renewal Grant in
      let answer : Message = answer_message question (bodies.Granted number true) in
      let same = sent-keys decided answer in
      let next : ℕ = cluster.facts.keys.revision + 1 in
      let stored : Keys = keys_after_grant cluster.facts.keys cluster.facts.clock by.id Renewal in
      let kept = kept_after next cluster.facts.clock by.id Renewal cluster.facts.keys.pairs good.facts.store.kept in
      let there = ap leader_key_of (find_leader_after cluster.facts.keys cluster.facts.clock by.id Renewal)
      ∙ entry-extended cluster.facts.clock next ttl.0 key (Leader cluster)
      (entry-there head cluster key good has) in
      record {
        has = ap (λ (k : Keys). leader_key_of (find key_cmp keys.Leader k.pairs)) same ∙ there;
        granted = ap (λ (k : Keys). k.revision) same;
        answered = sent-answer decided question (bodies.Granted number true) (renewed_key cluster key ttl.0)
            (not-full most_in_flight _ room)
            (shown-in cluster.facts.clock (renewed_key cluster key ttl.0) stored
            (find_present cluster.facts.clock keys.Leader stored.pairs kept.order) there
            (omega (arith, not-expired head cluster key good has)));
        alone = answering-none next cluster number question by Renewal Grant good.facts.order
            (fresh-none head cluster good);
      }

  decided-renewal : (by : Member) (message : Message) (decision : Decision) → decision ≡ Grant
      → IsRenewal message number ttl.0 key cluster (Answering cluster number message by Renewal Grant)
      → IsRenewal message number ttl.0 key cluster (Answering cluster number message by Renewal decision)
  decided-renewal by message decision is renewal = subst
      (λ (d : Decision). IsRenewal message number ttl.0 key cluster (Answering cluster number message by Renewal d))
      (sym is) renewal

  pub renews-granted : IsOwned head cluster → HasKey key cluster
      → in_flight cluster.facts.flight number ≡ Some carried → carried.message.to ≡ ends.Store
      → carried.message.body ≡ bodies.Request Renewal → HasRoom cluster number
      → IsRenewal carried.message number ttl.0 key cluster
      (cluster_over cluster (arrival_events_at cluster number carried ends.Store))
  renews-granted good has found to says room =
      to-store (λ m. m.body ≡ bodies.Request Renewal → IsRenewal m number ttl.0 key cluster (Behind cluster number m))
      (λ by incarnation sequence same. absurd (apart same))
      (λ by incarnation sequence txn addressed same.
      subst (λ (t : Txn). IsRenewal (Question by incarnation sequence (bodies.Request t)) number ttl.0 key cluster
      (Behind cluster number (Question by incarnation sequence (bodies.Request t))))
      (sym (asked txn same))
      (decided-renewal by (Question by incarnation sequence (bodies.Request Renewal))
      (decision_on cluster.facts.keys cluster.facts.clock Renewal)
      (renewal-granted cluster.facts.keys cluster.facts.clock key.revision Renewal
      (is-found head cluster key good has) refl)
      (renewed-by good has by incarnation sequence room)))
      carried.message to (good.facts.sent number carried found).0.addressed says
    where
      apart : bodies.Read ≡ bodies.Request Renewal → ⊥
      apart e = cc

      asked : (txn : Txn) → bodies.Request txn ≡ bodies.Request Renewal → txn ≡ Renewal
      asked txn e = cc
