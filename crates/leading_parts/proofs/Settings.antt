-- The configuration and the failover key, which only operators write.
use Rattle.std.proofs.Common.{ℕ, ◌≡◌, ◌+◌, ◌++◌, List, Option, Some, None, refl, ◌∙◌, ap, subst, sym}
use Rattle.std.specs.FinMap.{find}
use Rattle.pat_base.specs.declared.lsn.Lsn.{Lsn}
use Rattle.pat_base.specs.declared.member_id.MemberId.{MemberId}
use Rattle.pat_base.specs.declared.member_set.MemberSet.{MemberSet}
use Rattle.pat_base.specs.declared.ticks.Ticks.{Ticks}
use Rattle.store_keys.specs.declared.key.Key.{Key}
use Rattle.store_keys.specs.declared.key.Key.TheVariants as keys
use Rattle.store_keys.specs.declared.txn.Txn.{Txn}
use Rattle.store_keys.specs.declared.txn.Txn.TheVariants as txns
use Rattle.store_keys.specs.declared.txn.LeaseTxn.TheVariants as lease_txns
use Rattle.store_keys.specs.declared.txn.OperatorTxn.TheVariants as operator_txns
use Rattle.store_keys.specs.declared.txn.SyncTxn.TheVariants as sync_txns
use Rattle.store_keys.specs.declared.value.HistoryRow.{HistoryRow}
use Rattle.store_keys.specs.declared.value.KeyEntry.{KeyEntry}
use Rattle.lease_store.specs.Decision.{Decision, Grant, Refusal, decision_on}
use Rattle.lease_store.specs.Kept.{IsLasting}
use Rattle.lease_store.specs.KeyOrder.{key_cmp}
use Rattle.lease_store.specs.Answers.{present_pairs}
use Rattle.lease_store.specs.Keys.{Keys, present}
use Rattle.lease_store.specs.Writes.{Write, writes_of, status_writes, row_writes, failsafe_writes}
use Rattle.lease_store.proofs.Keeping.{find_present}
use Rattle.lease_store.proofs.OneKey.{find_all_written, found_after_all}
use Rattle.lease_law.proofs.Configurations.{SetsConfig, config-after}
use Rattle.script_model.specs.Script.{HeadText}
use Rattle.event_book.specs.declared.event.EventKind.TheVariants as kinds
use Rattle.event_book.specs.declared.link.LinkEnd.TheVariants as ends
use Rattle.event_book.specs.declared.member.Member.{Member}
use Rattle.event_book.specs.declared.message.Body.TheVariants as bodies
use Rattle.event_book.specs.declared.message.Message.{Message}
use Rattle.event_book.specs.Flight.{InFlightFacts, in_flight}
use Rattle.event_book.specs.Kinds.{AllAre}
use Rattle.cluster_model.specs.Cluster.{cluster_after, cluster_over}
use Rattle.cluster_model.specs.Messages.{answer_events, answer_message, arrival_events_at, decision_body, decision_kind}
use Rattle.cluster_model.specs.State.{Cluster}
use Rattle.lease_owners.specs.Kept.{IsOwned}
use Rattle.leading_parts.specs.Alone.{IsOwnRequest}
use Rattle.leading_parts.specs.Holding.{GrantsNoOperator, IsUnasked, LeavesSettings}
use Rattle.leading_parts.proofs.Arrivals.{sent-keys}
use Rattle.lease_owners.proofs.ToStore.{Answering, Behind, Decided, Later, Question, to-store}

abbrev StaysAbsent : Key → ℕ → ℕ → List Write → Type 0
StaysAbsent key revision now writes = found_after_all revision now key None writes ≡ None

carried-unasked : (revision now : ℕ) (status : Option Lsn) (row : Option HistoryRow) (failsafe : Option MemberSet)
    → (let writes : List Write = status_writes status ++ (row_writes row ++ failsafe_writes failsafe) in
    StaysAbsent keys.Failover revision now writes × StaysAbsent keys.Scheduled revision now writes)
carried-unasked revision now None None None = (refl, refl)
carried-unasked revision now None None (Some members) = (refl, refl)
carried-unasked revision now None (Some row) None = (refl, refl)
carried-unasked revision now None (Some row) (Some members) = (refl, refl)
carried-unasked revision now (Some end) None None = (refl, refl)
carried-unasked revision now (Some end) None (Some members) = (refl, refl)
carried-unasked revision now (Some end) (Some row) None = (refl, refl)
carried-unasked revision now (Some end) (Some row) (Some members) = (refl, refl)

own-unasked : (revision now : ℕ) (by : MemberId) (txn : Txn) → IsOwnRequest txn
    → StaysAbsent keys.Failover revision now (writes_of by txn)
    × StaysAbsent keys.Scheduled revision now (writes_of by txn)
own-unasked revision now by (txns.Lease (lease_txns.Renew compared info ttl status row failsafe)) own =
    carried-unasked revision now status row failsafe
own-unasked revision now by (txns.Sync (sync_txns.Claim compared sync)) own = (refl, refl)
own-unasked revision now by (txns.Sync (sync_txns.SetSync compared sync standbys quorum)) own = (refl, refl)
own-unasked revision now by (txns.Sync (sync_txns.DropSync compared sync)) own = (refl, refl)
own-unasked revision now by (txns.Operators (operator_txns.SetFailover failover ttl)) own = absurd own
own-unasked revision now by (txns.Operators (operator_txns.SetConfig compared config)) own = absurd own
own-unasked revision now by (txns.Operators (operator_txns.Schedule planned)) own = absurd own
own-unasked revision now by (txns.Operators (operator_txns.Fire compared scheduled failover ttl)) own = absurd own
own-unasked revision now by _ own = (refl, refl)

own-sets : (H : Option KeyEntry → Type 0) (revision now : ℕ) (by : MemberId) (found : Option KeyEntry) (txn : Txn)
    → IsOwnRequest txn → SetsConfig H revision now by found txn
own-sets H revision now by found (txns.Operators (operator_txns.SetConfig compared config)) own = absurd own
own-sets H revision now by found _ own = tt

own-config : (revision now : ℕ) (by : MemberId) (found : Option KeyEntry) (txn : Txn) → IsOwnRequest txn
    → found_after_all revision now keys.Config found (writes_of by txn) ≡ found
own-config revision now by found txn own = config-after (λ o. o ≡ found) revision now by txn found
    (own-sets (λ o. o ≡ found) revision now by found txn own) refl

same-keys : (before after : Cluster) → after.facts.keys ≡ before.facts.keys → LeavesSettings before after
same-keys before after same = record {
  config = ap (λ (k : Keys). find key_cmp keys.Config k.pairs) same;
  unasked = subst (λ (k : Keys). IsUnasked k.pairs) (sym same);
}

module _ (cluster : Cluster) (number : ℕ) where
  answering-leaves : (by : Member) (message : Message) (txn : Txn) (decision : Decision)
      → GrantsNoOperator (decision_kind cluster.facts.members number by txn decision)
      → LeavesSettings cluster (Answering cluster number message by txn decision)
  answering-leaves by message txn Grant none =
      let own : IsOwnRequest txn = none in
      let same =
      sent-keys (Decided cluster number by txn Grant) (answer_message message (decision_body number txn Grant)) in
      let next : ℕ = cluster.facts.keys.revision + 1 in
      let pairs = cluster.facts.keys.pairs in
      record {
        config = ap (λ (k : Keys). find key_cmp keys.Config k.pairs) same
            ∙ find_all_written next cluster.facts.clock keys.Config pairs (writes_of by.id txn)
            ∙ own-config next cluster.facts.clock by.id (find key_cmp keys.Config pairs) txn own;
        unasked = λ absent. record {
          failover = ap (λ (k : Keys). find key_cmp keys.Failover k.pairs) same
              ∙ find_all_written next cluster.facts.clock keys.Failover pairs (writes_of by.id txn)
              ∙ ap (λ (found : Option KeyEntry).
              found_after_all next cluster.facts.clock keys.Failover found (writes_of by.id txn)) absent.failover
              ∙ (own-unasked next cluster.facts.clock by.id txn own).0;
          scheduled = ap (λ (k : Keys). find key_cmp keys.Scheduled k.pairs) same
              ∙ find_all_written next cluster.facts.clock keys.Scheduled pairs (writes_of by.id txn)
              ∙ ap (λ (found : Option KeyEntry).
              found_after_all next cluster.facts.clock keys.Scheduled found (writes_of by.id txn)) absent.scheduled
              ∙ (own-unasked next cluster.facts.clock by.id txn own).1;
        };
      }
  answering-leaves by message txn (Refusal key there) none =
      same-keys cluster (Answering cluster number message by txn (Refusal key there))
      (sent-keys (Decided cluster number by txn (Refusal key there))
      (answer_message message (decision_body number txn (Refusal key there))))

pub settings-left : (head : HeadText) (cluster : Cluster) (number : ℕ) (carried : InFlightFacts)
    → IsOwned head cluster → in_flight cluster.facts.flight number ≡ Some carried → carried.message.to ≡ ends.Store
    → AllAre GrantsNoOperator (arrival_events_at cluster number carried ends.Store)
    → LeavesSettings cluster (cluster_over cluster (arrival_events_at cluster number carried ends.Store))
settings-left head cluster number carried good found to none =
    to-store (λ m. AllAre GrantsNoOperator (answer_events (Later cluster number) number m) →
    LeavesSettings cluster (Behind cluster number m))
    (λ by incarnation sequence all. same-keys cluster _
    (sent-keys (Later cluster number) (answer_message (Question by incarnation sequence bodies.Read) bodies.Snapshot)))
    (λ by incarnation sequence txn addressed all.
    answering-leaves cluster number by (Question by incarnation sequence (bodies.Request txn)) txn
    (decision_on cluster.facts.keys cluster.facts.clock txn) all.0)
    carried.message to (good.facts.sent number carried found).0.addressed none.1

lasting-present : (now : ℕ) (found : Option KeyEntry) → IsLasting found → present now found ≡ found
lasting-present now None lasts = absurd lasts
lasting-present now (Some stored) lasts = ap (λ (x : Option Ticks). present now (Some (record {
  value = stored.value;
  revision = stored.revision;
  expiry = x;
}))) lasts ∙ ap (λ (x : Option Ticks). let one : KeyEntry = record {
  value = stored.value;
  revision = stored.revision;
  expiry = x;
} in Some one) (sym lasts)

pub settings-ticked : (head : HeadText) (cluster : Cluster) → IsOwned head cluster
    → LeavesSettings cluster (cluster_after cluster kinds.Tick)
settings-ticked head cluster good =
    let now : ℕ = cluster.facts.clock + 1 in
    let kept = good.facts.store.kept in
    record {
      config = find_present now keys.Config cluster.facts.keys.pairs kept.order
          ∙ lasting-present now (find key_cmp keys.Config cluster.facts.keys.pairs) kept.config;
      unasked = λ none. record {
        failover = find_present now keys.Failover cluster.facts.keys.pairs kept.order ∙ ap (present now) none.failover;
        scheduled =
            find_present now keys.Scheduled cluster.facts.keys.pairs kept.order ∙ ap (present now) none.scheduled;
      };
    }

-- what the key store shows of them now
pub settings-shown : (head : HeadText) (cluster : Cluster) → IsOwned head cluster
    → find key_cmp keys.Config (present_pairs cluster.facts.clock cluster.facts.keys.pairs)
    ≡ find key_cmp keys.Config cluster.facts.keys.pairs
settings-shown head cluster good =
    let now : ℕ = cluster.facts.clock in
    let kept = good.facts.store.kept in
    find_present now keys.Config cluster.facts.keys.pairs kept.order
    ∙ lasting-present now (find key_cmp keys.Config cluster.facts.keys.pairs) kept.config

pub failover-shown : (head : HeadText) (cluster : Cluster) → IsOwned head cluster
    → find key_cmp keys.Failover cluster.facts.keys.pairs ≡ None
    → find key_cmp keys.Failover (present_pairs cluster.facts.clock cluster.facts.keys.pairs) ≡ None
failover-shown head cluster good none =
    find_present cluster.facts.clock keys.Failover cluster.facts.keys.pairs good.facts.store.kept.order
    ∙ ap (present cluster.facts.clock) none
