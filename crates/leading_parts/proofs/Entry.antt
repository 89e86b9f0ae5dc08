-- The leader key as an entry of the key store: it is present until its
-- expiry, and only a release, a renewal or a create writes it.
use Rattle.std.proofs.Common.{ℕ, ◌≡◌, ◌+◌, ◌<◌, ◌==◌, nat_lt, Bool, true, false, cond, List, [], ◌∷◌, Option, Some, None, refl, ◌∙◌, ap, sym, subst, arith}
use Rattle.std.proofs.lemmas.Bool.Decides.{nat_tests}
use Rattle.std.specs.FinMap.{find}
use Rattle.pat_base.specs.declared.member_id.MemberId.{MemberId}
use Rattle.pat_base.specs.declared.ticks.Ticks.{Ticks}
use Rattle.store_keys.specs.declared.key.Key.{Key}
use Rattle.store_keys.specs.declared.key.Key.TheVariants as keys
use Rattle.store_keys.specs.declared.txn.Txn.{Txn}
use Rattle.store_keys.specs.declared.txn.Txn.TheVariants as txns
use Rattle.store_keys.specs.declared.txn.LeaseTxn.TheVariants as lease_txns
use Rattle.store_keys.specs.declared.txn.Expected.{Expected}
use Rattle.store_keys.specs.declared.txn.Expected.TheVariants.{Absent, Revision}
use Rattle.store_keys.specs.declared.value.KeyEntry.{KeyEntry}
use Rattle.store_keys.specs.declared.value.Value.{Value}
use Rattle.store_keys.specs.declared.value.Value.TheVariants as values
use Rattle.lease_store.specs.Answers.{present_pairs}
use Rattle.lease_store.specs.Decision.{Decision, Grant, Refusal, decision_by, decision_if, decision_on, compares_of, found_in, is_as_expected}
use Rattle.lease_store.specs.KeyOrder.{key_cmp}
use Rattle.lease_store.specs.Keys.{Keys, key_in, present}
use Rattle.lease_store.proofs.Keeping.{find_present}
use Rattle.lease_store.proofs.OneKey.{leader_after}
use Rattle.cluster_view.specs.Snapshots.{found_by, leader_by}
use Rattle.script_model.specs.Script.{HeadText}
use Rattle.event_book.specs.declared.event.Event.{Event}
use Rattle.event_book.specs.declared.event.EventKind.TheVariants as kinds
use Rattle.cluster_model.specs.Cluster.{cluster_after}
use Rattle.cluster_model.specs.State.{Cluster}
use Rattle.lease_model.specs.Leases.{LeaderKey}
use Rattle.lease_model.specs.Stores.{leader_key_of, leader_value}
use Rattle.lease_model.proofs.Tools.{eq-from, none-some, some-is}
use Rattle.lease_owners.specs.Kept.{IsOwned}
use Rattle.lease_owners.proofs.Entry.{IsEntryOf, entry-found, entry-of, entry-present}
use Rattle.leading_parts.specs.Holding.{HasKey, LeavesKey, ShowsKey}

-- what it shows
entry-leader : (key : LeaderKey) (entries : List (Key × KeyEntry))
    → IsEntryOf key (find key_cmp keys.Leader entries) → ShowsKey key entries
entry-leader key entries entry = record {
  leader = record { holder = entry.member; revision = key.revision };
  is = ap (found_by leader_by) entry.is;
  holder = entry.holder;
  revision = refl;
}

equal-is : (n : ℕ) → (n == n) ≡ true
equal-is n = grind (arith, nat_tests)

pub renewal-granted : (store : Keys) (now revision : ℕ) (txn : Txn)
    → found_in (key_in store.pairs now keys.Leader) ≡ Revision revision
    → compares_of txn ≡ (keys.Leader, Revision revision) ∷ [] → decision_on store now txn ≡ Grant
renewal-granted store now revision txn there compares =
    ap (decision_by store.pairs now) compares
    ∙ ap (λ (b : Bool). decision_if b keys.Leader (found_in (key_in store.pairs now keys.Leader)) Grant)
    (ap (is_as_expected (Revision revision)) there ∙ equal-is revision)

-- ---- in a cluster between two parts of a step
module _ (head : HeadText) (cluster : Cluster) (key : LeaderKey)
    (good : IsOwned head cluster) (has : HasKey key cluster) where
  abbrev Found : Option KeyEntry
  Found = find key_cmp keys.Leader cluster.facts.keys.pairs

  pub entry-there : IsEntryOf key Found
  entry-there = entry-of Found key has

  -- it has not expired
  pub not-expired : cluster.facts.clock < key.expiry
  not-expired = subst (λ (now : ℕ). now < key.expiry) good.facts.store.clock
      (good.facts.store.present key (good.facts.store.leader ∙ has))

  pub is-found : found_in (key_in cluster.facts.keys.pairs cluster.facts.clock keys.Leader) ≡ Revision key.revision
  is-found = ap found_in (entry-present cluster.facts.clock key Found entry-there not-expired)
      ∙ entry-found key Found entry-there

  pub is-shown : ShowsKey key (present_pairs cluster.facts.clock cluster.facts.keys.pairs)
  is-shown = entry-leader key (present_pairs cluster.facts.clock cluster.facts.keys.pairs)
      (subst (IsEntryOf key)
      (sym (find_present cluster.facts.clock keys.Leader cluster.facts.keys.pairs good.facts.store.kept.order
      ∙ entry-present cluster.facts.clock key Found entry-there not-expired))
      entry-there)

-- entries that have the key show it
pub shown-in : (now : ℕ) (key : LeaderKey) (store : Keys)
    → find key_cmp keys.Leader (present_pairs now store.pairs) ≡ key_in store.pairs now keys.Leader
    → leader_key_of (find key_cmp keys.Leader store.pairs) ≡ Some key → now < key.expiry
    → ShowsKey key (present_pairs now store.pairs)
shown-in now key store through is before =
    let found : Option KeyEntry = find key_cmp keys.Leader store.pairs in
    let entry = entry-of found key is in
    entry-leader key (present_pairs now store.pairs)
    (subst (IsEntryOf key) (sym (through ∙ entry-present now key found entry before)) entry)

pub tick-leaves : (head : HeadText) (cluster : Cluster) (key : LeaderKey)
    → IsOwned head cluster → HasKey key cluster → cluster.facts.clock + 1 < key.expiry
    → LeavesKey cluster (cluster_after cluster kinds.Tick)
tick-leaves head cluster key good has before =
    find_present (cluster.facts.clock + 1) keys.Leader cluster.facts.keys.pairs good.facts.store.kept.order
    ∙ entry-present (cluster.facts.clock + 1) key (find key_cmp keys.Leader cluster.facts.keys.pairs)
    (entry-of (find key_cmp keys.Leader cluster.facts.keys.pairs) key has) before
