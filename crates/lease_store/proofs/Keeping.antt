-- Every write keeps what holds of the pairs of a store.
use Rattle.std.proofs.Common.{◌≡◌, ℕ, ◌+◌, ◌++◌, List, [], ◌∷◌, Option, Some, None, IsTrue, refl, sym, ap, ◌∙◌, cond, Bool, true, false, not, subst, filter, T}
use Rattle.std.specs.declared.cmp.Ordering.{Ordering}
use Rattle.std.specs.declared.cmp.Ordering.TheVariants.{Less, Equal, Greater}
use Rattle.std.specs.Ordering.{is_eq, is_lt, eq_by_cmp}
use Rattle.std.proofs.lemmas.Bool.{and_parts, and_from}
use Rattle.std.proofs.lemmas.Option.{same_Some}
use Rattle.std.specs.FinMap.{find, put, is_sorted}
use Rattle.std.specs.FinMap.Entries.{by_order, below_all, is_sorted-put, find-put, find-where_key}
use Rattle.pat_base.specs.declared.ticks.Ticks.{Ticks}
use Rattle.pat_base.specs.declared.lsn.Lsn.{Lsn}
use Rattle.pat_base.specs.declared.member_id.MemberId.{MemberId}
use Rattle.pat_base.specs.declared.member_set.MemberSet.{MemberSet}
use Rattle.store_keys.specs.declared.key.Key.{Key}
use Rattle.store_keys.specs.declared.key.Key.TheVariants as keys
use Rattle.store_keys.specs.declared.value.KeyEntry.{KeyEntry}
use Rattle.store_keys.specs.declared.value.HistoryRow.{HistoryRow}
use Rattle.store_keys.specs.declared.txn.Txn.{Txn}
use Rattle.store_keys.specs.declared.txn.Txn.TheVariants as txns
use Rattle.store_keys.specs.declared.txn.LeaseTxn.TheVariants as lease_txns
use Rattle.store_keys.specs.declared.txn.OperatorTxn.TheVariants as operator_txns
use Rattle.store_keys.specs.declared.txn.SyncTxn.TheVariants as sync_txns
use Rattle.lease_store.specs.KeyOrder.{key_cmp}
use Rattle.lease_store.specs.Kinds.{IsOfKind}
use Rattle.lease_store.specs.Kept.{AreOfKind, IsLasting, IsKept}
use Rattle.lease_store.specs.Keys.{is_present, present, key_in}
use Rattle.lease_store.specs.Writes.{Write, Sets, Leases, Extends, Deletes, status_writes, row_writes, failsafe_writes, writes_of, extended_expiry, pairs_extended, without, pairs_after, pairs_over}
use Rattle.lease_store.specs.Answers.{present_pairs}
use Rattle.lease_store.proofs.KeyLaws.{keys_total, keys_exact}

to-T : (b : Bool) → IsTrue b → T b
to-T true h = tt
to-T false h = cc

from-T : (b : Bool) → T b → IsTrue b
from-T true h = refl
from-T false h = absurd h

-- ---- a filter keeps the order and the kinds
below-chosen : (b : Bool) (low : Key) (e : Key × KeyEntry) (fs : List (Key × KeyEntry)) → is_lt (key_cmp low e.0) ≡ true
    → IsTrue (below_all key_cmp low fs) → IsTrue (below_all key_cmp low (cond b (e ∷ fs) fs))
below-chosen true low e fs first rest = and_from (is_lt (key_cmp low e.0)) (below_all key_cmp low fs) first rest
below-chosen false low e fs first rest = rest

below-filter : (p : Key × KeyEntry → Bool) (low : Key) (es : List (Key × KeyEntry))
    → IsTrue (below_all key_cmp low es) → IsTrue (below_all key_cmp low (filter p es))
below-filter p low [] h = refl
below-filter p low (e ∷ es) h =
    below-chosen (p e) low e (filter p es)
    (and_parts (is_lt (key_cmp low e.0)) (below_all key_cmp low es) h).0
    (below-filter p low es (and_parts (is_lt (key_cmp low e.0)) (below_all key_cmp low es) h).1)

order-chosen : (b : Bool) (e : Key × KeyEntry) (fs : List (Key × KeyEntry)) → below_all key_cmp e.0 fs ≡ true
    → IsTrue (is_sorted key_cmp fs) → IsTrue (is_sorted key_cmp (cond b (e ∷ fs) fs))
order-chosen true e fs first rest = and_from (below_all key_cmp e.0 fs) (is_sorted key_cmp fs) first rest
order-chosen false e fs first rest = rest

order-filter : (p : Key × KeyEntry → Bool) (es : List (Key × KeyEntry)) → IsTrue (is_sorted key_cmp es)
    → IsTrue (is_sorted key_cmp (filter p es))
order-filter p [] h = refl
order-filter p (e ∷ es) h =
    order-chosen (p e) e (filter p es)
    (below-filter p e.0 es (and_parts (below_all key_cmp e.0 es) (is_sorted key_cmp es) h).0)
    (order-filter p es (and_parts (below_all key_cmp e.0 es) (is_sorted key_cmp es) h).1)

kinds-chosen : (b : Bool) (e : Key × KeyEntry) (fs : List (Key × KeyEntry)) → IsOfKind e.0 e.1.value
    → AreOfKind fs → AreOfKind (cond b (e ∷ fs) fs)
kinds-chosen true e fs first rest = (first, rest)
kinds-chosen false e fs first rest = rest

pub kinds-filter : (p : Key × KeyEntry → Bool) (es : List (Key × KeyEntry)) → AreOfKind es → AreOfKind (filter p es)
kinds-filter p [] k = tt
kinds-filter p (e ∷ es) k = kinds-chosen (p e) e (filter p es) k.0 (kinds-filter p es k.1)

pub order-put : (key : Key) (stored : KeyEntry) (es : List (Key × KeyEntry)) → IsTrue (is_sorted key_cmp es)
    → IsTrue (is_sorted key_cmp (put key_cmp key stored es))
order-put key stored es h = from-T _ (is_sorted-put key_cmp keys_total key stored es (to-T _ h))

kinds-placed : (key : Key) (stored : KeyEntry) (e : Key × KeyEntry) (es : List (Key × KeyEntry)) (o : Ordering)
    → key_cmp key e.0 ≡ o → IsOfKind key stored.value → AreOfKind (e ∷ es) → AreOfKind (put key_cmp key stored es)
    → AreOfKind (by_order o ((key, stored) ∷ e ∷ es) ((e.0, stored) ∷ es) (e ∷ put key_cmp key stored es))
kinds-placed key stored e es Less same is k rest = (is, k)
kinds-placed key stored e es Equal same is k rest =
    (subst (λ (other : Key). IsOfKind other stored.value) (keys_exact key e.0 same) is, k.1)
kinds-placed key stored e es Greater same is k rest = (k.0, rest)

pub kinds-put : (key : Key) (stored : KeyEntry) (es : List (Key × KeyEntry)) → IsOfKind key stored.value
    → AreOfKind es → AreOfKind (put key_cmp key stored es)
kinds-put key stored [] is k = (is, tt)
kinds-put key stored (e ∷ es) is k =
    kinds-placed key stored e es (key_cmp key e.0) refl is k (kinds-put key stored es is k.1)

-- ---- what is found
pub equal-from : (o : Ordering) → is_eq o ≡ true → o ≡ Equal
equal-from Less h = cc
equal-from Equal h = refl
equal-from Greater h = cc

-- keys of which one is sought and the other found are one
pub same_key : (a b : Key) → eq_by_cmp key_cmp a b ≡ true → a ≡ b
same_key a b h = keys_exact a b (equal-from (key_cmp a b) h)

none-some : (stored : KeyEntry) → None ≡ Some stored → ⊥
none-some stored e = cc

kind-chosen : (key : Key) (e : Key × KeyEntry) (stored : KeyEntry) (b : Bool) (rest : Option KeyEntry)
    → eq_by_cmp key_cmp key e.0 ≡ b → IsOfKind e.0 e.1.value → cond b (Some e.1) rest ≡ Some stored
    → (rest ≡ Some stored → IsOfKind key stored.value) → IsOfKind key stored.value
kind-chosen key e stored true rest same k found extended_expiry =
    subst (λ (h : KeyEntry). IsOfKind key h.value) (same_Some e.1 stored found)
    (subst (λ (other : Key). IsOfKind other e.1.value) (sym (same_key key e.0 same)) k)
kind-chosen key e stored false rest same k found extended_expiry = extended_expiry found

pub kind_found : (key : Key) (es : List (Key × KeyEntry)) (stored : KeyEntry) → AreOfKind es
    → find key_cmp key es ≡ Some stored → IsOfKind key stored.value
kind_found key [] stored k is = absurd (none-some stored is)
kind_found key (e ∷ es) stored k is = kind-chosen key e stored (eq_by_cmp key_cmp key e.0)
    (find key_cmp key es) refl k.0 is (λ found. kind_found key es stored k.1 found)

pub find_put : (q key : Key) (stored : KeyEntry) (es : List (Key × KeyEntry))
    → find key_cmp q (put key_cmp key stored es) ≡ cond (eq_by_cmp key_cmp q key) (Some stored) (find key_cmp q es)
find_put q key stored es = find-put key_cmp keys_total q key stored es

pub find_without : (q key : Key) (es : List (Key × KeyEntry))
    → find key_cmp q (without key es) ≡ cond (not (eq_by_cmp key_cmp key q)) (find key_cmp q es) None
find_without q key es = find-where_key key_cmp (λ k. not (eq_by_cmp key_cmp key k)) q
    (λ x same. ap (λ k. not (eq_by_cmp key_cmp key k)) (sym (keys_exact q x same))) es

-- ---- each write
-- what a write may be, so that the store keeps its kinds and its configuration
abbrev Fits : Write → Type 0
Fits (Sets key value) = IsOfKind key value
Fits (Leases key value ttl) = IsOfKind key value × (eq_by_cmp key_cmp keys.Config key ≡ false)
Fits (Extends key ttl) = eq_by_cmp key_cmp keys.Config key ≡ false
Fits (Deletes key) = eq_by_cmp key_cmp key keys.Config ≡ false

abbrev AllFit : List Write → Type 0
AllFit [] = Unit {0}
AllFit (write ∷ writes) = Fits write × AllFit writes

lasting-cond : (b : Bool) (stored : KeyEntry) (o : Option KeyEntry) → stored.expiry ≡ None → IsLasting o
    → IsLasting (cond b (Some stored) o)
lasting-cond true stored o last old = last
lasting-cond false stored o last old = old

lasting-other : (b : Bool) (stored : KeyEntry) (o : Option KeyEntry) → b ≡ false → IsLasting o
    → IsLasting (cond b (Some stored) o)
lasting-other b stored o other old = subst (λ (t : Bool). IsLasting (cond t (Some stored) o)) (sym other) old

kept-put : (key : Key) (stored : KeyEntry) (es : List (Key × KeyEntry)) → IsOfKind key stored.value
    → eq_by_cmp key_cmp keys.Config key ≡ false → IsKept es → IsKept (put key_cmp key stored es)
kept-put key stored es is other kept = record {
  order = order-put key stored es kept.order;
  kinds = kinds-put key stored es is kept.kinds;
  config = subst IsLasting (sym (find_put keys.Config key stored es))
      (lasting-other (eq_by_cmp key_cmp keys.Config key) stored (find key_cmp keys.Config es) other kept.config);
}

kept-set : (key : Key) (stored : KeyEntry) (es : List (Key × KeyEntry)) → IsOfKind key stored.value
    → stored.expiry ≡ None → IsKept es → IsKept (put key_cmp key stored es)
kept-set key stored es is last kept = record {
  order = order-put key stored es kept.order;
  kinds = kinds-put key stored es is kept.kinds;
  config = subst IsLasting (sym (find_put keys.Config key stored es))
      (lasting-cond (eq_by_cmp key_cmp keys.Config key) stored (find key_cmp keys.Config es) last kept.config);
}

kept-pairs_extended : (revision until : ℕ) (key : Key) (es : List (Key × KeyEntry)) (found : Option KeyEntry)
    → find key_cmp key es ≡ found → eq_by_cmp key_cmp keys.Config key ≡ false → IsKept es
    → IsKept (pairs_extended revision until es key found)
kept-pairs_extended revision until key es None is other kept = kept
kept-pairs_extended revision until key es (Some stored) is other kept =
    kept-put key (record stored { revision = revision; expiry = extended_expiry until stored.expiry }) es
    (kind_found key es stored kept.kinds is) other kept

kept-without : (key : Key) (es : List (Key × KeyEntry)) → eq_by_cmp key_cmp key keys.Config ≡ false
    → IsKept es → IsKept (without key es)
kept-without key es other kept = record {
  order = order-filter (λ pair. not (eq_by_cmp key_cmp key pair.0)) es kept.order;
  kinds = kinds-filter (λ pair. not (eq_by_cmp key_cmp key pair.0)) es kept.kinds;
  config = subst IsLasting
      (sym (find_without keys.Config key es ∙ ap (λ b. cond (not b) (find key_cmp keys.Config es) None) other))
      kept.config;
}

kept-pairs_after : (revision now : ℕ) (write : Write) (es : List (Key × KeyEntry)) → Fits write → IsKept es
    → IsKept (pairs_after revision now es write)
kept-pairs_after revision now (Sets key value) es fits kept =
    kept-set key (record { value = value; revision = revision; expiry = None }) es fits refl kept
kept-pairs_after revision now (Leases key value ttl) es fits kept = kept-put key
    (record { value = value; revision = revision; expiry = Some (record { 0 = now + ttl.0 }) }) es fits.0 fits.1 kept
kept-pairs_after revision now (Extends key ttl) es fits kept =
    kept-pairs_extended revision (now + ttl.0) key es (find key_cmp key es) refl fits kept
kept-pairs_after revision now (Deletes key) es fits kept = kept-without key es fits kept

kept-all : (revision now : ℕ) (writes : List Write) (es : List (Key × KeyEntry)) → AllFit writes → IsKept es
    → IsKept (pairs_over revision now es writes)
kept-all revision now [] es fit kept = kept
kept-all revision now (write ∷ writes) es fit kept = kept-all revision now writes
    (pairs_after revision now es write) fit.1 (kept-pairs_after revision now write es fit.0 kept)

fit-append : (xs ys : List Write) → AllFit xs → AllFit ys → AllFit (xs ++ ys)
fit-append [] ys p q = q
fit-append (x ∷ xs) ys p q = (p.0, fit-append xs ys p.1 q)

fit-status : (status : Option Lsn) → AllFit (status_writes status)
fit-status None = tt
fit-status (Some end) = (tt, tt)

fit-row : (row : Option HistoryRow) → AllFit (row_writes row)
fit-row None = tt
fit-row (Some row) = (refl, tt)

fit-failsafe : (failsafe : Option MemberSet) → AllFit (failsafe_writes failsafe)
fit-failsafe None = tt
fit-failsafe (Some members) = (tt, tt)

fit : (by : MemberId) (txn : Txn) → AllFit (writes_of by txn)
fit by (txns.Touch info ttl) = ((tt, refl), tt)
fit by (txns.Lease (lease_txns.Create info ttl failsafe sync)) = ((tt, refl), ((tt, refl), tt))
fit by (txns.Lease (lease_txns.Renew revision info ttl status row failsafe)) = (
  refl,
  (
    (tt, refl),
    fit-append (status_writes status) (row_writes row ++ failsafe_writes failsafe) (fit-status status)
        (fit-append (row_writes row) (failsafe_writes failsafe) (fit-row row) (fit-failsafe failsafe)),
  ),
)
fit by (txns.Lease (lease_txns.Release revision)) = (refl, tt)
fit by (txns.Sync (sync_txns.DropSync revision sync)) = (refl, tt)
fit by (txns.Operators (operator_txns.SetFailover failover ttl)) = ((tt, refl), tt)
fit by (txns.Operators (operator_txns.DropFailover revision)) = (refl, tt)
fit by (txns.Operators (operator_txns.Unschedule scheduled)) = (refl, tt)
fit by (txns.Operators (operator_txns.Fire revision scheduled failover ttl)) = ((tt, refl), (refl, tt))
fit by _ = (tt, tt)

-- a granted transaction keeps what holds of the pairs of a store
pub kept_after : (revision now : ℕ) (by : MemberId) (txn : Txn) (es : List (Key × KeyEntry)) → IsKept es
    → IsKept (pairs_over revision now es (writes_of by txn))
kept_after revision now by txn es kept = kept-all revision now (writes_of by txn) es (fit by txn) kept

-- ---- dropping what is absent
found-none : (b : Bool) (q : Key) (e : Key × KeyEntry) (fs : List (Key × KeyEntry))
    → eq_by_cmp key_cmp q e.0 ≡ false → find key_cmp q fs ≡ None → find key_cmp q (cond b (e ∷ fs) fs) ≡ None
found-none true q e fs other none = ap (λ t. cond t (Some e.1) (find key_cmp q fs)) other ∙ none
found-none false q e fs other none = none

first-none : (b : Bool) (e : KeyEntry) (rest : Option KeyEntry) → cond b (Some e) rest ≡ None
    → (b ≡ false) × (rest ≡ None)
first-none true e rest h = absurd (none-some e (sym h))
first-none false e rest h = (refl, h)

find-filter_none : (p : Key × KeyEntry → Bool) (q : Key) (es : List (Key × KeyEntry))
    → find key_cmp q es ≡ None → find key_cmp q (filter p es) ≡ None
find-filter_none p q [] h = refl
find-filter_none p q (e ∷ es) h =
    let parts = first-none (eq_by_cmp key_cmp q e.0) e.1 (find key_cmp q es) h in
    found-none (p e) q e (filter p es) parts.0 (find-filter_none p q es parts.1)

pub less-from : (o : Ordering) → is_lt o ≡ true → o ≡ Less
less-from Less h = refl
less-from Equal h = cc
less-from Greater h = cc

pub find-below : (q : Key) (es : List (Key × KeyEntry)) → IsTrue (below_all key_cmp q es) → find key_cmp q es ≡ None
find-below q [] h = refl
find-below q (e ∷ es) h =
    ap (λ o. cond (is_eq o) (Some e.1) (find key_cmp q es))
    (less-from (key_cmp q e.0) (and_parts (is_lt (key_cmp q e.0)) (below_all key_cmp q es) h).0)
    ∙ find-below q es (and_parts (is_lt (key_cmp q e.0)) (below_all key_cmp q es) h).1

-- the pair of the key is kept exactly where it is present
kept-here : (now : ℕ) (q : Key) (e : Key × KeyEntry) (fs : List (Key × KeyEntry)) (b : Bool)
    → eq_by_cmp key_cmp q e.0 ≡ true → find key_cmp q fs ≡ None
    → find key_cmp q (cond b (e ∷ fs) fs) ≡ cond b (Some e.1) None
kept-here now q e fs true same none = ap (λ t. cond t (Some e.1) (find key_cmp q fs)) same
kept-here now q e fs false same none = none

kept-other : (q : Key) (e : Key × KeyEntry) (fs : List (Key × KeyEntry)) (b : Bool)
    → eq_by_cmp key_cmp q e.0 ≡ false → find key_cmp q (cond b (e ∷ fs) fs) ≡ find key_cmp q fs
kept-other q e fs true other = ap (λ t. cond t (Some e.1) (find key_cmp q fs)) other
kept-other q e fs false other = refl

find-present_chosen : (now : ℕ) (q : Key) (e : Key × KeyEntry) (es : List (Key × KeyEntry)) (t : Bool)
    → eq_by_cmp key_cmp q e.0 ≡ t → IsTrue (below_all key_cmp e.0 es)
    → find key_cmp q (present_pairs now es) ≡ present now (find key_cmp q es)
    → find key_cmp q (cond (is_present now e.1.expiry) (e ∷ present_pairs now es) (present_pairs now es))
    ≡ present now (cond t (Some e.1) (find key_cmp q es))
find-present_chosen now q e es true same below rest =
    let none : find key_cmp q es ≡ None = ap (λ k. find key_cmp k es) (same_key q e.0 same) ∙ find-below e.0 es below in
    kept-here now q e (present_pairs now es) (is_present now e.1.expiry) same
    (find-filter_none (λ pair. is_present now pair.1.expiry) q es none)
find-present_chosen now q e es false other below rest =
    kept-other q e (present_pairs now es) (is_present now e.1.expiry) other ∙ rest

-- what is left has at each key what is present there
pub find_present : (now : ℕ) (q : Key) (es : List (Key × KeyEntry)) → IsTrue (is_sorted key_cmp es)
    → find key_cmp q (present_pairs now es) ≡ key_in es now q
find_present now q [] h = refl
find_present now q (e ∷ es) h =
    find-present_chosen now q e es (eq_by_cmp key_cmp q e.0) refl
    (and_parts (below_all key_cmp e.0 es) (is_sorted key_cmp es) h).0
    (find_present now q es (and_parts (below_all key_cmp e.0 es) (is_sorted key_cmp es) h).1)

lasting-present : (now : ℕ) (o : Option KeyEntry) → IsLasting o → IsLasting (present now o)
lasting-present now None last = last
lasting-present now (Some stored) last =
    subst (λ (e : Option Ticks). IsLasting (cond (is_present now e) (Some stored) None)) (sym last) last

-- dropping absent keys keeps what holds of the pairs of a store
pub kept_present : (now : ℕ) (es : List (Key × KeyEntry)) → IsKept es → IsKept (present_pairs now es)
kept_present now es kept = record {
  order = order-filter (λ pair. is_present now pair.1.expiry) es kept.order;
  kinds = kinds-filter (λ pair. is_present now pair.1.expiry) es kept.kinds;
  config = subst IsLasting (sym (find_present now keys.Config es kept.order))
      (lasting-present now (find key_cmp keys.Config es) kept.config);
}
