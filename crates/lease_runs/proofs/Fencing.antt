-- What the key store grants, it grants by its keys of that moment; so
-- a write under a lease finds the leader key as that lease left it.
use Rattle.std.proofs.Common.{◌≡◌, ℕ, ◌++◌, Bool, true, false, List, [], ◌∷◌, Option, Some, None, refl, sym, ap, ◌∙◌, inl, inr}
use Rattle.std.proofs.lemmas.Bool.{eqb-true}
use Rattle.store_keys.specs.declared.key.Key.{Key}
use Rattle.store_keys.specs.declared.key.Key.TheVariants.{Leader}
use Rattle.store_keys.specs.declared.txn.Expected.{Expected}
use Rattle.store_keys.specs.declared.txn.Expected.TheVariants.{Absent, Revision}
use Rattle.store_keys.specs.declared.value.KeyEntry.{KeyEntry}
use Rattle.lease_store.specs.Decision.{Decision, Grant, Refusal, compares_of, decision_by, decision_if, decision_on, found_in, is_as_expected}
use Rattle.lease_store.specs.Fencing.{ComparesWith}
use Rattle.lease_store.specs.Keys.{key_in}
use Rattle.event_book.specs.declared.event.Event.{Event}
use Rattle.event_book.specs.declared.event.EventKind.{EventKind}
use Rattle.event_book.specs.declared.event.EventKind.TheVariants as kinds
use Rattle.event_book.specs.declared.event.StoreEvent.TheVariants as stores
use Rattle.event_book.specs.Kinds.{AllAre}
use Rattle.cluster_model.specs.Cluster.{cluster_after, cluster_over}
use Rattle.cluster_model.specs.State.{Cluster}
use Rattle.lease_runs.specs.Fencing.{AreFenced, HasLeaderKey, IsFenced}

-- a request that is granted is granted by the keys of this moment
abbrev pub IsDecided : Cluster → EventKind → Type 0
IsDecided cluster (kinds.Store (stores.Granted number by txn standbys)) =
    decision_on cluster.facts.keys cluster.facts.clock txn ≡ Grant
IsDecided cluster _ = Unit {0}

abbrev pub AreDecided : Cluster → List Event → Type 0
AreDecided cluster [] = Unit {0}
AreDecided cluster (event ∷ events) =
    IsDecided cluster event.kind × AreDecided (cluster_after cluster event.kind) events

pub decided-both : (cluster : Cluster) (xs ys : List Event) → AreDecided cluster xs
    → AreDecided (cluster_over cluster xs) ys → AreDecided cluster (xs ++ ys)
decided-both cluster [] ys first second = second
decided-both cluster (x ∷ xs) ys first second =
    (first.0, decided-both (cluster_after cluster x.kind) xs ys first.1 second)

-- ---- events that grant nothing
abbrev pub IsUngranted : EventKind → Type 0
IsUngranted (kinds.Store (stores.Granted number by txn standbys)) = ⊥
IsUngranted _ = Unit {0}

ungranted-one : (cluster : Cluster) (kind : EventKind) → IsUngranted kind → IsDecided cluster kind
ungranted-one cluster (kinds.Store (stores.Granted number by txn standbys)) is = absurd is
ungranted-one cluster _ is = tt

pub ungranted-decided : (cluster : Cluster) (events : List Event) → AllAre IsUngranted events
    → AreDecided cluster events
ungranted-decided cluster [] all = tt
ungranted-decided cluster (event ∷ events) all =
    (ungranted-one cluster event.kind all.0, ungranted-decided (cluster_after cluster event.kind) events all.1)

-- ---- what is granted found what it compares
if-granted : (test : Bool) (key : Key) (found : Expected) (rest : Decision)
    → decision_if test key found rest ≡ Grant → (test ≡ true) × (rest ≡ Grant)
if-granted true key found rest is = (refl, is)
if-granted false key found rest is = absurd (never is)
  where
    never : Refusal key found ≡ Grant → ⊥
    never is = cc

is-found : (expected found : Expected) → is_as_expected expected found ≡ true → expected ≡ found
is-found Absent Absent is = refl
is-found (Revision a) (Revision b) is = ap Revision (eqb-true a b is)
is-found Absent (Revision b) is = cc
is-found (Revision a) Absent is = cc

compare-found : (store : List (Key × KeyEntry)) (now : ℕ) (key : Key) (revision : ℕ) (compares : List (Key × Expected))
    → decision_by store now compares ≡ Grant → ComparesWith key revision compares
    → found_in (key_in store now key) ≡ Revision revision
compare-found store now key revision [] granted with_key = absurd with_key
compare-found store now key revision (compare ∷ compares) granted with_key =
    let found : Expected = found_in (key_in store now compare.0) in
    let parts = if-granted (is_as_expected compare.1 found) compare.0 found (decision_by store now compares) granted in
    elim with_key [
      | inl is ↦ ap (λ (c : Key × Expected). found_in (key_in store now c.0)) (sym is)
          ∙ sym (is-found compare.1 found parts.0) ∙ ap (λ (c : Key × Expected). c.1) is
      | inr more ↦ compare-found store now key revision compares parts.1 more
    ]

entry-found : (cluster : Cluster) (revision : ℕ) (found : Option KeyEntry)
    → key_in cluster.facts.keys.pairs cluster.facts.clock Leader ≡ found → found_in found ≡ Revision revision
    → HasLeaderKey cluster revision
entry-found cluster revision None there is = absurd (never is)
  where
    never : Absent ≡ Revision revision → ⊥
    never is = cc
entry-found cluster revision (Some entry) there is = record { entry = entry; there = there; left = same is }
  where
    same : Revision entry.revision ≡ Revision revision → entry.revision ≡ revision
    same is = cc

fenced-one : (cluster : Cluster) (kind : EventKind) → IsDecided cluster kind → IsFenced cluster kind
fenced-one cluster (kinds.Store (stores.Granted number by txn standbys)) granted = λ revision compares.
    entry-found cluster revision (key_in cluster.facts.keys.pairs cluster.facts.clock Leader) refl
    (compare-found cluster.facts.keys.pairs cluster.facts.clock Leader revision (compares_of txn) granted compares)
fenced-one cluster _ is = tt

pub decided-fenced : (cluster : Cluster) (events : List Event) → AreDecided cluster events → AreFenced cluster events
decided-fenced cluster [] all = tt
decided-fenced cluster (event ∷ events) all =
    (fenced-one cluster event.kind all.0, decided-fenced (cluster_after cluster event.kind) events all.1)

pub fenced-behind : (cluster : Cluster) (xs ys : List Event) → AreFenced cluster (xs ++ ys)
    → AreFenced (cluster_over cluster xs) ys
fenced-behind cluster [] ys all = all
fenced-behind cluster (x ∷ xs) ys all = fenced-behind (cluster_after cluster x.kind) xs ys all.1
