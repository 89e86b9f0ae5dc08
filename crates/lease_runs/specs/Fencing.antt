-- Fencing along a run: who writes under a lease is granted that only while the leader key is as the lease left it.
use Rattle.std.specs.Prelude.{ℕ, ◌≡◌, List, [], ◌∷◌, Some}
use Rattle.store_keys.specs.declared.key.Key.TheVariants.{Leader}
use Rattle.store_keys.specs.declared.value.KeyEntry.{KeyEntry}
use Rattle.lease_store.specs.Decision.{compares_of}
use Rattle.lease_store.specs.Fencing.{ComparesWith}
use Rattle.lease_store.specs.Keys.{key_in}
use Rattle.event_book.specs.declared.event.Event.{Event}
use Rattle.event_book.specs.declared.event.EventKind.{EventKind}
use Rattle.event_book.specs.declared.event.EventKind.TheVariants as kinds
use Rattle.event_book.specs.declared.event.StoreEvent.TheVariants as stores
use Rattle.cluster_model.specs.Cluster.{cluster_after}
use Rattle.cluster_model.specs.State.{Cluster}

-- the leader key is there, as the grant of this revision left it
pub record HasLeaderKey (cluster : Cluster) (revision : ℕ) : Type 0 where
  pub entry : KeyEntry
  pub there : key_in cluster.facts.keys.pairs cluster.facts.clock Leader ≡ Some entry
  pub left : entry.revision ≡ revision

-- a write that is granted under the lease of a revision finds the leader key as that lease left it
abbrev pub IsFenced : Cluster → EventKind → Type 0
IsFenced cluster (kinds.Store (stores.Granted number by txn standbys)) =
    (revision : ℕ) → ComparesWith Leader revision (compares_of txn) → HasLeaderKey cluster revision
IsFenced cluster _ = Unit {0}

-- each of these events does, at its moment
abbrev pub AreFenced : Cluster → List Event → Type 0
AreFenced cluster [] = Unit {0}
AreFenced cluster (event ∷ events) = IsFenced cluster event.kind × AreFenced (cluster_after cluster event.kind) events
