-- What keeps others from the leader key while a member acts: its server
-- accepts writes, will when its start is complete, or is about to.
use Rattle.std.specs.Prelude.{ℕ, ◌≡◌, ◌⊎◌, ◌≤◌, ◌<◌, Bool, true, false, Some, slice_get}
use Rattle.std.specs.FinMap.{find}
use Rattle.store_keys.specs.declared.key.Key.TheVariants as keys
use Rattle.lease_store.specs.KeyOrder.{key_cmp}
use Rattle.event_book.specs.Facts.{Facts}
use Rattle.cluster_model.specs.FailsafeDeadlines.{is_set_by_failsafe}
use Rattle.cluster_model.specs.State.{Cluster}
use Rattle.lease_model.specs.Leases.{FailsafeKey, LeaderKey}
use Rattle.lease_model.specs.Stores.{failsafe_key_of, leader_key_of}
use Rattle.lease_parts.specs.Machines.{deadline_in, hold_in}

-- the leader key is there, is this member's, and lasts at least until then
pub record HasKeyUntil (facts : Facts) (m until : ℕ) : Type 0 where
  pub key : LeaderKey
  pub is : leader_key_of (find key_cmp keys.Leader facts.keys.pairs) ≡ Some key
  pub holder : key.holder ≡ m
  pub lasts : until ≤ key.expiry

-- the failsafe key is there, and each other member that it lists holds at least until then
pub record HaveHoldsUntil (facts : Facts) (m until : ℕ) : Type 0 where
  pub key : FailsafeKey
  pub is : failsafe_key_of (find key_cmp keys.Failsafe facts.keys.pairs) ≡ Some key
  pub holds : (p : ℕ) → key.members p ≡ true → (p ≡ m → ⊥) → until ≤ hold_in facts.holds p

-- the member's watchdog resets its machine at a moment to come. Until then the leader key is its own, where
-- a grant set that moment; where the others' acknowledgements did, failsafe mode is on, and they hold
pub record IsGuarded (failsafe_mode : Bool) (cluster : Cluster) (m : ℕ) : Type 0 where
  pub until : ℕ
  pub armed : deadline_in cluster.facts.deadlines m ≡ Some until
  pub later : cluster.facts.clock < until
  pub cover :
      ((is_set_by_failsafe (slice_get cluster.failsafe_deadlines m) ≡ false) × HasKeyUntil cluster.facts m until)
      ⊎ ((is_set_by_failsafe (slice_get cluster.failsafe_deadlines m) ≡ true) × (failsafe_mode ≡ true) ×
      HaveHoldsUntil cluster.facts m until)
