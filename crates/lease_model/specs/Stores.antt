-- The keys of the lease among the keys that the book leaves.
use Rattle.std.specs.Prelude.{ℕ, ◌≡◌, ◌+◌, ◌<◌, Bool, true, false, Option, Some, None, IsSome}
use Rattle.std.specs.FinMap.{find}
use Rattle.pat_base.specs.declared.ticks.Ticks.{Ticks}
use Rattle.store_keys.specs.declared.key.Key.TheVariants as keys
use Rattle.store_keys.specs.declared.value.KeyEntry.{KeyEntry}
use Rattle.store_keys.specs.declared.value.Value.{Value}
use Rattle.store_keys.specs.declared.value.Value.TheVariants as values
use Rattle.store_keys.specs.declared.txn.Txn.{Txn}
use Rattle.store_keys.specs.declared.txn.Txn.TheVariants as txns
use Rattle.store_keys.specs.declared.txn.LeaseTxn.TheVariants as lease_txns
use Rattle.lease_store.specs.KeyOrder.{key_cmp}
use Rattle.event_book.specs.declared.event.EventKind.{EventKind}
use Rattle.event_book.specs.declared.event.EventKind.TheVariants as kinds
use Rattle.event_book.specs.declared.event.StoreEvent.TheVariants as stores
use Rattle.lease_store.specs.Kept.{IsKept}
use Rattle.event_book.specs.Facts.{Facts}
use Rattle.lease_store.specs.Decision.{Decision, Grant as Granting, Refusal as Refusing}
use Rattle.lease_model.specs.Leases.{LeaderKey, FailsafeKey, Query, Create, Renew, Grant}
use Rattle.lease_model.specs.Outcomes.{Outcome, refused_outcome}
use Rattle.lease_model.specs.Past.{Past, leader_granted, failsafe_granted}
use Rattle.event_book.specs.Functions.{set_members}

-- the leader key with this value, revision and expiry, if the value is one of a leader key
abbrev pub leader_value : Value → ℕ → Option Ticks → Option LeaderKey
leader_value (values.Leader member) revision (Some expiry) =
    Some (record { holder = member.number; revision = revision; expiry = expiry.0 })
leader_value _ revision _ = None

-- the leader key as the key store has it
abbrev pub leader_key_of : Option KeyEntry → Option LeaderKey
leader_key_of None = None
leader_key_of (Some found_key) = leader_value found_key.value found_key.revision found_key.expiry

-- the failsafe key with this value and revision, if the value is one of a failsafe key
abbrev pub failsafe_value : Value → ℕ → Option FailsafeKey
failsafe_value (values.Failsafe members) revision = Some (record { revision = revision; members = set_members members })
failsafe_value _ revision = None

-- the failsafe key as the key store has it
abbrev pub failsafe_key_of : Option KeyEntry → Option FailsafeKey
failsafe_key_of None = None
failsafe_key_of (Some found_key) = failsafe_value found_key.value found_key.revision

-- the leader key has an expiry, and the failsafe key none
abbrev pub IsLeased : Option KeyEntry → Type 0
IsLeased None = Unit {0}
IsLeased (Some found_key) = IsSome found_key.expiry

-- the key is absent, or has no expiry
abbrev pub IsEndless : Option KeyEntry → Type 0
IsEndless None = Unit {0}
IsEndless (Some found_key) = found_key.expiry ≡ None

-- a create asks for a lease of at least one tick
abbrev pub IsSpannedTxn : Txn → Type 0
IsSpannedTxn (txns.Lease (lease_txns.Create info ttl failsafe sync)) = 0 < ttl.0
IsSpannedTxn _ = Unit {0}

-- a leader key that this event creates isn't absent at once
abbrev pub IsSpanned : EventKind → Type 0
IsSpanned (kinds.Store (stores.Granted number by txn standbys)) = IsSpannedTxn txn
IsSpanned _ = Unit {0}

-- the past has the keys of the lease as the key store holds them, and a leader key that has an entry is present
pub record IsSameStore (past : Past) (facts : Facts) : Type 0 where
  pub clock : past.clock ≡ facts.clock
  pub revision : past.revision ≡ facts.keys.revision
  pub leader : past.leader ≡ leader_key_of (find key_cmp keys.Leader facts.keys.pairs)
  pub failsafe : past.failsafe ≡ failsafe_key_of (find key_cmp keys.Failsafe facts.keys.pairs)
  pub kept : IsKept facts.keys.pairs
  pub leased : IsLeased (find key_cmp keys.Leader facts.keys.pairs)
  pub endless : IsEndless (find key_cmp keys.Failsafe facts.keys.pairs)
  pub present : (key : LeaderKey) → past.leader ≡ Some key → past.clock < key.expiry

-- the grant that the store gives a question of the lease, under this revision and with this failsafe key
abbrev pub lease_given : ℕ → ℕ → Option FailsafeKey → ℕ → Query → Option Grant
lease_given clock revision failsafe sent (Create ttl expected) =
    Some (record { revision = revision; sent = sent; moment = clock; ttl = ttl; failsafe = failsafe })
lease_given clock revision failsafe sent (Renew compared ttl carried) =
    Some (record { revision = revision; sent = sent; moment = clock; ttl = ttl; failsafe = failsafe })
lease_given clock revision failsafe sent _ = None

-- what a granted question leaves
abbrev pub granted_outcome : ℕ → Option LeaderKey → Option FailsafeKey → ℕ → ℕ → ℕ → Query → Outcome
granted_outcome clock leader failsafe revision by sent query = record {
  leader = leader_granted clock revision leader by query;
  failsafe = failsafe_granted revision failsafe query;
  revision = revision + 1;
  snapshot = true;
  grant = lease_given clock (revision + 1) (failsafe_granted revision failsafe query) sent query;
}

-- the key store grants what it was asked for
abbrev pub is_granted : Decision → Bool
is_granted Granting = true
is_granted (Refusing key found) = false

-- what a question leaves by the key store's decision
abbrev pub outcome_by : Decision → ℕ → Option LeaderKey → Option FailsafeKey → ℕ → ℕ → ℕ → Query → Outcome
outcome_by Granting clock leader failsafe revision by sent query =
    granted_outcome clock leader failsafe revision by sent query
outcome_by (Refusing key found) clock leader failsafe revision by sent query = refused_outcome leader failsafe revision
