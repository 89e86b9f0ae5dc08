-- The leader key as an entry of the key store: it is present until its
-- expiry, and only a release, a renewal or a create writes it.
use Rattle.std.proofs.Common.{ℕ, ◌≡◌, ◌+◌, ◌<◌, nat_lt, Bool, true, false, cond, Option, Some, None, IsSome, refl, ◌∙◌, ap, sym, subst, arith}
use Rattle.std.proofs.lemmas.Bool.Decides.{nat_tests}
use Rattle.pat_base.specs.declared.member_id.MemberId.{MemberId}
use Rattle.pat_base.specs.declared.ticks.Ticks.{Ticks}
use Rattle.store_keys.specs.declared.key.Key.{Key}
use Rattle.store_keys.specs.declared.key.Key.TheVariants as keys
use Rattle.store_keys.specs.declared.txn.Txn.{Txn}
use Rattle.store_keys.specs.declared.txn.Txn.TheVariants as txns
use Rattle.store_keys.specs.declared.txn.LeaseTxn.TheVariants as lease_txns
use Rattle.store_keys.specs.declared.txn.Expected.{Expected}
use Rattle.store_keys.specs.declared.txn.Expected.TheVariants.{Absent, Revision}
use Rattle.store_keys.specs.declared.value.KeyEntry.{KeyEntry}
use Rattle.store_keys.specs.declared.value.Value.{Value}
use Rattle.store_keys.specs.declared.value.Value.TheVariants as values
use Rattle.lease_store.specs.Decision.{Decision, Grant, Refusal, decision_if, decision_on, found_in, is_as_expected}
use Rattle.lease_store.specs.Keys.{Keys, is_present, key_in, present}
use Rattle.lease_store.proofs.OneKey.{leader_after}
use Rattle.cluster_view.specs.Snapshots.{found_by, leader_by}
use Rattle.event_book.specs.declared.message.Body.TheVariants as bodies
use Rattle.agent_roles.specs.Seen.{leader_entry_seen}
use Rattle.lease_model.specs.Leases.{LeaderKey, LeaderSeen}
use Rattle.lease_model.specs.Stores.{IsLeased, leader_key_of, leader_value}
use Rattle.lease_model.proofs.Tools.{both, eq-from, none-some, some-is}
use Rattle.lease_owners.specs.Asking.{AsksFor}

-- the entry is that of this leader key
pub record IsEntryOf (key : LeaderKey) (found : Option KeyEntry) : Type 0 where
  pub member : MemberId
  pub expiry : Ticks
  pub is : found ≡ Some (record { value = values.Leader member; revision = key.revision; expiry = Some expiry })
  pub holder : member.number ≡ key.holder
  pub until : expiry.0 ≡ key.expiry

value-entry : (value : Value) (revision : ℕ) (expiry : Option Ticks) (key : LeaderKey)
    → leader_value value revision expiry ≡ Some key
    → IsEntryOf key (Some (record { value = value; revision = revision; expiry = expiry }))
value-entry (values.Leader member) revision (Some expiry) key is =
    let same = some-is (record { holder = member.number; revision = revision; expiry = expiry.0 }) key is in
    record {
      member = member;
      expiry = expiry;
      is =
          ap (λ (r : ℕ). let entry : KeyEntry =
          record { value = values.Leader member; revision = r; expiry = Some expiry } in Some entry)
          (ap (λ (k : LeaderKey). k.revision) same);
      holder = ap (λ (k : LeaderKey). k.holder) same;
      until = ap (λ (k : LeaderKey). k.expiry) same;
    }
value-entry (values.Leader member) revision None key is = absurd (none-some key is)
value-entry (values.Config config) revision expiry key is = absurd (none-some key is)
value-entry (values.Member info) revision expiry key is = absurd (none-some key is)
value-entry (values.Failover failover) revision expiry key is = absurd (none-some key is)
value-entry (values.Sync sync) revision expiry key is = absurd (none-some key is)
value-entry (values.Status end) revision expiry key is = absurd (none-some key is)
value-entry (values.History row) revision expiry key is = absurd (none-some key is)
value-entry (values.Failsafe members) revision expiry key is = absurd (none-some key is)
value-entry (values.Scheduled planned) revision expiry key is = absurd (none-some key is)

pub entry-of : (found : Option KeyEntry) (key : LeaderKey) → leader_key_of found ≡ Some key → IsEntryOf key found
entry-of None key is = absurd (none-some key is)
entry-of (Some stored) key is = value-entry stored.value stored.revision stored.expiry key is

before-is : (m n : ℕ) → m < n → nat_lt m n ≡ true
before-is m n less = grind (arith, nat_tests, less)

-- it is present until it expires
pub entry-present : (now : ℕ) (key : LeaderKey) (found : Option KeyEntry) → IsEntryOf key found → now < key.expiry
    → present now found ≡ found
entry-present now key found entry before =
    let stored : KeyEntry =
    record { value = values.Leader entry.member; revision = key.revision; expiry = Some entry.expiry } in
    subst (λ (o : Option KeyEntry). present now o ≡ o) (sym entry.is)
    (ap (λ (b : Bool). cond b (Some stored) None)
    (before-is now entry.expiry.0 (subst (λ (n : ℕ). now < n) (sym entry.until) before)))

pub entry-found : (key : LeaderKey) (found : Option KeyEntry) → IsEntryOf key found
    → found_in found ≡ Revision key.revision
entry-found key found entry = ap found_in entry.is

-- ---- the decision on a request: the leader key is compared first
never : (key : Key) (found : Expected) → Refusal key found ≡ Grant → ⊥
never key found e = cc

pub first-granted : (test : Bool) (key : Key) (found : Expected) (rest : Decision)
    → decision_if test key found rest ≡ Grant → test ≡ true
first-granted true key found rest e = refl
first-granted false key found rest e = absurd (never key found e)

pub same-revision : (compared revision : ℕ) (found : Expected) → found ≡ Revision revision
    → is_as_expected (Revision compared) found ≡ true → compared ≡ revision
same-revision compared revision found is test =
    eq-from compared revision (sym (ap (is_as_expected (Revision compared)) is) ∙ test)

no-room : (revision : ℕ) (found : Expected) → found ≡ Revision revision → is_as_expected Absent found ≡ true → ⊥
no-room revision found is test = clash (sym (ap (is_as_expected Absent) is) ∙ test)
  where
    clash : false ≡ true → ⊥
    clash e = cc

module _ (store : Keys) (now : ℕ) (key : LeaderKey)
    (there : found_in (key_in store.pairs now keys.Leader) ≡ Revision key.revision) where
  -- what is granted, but the renewal or the release of this key, leaves it
  pub granted-leaves : (by : MemberId) (txn : Txn) (found : Option KeyEntry) → decision_on store now txn ≡ Grant
      → (AsksFor key.revision (bodies.Request txn) → ⊥) → leader_after (store.revision + 1) now by txn found ≡ found
  granted-leaves by (txns.Lease (lease_txns.Create info ttl failsafe sync)) found granted other =
      absurd (no-room key.revision (found_in (key_in store.pairs now keys.Leader)) there
      (first-granted _ keys.Leader (found_in (key_in store.pairs now keys.Leader)) _ granted))
  granted-leaves by (txns.Lease (lease_txns.Renew compared info ttl status row failsafe)) found granted other =
      absurd (other (same-revision compared key.revision (found_in (key_in store.pairs now keys.Leader)) there
      (first-granted _ keys.Leader (found_in (key_in store.pairs now keys.Leader)) Grant granted)))
  granted-leaves by (txns.Lease (lease_txns.Release compared)) found granted other =
      absurd (other (same-revision compared key.revision (found_in (key_in store.pairs now keys.Leader)) there
      (first-granted _ keys.Leader (found_in (key_in store.pairs now keys.Leader)) Grant granted)))
  granted-leaves by _ found granted other = refl

-- ---- what a snapshot shows of it
-- it is this leader key that a snapshot shows
pub record IsShownKey (found : Option KeyEntry) (seen : LeaderSeen) : Type 0 where
  pub key : LeaderKey
  pub is : leader_key_of found ≡ Some key
  pub holder : key.holder ≡ seen.holder
  pub revision : key.revision ≡ seen.revision

value-shown : (value : Value) (revision : ℕ) (expiry : Option Ticks) (seen : LeaderSeen) → IsSome expiry
    → leader_entry_seen
    (found_by leader_by (Some (record { value = value; revision = revision; expiry = expiry }))) ≡ Some seen
    → IsShownKey (Some (record { value = value; revision = revision; expiry = expiry })) seen
value-shown (values.Leader member) revision (Some expiry) seen leased is =
    let same = some-is (record { holder = member.number; revision = revision }) seen is in
    record {
      key = record { holder = member.number; revision = revision; expiry = expiry.0 };
      is = refl;
      holder = ap (λ (s : LeaderSeen). s.holder) same;
      revision = ap (λ (s : LeaderSeen). s.revision) same;
    }
value-shown (values.Leader member) revision None seen leased is = absurd (both leased)
value-shown (values.Config config) revision expiry seen leased is = absurd (none-some seen is)
value-shown (values.Member info) revision expiry seen leased is = absurd (none-some seen is)
value-shown (values.Failover failover) revision expiry seen leased is = absurd (none-some seen is)
value-shown (values.Sync sync) revision expiry seen leased is = absurd (none-some seen is)
value-shown (values.Status end) revision expiry seen leased is = absurd (none-some seen is)
value-shown (values.History row) revision expiry seen leased is = absurd (none-some seen is)
value-shown (values.Failsafe members) revision expiry seen leased is = absurd (none-some seen is)
value-shown (values.Scheduled planned) revision expiry seen leased is = absurd (none-some seen is)

shown-if : (test : Bool) (stored : KeyEntry) (seen : LeaderSeen) → IsLeased (Some stored)
    → leader_entry_seen (found_by leader_by (cond test (Some stored) None)) ≡ Some seen → IsShownKey (Some stored) seen
shown-if true stored seen leased is = value-shown stored.value stored.revision stored.expiry seen leased is
shown-if false stored seen leased is = absurd (none-some seen is)

-- what is present of it
pub shown-present : (now : ℕ) (found : Option KeyEntry) (seen : LeaderSeen) → IsLeased found
    → leader_entry_seen (found_by leader_by (present now found)) ≡ Some seen → IsShownKey found seen
shown-present now None seen leased is = absurd (none-some seen is)
shown-present now (Some stored) seen leased is = shown-if (is_present now stored.expiry) stored seen leased is
