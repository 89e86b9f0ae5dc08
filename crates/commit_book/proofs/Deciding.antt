-- The key store's decision on what compares the sync key is that of the law.
use Rattle.std.proofs.Common.{◌≡◌, ℕ, ◌==◌, ◌&&◌, Bool, true, false, cond, [], ◌∷◌, Option, Some, None, IsSome, refl, ◌∙◌, ap, sym, arith}
use Rattle.std.proofs.lemmas.Bool.Decides.{nat_tests}
use Rattle.std.specs.FinMap.{find}
use Rattle.pat_base.specs.declared.ticks.Ticks.{Ticks}
use Rattle.lease_store.specs.Decision.{Grant as Granting, found_in, is_as_expected, decision_if, decision_by}
use Rattle.lease_store.specs.Kinds.{IsOfKind}
use Rattle.lease_store.specs.KeyOrder.{key_cmp}
use Rattle.lease_store.specs.Keys.{is_present, key_in, present}
use Rattle.store_keys.specs.declared.key.Key.{Key}
use Rattle.store_keys.specs.declared.key.Key.TheVariants as keys
use Rattle.store_keys.specs.declared.txn.Expected.{Expected}
use Rattle.store_keys.specs.declared.txn.Expected.TheVariants.{Absent, Revision}
use Rattle.store_keys.specs.declared.value.KeyEntry.{KeyEntry}
use Rattle.store_keys.specs.declared.value.Value.{Value}
use Rattle.store_keys.specs.declared.value.Value.TheVariants as values
use Rattle.lease_store.proofs.Answering.{present_found}
use Rattle.lease_store.proofs.Keeping.{find_present, kind_found}
use Rattle.event_book.specs.Facts.{Facts}
use Rattle.lease_model.specs.Leases.{LeaderKey}
use Rattle.lease_model.specs.Stores.{leader_key_of, IsLeased, is_granted as grants}
use Rattle.lease_law.proofs.SameStore.{present-endless}
use Rattle.lease_model.proofs.Tools.{both}
use Rattle.lease_book.proofs.Flights.{snapshot-leader}
use Rattle.commit_actions.specs.Actions.{at_revision, is_as_read}
use Rattle.commit_actions.specs.Keys.{SyncKey}
use Rattle.commit_actions.specs.Past.{Past, leader_revision, revision_in}
use Rattle.commit_book.specs.Keys.{sync_key_of, IsSameKeys}

turned : (m n : ℕ) → (m == n) ≡ (n == m)
turned m n = grind (arith, nat_tests)

abbrev OfKind : Key → Option KeyEntry → Type 0
OfKind key found = (found_key : KeyEntry) → found ≡ Some found_key → IsOfKind key found_key.value

-- ---- the leader key
leader-value-read : (compared revision : ℕ) (value : Value) (expiry : Option Ticks)
    → IsOfKind keys.Leader value → IsSome expiry
    → (compared == revision)
    ≡ at_revision
    (leader_revision (leader_key_of (Some (record { value = value; revision = revision; expiry = expiry })))) compared
leader-value-read compared revision (values.Leader member) (Some expiry) kind leased = turned compared revision
leader-value-read compared revision (values.Leader member) None kind leased = absurd (both leased)
leader-value-read compared revision (values.Config config) expiry kind leased = absurd kind
leader-value-read compared revision (values.Member info) expiry kind leased = absurd kind
leader-value-read compared revision (values.Failover key) expiry kind leased = absurd kind
leader-value-read compared revision (values.Sync key) expiry kind leased = absurd kind
leader-value-read compared revision (values.Status end) expiry kind leased = absurd kind
leader-value-read compared revision (values.History row) expiry kind leased = absurd kind
leader-value-read compared revision (values.Failsafe members) expiry kind leased = absurd kind
leader-value-read compared revision (values.Scheduled planned) expiry kind leased = absurd kind

leader-read : (compared : ℕ) (found : Option KeyEntry) → OfKind keys.Leader found → IsLeased found
    → is_as_expected (Revision compared) (found_in found) ≡ at_revision (leader_revision (leader_key_of found)) compared
leader-read compared None kind leased = refl
leader-read compared (Some found_key) kind leased =
    leader-value-read compared found_key.revision found_key.value found_key.expiry (kind found_key refl) leased

leased-if : (b : Bool) (o : Option KeyEntry) → IsLeased o → IsLeased (cond b o None)
leased-if true o e = e
leased-if false o e = tt

leased-present : (clock : ℕ) (found : Option KeyEntry) → IsLeased found → IsLeased (present clock found)
leased-present clock None e = tt
leased-present clock (Some found_key) e = leased-if (is_present clock found_key.expiry) (Some found_key) e

-- what a compare of the leader key's revision finds
leader-compared : (past : Past) (facts : Facts) (compared : ℕ) → IsSameKeys past facts
    → is_as_expected (Revision compared) (found_in (key_in facts.keys.pairs facts.clock keys.Leader))
    ≡ at_revision (leader_revision past.lease.leader) compared
leader-compared past facts compared same =
    let entry : Option KeyEntry = find key_cmp keys.Leader facts.keys.pairs in
    leader-read compared (present facts.clock entry)
    (λ found_key is. kind_found keys.Leader facts.keys.pairs found_key same.lease.kept.kinds
    (present_found facts.clock entry found_key is))
    (leased-present facts.clock entry same.lease.leased)
    ∙ ap (λ (l : Option LeaderKey). at_revision (leader_revision l) compared)
    (sym (snapshot-leader past.lease facts same.lease
    ∙ ap leader_key_of (find_present facts.clock keys.Leader facts.keys.pairs same.lease.kept.order)))

-- ---- the sync key
sync-value-read : (expected : Expected) (revision : ℕ) (value : Value) (expiry : Option Ticks)
    → IsOfKind keys.Sync value
    → is_as_expected expected (Revision revision)
    ≡ is_as_read (sync_key_of (Some (record { value = value; revision = revision; expiry = expiry })))
    (revision_in expected)
sync-value-read Absent revision (values.Sync key) expiry kind = refl
sync-value-read (Revision compared) revision (values.Sync key) expiry kind = turned compared revision
sync-value-read expected revision (values.Leader member) expiry kind = absurd kind
sync-value-read expected revision (values.Config config) expiry kind = absurd kind
sync-value-read expected revision (values.Member info) expiry kind = absurd kind
sync-value-read expected revision (values.Failover key) expiry kind = absurd kind
sync-value-read expected revision (values.Status end) expiry kind = absurd kind
sync-value-read expected revision (values.History row) expiry kind = absurd kind
sync-value-read expected revision (values.Failsafe members) expiry kind = absurd kind
sync-value-read expected revision (values.Scheduled planned) expiry kind = absurd kind

sync-read : (expected : Expected) (found : Option KeyEntry) → OfKind keys.Sync found
    → is_as_expected expected (found_in found) ≡ is_as_read (sync_key_of found) (revision_in expected)
sync-read Absent None kind = refl
sync-read (Revision compared) None kind = refl
sync-read expected (Some found_key) kind =
    sync-value-read expected found_key.revision found_key.value found_key.expiry (kind found_key refl)

-- what a compare of the sync key finds
sync-compared : (past : Past) (facts : Facts) (expected : Expected) → IsSameKeys past facts
    → is_as_expected expected (found_in (key_in facts.keys.pairs facts.clock keys.Sync))
    ≡ is_as_read past.sync (revision_in expected)
sync-compared past facts expected same =
    let entry : Option KeyEntry = find key_cmp keys.Sync facts.keys.pairs in
    ap (λ (o : Option KeyEntry). is_as_expected expected (found_in o)) (present-endless facts.clock entry same.endless)
    ∙ sync-read expected entry
    (λ found_key is. kind_found keys.Sync facts.keys.pairs found_key same.lease.kept.kinds is)
    ∙ ap (λ (k : Option SyncKey). is_as_read k (revision_in expected)) (sym same.sync)

-- ---- decisions
grants-both : (a b : Bool) (key other : Key) (found also : Expected)
    → grants (decision_if a key found (decision_if b other also Granting)) ≡ (a && b)
grants-both true true key other found also = refl
grants-both true false key other found also = refl
grants-both false b key other found also = refl

-- on a claim, or a write of the sync key
pub decision-is : (past : Past) (facts : Facts) (compared : ℕ) (expected : Expected) → IsSameKeys past facts
    → grants (decision_by facts.keys.pairs facts.clock ((keys.Leader, Revision compared) ∷ (keys.Sync, expected) ∷ []))
    ≡ (at_revision (leader_revision past.lease.leader) compared && is_as_read past.sync (revision_in expected))
decision-is past facts compared expected same =
    let leader : Expected = found_in (key_in facts.keys.pairs facts.clock keys.Leader) in
    let sync : Expected = found_in (key_in facts.keys.pairs facts.clock keys.Sync) in
    grants-both (is_as_expected (Revision compared) leader)
    (is_as_expected expected sync) keys.Leader keys.Sync leader sync
    ∙ ap (λ (b : Bool). b && is_as_expected expected sync) (leader-compared past facts compared same)
    ∙ ap (λ (b : Bool). at_revision (leader_revision past.lease.leader) compared && b)
    (sync-compared past facts expected same)

grants-one : (a : Bool) (key : Key) (found : Expected) → grants (decision_if a key found Granting) ≡ a
grants-one true key found = refl
grants-one false key found = refl

there-from : (leader : Option LeaderKey) (compared : ℕ) → at_revision (leader_revision leader) compared ≡ true
    → (key : LeaderKey) × (leader ≡ Some key)
there-from None compared e = absurd (both e)
there-from (Some key) compared e = (key, refl)

-- where what compares the leader key alone is granted, that key is there
pub granted-leader : (past : Past) (facts : Facts) (compared : ℕ) → IsSameKeys past facts
    → decision_by facts.keys.pairs facts.clock ((keys.Leader, Revision compared) ∷ []) ≡ Granting
    → (key : LeaderKey) × (past.lease.leader ≡ Some key)
granted-leader past facts compared same granted =
    let leader : Expected = found_in (key_in facts.keys.pairs facts.clock keys.Leader) in
    there-from past.lease.leader compared
    (sym (leader-compared past facts compared same)
    ∙ sym (grants-one (is_as_expected (Revision compared) leader) keys.Leader leader) ∙ ap grants granted)
