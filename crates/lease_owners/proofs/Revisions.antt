-- The revisions of the leader key over each event: those that were given stay whose they are.
use Rattle.std.proofs.Common.{ℕ, ◌≡◌, ◌⊎◌, ◌≤◌, ◌<◌, ◌+◌, nat_le, Bool, true, false, Option, Some, None, refl, sym, ap, subst, ◌∙◌, inl, inr, arith}
use Rattle.std.specs.FinMap.{find}
use Rattle.store_keys.specs.declared.key.Key.TheVariants as keys
use Rattle.store_keys.specs.declared.txn.Txn.{Txn}
use Rattle.store_keys.specs.declared.txn.Txn.TheVariants as txns
use Rattle.store_keys.specs.declared.txn.LeaseTxn.TheVariants as lease_txns
use Rattle.lease_store.specs.KeyOrder.{key_cmp}
use Rattle.event_book.specs.declared.event.EventKind.{EventKind}
use Rattle.event_book.specs.declared.event.EventKind.TheVariants as kinds
use Rattle.event_book.specs.declared.event.StoreEvent.TheVariants as stores
use Rattle.event_book.specs.Facts.{Facts, facts_after}
use Rattle.lease_model.specs.Carried.{IsVouched}
use Rattle.lease_model.specs.Leases.{LeaderKey}
use Rattle.lease_model.specs.Past.{Past, extended_by, leader_granted, past_after, query_of}
use Rattle.lease_model.specs.States.{kept_if, leader_kept}
use Rattle.lease_model.specs.Outcomes.{renewed}
use Rattle.lease_model.specs.Stores.{IsSameStore, IsSpanned, leader_key_of}
use Rattle.lease_model.proofs.Tools.{none-some, some-is}
use Rattle.lease_law.proofs.SameStore.{same-by}
use Rattle.lease_owners.specs.Owning.{IsOf}

-- ---- the leader key is as it was, or has a revision above all before
kept-was : (expired : Bool) (key later : LeaderKey) → kept_if expired key ≡ Some later
    → ◌≡◌ {A = Option LeaderKey} (Some key) (Some later)
kept-was true key later is = absurd (none-some later is)
kept-was false key later is = is

ticked-was : (now : ℕ) (leader : Option LeaderKey) (later : LeaderKey) → leader_kept now leader ≡ Some later
    → leader ≡ Some later
ticked-was now None later is = absurd (none-some later is)
ticked-was now (Some key) later is = kept-was (nat_le key.expiry now) key later is

extended-above : (clock revision ttl : ℕ) (leader : Option LeaderKey) (later : LeaderKey)
    → extended_by clock (revision + 1) ttl leader ≡ Some later → revision < later.revision
extended-above clock revision ttl None later is = absurd (none-some later is)
extended-above clock revision ttl (Some key) later is =
    let same : revision + 1 ≡ later.revision =
    ap (λ (k : LeaderKey). k.revision) (some-is (renewed clock (revision + 1) ttl key) later is) in
    omega (arith, same)

granted-above : (clock revision by : ℕ) (leader : Option LeaderKey) (txn : Txn) (later : LeaderKey)
    → leader_granted clock revision leader by (query_of txn) ≡ Some later
    → (leader ≡ Some later) ⊎ (revision < later.revision)
granted-above clock revision by leader (txns.Lease (lease_txns.Create info ttl failsafe sync)) later is =
    let same : revision + 1 ≡ later.revision = ap (λ (k : LeaderKey). k.revision)
    (some-is (record { holder = by; revision = revision + 1; expiry = clock + ttl.0 }) later is) in
    inr (omega (arith, same))
granted-above clock revision by leader (txns.Lease (lease_txns.Renew compared info ttl status row failsafe)) later is =
    inr (extended-above clock revision ttl.0 leader later is)
granted-above clock revision by leader (txns.Lease (lease_txns.Release compared)) later is = absurd (none-some later is)
granted-above clock revision by leader _ later is = inl is

pub leader-grows : (past : Past) (kind : EventKind) (later : LeaderKey) → (past_after past kind).leader ≡ Some later
    → (past.leader ≡ Some later) ⊎ (past.revision < later.revision)
leader-grows past kinds.Tick later is = inl (ticked-was (past.clock + 1) past.leader later is)
leader-grows past (kinds.Store (stores.Granted number by txn standbys)) later is =
    granted-above past.clock past.revision by.id.number past.leader txn later is
leader-grows past _ later is = inl is

more : (n : ℕ) → n ≤ n + 1
more n = omega arith

same-at : (n : ℕ) → n ≤ n
same-at n = omega arith

revision-grows : (past : Past) (kind : EventKind) → past.revision ≤ (past_after past kind).revision
revision-grows past (kinds.Store (stores.Granted number by txn standbys)) = more past.revision
revision-grows past _ = same-at past.revision

no-old : (revision given later : ℕ) → revision ≤ given → given < later → later ≡ revision → ⊥
no-old revision given later low above same = omega (arith, low, above, same)

up-to : (a b c : ℕ) → a ≤ b → b ≤ c → a ≤ c
up-to a b c low high = omega (arith, low, high)

vouched-by : (past : Past) (kind : EventKind) (m revision : ℕ) → IsVouched past.leader past.revision m revision
    → IsVouched (past_after past kind).leader (past_after past kind).revision m revision
vouched-by past kind m revision old = record {
  bound = up-to revision past.revision (past_after past kind).revision old.bound (revision-grows past kind);
  owner = λ key is same. elim (leader-grows past kind key is) [
    | inl was ↦ old.owner key was same
    | inr above ↦ absurd (no-old revision past.revision key.revision old.bound above same)
  ];
}

-- ---- as the key store has it
pub of-past : (past : Past) (facts : Facts) → IsSameStore past facts → (m revision : ℕ)
    → IsVouched past.leader past.revision m revision → IsOf facts.keys m revision
of-past past facts store m revision vouched =
    subst (λ (leader : Option LeaderKey). IsVouched leader facts.keys.revision m revision) store.leader
    (subst (λ (given : ℕ). IsVouched past.leader given m revision) store.revision vouched)

pub past-of : (past : Past) (facts : Facts) → IsSameStore past facts → (m revision : ℕ)
    → IsOf facts.keys m revision → IsVouched past.leader past.revision m revision
past-of past facts store m revision is =
    subst (λ (given : ℕ). IsVouched past.leader given m revision) (sym store.revision)
    (subst (λ (leader : Option LeaderKey). IsVouched leader facts.keys.revision m revision) (sym store.leader) is)

pub of-by : (past : Past) (facts : Facts) (kind : EventKind) → IsSpanned kind → IsSameStore past facts
    → (m revision : ℕ) → IsOf facts.keys m revision → IsOf (facts_after facts kind).keys m revision
of-by past facts kind spanned store m revision is =
    of-past (past_after past kind) (facts_after facts kind) (same-by past facts kind spanned store) m revision
    (vouched-by past kind m revision (past-of past facts store m revision is))

-- no key has a revision above the last that was given
extended-bounded : (clock revision ttl : ℕ) (leader : Option LeaderKey) (later : LeaderKey)
    → extended_by clock (revision + 1) ttl leader ≡ Some later → later.revision ≤ revision + 1
extended-bounded clock revision ttl None later is = absurd (none-some later is)
extended-bounded clock revision ttl (Some key) later is =
    let same : revision + 1 ≡ later.revision =
    ap (λ (k : LeaderKey). k.revision) (some-is (renewed clock (revision + 1) ttl key) later is) in
    omega (arith, same)

granted-bounded : (clock revision by : ℕ) (leader : Option LeaderKey) (txn : Txn)
    → ((key : LeaderKey) → leader ≡ Some key → key.revision ≤ revision) → (later : LeaderKey)
    → leader_granted clock revision leader by (query_of txn) ≡ Some later → later.revision ≤ revision + 1
granted-bounded clock revision by leader (txns.Lease (lease_txns.Create info ttl failsafe sync)) old later is =
    let same : revision + 1 ≡ later.revision = ap (λ (k : LeaderKey). k.revision)
    (some-is (record { holder = by; revision = revision + 1; expiry = clock + ttl.0 }) later is) in
    omega (arith, same)
granted-bounded clock revision by leader (txns.Lease (lease_txns.Renew compared info ttl status row failsafe)) old later
    is =
    extended-bounded clock revision ttl.0 leader later is
granted-bounded clock revision by leader (txns.Lease (lease_txns.Release compared)) old later is =
    absurd (none-some later is)
granted-bounded clock revision by leader _ old later is =
    up-to later.revision revision (revision + 1) (old later is) (more revision)

pub bounded-by : (past : Past) (kind : EventKind)
    → ((key : LeaderKey) → past.leader ≡ Some key → key.revision ≤ past.revision) → (later : LeaderKey)
    → (past_after past kind).leader ≡ Some later → later.revision ≤ (past_after past kind).revision
bounded-by past kinds.Tick old later is = old later (ticked-was (past.clock + 1) past.leader later is)
bounded-by past (kinds.Store (stores.Granted number by txn standbys)) old later is =
    granted-bounded past.clock past.revision by.id.number past.leader txn old later is
bounded-by past _ old later is = old later is
