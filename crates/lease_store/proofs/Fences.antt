-- A lease that was granted keeps earlier transactions out.
use Rattle.std.proofs.Common.{◌≡◌, ℕ, ◌+◌, ◌≤◌, ◌<◌, ◌++◌, List, [], ◌∷◌, Option, Some, None, refl, sym, ap, ◌∙◌, cond, Bool, true, false, not, subst, arith, inl, inr, ◌==◌}
use Rattle.std.proofs.lemmas.Bool.Decides.{nat_tests}
use Rattle.std.specs.Ordering.{eq_by_cmp}
use Rattle.std.specs.FinMap.{find, put}
use Rattle.pat_base.specs.declared.member_id.MemberId.{MemberId}
use Rattle.store_keys.specs.declared.key.Key.{Key}
use Rattle.store_keys.specs.declared.key.Key.TheVariants as keys
use Rattle.store_keys.specs.declared.value.KeyEntry.{KeyEntry}
use Rattle.store_keys.specs.declared.value.Value.TheVariants as values
use Rattle.store_keys.specs.declared.txn.Expected.{Expected}
use Rattle.store_keys.specs.declared.txn.Expected.TheVariants.{Absent, Revision}
use Rattle.store_keys.specs.declared.txn.Txn.{Txn}
use Rattle.store_keys.specs.declared.txn.Txn.TheVariants as txns
use Rattle.store_keys.specs.declared.txn.LeaseTxn.TheVariants as lease_txns
use Rattle.store_keys.specs.declared.txn.OperatorTxn.TheVariants as operator_txns
use Rattle.lease_store.specs.KeyOrder.{key_cmp}
use Rattle.lease_store.specs.Kept.{IsKept}
use Rattle.lease_store.specs.Keys.{Keys, key_in, present, first_keys}
use Rattle.store_keys.specs.Settings.{Settings}
use Rattle.lease_store.specs.Decision.{Decision, Grant, Refusal, decision_if, decision_by, decision_on, compares_of, found_in, is_as_expected}
use Rattle.lease_store.specs.Writes.{Write, Sets, Leases, Extends, Deletes, status_writes, row_writes, failsafe_writes, writes_of, extended_expiry, pairs_extended, without, pairs_after, pairs_over, keys_after_grant, is_lease}
use Rattle.lease_store.specs.Fencing.{StoreRequest, Call, Asks, Drops, IsGranted, keys_by_decision, keys_after_request, keys_after_call, keys_over, ComparesWith}
use Rattle.lease_store.proofs.Keeping.{find_put, find_without, find_present, kept_after, kept_present}
use Rattle.lease_store.proofs.Answering.{present_found}
use Rattle.lease_store.proofs.OneKey.{find_all_written}
use Rattle.pat_base.specs.declared.ticks.Ticks.{Ticks}
use Rattle.store_keys.specs.declared.value.FailoverKey.{FailoverKey}

-- the leader key, where it is held, is of a later revision
pub record Later (revision : ℕ) (found : Option KeyEntry) : Type 0 where
  pub above : (stored : KeyEntry) → found ≡ Some stored → revision < stored.revision

revision-of : (a b : KeyEntry) → Some a ≡ Some b → a.revision ≡ b.revision
revision-of a b h = ap (λ (stored : KeyEntry). stored.revision) (same a b h)
  where
    same : (a b : KeyEntry) → Some a ≡ Some b → a ≡ b
    same a b h = cc

later-none : (revision : ℕ) → Later revision None
later-none revision = record { above = λ stored h. absurd (never stored h) }
  where
    never : (stored : KeyEntry) → None ≡ Some stored → ⊥
    never stored h = cc

later-some : (revision : ℕ) (stored : KeyEntry) → revision < stored.revision → Later revision (Some stored)
later-some revision stored h = record {
  above = λ other is. subst (λ (n : ℕ). revision < n) (revision-of stored other is) h;
}

later-cond : (revision : ℕ) (b : Bool) (stored : KeyEntry) (found : Option KeyEntry)
    → revision < stored.revision → Later revision found → Later revision (cond b (Some stored) found)
later-cond revision true stored found h old = later-some revision stored h
later-cond revision false stored found h old = old

later-left : (revision : ℕ) (b : Bool) (found : Option KeyEntry) → Later revision found
    → Later revision (cond b found None)
later-left revision true found old = old
later-left revision false found old = later-none revision

-- whatever key it is
module _ (fence : Key) where
  later-put : (revision : ℕ) (key : Key) (stored : KeyEntry) (es : List (Key × KeyEntry)) → revision < stored.revision
      → Later revision (find key_cmp fence es) → Later revision (find key_cmp fence (put key_cmp key stored es))
  later-put revision key stored es h old = subst (Later revision) (sym (find_put fence key stored es))
      (later-cond revision (eq_by_cmp key_cmp fence key) stored (find key_cmp fence es) h old)

  later-pairs_extended : (revision by until : ℕ) (key : Key) (es : List (Key × KeyEntry)) (found : Option KeyEntry)
      → revision < by → Later revision (find key_cmp fence es)
      → Later revision (find key_cmp fence (pairs_extended by until es key found))
  later-pairs_extended revision by until key es None h old = old
  later-pairs_extended revision by until key es (Some stored) h old =
      later-put revision key (record stored { revision = by; expiry = extended_expiry until stored.expiry }) es h old

  later-without : (revision : ℕ) (key : Key) (es : List (Key × KeyEntry))
      → Later revision (find key_cmp fence es) → Later revision (find key_cmp fence (without key es))
  later-without revision key es old = subst (Later revision) (sym (find_without fence key es))
      (later-left revision (not (eq_by_cmp key_cmp key fence)) (find key_cmp fence es) old)

  later-pairs_after : (revision by now : ℕ) (write : Write) (es : List (Key × KeyEntry)) → revision < by
      → Later revision (find key_cmp fence es) → Later revision (find key_cmp fence (pairs_after by now es write))
  later-pairs_after revision by now (Sets key value) es h old =
      later-put revision key (record { value = value; revision = by; expiry = None }) es h old
  later-pairs_after revision by now (Leases key value ttl) es h old = later-put revision key
      (record { value = value; revision = by; expiry = Some (record { 0 = now + ttl.0 }) }) es h old
  later-pairs_after revision by now (Extends key ttl) es h old =
      later-pairs_extended revision by (now + ttl.0) key es (find key_cmp key es) h old
  later-pairs_after revision by now (Deletes key) es h old = later-without revision key es old

  later-all : (revision by now : ℕ) (writes : List Write) (es : List (Key × KeyEntry)) → revision < by
      → Later revision (find key_cmp fence es) → Later revision (find key_cmp fence (pairs_over by now es writes))
  later-all revision by now [] es h old = old
  later-all revision by now (write ∷ writes) es h old = later-all revision by now writes
      (pairs_after by now es write) h (later-pairs_after revision by now write es h old)

-- ---- a granted lease
later-lease : (revision : ℕ) (stored : KeyEntry) (es : List (Key × KeyEntry)) → revision < stored.revision
    → Later revision (find key_cmp keys.Leader (put key_cmp keys.Leader stored es))
later-lease revision stored es h =
    subst (Later revision) (sym (find_put keys.Leader keys.Leader stored es)) (later-some revision stored h)

later-renewal : (revision by until : ℕ) (es : List (Key × KeyEntry)) (found : Option KeyEntry)
    → find key_cmp keys.Leader es ≡ found → revision < by
    → Later revision (find key_cmp keys.Leader (pairs_extended by until es keys.Leader found))
later-renewal revision by until es None is h = subst (Later revision) (sym is) (later-none revision)
later-renewal revision by until es (Some stored) is h =
    later-lease revision (record stored { revision = by; expiry = extended_expiry until stored.expiry }) es h

later-leased : (revision by now : ℕ) (member : MemberId) (txn : Txn) (es : List (Key × KeyEntry)) → is_lease txn ≡ true
    → revision < by → Later revision (find key_cmp keys.Leader (pairs_over by now es (writes_of member txn)))
later-leased revision by now member (txns.Lease (lease_txns.Create info ttl failsafe sync)) es is h =
    let stored : KeyEntry =
    record { value = values.Leader member; revision = by; expiry = Some (record { 0 = now + ttl.0 }) } in
    later-all keys.Leader revision by now (Leases (keys.Member member) (values.Member info) ttl ∷ [])
    (put key_cmp keys.Leader stored es) h (later-lease revision stored es h)
later-leased revision by now member (txns.Lease (lease_txns.Renew compared info ttl status row failsafe)) es is h =
    later-all keys.Leader revision by now
    (Leases (keys.Member member) (values.Member info) ttl
    ∷ (status_writes status ++ (row_writes row ++ failsafe_writes failsafe)))
    (pairs_extended by (now + ttl.0) es keys.Leader (find key_cmp keys.Leader es)) h
    (later-renewal revision by (now + ttl.0) es (find key_cmp keys.Leader es) refl h)
later-leased revision by now member _ es is h = absurd (never is)
  where
    never : false ≡ true → ⊥
    never h = cc

-- ---- calls, whatever key it is
module _ (fence : Key) where
  -- what is kept of the fence: the pairs are those of a store, its revisions are later, and so is the leader key's
  pub record Fenced (revision : ℕ) (store : Keys) : Type 0 where
    pub kept : IsKept store.pairs
    pub counted : revision ≤ store.revision
    pub leader : Later revision (find key_cmp fence store.pairs)

  fenced-granted : (revision : ℕ) (store : Keys) (request : StoreRequest) → Fenced revision store
      → Fenced revision (keys_after_grant store request.at request.by request.txn)
  fenced-granted revision store request f = record {
    kept = kept_after (store.revision + 1) request.at request.by request.txn store.pairs f.kept;
    counted = omega (arith, f.counted);
    leader = later-all fence revision (store.revision + 1) request.at
        (writes_of request.by request.txn) store.pairs (omega (arith, f.counted)) f.leader;
  }

  fenced-keys_by_decision : (revision : ℕ) (store : Keys) (request : StoreRequest) (decision : Decision)
      → Fenced revision store → Fenced revision (keys_by_decision decision store request)
  fenced-keys_by_decision revision store request Grant f = fenced-granted revision store request f
  fenced-keys_by_decision revision store request (Refusal key found) f = f

  later-present : (revision now : ℕ) (found : Option KeyEntry) → Later revision found
      → Later revision (present now found)
  later-present revision now found old = record {
    above = λ stored h. old.above stored (present_found now found stored h);
  }

  fenced-keys_after_call : (revision : ℕ) (store : Keys) (call : Call) → Fenced revision store
      → Fenced revision (keys_after_call store call)
  fenced-keys_after_call revision store (Asks request) f =
      fenced-keys_by_decision revision store request (decision_on store request.at request.txn) f
  fenced-keys_after_call revision store (Drops now) f = record {
    kept = kept_present now store.pairs f.kept;
    counted = f.counted;
    leader = subst (Later revision) (sym (find_present now fence store.pairs f.kept.order))
        (later-present revision now (find key_cmp fence store.pairs) f.leader);
  }

  fenced-states : (revision : ℕ) (store : Keys) (calls : List Call) → Fenced revision store
      → Fenced revision (keys_over store calls)
  fenced-states revision store [] f = f
  fenced-states revision store (call ∷ calls) f =
      fenced-states revision (keys_after_call store call) calls (fenced-keys_after_call revision store call f)

-- ---- a transaction that compares an earlier revision
decision_if-both : (b : Bool) (key : Key) (found : Expected) (rest : Decision)
    → decision_if b key found rest ≡ Grant → (b ≡ true) × (rest ≡ Grant)
decision_if-both true key found rest h = (refl, h)
decision_if-both false key found rest h = absurd (never h)
  where
    never : Refusal key found ≡ Grant → ⊥
    never h = cc

nat-same : (a b : ℕ) → (a == b) ≡ true → a ≡ b
nat-same a b h = grind (arith, nat_tests)

as-expected : (expected found : Expected) → is_as_expected expected found ≡ true → expected ≡ found
as-expected Absent Absent h = refl
as-expected (Revision a) (Revision b) h = ap Revision (nat-same a b h)
as-expected Absent (Revision b) h = cc
as-expected (Revision a) Absent h = cc

-- what a granted transaction compares is what is found
granted-finds : (es : List (Key × KeyEntry)) (now : ℕ) (key : Key) (revision : ℕ) (compares : List (Key × Expected))
    → decision_by es now compares ≡ Grant → ComparesWith key revision compares
    → found_in (key_in es now key) ≡ Revision revision
granted-finds es now key revision [] grant with_key = absurd with_key
granted-finds es now key revision (compare ∷ compares) grant with_key =
    let parts = decision_if-both (is_as_expected compare.1 (found_in (key_in es now compare.0))) compare.0
    (found_in (key_in es now compare.0)) (decision_by es now compares) grant in
    elim with_key [
      | inl is ↦ ap (λ (c : Key × Expected). found_in (key_in es now c.0)) (sym is)
          ∙ sym (as-expected compare.1 (found_in (key_in es now compare.0)) parts.0)
          ∙ ap (λ (c : Key × Expected). c.1) is
      | inr more ↦ granted-finds es now key revision compares parts.1 more
    ]

found-later : (revision earlier : ℕ) (found : Option KeyEntry) → Later revision found
    → found_in found ≡ Revision earlier → revision < earlier
found-later revision earlier None old is = absurd (never is)
  where
    never : Absent ≡ Revision earlier → ⊥
    never h = cc
found-later revision earlier (Some stored) old is =
    subst (λ (n : ℕ). revision < n) (same stored.revision earlier is) (old.above stored refl)
  where
    same : (a b : ℕ) → Revision a ≡ Revision b → a ≡ b
    same a b h = cc

module _ (fence : Key) where
  pub not_granted : (revision earlier : ℕ) (store : Keys) (late : StoreRequest) → Fenced fence revision store
      → earlier ≤ revision → ComparesWith fence earlier (compares_of late.txn) → ¬ IsGranted store late
  not_granted revision earlier store late f le compares granted =
      let lt = found-later revision earlier (key_in store.pairs late.at fence)
      (later-present fence revision late.at (find key_cmp fence store.pairs) f.leader)
      (granted-finds store.pairs late.at fence earlier (compares_of late.txn) granted compares) in
      absurd (apart lt le)
    where
      apart : revision < earlier → earlier ≤ revision → ⊥
      apart lt le = omega arith

fenced-lease : (store : Keys) (lease : StoreRequest) (decision : Decision) → IsKept store.pairs
    → is_lease lease.txn ≡ true → decision ≡ Grant
    → Fenced keys.Leader store.revision (keys_by_decision decision store lease)
fenced-lease store lease Grant kept leases granted = record {
  kept = kept_after (store.revision + 1) lease.at lease.by lease.txn store.pairs kept;
  counted = omega arith;
  leader =
      later-leased store.revision (store.revision + 1) lease.at lease.by lease.txn store.pairs leases (omega arith);
}
fenced-lease store lease (Refusal key found) kept leases granted = absurd (never granted)
  where
    never : Refusal key found ≡ Grant → ⊥
    never h = cc

pub fenced_off : (store : Keys) (lease late : StoreRequest) (calls : List Call) (revision : ℕ) → IsKept store.pairs
    → is_lease lease.txn ≡ true → IsGranted store lease → ComparesWith keys.Leader revision (compares_of late.txn)
    → revision ≤ store.revision → ¬ IsGranted (keys_over (keys_after_request store lease) calls) late
fenced_off store lease late calls revision kept leases granted compares earlier =
    not_granted keys.Leader store.revision revision (keys_over (keys_after_request store lease) calls) late
    (fenced-states keys.Leader store.revision (keys_after_request store lease) calls
    (fenced-lease store lease (decision_on store lease.at lease.txn) kept leases granted))
    earlier compares

-- ---- a key that isn't there
-- once a key isn't there, no transaction that compares a revision from before is granted, whatever is asked in between
pub stays_gone : (key : Key) (store : Keys) (calls : List Call) (late : StoreRequest) (revision : ℕ)
    → IsKept store.pairs → find key_cmp key store.pairs ≡ None → ComparesWith key revision (compares_of late.txn)
    → revision ≤ store.revision → ¬ IsGranted (keys_over store calls) late
stays_gone key store calls late revision kept gone compares earlier =
    let fenced : Fenced key store.revision store = record {
      kept = kept;
      counted = omega arith;
      leader = subst (Later store.revision) (sym gone) (later-none store.revision);
    } in
    not_granted key store.revision revision (keys_over store calls) late
    (fenced-states key store.revision store calls fenced) earlier compares

-- ---- runs
kept-keys_by_decision : (store : Keys) (request : StoreRequest) (decision : Decision) → IsKept store.pairs
    → IsKept (keys_by_decision decision store request).pairs
kept-keys_by_decision store request Grant kept =
    kept_after (store.revision + 1) request.at request.by request.txn store.pairs kept
kept-keys_by_decision store request (Refusal key found) kept = kept

kept-keys_after_call : (store : Keys) (call : Call) → IsKept store.pairs → IsKept (keys_after_call store call).pairs
kept-keys_after_call store (Asks request) kept =
    kept-keys_by_decision store request (decision_on store request.at request.txn) kept
kept-keys_after_call store (Drops now) kept = kept_present now store.pairs kept

-- every run keeps what holds of the pairs of a store
pub kept_states : (store : Keys) (calls : List Call) → IsKept store.pairs → IsKept (keys_over store calls).pairs
kept_states store [] kept = kept
kept_states store (call ∷ calls) kept =
    kept_states (keys_after_call store call) calls (kept-keys_after_call store call kept)

pub kept_first : (config : Settings) → IsKept (first_keys config).pairs
kept_first config = record { order = refl; kinds = (tt, tt); config = refl }

grows-keys_by_decision : (store : Keys) (request : StoreRequest) (decision : Decision)
    → store.revision ≤ (keys_by_decision decision store request).revision
grows-keys_by_decision store request Grant = omega arith
grows-keys_by_decision store request (Refusal key found) = omega arith

grows-keys_after_call : (store : Keys) (call : Call) → store.revision ≤ (keys_after_call store call).revision
grows-keys_after_call store (Asks request) =
    grows-keys_by_decision store request (decision_on store request.at request.txn)
grows-keys_after_call store (Drops now) = omega arith

pub grows_states : (store : Keys) (calls : List Call) → store.revision ≤ (keys_over store calls).revision
grows_states store [] = omega arith
grows_states store (call ∷ calls) =
    omega (arith, grows-keys_after_call store call, grows_states (keys_after_call store call) calls)

-- ---- a scheduled switchover
scheduled-out : (store : Keys) (fire : StoreRequest) (decision : Decision) (leader revision : ℕ)
    (failover : FailoverKey) (ttl : Ticks) → fire.txn ≡ txns.Operators (operator_txns.Fire leader revision failover ttl)
    → decision ≡ Grant → find key_cmp keys.Scheduled (keys_by_decision decision store fire).pairs ≡ None
scheduled-out store fire Grant leader revision failover ttl is granted =
    ap (λ (txn : Txn). find key_cmp keys.Scheduled (keys_after_grant store fire.at fire.by txn).pairs) is
    ∙ find_all_written (store.revision + 1) fire.at keys.Scheduled store.pairs
    (writes_of fire.by (txns.Operators (operator_txns.Fire leader revision failover ttl)))
scheduled-out store fire (Refusal key found) leader revision failover ttl is granted = absurd (never granted)
  where
    never : Refusal key found ≡ Grant → ⊥
    never h = cc

-- a schedule that was fired is compared with success no more
pub fires_once : (store : Keys) (fire late : StoreRequest) (calls : List Call) (leader revision : ℕ)
    (failover : FailoverKey) (ttl : Ticks) → IsKept store.pairs
    → fire.txn ≡ txns.Operators (operator_txns.Fire leader revision failover ttl) → IsGranted store fire
    → revision ≤ store.revision
    → ComparesWith keys.Scheduled revision (compares_of late.txn)
    → ¬ IsGranted (keys_over (keys_after_request store fire) calls) late
fires_once store fire late calls leader revision failover ttl kept is granted earlier compares =
    stays_gone keys.Scheduled (keys_after_request store fire) calls late revision
    (kept_states store (Asks fire ∷ []) kept)
    (scheduled-out store fire (decision_on store fire.at fire.txn) leader revision failover ttl is granted) compares
    (omega (arith, earlier, grows_states store (Asks fire ∷ [])))
