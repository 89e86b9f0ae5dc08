-- What follows from what a store keeps.
use Rattle.std.proofs.Common.{◌≡◌, ℕ, ◌≤◌, nat_lt, List, Option, Some, None, Result, Ok, Err, IfOk, IfSome, IsSome, IsNone, IsTrue, ◌↔◌, refl, sym, ap, ◌∙◌, cond, Bool, true, false, subst, option_copied, Bor, Vec, arith}
use Rattle.std.proofs.lemmas.Bool.Decides.{nat_tests}
use Rattle.std.specs.FinMap.{find, is_sorted}
use Rattle.pat_base.specs.declared.ticks.Ticks.{Ticks}
use Rattle.pat_base.specs.declared.member_id.MemberId.{MemberId}
use Rattle.store_keys.specs.declared.key.Key.{Key}
use Rattle.store_keys.specs.declared.key.Key.TheVariants as keys
use Rattle.store_keys.specs.declared.value.KeyEntry.{KeyEntry}
use Rattle.store_keys.specs.declared.value.Value.{Value}
use Rattle.store_keys.specs.declared.value.Value.TheVariants as values
use Rattle.store_keys.specs.declared.txn.Txn.{Txn}
use Rattle.lease_store.specs.KeyOrder.{key_cmp}
use Rattle.lease_store.specs.Kinds.{IsOfKind}
use Rattle.lease_store.specs.Kept.{AreOfKind, IsLasting, IsKept}
use Rattle.lease_store.specs.Keys.{Keys, is_present, present, key_in, key_at}
use Rattle.lease_store.specs.Writes.{writes_of, pairs_over}
use Rattle.lease_store.specs.Answers.{present_pairs, holder_lost}
use Rattle.store_keys.specs.Holders.{holder_of}
use Rattle.lease_store.proofs.Keeping.{kept_after, kept_present, kind_found, find_present}

pub kept_written : (revision now : ℕ) (by : MemberId) (txn : Txn) (old mid after : List (Key × KeyEntry))
    → mid ≡ old → after ≡ pairs_over revision now mid (writes_of by txn) → IsKept old → IsKept after
kept_written revision now by txn old mid after same is kept =
    subst IsKept (sym is) (kept_after revision now by txn mid (subst IsKept (sym same) kept))

pub kept_dropped : (now : ℕ) (old after : List (Key × KeyEntry)) → after ≡ present_pairs now old → IsKept old
    → IsKept after
kept_dropped now old after is kept = subst IsKept (sym is) (kept_present now old kept)

-- ---- what get tells
chosen-some : (b : Bool) (x stored : KeyEntry) → cond b (Some x) None ≡ Some stored → Some x ≡ Some stored
chosen-some true x stored h = h
chosen-some false x stored h = cc

pub present_found : (now : ℕ) (o : Option KeyEntry) (stored : KeyEntry) → present now o ≡ Some stored → o ≡ Some stored
present_found now None stored h = h
present_found now (Some x) stored h = chosen-some (is_present now x.expiry) x stored h

pub kind_got : (now : ℕ) (key : Key) (slice pairs : List (Key × KeyEntry)) (r : Option (Bor KeyEntry)) → slice ≡ pairs
    → AreOfKind pairs → option_copied r ≡ key_in slice now key → IfSome r (λ stored. IsOfKind key stored.now.value)
kind_got now key slice pairs None same kinds is = tt
kind_got now key slice pairs (Some stored) same kinds is =
    kind_found key pairs stored.now kinds
    (present_found now (find key_cmp key pairs) stored.now (ap (λ t. key_in t now key) (sym same) ∙ sym is))

-- ---- what entries tells
if-each : {X E : Type 0} (P Q : X → Type 0) (r : Result X E) → IfOk r P → ((x : X) → P x → Q x) → IfOk r Q
if-each P Q (Ok x) h each = each x h
if-each P Q (Err e) h each = h

-- the pairs that were copied are those that are present of what is kept
pub record Copied (now : ℕ) (pairs items : List (Key × KeyEntry)) : Type 0 where
  pub kept : IsKept pairs
  pub are : items ≡ present_pairs now pairs

pub copied_each : {Z E : Type 0} (now : ℕ) (slice pairs : List (Key × KeyEntry)) (r : Result (Vec (Key × KeyEntry) Z) E)
    → slice ≡ pairs → IsKept pairs → IfOk r (λ copies. copies.items ≡ present_pairs now slice)
    → IfOk r (λ copies. Copied now pairs copies.items)
copied_each now slice pairs r same kept is =
    if-each (λ copies. copies.items ≡ present_pairs now slice) (λ copies. Copied now pairs copies.items) r is
    (λ copies e. record { kept = kept; are = e ∙ ap (present_pairs now) same })

pub copied_found : {Z E : Type 0} (now : ℕ) (pairs : List (Key × KeyEntry)) (store : Keys)
    (r : Result (Vec (Key × KeyEntry) Z) E) → pairs ≡ store.pairs → IfOk r (λ copies. Copied now pairs copies.items)
    → IfOk r (λ entries. (key : Key) → find key_cmp key entries.items ≡ key_at store now key)
copied_found now pairs store r same copied =
    if-each (λ copies. Copied now pairs copies.items)
    (λ entries. (key : Key) → find key_cmp key entries.items ≡ key_at store now key) r copied
    (λ entries c key. ap (find key_cmp key) c.are ∙ find_present now key pairs c.kept.order
    ∙ ap (λ t. key_in t now key) same)

pub copied_order : {Z E : Type 0} (now : ℕ) (pairs : List (Key × KeyEntry)) (r : Result (Vec (Key × KeyEntry) Z) E)
    → IfOk r (λ copies. Copied now pairs copies.items) → IfOk r (λ entries. IsTrue (is_sorted key_cmp entries.items))
copied_order now pairs r copied =
    if-each (λ copies. Copied now pairs copies.items) (λ entries. IsTrue (is_sorted key_cmp entries.items)) r copied
    (λ entries c. (kept_dropped now pairs entries.items c.are c.kept).order)

pub copied_kinds : {Z E : Type 0} (now : ℕ) (pairs : List (Key × KeyEntry)) (r : Result (Vec (Key × KeyEntry) Z) E)
    → IfOk r (λ copies. Copied now pairs copies.items) → IfOk r (λ entries. AreOfKind entries.items)
copied_kinds now pairs r copied =
    if-each (λ copies. Copied now pairs copies.items) (λ entries. AreOfKind entries.items) r copied
    (λ entries c. (kept_dropped now pairs entries.items c.are c.kept).kinds)

lasting-some : (o : Option KeyEntry) → IsLasting o → IsSome o
lasting-some None last = absurd last
lasting-some (Some stored) last = refl

pub copied_config : {Z E : Type 0} (now : ℕ) (pairs : List (Key × KeyEntry)) (r : Result (Vec (Key × KeyEntry) Z) E)
    → IfOk r (λ copies. Copied now pairs copies.items)
    → IfOk r (λ entries. IsSome (find key_cmp keys.Config entries.items))
copied_config now pairs r copied =
    if-each (λ copies. Copied now pairs copies.items)
    (λ entries. IsSome (find key_cmp keys.Config entries.items)) r copied
    (λ entries c. lasting-some _ (kept_dropped now pairs entries.items c.are c.kept).config)

-- ---- what drop_expired tells
present-twice : (now later : ℕ) (stored : KeyEntry) (b c : Bool) → is_present later stored.expiry ≡ c
    → (b ≡ false → c ≡ false) → present later (cond b (Some stored) None) ≡ cond c (Some stored) None
present-twice now later stored true c is earlier = ap (λ t. cond t (Some stored) None) is
present-twice now later stored false c is earlier = ap (λ t. cond t (Some stored) None) (sym (earlier refl))

still-absent : (now later : ℕ) (expiry : Option Ticks) → now ≤ later → is_present now expiry ≡ false
    → is_present later expiry ≡ false
still-absent now later None le h = h
still-absent now later (Some expiry) le h = earlier now later expiry.0 le h
  where
    earlier : (m n e : ℕ) → m ≤ n → nat_lt m e ≡ false → nat_lt n e ≡ false
    earlier m n e le h = grind (arith, nat_tests)

pub present_later : (now later : ℕ) (o : Option KeyEntry) → now ≤ later
    → present later (present now o) ≡ present later o
present_later now later None le = refl
present_later now later (Some stored) le =
    present-twice now later stored (is_present now stored.expiry) (is_present later stored.expiry) refl
    (still-absent now later stored.expiry le)

pub same_later : (now later : ℕ) (key : Key) (old after : List (Key × KeyEntry)) (store : Keys)
    → after ≡ present_pairs now old → IsKept old → old ≡ store.pairs → now ≤ later
    → key_in after later key ≡ key_at store later key
same_later now later key old after store is kept same le =
    ap (λ t. key_in t later key) is
    ∙ ap (present later) (find_present now key old kept.order)
    ∙ present_later now later (find key_cmp key old) le
    ∙ ap (λ t. key_in t later key) same

leader-of : (value : Value) → IsOfKind keys.Leader value → IsSome (holder_of value)
leader-of (values.Leader member) is = refl
leader-of _ is = absurd is

lost-by : (b : Bool) (stored : KeyEntry) → IsOfKind keys.Leader stored.value
    → IsSome (cond b None (holder_of stored.value)) ↔ (IsSome (Some stored) × IsNone (cond b (Some stored) None))
lost-by true stored kind = (λ h. (refl, never h), λ p. never (sym p.1))
  where
    never : {P : Type 0} → false ≡ true → P
    never h = cc
lost-by false stored kind = (λ h. (refl, refl), λ p. leader-of stored.value kind)

lost-at : (now : ℕ) (o : Option KeyEntry) → ((stored : KeyEntry) → o ≡ Some stored → IsOfKind keys.Leader stored.value)
    → IsSome (holder_lost now o) ↔ (IsSome o × IsNone (present now o))
lost-at now None kind = (λ h. (h, refl), λ p. p.0)
lost-at now (Some stored) kind = lost-by (is_present now stored.expiry) stored (kind stored refl)

-- the holder is told exactly where the leader key was held and absent
pub lost_where : (now : ℕ) (slice pairs : List (Key × KeyEntry)) (store : Keys) (r : Option MemberId)
    → slice ≡ pairs → pairs ≡ store.pairs → AreOfKind pairs → r ≡ holder_lost now (find key_cmp keys.Leader slice)
    → IsSome r ↔ (IsSome (find key_cmp keys.Leader store.pairs) × IsNone (key_at store now keys.Leader))
lost_where now slice pairs store r same seen kinds is =
    subst (λ (t : List (Key × KeyEntry)).
    IsSome r ↔ (IsSome (find key_cmp keys.Leader t) × IsNone (key_in t now keys.Leader)))
    seen
    (subst (λ (o : Option MemberId).
    IsSome o ↔ (IsSome (find key_cmp keys.Leader pairs) × IsNone (key_in pairs now keys.Leader)))
    (sym (is ∙ ap (λ t. holder_lost now (find key_cmp keys.Leader t)) same))
    (lost-at now (find key_cmp keys.Leader pairs) (λ stored found. kind_found keys.Leader pairs stored kinds found)))
