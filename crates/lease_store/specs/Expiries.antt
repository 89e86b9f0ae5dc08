-- When leases end: a set of pairs, each a moment and the key that expires then, as the list of its members in order.
use Rattle.std.specs.Prelude.{◌≡◌, ◌==◌, ℕ, nat_lt, if◌then◌else◌, Bool, true, false, cond, not, List, [], ◌∷◌, Option, Some, None}
use Rattle.std.specs.List.{list_any}
use Rattle.std.specs.List.Sorted.{IsStrictlySortedBy}
use Rattle.std.specs.FinMap.{find}
use Rattle.std.specs.declared.cmp.Ordering.{Ordering}
use Rattle.std.specs.Ordering.{nat_cmp, ordering_then, eq_by_cmp, is_lt}
use Rattle.pat_base.specs.declared.ticks.Ticks.{Ticks}
use Rattle.store_keys.specs.declared.key.Key.{Key}
use Rattle.store_keys.specs.declared.value.KeyEntry.{KeyEntry}
use Rattle.lease_store.specs.KeyOrder.{key_cmp}

-- how two of them stand in the order: by their moments, and at one moment by their keys
abbrev pub expiry_cmp : Ticks × Key → Ticks × Key → Ordering
expiry_cmp a b = ordering_then (nat_cmp a.0.0 b.0.0) (key_cmp a.1 b.1)

-- it is a member of the set
abbrev pub is_among : Ticks × Key → List (Ticks × Key) → Bool
is_among expiry expiries = list_any (eq_by_cmp expiry_cmp expiry) expiries

-- what expires, if it does, does so at this moment
abbrev pub is_expiry : Ticks → Option Ticks → Bool
is_expiry at None = false
is_expiry at (Some expiry) = at.0 == expiry.0

-- there is an entry, and it expires at this moment
abbrev pub expires_at : Ticks → Option KeyEntry → Bool
expires_at at None = false
expires_at at (Some stored) = is_expiry at stored.expiry

-- they rise, each once, and are exactly the keys of these pairs that have a lease, each with its expiry
pub record AreExpiriesOf (pairs : List (Key × KeyEntry)) (expiries : List (Ticks × Key)) : Type 0 where
  pub rise : IsStrictlySortedBy expiry_cmp expiries
  pub are : (at : Ticks) (key : Key) → is_among (at, key) expiries ≡ expires_at at (find key_cmp key pairs)

-- each key expires once
abbrev pub AreOfKeysOnce : List (Ticks × Key) → Type 0
AreOfKeysOnce expiries = (at later : Ticks) (key : Key) → is_among (at, key) expiries ≡ true
    → is_among (later, key) expiries ≡ true → at.0 ≡ later.0

-- the set once a key expires at another moment, or never: every other key expires as before
pub record IsExchanged (key : Key) (expiry : Option Ticks) (before after : List (Ticks × Key)) : Type 0 where
  pub rise : IsStrictlySortedBy expiry_cmp after
  pub are : (at : Ticks) (other : Key) → is_among (at, other) after
      ≡ cond (eq_by_cmp key_cmp other key) (is_expiry at expiry) (is_among (at, other) before)

-- the members without the first of a key
abbrev pub expiries_without : Key → List (Ticks × Key) → List (Ticks × Key)
expiries_without key [] = []
expiries_without key (expiry ∷ expiries) =
    cond (eq_by_cmp key_cmp key expiry.1) expiries (expiry ∷ expiries_without key expiries)

-- the members with a new one at its place in the order
abbrev pub expiries_with : Ticks × Key → List (Ticks × Key) → List (Ticks × Key)
expiries_with added [] = added ∷ []
expiries_with added (expiry ∷ expiries) =
    cond (is_lt (expiry_cmp added expiry)) (added ∷ expiry ∷ expiries) (expiry ∷ expiries_with added expiries)

-- the first of them has come at this moment
abbrev pub has_come : ℕ → List (Ticks × Key) → Bool
has_come now [] = false
has_come now (expiry ∷ expiries) = not (nat_lt now expiry.0.0)

-- the moment of the first of them, but at most this one
abbrev pub first_of : Ticks → List (Ticks × Key) → Ticks
first_of most [] = most
first_of most (expiry ∷ expiries) = if nat_lt expiry.0.0 most.0 then expiry.0 else most
