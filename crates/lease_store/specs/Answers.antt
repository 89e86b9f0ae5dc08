-- What the store answers.
use Rattle.std.specs.Prelude.{ℕ, if◌then◌else◌, List, filter, map, not, Option, Some, None, Result, Ok, Err}
use Rattle.std.specs.FinMap.{find}
use Rattle.pat_base.specs.declared.member_id.MemberId.{MemberId}
use Rattle.store_keys.specs.declared.key.Key.{Key}
use Rattle.store_keys.specs.declared.key.Key.TheVariants as keys
use Rattle.store_keys.specs.declared.value.KeyEntry.{KeyEntry}
use Rattle.store_keys.specs.Holders.{holder_of}
use Rattle.lease_store.specs.declared.refusal.StoreRefusal.{StoreRefusal}
use Rattle.lease_store.specs.declared.refusal.StoreRefusal.TheVariants.{Mismatch}
use Rattle.lease_store.specs.Decision.{Decision, Grant, Refusal}
use Rattle.lease_store.specs.Keys.{Keys, is_present}
use Rattle.lease_store.specs.KeyOrder.{key_cmp}

-- a decision as what a check answers
abbrev pub check_result_of : Decision → Result (Unit {0}) StoreRefusal
check_result_of Grant = Ok tt
check_result_of (Refusal key found) = Err (Mismatch key found)

-- the pairs of the keys that are present
abbrev pub present_pairs : ℕ → List (Key × KeyEntry) → List (Key × KeyEntry)
present_pairs now pairs = filter (λ pair. is_present now pair.1.expiry) pairs

-- the keys of these pairs that are absent
abbrev pub absent_keys : ℕ → List (Key × KeyEntry) → List Key
absent_keys now pairs = map (λ pair. pair.0) (filter (λ pair. not (is_present now pair.1.expiry)) pairs)

-- the keys that have an entry and are absent, in order
abbrev pub expired_keys : Keys → ℕ → List Key
expired_keys store now = absent_keys now store.pairs

-- the store without its absent keys
abbrev pub keys_kept : Keys → ℕ → Keys
keys_kept store now = record store { pairs = present_pairs now store.pairs }

-- the holder, where this entry of the leader key has expired
abbrev pub holder_lost : ℕ → Option KeyEntry → Option MemberId
holder_lost now None = None
holder_lost now (Some stored) = if is_present now stored.expiry then None else holder_of stored.value

-- the holder of the leader key, where that key has an entry and is absent
abbrev pub expired_holder : Keys → ℕ → Option MemberId
expired_holder store now = holder_lost now (find key_cmp keys.Leader store.pairs)
