-- Calls of a store, one after another.
use Rattle.std.specs.Prelude.{ℕ, ◌≡◌, ◌⊎◌, List, [], ◌∷◌}
use Rattle.pat_base.specs.declared.member_id.MemberId.{MemberId}
use Rattle.store_keys.specs.declared.key.Key.{Key}
use Rattle.store_keys.specs.declared.txn.Expected.{Expected}
use Rattle.store_keys.specs.declared.txn.Expected.TheVariants.{Revision}
use Rattle.store_keys.specs.declared.txn.Txn.{Txn}
use Rattle.lease_store.specs.Answers.{keys_kept}
use Rattle.lease_store.specs.Decision.{Decision, Grant, Refusal, decision_on}
use Rattle.lease_store.specs.Keys.{Keys}
use Rattle.lease_store.specs.Writes.{keys_after_grant}

-- a request: the moment of its decision, its member and its transaction
pub record StoreRequest : Type 0 where
  pub at : ℕ
  pub by : MemberId
  pub txn : Txn

-- what may be done with a store: a request is decided on, or the keys that are absent at a moment are dropped
pub data Call : Type 0 where
  Asks : (request : StoreRequest) → Call
  Drops : (now : ℕ) → Call

-- the store grants the request at its moment
abbrev pub IsGranted : Keys → StoreRequest → Type 0
IsGranted store request = decision_on store request.at request.txn ≡ Grant

-- the store after such a decision
abbrev pub keys_by_decision : Decision → Keys → StoreRequest → Keys
keys_by_decision Grant store request = keys_after_grant store request.at request.by request.txn
keys_by_decision (Refusal key found) store request = store

-- the store after a request: what a grant leaves, and after a refusal the same
abbrev pub keys_after_request : Keys → StoreRequest → Keys
keys_after_request store request = keys_by_decision (decision_on store request.at request.txn) store request

-- the store after a call
abbrev pub keys_after_call : Keys → Call → Keys
keys_after_call store (Asks request) = keys_after_request store request
keys_after_call store (Drops now) = keys_kept store now

-- the store after these calls
abbrev pub keys_over : Keys → List Call → Keys
keys_over store [] = store
keys_over store (call ∷ calls) = keys_over (keys_after_call store call) calls

-- one of these compares expects this revision at the key
abbrev pub ComparesWith : Key → ℕ → List (Key × Expected) → Type 0
ComparesWith key revision [] = ⊥
ComparesWith key revision (compare ∷ compares) =
    (compare ≡ (key, Revision revision)) ⊎ ComparesWith key revision compares
