-- Each configuration that the key store holds, or that a snapshot in flight has, has failsafe mode as it is declared.
use Rattle.std.specs.Prelude.{ℕ, ◌≡◌, Bool, List, [], ◌∷◌, Option, Some, None}
use Rattle.std.specs.FinMap.{find}
use Rattle.store_keys.specs.declared.key.Key.{Key}
use Rattle.store_keys.specs.declared.key.Key.TheVariants as keys
use Rattle.store_keys.specs.declared.txn.Txn.{Txn}
use Rattle.store_keys.specs.declared.txn.Txn.TheVariants as txns
use Rattle.store_keys.specs.declared.txn.OperatorTxn.TheVariants as operator_txns
use Rattle.store_keys.specs.declared.value.KeyEntry.{KeyEntry}
use Rattle.store_keys.specs.declared.value.Value.{Value}
use Rattle.store_keys.specs.declared.value.Value.TheVariants as values
use Rattle.lease_store.specs.KeyOrder.{key_cmp}
use Rattle.lease_store.specs.Kept.{IsKept}
use Rattle.event_book.specs.declared.event.EventKind.{EventKind}
use Rattle.event_book.specs.declared.event.EventKind.TheVariants as kinds
use Rattle.event_book.specs.declared.event.StoreEvent.TheVariants as stores
use Rattle.event_book.specs.declared.message.Body.{Body}
use Rattle.event_book.specs.declared.message.Body.TheVariants as bodies
use Rattle.event_book.specs.Flight.{InFlightFacts, Flight, in_flight}
use Rattle.event_book.specs.Facts.{Facts}

-- this value is a configuration with the mode so
abbrev pub IsModeValue : Bool → Value → Type 0
IsModeValue mode (values.Config config) = config.config.failsafe_mode ≡ mode
IsModeValue mode _ = ⊥

-- this key is there, and holds one
abbrev pub IsModeHeld : Bool → Option KeyEntry → Type 0
IsModeHeld mode None = ⊥
IsModeHeld mode (Some found_key) = IsModeValue mode found_key.value

-- the configuration among these pairs is there, with the mode so
abbrev pub IsModeIn : Bool → List (Key × KeyEntry) → Type 0
IsModeIn mode pairs = IsModeHeld mode (find key_cmp keys.Config pairs)

-- so it is in a message that tells a snapshot: the answer to a read, or to a request that was granted
abbrev pub IsModeTold : Bool → Body → List (Key × KeyEntry) → Type 0
IsModeTold mode bodies.Snapshot pairs = IsModeIn mode pairs
IsModeTold mode (bodies.Granted request leased) pairs = IsModeIn mode pairs
IsModeTold mode _ pairs = Unit {0}

-- so it is in each message in flight
abbrev pub TellMode : Bool → Flight → Type 0
TellMode mode [] = Unit {0}
TellMode mode (entry ∷ entries) = IsModeTold mode entry.1.message.body entry.1.snapshot × TellMode mode entries

-- the mode is so in the key store, and in each snapshot in flight
pub record IsDeclaredMode (mode : Bool) (facts : Facts) : Type 0 where
  pub store : IsModeIn mode facts.keys.pairs
  pub flight : TellMode mode facts.flight
  pub kept : IsKept facts.keys.pairs

-- a granted configuration has the mode so
abbrev pub IsModeSet : Bool → Txn → Type 0
IsModeSet mode (txns.Operators (operator_txns.SetConfig revision config)) = config.config.failsafe_mode ≡ mode
IsModeSet mode _ = Unit {0}

-- no configuration is granted in this event that has the mode otherwise
abbrev pub LeavesMode : Bool → EventKind → Type 0
LeavesMode mode (kinds.Store (stores.Granted number by txn standbys)) = IsModeSet mode txn
LeavesMode mode _ = Unit {0}

-- so does a configuration that a message asks for
abbrev pub IsModeAsked : Bool → Body → Type 0
IsModeAsked mode (bodies.Request txn) = IsModeSet mode txn
IsModeAsked mode _ = Unit {0}

-- and each that a message in flight asks for
abbrev pub AskMode : Bool → Flight → Type 0
AskMode mode flight =
    (i : ℕ) (carried : InFlightFacts) → in_flight flight i ≡ Some carried → IsModeAsked mode carried.message.body
