-- Synchronous mode is on in each configuration that the key store or a snapshot in flight holds.
use Rattle.std.specs.Prelude.{ℕ, ◌≡◌, true, List, Option, Some, None}
use Rattle.std.specs.FinMap.{find}
use Rattle.store_keys.specs.declared.key.Key.{Key}
use Rattle.store_keys.specs.declared.key.Key.TheVariants as keys
use Rattle.store_keys.specs.declared.value.KeyEntry.{KeyEntry}
use Rattle.store_keys.specs.declared.value.Value.{Value}
use Rattle.store_keys.specs.declared.value.Value.TheVariants as values
use Rattle.lease_store.specs.Kept.{IsKept}
use Rattle.lease_store.specs.KeyOrder.{key_cmp}
use Rattle.event_book.specs.declared.message.Body.{Body}
use Rattle.event_book.specs.declared.message.Body.TheVariants as bodies
use Rattle.event_book.specs.Facts.{Facts}
use Rattle.event_book.specs.Flight.{InFlightFacts, in_flight}

-- this value is a configuration with the mode on
abbrev pub IsSynchronousValue : Value → Type 0
IsSynchronousValue (values.Config config) = config.config.synchronous_mode ≡ true
IsSynchronousValue _ = ⊥

-- this key is there, and holds one
abbrev pub IsSynchronousEntry : Option KeyEntry → Type 0
IsSynchronousEntry None = ⊥
IsSynchronousEntry (Some found_key) = IsSynchronousValue found_key.value

-- the configuration among these pairs is there, with the mode on
abbrev pub IsSynchronousIn : List (Key × KeyEntry) → Type 0
IsSynchronousIn pairs = IsSynchronousEntry (find key_cmp keys.Config pairs)

-- so it is in a message that tells a snapshot: the answer to a read, or to a request that was granted
abbrev pub IsSynchronousTold : Body → List (Key × KeyEntry) → Type 0
IsSynchronousTold bodies.Snapshot pairs = IsSynchronousIn pairs
IsSynchronousTold (bodies.Granted request leased) pairs = IsSynchronousIn pairs
IsSynchronousTold _ pairs = Unit {0}

-- the mode is on in the key store, and in each snapshot in flight
pub record IsSynchronous (facts : Facts) : Type 0 where
  pub kept : IsKept facts.keys.pairs
  pub store : IsSynchronousIn facts.keys.pairs
  pub flight : (i : ℕ) (carried : InFlightFacts) → in_flight facts.flight i ≡ Some carried
      → IsSynchronousTold carried.message.body carried.snapshot
