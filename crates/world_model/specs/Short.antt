-- What messages carry: leases that the key store can write, and entries that were read from it.
use Rattle.std.specs.Prelude.{◌≤◌, ◌^◌, List, All}
use Rattle.std.specs.Map.{values_of}
use Rattle.store_keys.specs.declared.key.Key.{Key}
use Rattle.store_keys.specs.declared.value.KeyEntry.{KeyEntry}
use Rattle.lease_store.specs.Writes.{ttl_of}
use Rattle.event_book.specs.declared.message.Body.{Body}
use Rattle.event_book.specs.declared.message.Body.TheVariants as bodies
use Rattle.event_book.specs.Flight.{Flight, InFlightFacts}
use Rattle.cluster_view.specs.Snapshots.{IsRead}

-- a request asks for leases that the key store can write, and a failsafe request for a hold no longer than those
abbrev pub IsShort : Body → Type 0
IsShort (bodies.Request txn) = ttl_of txn ≤ 2 ^ 40
IsShort (bodies.FailsafeRequest ttl) = ttl.0 ≤ 2 ^ 40
IsShort _ = Unit {0}

-- the entries that an answer carries were read
abbrev pub CarriesRead : Body → List (Key × KeyEntry) → Type 0
CarriesRead bodies.Snapshot entries = IsRead entries
CarriesRead (bodies.Granted request leased) entries = IsRead entries
CarriesRead _ entries = Unit {0}

-- what holds of each message that is sent
pub record IsSent (message : InFlightFacts) : Type 0 where
  pub short : IsShort message.message.body
  pub read : CarriesRead message.message.body message.snapshot

-- it holds of all in flight
abbrev pub AllSent : Flight → Type 0
AllSent flight = All IsSent (values_of flight)
