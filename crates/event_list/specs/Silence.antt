-- Silent events: they print nothing, and the summary doesn't count them.
use Rattle.std.specs.Prelude.{Bool, true, false, not}
use Rattle.store_keys.specs.declared.txn.Txn.{Txn}
use Rattle.store_keys.specs.declared.txn.Txn.TheVariants as txns
use Rattle.store_keys.specs.declared.txn.LeaseTxn.TheVariants as lease_txns
use Rattle.event_book.specs.declared.event.AgentEvent.TheVariants as agents
use Rattle.event_book.specs.declared.event.EventKind.{EventKind}
use Rattle.event_book.specs.declared.event.EventKind.TheVariants as kinds
use Rattle.event_book.specs.declared.event.LogEvent.TheVariants as logs
use Rattle.event_book.specs.declared.event.ReplicationEvent.TheVariants as replications
use Rattle.event_book.specs.declared.event.StoreEvent.TheVariants as stores

-- the grant of this transaction is silent: a member tells of itself, or renews the leader key too
abbrev pub is_silent_grant : Txn → Bool
is_silent_grant (txns.Touch info ttl) = true
is_silent_grant (txns.Lease (lease_txns.Renew revision info ttl status row failsafe)) = true
is_silent_grant _ = false

-- what happened is of a kind that is frequent, prints nothing, while messages are traced or not, and
-- isn't counted by the summary. Rarer ones of which that is so too, as an expired key, are none of these
abbrev pub is_silent : Bool → EventKind → Bool
is_silent traced (kinds.Message happening) = not traced
is_silent traced (kinds.Store (stores.Granted number by txn standbys)) = is_silent_grant txn
is_silent traced (kinds.Log (logs.Received server from count)) = true
is_silent traced (kinds.Replication (replications.Confirmed server by end)) = true
is_silent traced (kinds.Agent (agents.Woken agent)) = true
is_silent traced _ = false
