-- The lines of what happens at the key store.
use Rattle.std.specs.Prelude.{ℕ, List, ◌++◌, Option, Some, None, codes}
use Rattle.std.specs.Fmt.{decimal}
use Rattle.pat_base.specs.declared.name.Name.{Name}
use Rattle.pat_base.specs.Name.{name_bytes}
use Rattle.store_keys.specs.declared.txn.Txn.{Txn}
use Rattle.store_keys.specs.declared.txn.LeaseTxn.{LeaseTxn}
use Rattle.store_keys.specs.declared.txn.OperatorTxn.{OperatorTxn}
use Rattle.store_keys.specs.declared.txn.SyncTxn.{SyncTxn}
use Rattle.store_keys.specs.declared.txn.Txn.TheVariants as txns
use Rattle.store_keys.specs.declared.txn.LeaseTxn.TheVariants as lease_txns
use Rattle.store_keys.specs.declared.txn.OperatorTxn.TheVariants as operator_txns
use Rattle.store_keys.specs.declared.txn.SyncTxn.TheVariants as sync_txns
use Rattle.store_keys.specs.Words.{key_text, finding_text, kind_text}
use Rattle.event_book.specs.declared.event.StoreEvent.{StoreEvent}
use Rattle.event_book.specs.declared.event.StoreEvent.TheVariants as stores
use Rattle.event_book.specs.Listing.{listed}

-- the line of a granted write of the leader key by the member of this name
abbrev pub lease_line : ℕ → List ℕ → LeaseTxn → Option (List ℕ)
lease_line tick name (lease_txns.Create info ttl failsafe sync) =
    Some (decimal tick ++ (codes " " ++ (name ++ codes " takes the leader key\n")))
lease_line tick name (lease_txns.Renew revision info ttl status row failsafe) = None
lease_line tick name (lease_txns.Release revision) =
    Some (decimal tick ++ (codes " " ++ (name ++ codes " releases the leader key\n")))

-- the end of a line that publishes standbys: with quorum commit, how many of them may lack a commit
abbrev pub quorum_end : Option ℕ → List ℕ
quorum_end None = codes "\n"
quorum_end (Some may_lack) = codes " quorum " ++ (decimal may_lack ++ codes "\n")

-- of the sync key
abbrev pub sync_line : ℕ → List ℕ → SyncTxn → List Name → Option (List ℕ)
sync_line tick name (sync_txns.Claim revision sync) standbys =
    Some (decimal tick ++ (codes " " ++ (name ++ codes " claims the sync key\n")))
sync_line tick name (sync_txns.SetSync revision sync members may_lack) standbys =
    Some (decimal tick
    ++ (codes " "
    ++ (name ++ (codes " publishes sync standbys " ++ (listed (codes "none") standbys ++ quorum_end may_lack)))))
sync_line tick name (sync_txns.DropSync revision sync) standbys =
    Some (decimal tick ++ (codes " " ++ (name ++ codes " removes the sync key\n")))

-- of the failover key, or of the configuration; a schedule has none, until it fires
abbrev pub operator_line : ℕ → List ℕ → OperatorTxn → Option (List ℕ)
operator_line tick name (operator_txns.SetFailover failover ttl) =
    Some (decimal tick ++ (codes " " ++ (name ++ codes " writes the failover key\n")))
operator_line tick name (operator_txns.DropFailover revision) =
    Some (decimal tick ++ (codes " " ++ (name ++ codes " clears the failover key\n")))
operator_line tick name (operator_txns.SetConfig revision config) =
    Some (decimal tick ++ (codes " " ++ (name ++ codes " changes the configuration\n")))
operator_line tick name (operator_txns.Schedule planned) = None
operator_line tick name (operator_txns.Unschedule scheduled) = None
operator_line tick name (operator_txns.Fire revision scheduled failover ttl) =
    Some (decimal tick ++ (codes " " ++ (name ++ codes " writes the failover key\n")))

-- the line of a granted write, which stands at its grant
abbrev pub granted_line : ℕ → List ℕ → Txn → List Name → Option (List ℕ)
granted_line tick name (txns.Touch info ttl) standbys = None
granted_line tick name (txns.Lease txn) standbys = lease_line tick name txn
granted_line tick name (txns.Sync txn) standbys = sync_line tick name txn standbys
granted_line tick name (txns.Operators txn) standbys = operator_line tick name txn

-- the line of what happens at the key store, if it has one
abbrev pub store_line : ℕ → StoreEvent → Option (List ℕ)
store_line tick (stores.Granted number by txn standbys) = granted_line tick (name_bytes by.name) txn standbys
store_line tick (stores.Refused number by request key found) =
    Some (decimal tick
    ++ (codes " the "
    ++ (kind_text request
    ++ (codes " of " ++ (name_bytes by.name
    ++ (codes " is refused, " ++ (key_text key ++ (codes " " ++ (finding_text found ++ codes "\n")))))))))
store_line tick (stores.LeaderExpired holder) =
    Some (decimal tick ++ (codes " the leader key of " ++ (name_bytes holder.name ++ codes " expires\n")))
store_line tick (stores.Expired key) = None
