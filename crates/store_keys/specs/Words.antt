-- The words for keys, findings and kinds of transactions in printed lines.
use Rattle.std.specs.Prelude.{ℕ, List, ◌++◌, codes}
use Rattle.std.specs.Fmt.{decimal}
use Rattle.store_keys.specs.declared.key.Key.{Key}
use Rattle.store_keys.specs.declared.key.Key.TheVariants.{Leader, Config, Member, Failover, Sync, Status, History, Failsafe, Scheduled}
use Rattle.store_keys.specs.declared.txn.Expected.{Expected}
use Rattle.store_keys.specs.declared.txn.Expected.TheVariants.{Absent, Revision}
use Rattle.store_keys.specs.declared.txn_kind.TxnKind.{TxnKind}
use Rattle.store_keys.specs.declared.txn_kind.TxnKind.TheVariants as kinds

-- a key: its path below that of the cluster, members by their numbers
abbrev pub key_text : Key → List ℕ
key_text Leader = codes "leader"
key_text Config = codes "config"
key_text (Member member) = codes "members/" ++ decimal member.number
key_text Failover = codes "failover"
key_text Sync = codes "sync"
key_text Status = codes "status"
key_text (History timeline) = codes "history/" ++ decimal timeline
key_text Failsafe = codes "failsafe"
key_text Scheduled = codes "scheduled"

-- what was found at a key
abbrev pub finding_text : Expected → List ℕ
finding_text Absent = codes "is absent"
finding_text (Revision revision) = codes "has revision " ++ decimal revision

-- a kind of transaction
abbrev pub kind_text : TxnKind → List ℕ
kind_text kinds.Touch = codes "touch"
kind_text kinds.Create = codes "create"
kind_text kinds.Renewal = codes "renewal"
kind_text kinds.Release = codes "release"
kind_text kinds.Claim = codes "claim"
kind_text kinds.SyncWrite = codes "sync write"
kind_text kinds.FailoverWrite = codes "failover write"
kind_text kinds.FailoverRemoval = codes "failover removal"
kind_text kinds.ConfigurationWrite = codes "configuration write"
