-- The stored sync key as the law sees it, and the number that a transaction writes into
-- it. Both numbers stay shut to proofs, so that none rests on what they are today.
use Rattle.std.specs.Prelude.{ℕ}
use Rattle.store_keys.specs.declared.txn.Txn.{Txn}
use Rattle.store_keys.specs.declared.value.SyncKey.{SyncKey as StoredKey}
use Rattle.event_book.specs.Functions.{set_members}
use Rattle.commit_actions.specs.Keys.{SyncKey, strict_quorum}

-- how many of a stored sync key's standbys may lack an acknowledged
-- commit: none, whatever number it says: no agent says one yet
unfoldable pub quorum_of : StoredKey → ℕ
quorum_of key = strict_quorum

-- how many of the standbys in the sync key that a transaction writes may lack one: none, whatever number it says
unfoldable pub quorum_written : Txn → ℕ
quorum_written txn = strict_quorum

-- what the law sees of a sync key that is stored under this revision
abbrev pub key_seen : StoredKey → ℕ → SyncKey
key_seen key revision = record {
  leader = key.leader.number;
  standbys = set_members key.standbys;
  quorum = quorum_of key;
  revision = revision;
}
