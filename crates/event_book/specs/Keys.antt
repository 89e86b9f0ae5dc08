-- What the key store of a book holds.
use Rattle.std.specs.Prelude.{ℕ}
use Rattle.lease_store.specs.Answers.{keys_kept}
use Rattle.lease_store.specs.Keys.{Keys}
use Rattle.lease_store.specs.Writes.{keys_after_grant}
use Rattle.event_book.specs.declared.event.EventKind.{EventKind}
use Rattle.event_book.specs.declared.event.EventKind.TheVariants as kinds
use Rattle.event_book.specs.declared.event.StoreEvent.TheVariants as stores

-- the keys after an event of this moment: a tick drops what is absent from then on, a grant writes
abbrev pub keys_after : ℕ → Keys → EventKind → Keys
keys_after now known kinds.Tick = keys_kept known now
keys_after now known (kinds.Store (stores.Granted number by txn standbys)) = keys_after_grant known now by.id txn
keys_after now known _ = known
