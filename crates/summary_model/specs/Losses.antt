-- Which events may lose a commit.
use Rattle.std.specs.Prelude.{ℕ, ◌≡◌, Bool, true, false, List}
use Rattle.event_book.specs.declared.event.Event.{Event}
use Rattle.event_book.specs.declared.event.EventKind.{EventKind}
use Rattle.event_book.specs.declared.event.EventKind.TheVariants as kinds
use Rattle.event_book.specs.declared.event.LogEvent.{LogEvent}
use Rattle.event_book.specs.declared.event.LogEvent.TheVariants as logs
use Rattle.event_book.specs.declared.event.ReplicationEvent.{ReplicationEvent}
use Rattle.event_book.specs.declared.event.ReplicationEvent.TheVariants as replications
use Rattle.event_book.specs.declared.event.ServerEvent.{ServerEvent}
use Rattle.event_book.specs.declared.event.ServerEvent.TheVariants as servers
use Rattle.event_book.specs.Logs.{Logs, entries_at, logs_over}
use Rattle.event_book.specs.Writers.{AcceptsWrites}
use Rattle.wal_model.specs.Lacking.{has_serial}

-- by what happens to a server: where it begins it may lack a commit
abbrev pub may_lose_by_server : ServerEvent → Bool
may_lose_by_server (servers.Began server timeline) = true
may_lose_by_server _ = false

-- by what happens to a log: where it doesn't only grow
abbrev pub may_lose_by_log : LogEvent → Bool
may_lose_by_log (logs.Appended server entry) = false
may_lose_by_log (logs.Received server from count) = false
may_lose_by_log _ = true

-- by what happens in replication: where a commit is acknowledged
abbrev pub may_lose_by_replication : ReplicationEvent → Bool
may_lose_by_replication (replications.Acknowledged server commit) = true
may_lose_by_replication _ = false

-- after this event a server that accepts writes may lack an acknowledged commit where none did before
abbrev pub may_lose : EventKind → Bool
may_lose (kinds.Server happening) = may_lose_by_server happening
may_lose (kinds.Log happening) = may_lose_by_log happening
may_lose (kinds.Replication happening) = may_lose_by_replication happening
may_lose _ = false

-- some server that accepts writes at the end of this book has no entry of this commit
abbrev pub WriterLacksOf : Logs → List Event → ℕ → Type 0
WriterLacksOf logs book commit =
    (server : ℕ) × AcceptsWrites book server × (has_serial (entries_at (logs_over logs book) server) commit ≡ false)
