-- Commits, and those whose clients were told that they are stored.
use Rattle.std.specs.Prelude.{ℕ, List, [], ◌∷◌, ◌++◌, Contains}
use Rattle.event_book.specs.declared.event.Event.{Event}
use Rattle.event_book.specs.declared.event.EventKind.{EventKind}
use Rattle.event_book.specs.declared.event.EventKind.TheVariants as kinds
use Rattle.event_book.specs.declared.event.LogEvent.TheVariants as logs
use Rattle.event_book.specs.declared.event.ReplicationEvent.TheVariants as replications

-- the number of the last commit after an event
abbrev pub commits_after : ℕ → EventKind → ℕ
commits_after last (kinds.Log (logs.Appended server entry)) = entry.serial
commits_after last _ = last

-- the commits that were acknowledged, in order, after an event
abbrev pub acknowledged_after : List ℕ → EventKind → List ℕ
acknowledged_after told (kinds.Replication (replications.Acknowledged server commit)) = told ++ commit ∷ []
acknowledged_after told _ = told

-- the commits of which one event says that they are acknowledged: one, or none
abbrev pub acknowledged_of : EventKind → List ℕ
acknowledged_of (kinds.Replication (replications.Acknowledged server commit)) = commit ∷ []
acknowledged_of _ = []

-- the commits of which a book says that they are acknowledged, in order
abbrev pub acknowledged_in : List Event → List ℕ
acknowledged_in [] = []
acknowledged_in (event ∷ events) = acknowledged_of event.kind ++ acknowledged_in events

-- a commit is acknowledged at the end of a book: the book has an event that says so
abbrev pub IsAcknowledged : List Event → ℕ → Type 0
IsAcknowledged book commit = Contains (acknowledged_in book) commit
