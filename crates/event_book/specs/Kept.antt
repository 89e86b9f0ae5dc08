-- Acknowledged commits that are kept, from the book alone.
use Rattle.std.specs.Prelude.{ℕ, ◌≡◌, Bool, true, false, List, Contains}
use Rattle.wal_model.specs.Lacking.{has_serial}
use Rattle.event_book.specs.declared.event.Event.{Event}
use Rattle.event_book.specs.Acknowledged.{acknowledged_in}
use Rattle.event_book.specs.Logs.{Logs, entries_at, logs_over}
use Rattle.event_book.specs.Writers.{writes_over}

-- each of these servers that accepts writes has an entry of each of these commits in its log
abbrev pub WritersHold : (ℕ → Bool) → Logs → List ℕ → Type 0
WritersHold writes logs acknowledged = (server : ℕ) → writes server ≡ true → (commit : ℕ)
    → Contains acknowledged commit → has_serial (entries_at logs server) commit ≡ true

-- at the end of this book, over servers that began with these logs, each server
-- that accepts writes has an entry of each acknowledged commit in its log
abbrev pub KeepsCommits : Logs → List Event → Type 0
KeepsCommits logs book = WritersHold (writes_over (λ n. false) book) (logs_over logs book) (acknowledged_in book)
