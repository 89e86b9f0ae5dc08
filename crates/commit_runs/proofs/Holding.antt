-- Writers that hold each acknowledged commit, by the book and by what it leaves.
use Rattle.std.proofs.Common.{ℕ, ◌≡◌, ◌∙◌, Bool, true, false, List, [], Contains, ap, sym, subst}
use Rattle.script_model.specs.Script.{HeadText}
use Rattle.event_book.specs.declared.event.Event.{Event}
use Rattle.event_book.specs.Acknowledged.{acknowledged_in}
use Rattle.event_book.specs.Kept.{KeepsCommits}
use Rattle.event_book.specs.Logs.{Logs, entries_at, logs_over}
use Rattle.event_book.specs.Writers.{writes_over}
use Rattle.commit_showing.specs.Books.{KeepsNow}
use Rattle.commit_showing.proofs.Fronts.{past-logs, past-shown, past-writes}
use Rattle.wal_model.specs.Lacking.{has_serial}
use Rattle.commit_parts.specs.Reading.{past_of}
use Rattle.commit_runs.specs.Runs.{first_logs}

-- a book's own logs, writers and acknowledged commits
pub book-logs : (head : HeadText) (book : List Event) → (past_of head book).logs ≡ logs_over (first_logs head) book
book-logs head book = past-logs (past_of head []) book

pub book-writes : (head : HeadText) (book : List Event) (n : ℕ)
    → (past_of head book).lease.writes n ≡ writes_over (λ m. false) book n
book-writes head book n = ap (λ (w : ℕ → Bool). w n) (past-writes (past_of head []) book)

pub book-acknowledged : (head : HeadText) (book : List Event) → (past_of head book).acknowledged ≡ acknowledged_in book
book-acknowledged head book = past-shown (past_of head []) book

pub held-by-book : (head : HeadText) (book : List Event) → KeepsNow (past_of head book)
    → KeepsCommits (first_logs head) book
held-by-book head book hold server writes commit told =
    subst (λ (l : Logs). has_serial (entries_at l server) commit ≡ true) (book-logs head book)
    (hold server (book-writes head book server ∙ writes) commit
    (subst (λ (l : List ℕ). Contains l commit) (sym (book-acknowledged head book)) told))

pub held-by-past : (head : HeadText) (book : List Event) → KeepsCommits (first_logs head) book
    → KeepsNow (past_of head book)
held-by-past head book hold server writes commit told =
    subst (λ (l : Logs). has_serial (entries_at l server) commit ≡ true) (sym (book-logs head book))
    (hold server (sym (book-writes head book server) ∙ writes) commit
    (subst (λ (l : List ℕ). Contains l commit) (book-acknowledged head book) told))
