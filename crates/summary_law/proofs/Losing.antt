-- Commits that are lost.
use Rattle.std.proofs.Common.{◌≡◌, ℕ, List, [], ◌∷◌, ◌++◌, Bool, true, false, refl, sym, ◌∙◌}
use Rattle.std.specs.Prelude.{Contains}
use Rattle.std.proofs.lemmas.List.Elements.{All-contains}
use Rattle.pat_base.specs.declared.ticks.Ticks.{Ticks}
use Rattle.event_book.specs.declared.event.Event.{Event}
use Rattle.event_book.specs.Acknowledged.{acknowledged_in}
use Rattle.event_book.specs.Kept.{KeepsCommits}
use Rattle.event_book.specs.Logs.{Logs, entries_at, logs_over}
use Rattle.lease_model.proofs.Tools.{both}
use Rattle.summary_model.specs.declared.answers.FirstMoment.{FirstMoment}
use Rattle.summary_model.specs.declared.answers.Seen.{Seen}
use Rattle.wal_model.specs.Lacking.{has_serial, lacks_in}
use Rattle.summary_model.specs.Moments.{now_over, IsToldFirst}
use Rattle.summary_model.specs.Noting.{first_if}
use Rattle.summary_model.specs.Seeing.{LacksOne, WriterLacks, IsSeen}
use Rattle.wal_model.proofs.Lookups.{has-each, lacks-some}
use Rattle.summary_law.proofs.Fronts.{told-tested}

lacks-or-has : (logs : Logs) (book : List Event) (server : ℕ) (test : Bool)
    → lacks_in (entries_at (logs_over logs book) server) (acknowledged_in book) ≡ test
    → (LacksOne logs book server → ⊥) → (commit : ℕ) → Contains (acknowledged_in book) commit
    → has_serial (entries_at (logs_over logs book) server) commit ≡ true
lacks-or-has logs book server true is none commit there = absurd (none is)
lacks-or-has logs book server false is none commit there =
    All-contains (λ s. has_serial (entries_at (logs_over logs book) server) s ≡ true) (acknowledged_in book) commit
    (has-each (entries_at (logs_over logs book) server) (acknowledged_in book) is) there

pub hold-if-none : (logs : Logs) (book : List Event) → (WriterLacks logs book → ⊥) → KeepsCommits logs book
hold-if-none logs book none server writes commit there =
    lacks-or-has logs book server (lacks_in (entries_at (logs_over logs book) server) (acknowledged_in book)) refl
    (λ lacks. none (server, writes, lacks)) commit there

pub none-if-hold : (logs : Logs) (book : List Event) → KeepsCommits logs book → WriterLacks logs book → ⊥
none-if-hold logs book hold lacks =
    lacks-some (entries_at (logs_over logs book) lacks.0) (acknowledged_in book) lacks.2 (hold lacks.0 lacks.1)

pub lost-more : (logs : Logs) (book : List Event) (event : Event) (lost : FirstMoment) (seen : Seen) (now : Ticks)
    → IsSeen logs book lost event seen → now.0 ≡ now_over 0 (book ++ event ∷ [])
    → IsToldFirst (KeepsCommits logs) book lost
    → IsToldFirst (KeepsCommits logs) (book ++ event ∷ []) (first_if lost seen.lacking now)
lost-more logs book event lost seen now right end told =
    told-tested (KeepsCommits logs) book event lost seen.lacking now told end
    (λ never lacks hold. none-if-hold logs (book ++ event ∷ []) hold ((right.lacking never).0 lacks))
    (λ never holds. hold-if-none logs (book ++ event ∷ []) (λ lacks. both (sym holds ∙ (right.lacking never).1 lacks)))
