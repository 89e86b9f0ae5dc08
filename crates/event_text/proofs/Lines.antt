-- The lines of a list of events.
use Rattle.std.proofs.Common.{◌≡◌, Bool, ℕ, ◌+◌, ◌<◌, List, ◌++◌, length, drop, get_or, ◌∙◌, ap, sym}
use Rattle.std.proofs.lemmas.List.{drop_more}
use Rattle.event_book.specs.declared.event.Event.{Event}
use Rattle.event_book.specs.Text.{lines_of, line_of, bytes_or_none}

-- the lines from a place on, one and then the others
pub lines_of-drop : (trace : Bool) (es : List Event) (i : ℕ) (e : Event) → i < length es → e ≡ get_or es i e
    → lines_of trace (drop i es) ≡ bytes_or_none (line_of trace e) ++ lines_of trace (drop (i + 1) es)
lines_of-drop trace es i e h is = ap (lines_of trace) (drop_more es i e h)
    ∙ ap (λ x. bytes_or_none (line_of trace x) ++ lines_of trace (drop (i + 1) es)) (sym is)
