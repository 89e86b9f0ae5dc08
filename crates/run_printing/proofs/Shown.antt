-- What steps brought, printed and noted behind them.
use Rattle.std.proofs.Common.{◌≡◌, Bool, ℕ, ◌+◌, ◌<◌, List, [], ◌∷◌, ◌++◌, length, map, get_or, drop, Result, Ok, Err, append_assoc, append-nil, refl, ◌∙◌, ap, sym, subst}
use Rattle.std.specs.Prelude.{All, IsErrOf, IsTrue}
use Rattle.std.proofs.lemmas.List.{drop_more}
use Rattle.std.proofs.lemmas.List.Elements.{All-get_or}
use Rattle.pat_outside.specs.declared.outside.Failed.{Failed}
use Rattle.pat_outside.specs.declared.outside.Sink.{Ghosts}
use Rattle.pat_outside.specs.Prints.{Prints, failed}
use Rattle.pat_outside.proofs.Printing.{Prints-none, Prints-nothing, Prints-ok, Prints-stop, Prints-then}
use Rattle.event_book.specs.declared.event.Event.{Event}
use Rattle.event_book.specs.Text.{lines_of}
use Rattle.event_list.specs.Listed.{Listed}
use Rattle.summary_model.specs.Sights.{SummaryFacts, noted_step, noted_steps}
use Rattle.run_printing.specs.declared.print_error.PrintError.{PrintError}
use Rattle.run_printing.specs.declared.print_error.PrintError.TheVariants.{Memory, Write}
use Rattle.run_printing.specs.Showing.{Shows, lines_by_step}

lines-append : (trace : Bool) (first more : List (List Event))
    → lines_by_step trace (first ++ more) ≡ lines_by_step trace first ++ lines_by_step trace more
lines-append trace [] more = refl
lines-append trace (events ∷ first) more = ap (λ l. lines_of trace events ++ l) (lines-append trace first more)
    ∙ sym (append_assoc (lines_of trace events) (lines_by_step trace first) (lines_by_step trace more))

noted-append : (summary : SummaryFacts) (first more : List (List Event))
    → noted_steps summary (first ++ more) ≡ noted_steps (noted_steps summary first) more
noted-append summary [] more = refl
noted-append summary (events ∷ first) more = noted-append (noted_step summary events) first more

-- of what steps brought, this is left to be noted and printed
pub record Showing {K : Type 0} (sink : Ghosts K) (start now : SummaryFacts) (trace : Bool) (out then : K)
    (whole left : List (List Event)) : Type 0 where
  pub done : List (List Event)
  pub parts : done ++ left ≡ whole
  pub noted : now ≡ noted_steps start done
  pub printed : Prints {X = Unit {0}} sink out then Write (Ok tt) (lines_by_step trace done)

pub Showing-start : {K : Type 0} (sink : Ghosts K) (start : SummaryFacts) (trace : Bool) (out : K)
    (whole : List (List Event)) → Showing sink start start trace out out whole whole
Showing-start sink start trace out whole =
    record { done = []; parts = refl; noted = refl; printed = Prints-nothing sink out Write tt }

pub Showing-more : {K X : Type 0} {sink : Ghosts K} {start before after : SummaryFacts} {trace : Bool}
    {out mid then : K} {whole left : List (List Event)} {text : List ℕ} {x : X} (events : List Event)
    (rest : List (List Event))
    → Showing sink start before trace out mid whole left → left ≡ events ∷ rest
    → after ≡ noted_step before events → text ≡ lines_of trace events
    → Prints sink mid then failed (Ok x) text → Showing sink start after trace out then whole rest
Showing-more {sink = sink} {trace = trace} {out = out} {then = then} events rest p is noted same q = record {
  done = p.done ++ events ∷ [];
  parts = append_assoc p.done (events ∷ []) rest ∙ ap (λ l. p.done ++ l) (sym is) ∙ p.parts;
  noted = noted ∙ ap (λ s. noted_step s events) p.noted ∙ sym (noted-append _ p.done (events ∷ []));
  printed = subst (λ (t : List ℕ). Prints {X = Unit {0}} sink out then Write (Ok tt) t)
      (ap (λ t. lines_by_step trace p.done ++ t) (same ∙ sym (append-nil (lines_of trace events)))
      ∙ sym (lines-append trace p.done (events ∷ [])))
      (Prints-then (Ok tt) p.printed (Prints-ok Write tt q));
}

pub Showing-end : {K : Type 0} {sink : Ghosts K} {start now : SummaryFacts} {trace : Bool} {out then : K}
    {whole left : List (List Event)} → Showing sink start now trace out then whole left → left ≡ []
    → Shows {X = Unit {0}} sink start now trace out then (Ok tt) whole
Showing-end {sink = sink} {start = start} {now = now} {trace = trace} {out = out} {then = then} p none =
    subst (λ (l : List (List Event)). Shows {X = Unit {0}} sink start now trace out then (Ok tt) l)
    (sym (append-nil p.done) ∙ ap (λ l. p.done ++ l) (sym none) ∙ p.parts)
    (record { noted = p.noted; printed = p.printed; whole = λ e. absurd (no-error e) })
  where
    no-error : IsErrOf {T = Unit {0}} {E = PrintError} (Ok tt) Memory → ⊥
    no-error e = cc

-- memory is wanting for what is left
pub Showing-none : {K : Type 0} {sink : Ghosts K} {start before after : SummaryFacts} {trace : Bool}
    {out then : K} {whole left : List (List Event)} (final : Result (Unit {0}) PrintError)
    → Showing sink start before trace out then whole left → final ≡ Err Memory
    → Shows sink start after trace out then final whole
Showing-none {sink = sink} {start = start} {after = after} {trace = trace} {out = out} {then = then} {left = left} final
    p stops =
    rw stops
    (subst (λ (l : List (List Event)). Shows {X = Unit {0}} sink start after trace out then (Err Memory) l) p.parts
    (record {
      noted = tt;
      printed = subst (λ (t : List ℕ). Prints {X = Unit {0}} sink out then Write (Err Memory) t)
          (sym (lines-append trace p.done left))
          (Prints-then (Err Memory) p.printed
          (Prints-none sink then Write Memory (Err Memory) (lines_by_step trace left) refl no-write));
      whole = λ e. record { done = p.done; more = left; parts = refl; grew = p.printed.ok };
    }))
  where
    no-write : Memory ≡ Write → ⊥
    no-write e = cc

-- the sink doesn't take what is left
pub Showing-stop : {K X : Type 0} {sink : Ghosts K} {start before after : SummaryFacts} {trace : Bool}
    {out mid then : K} {whole left : List (List Event)} {text : List ℕ} {error : Failed}
    (final : Result (Unit {0}) PrintError) (events : List Event) (rest : List (List Event))
    → Showing sink start before trace out mid whole left → left ≡ events ∷ rest → text ≡ lines_of trace events
    → Prints {X = X} sink mid then failed (Err error) text → final ≡ Err Write
    → Shows sink start after trace out then final whole
Showing-stop {sink = sink} {start = start} {after = after} {trace = trace} {out = out} {then = then} {text = text} final
    events rest p is same q stops =
    rw stops
    (subst (λ (l : List (List Event)). Shows {X = Unit {0}} sink start after trace out then (Err Write) l)
    (ap (λ l. p.done ++ l) (sym is) ∙ p.parts) (record {
      noted = tt;
      printed = subst (λ (t : List ℕ). Prints {X = Unit {0}} sink out then Write (Err Write) t)
          (ap (λ t. lines_by_step trace p.done ++ (t ++ lines_by_step trace rest)) same
          ∙ sym (lines-append trace p.done (events ∷ rest)))
          (Prints-then (Err Write) p.printed
          (Prints-stop Write Write (Err Write) (lines_by_step trace rest) q refl (λ e. refl)));
      whole = λ e. absurd (no-memory e);
    }))
  where
    no-memory : IsErrOf {T = Unit {0}} {E = PrintError} (Err Write) Memory → ⊥
    no-memory e = cc

-- the next of what steps brought, and then the others
pub next-brought : {V : Type 0} (items : V → List Event) (brought : List V) (i : ℕ) (v : V) → i < length brought
    → v ≡ get_or brought i v → map items (drop i brought) ≡ items v ∷ map items (drop (i + 1) brought)
next-brought items brought i v within is =
    ap (map items) (drop_more brought i v within) ∙ ap (λ x. items x ∷ map items (drop (i + 1) brought)) (sym is)

-- messages are traced in each of them
pub traced-there : (brought : List Listed) (i : ℕ) (events : Listed) → i < length brought
    → events ≡ get_or brought i events → All (λ (l : Listed). IsTrue l.traced) brought → IsTrue events.traced
traced-there brought i events within is all =
    ap (λ (l : Listed). l.traced) is ∙ All-get_or (λ (l : Listed). IsTrue l.traced) brought i events within all
