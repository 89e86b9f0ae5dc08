-- Steps that were played, one after another: what is left is behind what was done.
use Rattle.std.proofs.Common.{◌≡◌, Bool, ℕ, ◌+◌, List, [], ◌∷◌, ◌++◌, length, Some, Result, Ok, Err, arith, append_assoc, append-nil, length-append, refl, ◌∙◌, ap, sym, subst}
use Rattle.std.specs.Prelude.{IsErrOf, Option, option_to_list}
use Rattle.pat_outside.specs.declared.outside.Failed.{Failed}
use Rattle.pat_outside.specs.declared.outside.Sink.{Ghosts}
use Rattle.pat_outside.specs.Outside.{Grew}
use Rattle.pat_outside.specs.Prints.{Prints, failed}
use Rattle.pat_outside.proofs.Contents.{Grew-Grew, Grew-nothing}
use Rattle.pat_outside.proofs.Printing.{Prints-none, Prints-nothing, Prints-ok, Prints-stop, Prints-then}
use Rattle.event_book.specs.Text.{lines_of}
use Rattle.event_list.specs.Listed.{Listed, ◌+++◌}
use Rattle.script_model.specs.declared.line.Line.{Line}
use Rattle.cluster_model.specs.declared.step.Step.{Step}
use Rattle.cluster_model.specs.Cluster.{cluster_over}
use Rattle.cluster_model.specs.Next.{next_events, run_events}
use Rattle.cluster_model.specs.State.{Cluster}
use Rattle.summary_model.specs.Sights.{SummaryFacts, noted_step}
use Rattle.simulation.specs.Steps.{HasStepsLeft, TookSteps}
use Rattle.world_model.specs.Room.{step_cost}
use Rattle.world_model.specs.Emits.{Emits}
use Rattle.simulation.proofs.Stepping.{TookSteps-none, TookSteps-then, steps-left-behind, steps-left-fewer}
use Rattle.world_model.proofs.Taking.{members-stay, cluster_over-append}
use Rattle.run_printing.specs.declared.print_error.PrintError.{PrintError}
use Rattle.run_printing.specs.declared.print_error.PrintError.TheVariants.{Memory, Write}
use Rattle.run_player.specs.Playing.{PlayerFacts, Plays, PrintsWholeSteps}
use Rattle.run_model.specs.Run.{noted_from, printed_from, traced_after, traced_over}

-- a call that stops says the same of its sink, whatever it would have answered
pub Prints-err : {K X Y E : Type 0} {sink : Ghosts K} {a b : K} {fault error : E} {bytes : List ℕ}
    → Prints {X = X} sink a b fault (Err error) bytes → Prints {X = Y} sink a b fault (Err error) bytes
Prints-err p = record { ok = tt; part = p.part; write = λ e. p.write (ap Err cc); grows = p.grows; room = p.room }

-- a call that stops by the same error, whatever it would have answered
pub same-error : {X Y : Type 0} {a b : PrintError} → ◌≡◌ {A = Result X PrintError} (Err a) (Err b)
    → ◌≡◌ {A = Result Y PrintError} (Err a) (Err b)
same-error e = ap Err cc

pub memory-is-no-write : Memory ≡ Write → ⊥
memory-is-no-write e = cc

ok-is-no-error : {X : Type 0} {x : X} → IsErrOf {E = PrintError} (Ok x) Memory → ⊥
ok-is-no-error e = cc

-- nothing is the lines of no steps
pub PrintsWholeSteps-none : {K : Type 0} (sink : Ghosts K) (out : K) (cluster : Cluster) (trace : Bool)
    (steps : List Step) → PrintsWholeSteps sink out out cluster trace steps
PrintsWholeSteps-none sink out cluster trace steps =
    record { done = []; more = steps; parts = refl; grew = Grew-nothing (sink.content out) }

-- what a step hands out into an empty buffer is all that it prints
step-text : (before : PlayerFacts) (next : Cluster) (step : Step) (had has : Listed)
    → Emits before.world.cluster next had has (next_events before.world.cluster step) step_cost
    → had ≡ record { items = []; traced = before.trace }
    → lines_of before.trace has.items ≡ printed_from before.world.cluster before.trace (step ∷ [])
step-text before next step had has took empty =
    ap (λ (l : Listed). lines_of before.trace l.items)
    (took.event ∙ ap (λ (l : Listed). l +++ next_events before.world.cluster step) empty)
    ∙ sym (append-nil (lines_of before.trace (next_events before.world.cluster step)))

pub Plays-step : {K X : Type 0} {sink : Ghosts K} {before after : PlayerFacts} {out then : K} {step : Step}
    {had has : Listed} {text : List ℕ} {x : X}
    → Emits before.world.cluster after.world.cluster had has (next_events before.world.cluster step) step_cost
    → TookSteps before.world after.world 1 → had ≡ record { items = []; traced = before.trace }
    → after.summary ≡ noted_step before.summary has.items → text ≡ lines_of before.trace has.items
    → after.trace ≡ traced_after before.trace step → Prints sink out then failed (Ok x) text
    → Plays {X = Unit {0}} sink before after out then (Ok tt) (step ∷ [])
Plays-step {sink = sink} {before = before} {after = after} {out = out} {then = then} {step = step} {had = had}
    {has = has} took taken empty noted same traced printed =
    record {
      world =
          took.state
          ∙ ap (cluster_over before.world.cluster) (sym (append-nil (next_events before.world.cluster step)));
      trace = traced;
      summary = noted
          ∙ ap (λ (l : Listed). noted_step before.summary l.items)
          (took.event ∙ ap (λ (l : Listed). l +++ next_events before.world.cluster step) empty);
      taken = taken;
      printed = subst (λ (t : List ℕ). Prints {X = Unit {0}} sink out then Write (Ok tt) t)
          (same ∙ step-text before after.world.cluster step had has took empty) (Prints-ok Write tt printed);
      whole = λ e. absurd (ok-is-no-error e);
    }

-- a step whose lines the sink doesn't take
pub Plays-step-stop : {K X Y : Type 0} {sink : Ghosts K} {before after : PlayerFacts} {out then : K}
    {step : Step} {had has : Listed} {text : List ℕ} {error : Failed} (final : Result Y PrintError)
    → Emits before.world.cluster after.world.cluster had has (next_events before.world.cluster step) step_cost
    → had ≡ record { items = []; traced = before.trace }
    → text ≡ lines_of before.trace has.items
    → Prints {X = X} sink out then failed (Err error) text → final ≡ Err Write
    → Plays sink before after out then final (step ∷ [])
Plays-step-stop {Y = Y} {sink = sink} {before = before} {after = after} {out = out} {then = then} {step = step}
    {had = had} {has = has} {text = text} final took empty same printed stops =
    rw stops (record {
      world = tt;
      trace = tt;
      summary = tt;
      taken = tt;
      printed = subst (λ (t : List ℕ). Prints {X = Y} sink out then Write (Err Write) t)
          (append-nil text ∙ same ∙ step-text before after.world.cluster step had has took empty)
          (Prints-stop Write Write (Err Write) [] printed refl (λ e. refl));
      whole = λ e. absurd (memory-is-no-write cc);
    })

-- a step for which memory is wanting prints nothing
pub Plays-none : {K X : Type 0} {sink : Ghosts K} {before after : PlayerFacts} {out : K} (final : Result X PrintError)
    (steps : List Step) → final ≡ Err Memory → Plays sink before after out out final steps
Plays-none {X = X} {sink = sink} {before = before} {out = out} final steps stops = rw stops (record {
  world = tt;
  trace = tt;
  summary = tt;
  taken = tt;
  printed = Prints-none {X = X} sink out Write Memory (Err Memory)
      (printed_from before.world.cluster before.trace steps) refl memory-is-no-write;
  whole = λ e. PrintsWholeSteps-none sink out before.world.cluster before.trace steps;
})

-- some steps, and then others: what they leave, and what they print
pub run_events-append : (world : Cluster) (steps rest : List Step)
    → cluster_over (cluster_over world (run_events world steps))
    (run_events (cluster_over world (run_events world steps)) rest)
    ≡ cluster_over world (run_events world (steps ++ rest))
run_events-append world [] rest = refl
run_events-append world (step ∷ steps) rest =
    let events = next_events world step in
    let next = cluster_over world events in
    ap (λ c. cluster_over c (run_events c rest)) (cluster_over-append world events (run_events next steps))
    ∙ run_events-append next steps rest
    ∙ sym (cluster_over-append world events (run_events next (steps ++ rest)))

traced_over-append : (trace : Bool) (steps rest : List Step)
    → traced_over trace (steps ++ rest) ≡ traced_over (traced_over trace steps) rest
traced_over-append trace [] rest = refl
traced_over-append trace (step ∷ steps) rest = traced_over-append (traced_after trace step) steps rest

printed_from-append : (world : Cluster) (trace : Bool) (steps rest : List Step)
    → printed_from world trace (steps ++ rest)
    ≡ printed_from world trace steps
    ++ printed_from (cluster_over world (run_events world steps)) (traced_over trace steps) rest
printed_from-append world trace [] rest = refl
printed_from-append world trace (step ∷ steps) rest =
    let events = next_events world step in
    let next = cluster_over world events in
    let lines = lines_of trace events in
    ap (λ t. lines ++ t) (printed_from-append next (traced_after trace step) steps rest)
    ∙ sym (append_assoc lines (printed_from next (traced_after trace step) steps)
    (printed_from (cluster_over next (run_events next steps)) (traced_over (traced_after trace step) steps) rest))
    ∙ ap (λ c. (lines ++ printed_from next (traced_after trace step) steps)
    ++ printed_from c (traced_over (traced_after trace step) steps) rest)
    (sym (cluster_over-append world events (run_events next steps)))

noted_from-append : (summary : SummaryFacts) (world : Cluster) (steps rest : List Step)
    → noted_from (noted_from summary world steps) (cluster_over world (run_events world steps)) rest
    ≡ noted_from summary world (steps ++ rest)
noted_from-append summary world [] rest = refl
noted_from-append summary world (step ∷ steps) rest =
    let events = next_events world step in
    let next = cluster_over world events in
    let noted = noted_step summary events in
    ap (λ c. noted_from (noted_from noted next steps) c rest) (cluster_over-append world events (run_events next steps))
    ∙ noted_from-append noted next steps rest

-- some steps were played, and then others
pub Plays-nothing : {K : Type 0} (sink : Ghosts K) (player : PlayerFacts) (out : K)
    → Plays {X = Unit {0}} sink player player out out (Ok tt) []
Plays-nothing sink player out = record {
  world = refl;
  trace = refl;
  summary = refl;
  taken = TookSteps-none player.world;
  printed = Prints-nothing sink out Write tt;
  whole = λ e. absurd (ok-is-no-error e);
}

pub next-text : (before after : PlayerFacts) (piece rest : List Step)
    → after.world.cluster ≡ cluster_over before.world.cluster (run_events before.world.cluster piece)
    → after.trace ≡ traced_over before.trace piece
    → printed_from before.world.cluster before.trace piece ++ printed_from after.world.cluster after.trace rest
    ≡ printed_from before.world.cluster before.trace (piece ++ rest)
next-text before after piece rest world trace =
    ap (λ c. printed_from before.world.cluster before.trace piece ++ printed_from c after.trace rest) world
    ∙ ap (λ t. printed_from before.world.cluster before.trace piece
    ++ printed_from (cluster_over before.world.cluster (run_events before.world.cluster piece)) t rest)
    trace
    ∙ sym (printed_from-append before.world.cluster before.trace piece rest)

pub Plays-then : {K X : Type 0} {sink : Ghosts K} {before between after : PlayerFacts} {out mid then : K}
    {x : X} {steps piece : List Step} → Plays {X = Unit {0}} sink before between out mid (Ok tt) steps
    → Plays sink between after mid then (Ok x) piece
    → Plays {X = Unit {0}} sink before after out then (Ok tt) (steps ++ piece)
Plays-then {sink = sink} {before = before} {between = between} {after = after} {out = out} {then = then} {steps = steps}
    {piece = piece} p q =
    record {
      world = q.world ∙ ap (λ c. cluster_over c (run_events c piece)) p.world
          ∙ run_events-append before.world.cluster steps piece;
      trace = q.trace ∙ ap (λ t. traced_over t piece) p.trace ∙ sym (traced_over-append before.trace steps piece);
      summary = q.summary ∙ ap (λ s. noted_from s between.world.cluster piece) p.summary
          ∙ ap (λ c. noted_from (noted_from before.summary before.world.cluster steps) c piece) p.world
          ∙ noted_from-append before.summary before.world.cluster steps piece;
      taken = TookSteps-then before.world between.world after.world (length steps) (length piece)
          (length (steps ++ piece)) (sym (length-append steps piece)) p.taken q.taken;
      printed = subst (λ (t : List ℕ). Prints {X = Unit {0}} sink out then Write (Ok tt) t)
          (next-text before between steps piece p.world p.trace)
          (Prints-then (Ok tt) p.printed (Prints-ok Write tt q.printed));
      whole = λ e. absurd (ok-is-no-error e);
    }

-- some steps were played, and the next ones stop in their midst: those behind them aren't begun
Plays-stop : {K X Y : Type 0} {sink : Ghosts K} {before between after : PlayerFacts} {out mid then : K}
    {error : PrintError} {steps piece : List Step} (final : Result Y PrintError) (rest : List Step)
    → Plays {X = Unit {0}} sink before between out mid (Ok tt) steps
    → Plays {X = X} sink between after mid then (Err error) piece → final ≡ Err error
    → Plays sink before after out then final (steps ++ (piece ++ rest))
Plays-stop {Y = Y} {sink = sink} {before = before} {between = between} {out = out} {mid = mid} {then = then}
    {error = error} {steps = steps} {piece = piece} final rest p q stops =
    rw stops (record {
      world = tt;
      trace = tt;
      summary = tt;
      taken = tt;
      printed = subst (λ (t : List ℕ). Prints {X = Y} sink out then Write (Err error) t)
          (next-text before between steps (piece ++ rest) p.world p.trace)
          (Prints-then (Err error) p.printed
          (subst (λ (t : List ℕ). Prints {X = Y} sink mid then Write (Err error) t)
          (sym (printed_from-append between.world.cluster between.trace piece rest))
          (Prints-stop Write error (Err error) _ q.printed refl (λ e. e))));
      whole = λ e.
          let w = q.whole (ap Err cc) in
          record {
            done = steps ++ w.done;
            more = w.more ++ rest;
            parts = append_assoc steps w.done (w.more ++ rest)
                ∙ ap (λ l. steps ++ l) (sym (append_assoc w.done w.more rest) ∙ ap (λ l. l ++ rest) w.parts);
            grew = subst (λ (t : List ℕ). Grew (sink.content out) (sink.content then) t)
                (next-text before between steps w.done p.world p.trace)
                (Grew-Grew (sink.content out) (sink.content mid) (sink.content then) _ _ p.printed.ok w.grew);
          };
    })

-- of the steps of a whole, these are left
pub record Playing {K : Type 0} (sink : Ghosts K) (start now : PlayerFacts) (out then : K)
    (whole left : List Step) : Type 0 where
  pub done : List Step
  pub parts : done ++ left ≡ whole
  pub plays : Plays {X = Unit {0}} sink start now out then (Ok tt) done

pub Playing-start : {K : Type 0} (sink : Ghosts K) (start : PlayerFacts) (out : K) (whole : List Step)
    → Playing sink start start out out whole whole
Playing-start sink start out whole = record { done = []; parts = refl; plays = Plays-nothing sink start out }

-- there is room for the next piece
pub Playing-room : {K : Type 0} {sink : Ghosts K} {start now : PlayerFacts} {out then : K}
    {whole left : List Step} (piece rest : List Step) → Playing sink start now out then whole left
    → left ≡ piece ++ rest → HasStepsLeft start.world (length whole) → HasStepsLeft now.world (length piece)
Playing-room {start = start} {now = now} {whole = whole} {left = left} piece rest p is room =
    let all : length p.done + length left ≡ length whole = sym (length-append p.done left) ∙ ap length p.parts in
    let behind : HasStepsLeft now.world (length left) = steps-left-behind start.world now.world
    (length p.done) (length left) p.plays.taken (subst (HasStepsLeft start.world) (sym all) room) in
    steps-left-fewer now.world (length left) (length piece)
    (omega (arith, ap length is, length-append piece rest)) behind

-- meanwhile the members stay
pub Playing-members : {K : Type 0} {sink : Ghosts K} {start now : PlayerFacts} {out then : K} {whole left : List Step}
    → Playing sink start now out then whole left → now.world.cluster.facts.members ≡ start.world.cluster.facts.members
Playing-members {start = start} {now = now} {whole = whole} {left = left} p =
    ap (λ (c : Cluster). c.facts.members) p.plays.world
    ∙ members-stay start.world.cluster (run_events start.world.cluster p.done)

pub Playing-more : {K X : Type 0} {sink : Ghosts K} {start before after : PlayerFacts} {out mid then : K}
    {x : X} {whole left piece : List Step} (rest : List Step)
    → Playing sink start before out mid whole left → left ≡ piece ++ rest
    → Plays sink before after mid then (Ok x) piece → Playing sink start after out then whole rest
Playing-more {piece = piece} rest p is q = record {
  done = p.done ++ piece;
  parts = append_assoc p.done piece rest ∙ ap (λ l. p.done ++ l) (sym is) ∙ p.parts;
  plays = Plays-then p.plays q;
}

pub Playing-end : {K : Type 0} {sink : Ghosts K} {start now : PlayerFacts} {out then : K} {whole left : List Step}
    → Playing sink start now out then whole left → left ≡ []
    → Plays {X = Unit {0}} sink start now out then (Ok tt) whole
Playing-end {sink = sink} {start = start} {now = now} {out = out} {then = then} p none =
    subst (λ (l : List Step). Plays {X = Unit {0}} sink start now out then (Ok tt) l)
    (sym (append-nil p.done) ∙ ap (λ l. p.done ++ l) (sym none) ∙ p.parts) p.plays

-- a call that stops in the midst of the next piece
pub Playing-stop : {K X Y : Type 0} {sink : Ghosts K} {start before after : PlayerFacts} {out mid then : K}
    {error : PrintError} {whole left piece : List Step} (final : Result Y PrintError) (rest : List Step)
    → Playing sink start before out mid whole left → left ≡ piece ++ rest
    → Plays {X = X} sink before after mid then (Err error) piece → final ≡ Err error
    → Plays sink start after out then final whole
Playing-stop {sink = sink} {start = start} {after = after} {out = out} {then = then} final rest p is q stops =
    subst (λ (l : List Step). Plays sink start after out then final l)
    (ap (λ l. p.done ++ l) (sym is) ∙ p.parts) (Plays-stop final rest p.plays q stops)

-- lines that are left, the next one and then the others
pub next-line : {old new : List Line} {taken : Option Line} {line : Line} → old ≡ option_to_list taken ++ new
    → taken ≡ Some line → old ≡ line ∷ new
next-line {new = new} left is = left ∙ ap (λ t. option_to_list t ++ new) is
