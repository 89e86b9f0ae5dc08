-- Ticks that bring nothing else print nothing, and are noted at once.
use Rattle.std.proofs.Common.{◌≡◌, Bool, ℕ, ◌+◌, ◌-◌, ◌≤◌, ◌<◌, List, [], ◌∷◌, ◌++◌, length, Ok, arith, refl, ◌∙◌, ap, sym, subst, suc, zero, replicate}
use Rattle.std.specs.Prelude.{All}
use Rattle.std.proofs.lemmas.List.{length-replicate}
use Rattle.std.proofs.lemmas.List.Elements.{All-nil, All-cons}
use Rattle.pat_outside.specs.declared.outside.Sink.{Ghosts}
use Rattle.pat_outside.specs.Prints.{Prints}
use Rattle.pat_outside.proofs.Printing.{Prints-nothing}
use Rattle.event_book.specs.declared.event.Event.{Event}
use Rattle.event_book.specs.declared.member.Member.{Member}
use Rattle.event_book.specs.Text.{lines_of}
use Rattle.cluster_model.specs.declared.step.Step.{Step}
use Rattle.cluster_model.specs.declared.step.Step.TheVariants as steps
use Rattle.cluster_model.specs.Cluster.{cluster_over}
use Rattle.cluster_model.specs.Next.{next_events, run_events}
use Rattle.cluster_model.specs.State.{Cluster}
use Rattle.cluster_model.specs.Steps.{IsStep}
use Rattle.summary_model.specs.Passing.{IsTickAlone}
use Rattle.summary_model.specs.Sights.{noted_steps}
use Rattle.world_model.specs.Idle.{BringsTicks, IsTick}
use Rattle.simulation.specs.Steps.{TookSteps}
use Rattle.run_printing.specs.declared.print_error.PrintError.TheVariants.{Write}
use Rattle.run_player.specs.Playing.{Idles, PlayerFacts, Plays}
use Rattle.run_model.specs.Run.{events_by_step, noted_from, printed_from, traced_after, traced_over}

-- a tick changes nothing of what is traced
traced-once : (trace : Bool) (step : Step) → IsTick step → traced_after trace step ≡ trace
traced-once trace steps.Scheduled is = refl
traced-once trace steps.Tick is = refl
traced-once trace (steps.Command command) is = absurd is
traced-once trace (steps.Connection id visit) is = absurd is

-- ticks are steps that any script may have
pub tick-declared : (members : List Member) (step : Step) → IsTick step → IsStep members step
tick-declared members steps.Scheduled is = tt
tick-declared members steps.Tick is = tt
tick-declared members (steps.Command command) is = absurd is
tick-declared members (steps.Connection id visit) is = absurd is

prints-nothing : (step : Step) (world : Cluster) (trace : Bool) (count : ℕ) → IsTick step
    → BringsTicks world step count → printed_from world trace (replicate count step) ≡ []
unfolding BringsTicks
prints-nothing step world trace zero is brings = refl
prints-nothing step world trace (suc count) is brings =
    let after = cluster_over world (next_events world step) in
    ap (λ (t : Bool). lines_of trace (next_events world step) ++ printed_from after t (replicate count step))
    (traced-once trace step is)
    ∙ ap (λ (events : List Event). lines_of trace events ++ printed_from after trace (replicate count step)) brings.0
    ∙ prints-nothing step after trace count is brings.1

traced-same : (step : Step) (trace : Bool) (count : ℕ) → IsTick step → traced_over trace (replicate count step) ≡ trace
traced-same step trace zero is = refl
traced-same step trace (suc count) is =
    ap (λ (t : Bool). traced_over t (replicate count step)) (traced-once trace step is)
    ∙ traced-same step trace count is

pub ticks-alone : (step : Step) (world : Cluster) (count : ℕ) → BringsTicks world step count
    → All IsTickAlone (events_by_step world (replicate count step))
unfolding BringsTicks
ticks-alone step world zero brings = All-nil IsTickAlone
ticks-alone step world (suc count) brings =
    let events = next_events world step in
    All-cons IsTickAlone events (events_by_step (cluster_over world events) (replicate count step))
    (subst IsTickAlone (sym brings.0) refl) (ticks-alone step (cluster_over world events) count brings.1)

pub ticks-many : (step : Step) (world : Cluster) (count : ℕ)
    → length (events_by_step world (replicate count step)) ≡ count
ticks-many step world zero = refl
ticks-many step world (suc count) = ap suc (ticks-many step (cluster_over world (next_events world step)) count)

-- so the player played these steps
pub Plays-idle : {K : Type 0} {sink : Ghosts K} {before after : PlayerFacts} {step : Step} {count left : ℕ} (out : K)
    → IsTick step → Idles before after step count left
    → Plays {X = Unit {0}} sink before after out out (Ok tt) (replicate (count - left) step)
Plays-idle {sink = sink} {before = before} {after = after} {step = step} {count = count} {left = left} out is idles =
    record {
      world = idles.world;
      trace = idles.trace ∙ sym (traced-same step before.trace (count - left) is);
      summary = idles.summary;
      taken =
          subst (TookSteps before.world after.world)
          (sym (length-replicate {A = Step} (count - left) step)) idles.taken;
      printed = subst (λ (t : List ℕ). Prints {X = Unit {0}} sink out out Write (Ok tt) t)
          (sym (prints-nothing step before.world.cluster before.trace (count - left) is idles.ticks))
          (Prints-nothing sink out Write tt);
      whole = λ e. cc;
    }

-- some ticks of one kind, and then the others
pub ticks-split : (step : Step) (count left : ℕ) → left ≤ count
    → replicate count step ≡ replicate (count - left) step ++ replicate left step
ticks-split step count left h = split-at (count - left) count (omega (arith, h))
  where
    split-at : (taken all : ℕ) → all ≡ taken + left → replicate all step ≡ replicate taken step ++ replicate left step
    split-at zero all e = ap (λ (n : ℕ). replicate n step) (omega (arith, e))
    split-at (suc taken) all e =
        let next : all ≡ suc (taken + left) = omega (arith, e) in
        ap (λ (n : ℕ). replicate n step) next ∙ ap (λ (ss : List Step). step ∷ ss) (split-at taken (taken + left) refl)

-- the next tick, and those behind it
pub ticks-first : (step : Step) (left : ℕ) → 0 < left → replicate left step ≡ (step ∷ []) ++ replicate (left - 1) step
ticks-first step left h =
    let next : left ≡ suc (left - 1) = omega (arith, h) in
    ap (λ (n : ℕ). replicate n step) next

-- what is taken at once of some ticks
pub idles : (before after : PlayerFacts) (step : Step) (count ticks : ℕ) → ticks ≤ count
    → BringsTicks before.world.cluster step ticks
    → after.world.cluster ≡ cluster_over before.world.cluster (run_events before.world.cluster (replicate ticks step))
    → after.trace ≡ before.trace
    → ((steps : List (List Event)) → length steps ≡ ticks → All IsTickAlone steps →
    after.summary ≡ noted_steps before.summary steps)
    → TookSteps before.world after.world ticks → Idles before after step count (count - ticks)
idles before after step count ticks within brings world trace summary taken =
    let start = before.world.cluster in
    let e : ticks ≡ count - (count - ticks) = omega (arith, within) in
    let noted = summary (events_by_step start (replicate ticks step)) (ticks-many step start ticks)
    (ticks-alone step start ticks brings) in
    record {
      within = omega arith;
      ticks = subst (BringsTicks start step) e brings;
      world = world ∙ ap (λ (n : ℕ). cluster_over start (run_events start (replicate n step))) e;
      trace = trace;
      summary = noted ∙ ap (λ (n : ℕ). noted_from before.summary start (replicate n step)) e;
      taken = subst (TookSteps before.world after.world) e taken;
    }

-- none is left
pub none-left : (step : Step) (left : ℕ) → left ≡ 0 → replicate left step ≡ []
none-left step left none = ap (λ (n : ℕ). replicate n step) none
