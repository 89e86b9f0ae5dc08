-- The book of a run, step by step.
use Rattle.std.proofs.Common.{ℕ, ◌≡◌, List, [], ◌∷◌, ◌++◌, Option, refl, ap, subst, ◌∙◌}
use Rattle.pat_base.specs.declared.name.Name.{Name}
use Rattle.cluster_model.specs.declared.step.Step.{Step}
use Rattle.script_model.specs.Script.{HeadText, IsHead}
use Rattle.event_book.specs.declared.event.Event.{Event}
use Rattle.event_book.specs.Kinds.{AllAre}
use Rattle.cluster_model.specs.Cluster.{cluster_over}
use Rattle.cluster_model.specs.Next.{next_events, run_events}
use Rattle.cluster_model.specs.Starting.{cluster_of}
use Rattle.cluster_model.specs.State.{Cluster}
use Rattle.cluster_model.proofs.Lists.{all-back, all-front}
use Rattle.summary_model.specs.Listed.{AreNamed, NamesServer}
use Rattle.summary_model.specs.Sights.{SummaryFacts, book_of, noted_step, noted_steps}
use Rattle.summary_model.specs.Telling.{EachTellsLosses, TellLosses}
use Rattle.summary_law.proofs.Listing.{named-step}
use Rattle.commit_runs.specs.Runs.{first_logs}
use Rattle.commit_runs.proofs.Losses.{told-back}
use Rattle.commit_runs.proofs.LossRuns.{runs-tell}
use Rattle.run_model.proofs.Steps.{run_events-last}
use Rattle.world_model.proofs.Taking.{cluster_over-append}
use Rattle.run_model.specs.Run.{events_by_step}

-- the events of all steps are the book
pub book-by-step : (cluster : Cluster) (steps : List Step)
    → book_of (events_by_step cluster steps) ≡ run_events cluster steps
book-by-step cluster [] = refl
book-by-step cluster (step ∷ more) =
    let events = next_events cluster step in
    ap (λ l. events ++ l) (book-by-step (cluster_over cluster events) more)

-- each step of a run tells the first loss in its own events, behind those of the steps before
tell-behind : (head : HeadText) → IsHead head → (done more : List Step) → (book : List Event)
    → run_events (cluster_of head) done ≡ book
    → EachTellsLosses (first_logs head) book (events_by_step (cluster_over (cluster_of head) book) more)
tell-behind head is done [] book whole = tt
tell-behind head is done (step ∷ more) book whole =
    let start : Cluster = cluster_of head in
    let now : Cluster = cluster_over start book in
    let events : List Event = next_events now step in
    let last : run_events start (done ++ step ∷ []) ≡ book ++ events = run_events-last start done step
    ∙ ap (λ (b : List Event). b ++ next_events (cluster_over start b) step) whole in (
      told-back (first_logs head) [] book events
          (subst (λ (b : List Event). TellLosses (first_logs head) [] b) last (runs-tell head is (done ++ step ∷ []))),
      subst (λ (c : Cluster). EachTellsLosses (first_logs head) (book ++ events) (events_by_step c more))
          (cluster_over-append start book events) (tell-behind head is (done ++ step ∷ []) more (book ++ events) last),
    )

pub steps-tell : (head : HeadText) → IsHead head → (steps : List Step)
    → EachTellsLosses (first_logs head) [] (events_by_step (cluster_of head) steps)
steps-tell head is steps = tell-behind head is [] steps [] refl

-- writers that are named as servers are stay so through the events of these steps
pub named-steps : (names : ℕ → Option Name) (facts : SummaryFacts) (steps : List (List Event))
    → AllAre (NamesServer names) (book_of steps) → AreNamed names facts.watch.closing.writers
    → AreNamed names (noted_steps facts steps).watch.closing.writers
named-steps names facts [] all are = are
named-steps names facts (step ∷ steps) all are =
    named-steps names (noted_step facts step) steps (all-back (NamesServer names) step (book_of steps) all)
    (named-step names facts step (all-front (NamesServer names) step (book_of steps) all) are)
