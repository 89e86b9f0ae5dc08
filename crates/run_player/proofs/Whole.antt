-- A whole run: the lines of its book, and then the summary.
use Rattle.std.proofs.Common.{◌≡◌, ℕ, ◌+◌, ◌-◌, ◌≤◌, sym, subst, Bool, false, ◌++◌, List, length, arith, ◌∙◌, ap}
use Rattle.cluster_model.specs.declared.step.Step.{Step}
use Rattle.script_model.specs.Script.{HeadText}
use Rattle.cluster_model.specs.Starting.{cluster_of}
use Rattle.cluster_model.specs.State.{Cluster}
use Rattle.cluster_model.specs.Cluster.{cluster_over}
use Rattle.cluster_model.specs.Next.{run_events}
use Rattle.summary_model.specs.Sights.{SummaryFacts}
use Rattle.summary_model.specs.SummaryText.{closing_text}
use Rattle.simulation.specs.Steps.{HasStepsLeft, IsCounted, TookSteps, WorldFacts}
use Rattle.simulation.proofs.Standing.{is-stands}
use Rattle.simulation.proofs.Stepping.{steps-left-behind}
use Rattle.world_model.specs.Room.{most_steps}
use Rattle.run_player.specs.Left.{IsLeftBy}
use Rattle.run_model.specs.Run.{noted_from, printed_from, summary_of_run, text_of_run}
use Rattle.run_model.specs.Watches.{first_summary}

-- what is printed from a player that has just begun is the whole
pub text-is : (head : HeadText) (steps : List Step) (world : Cluster) (trace : Bool) (summary : SummaryFacts)
    → world ≡ cluster_of head → trace ≡ false → summary ≡ first_summary head
    → printed_from world trace steps ++ closing_text (noted_from summary world steps).watch.closing
    ≡ text_of_run (record { head = head; steps = steps })
text-is head steps world trace summary start untraced first =
    ap (λ t. printed_from world t steps ++ closing_text (noted_from summary world steps).watch.closing) untraced
    ∙ ap (λ f. printed_from world false steps ++ closing_text (noted_from f world steps).watch.closing) first
    ∙ ap (λ w. printed_from w false steps ++ closing_text (noted_from (first_summary head) w steps).watch.closing) start

-- and so is its closing summary
pub summary-is : (head : HeadText) (steps : List Step) (world : Cluster) (summary : SummaryFacts)
    → world ≡ cluster_of head → summary ≡ first_summary head
    → closing_text (noted_from summary world steps).watch.closing
    ≡ summary_of_run (record { head = head; steps = steps })
summary-is head steps world summary start first =
    ap (λ f. closing_text (noted_from f world steps).watch.closing) first
    ∙ ap (λ w. closing_text (noted_from (first_summary head) w steps).watch.closing) start

-- and behind it the world is the one that the run leaves
pub left-by : (head : HeadText) (steps : List Step) (first last world : WorldFacts) → length steps ≤ most_steps
    → first.cluster ≡ cluster_of head → first.steps ≡ 0 → HasStepsLeft first most_steps → IsCounted first
    → last.cluster ≡ cluster_over first.cluster (run_events first.cluster steps)
    → TookSteps first last (length steps) → world ≡ last → IsLeftBy (record { head = head; steps = steps }) world
left-by head steps first last world few start none room counted left taken is =
    let count : ℕ = length steps in
    let whole : count + (most_steps - count) ≡ most_steps = omega (arith, few) in
    subst (IsLeftBy (record { head = head; steps = steps })) (sym is) (record {
      stands = is-stands (cluster_of head) (run_events (cluster_of head) steps) last.cluster
          (left ∙ ap (λ (c : Cluster). cluster_over c (run_events c steps)) start);
      steps = omega (arith, taken.steps, none);
      left =
          steps-left-behind first last count (most_steps - count) taken (subst (HasStepsLeft first) (sym whole) room);
      counted = taken.counted counted;
    })
