-- Steps of a world that a run brought keep acknowledged commits.
use Rattle.std.proofs.Common.{◌≡◌, ℕ, List, [], ◌∷◌, ◌++◌, ◌∙◌, ap, sym, subst}
use Rattle.cluster_model.specs.declared.step.Step.{Step}
use Rattle.script_model.specs.Script.{HeadText, IsHead}
use Rattle.simulation.specs.Book.{StandsFor}
use Rattle.event_book.specs.declared.event.Event.{Event}
use Rattle.event_list.specs.Listed.{Listed}
use Rattle.cluster_model.specs.Cluster.{cluster_over}
use Rattle.cluster_model.specs.Next.{next_events, run_events}
use Rattle.cluster_model.specs.Starting.{cluster_of}
use Rattle.cluster_model.specs.State.{Cluster}
use Rattle.commit_runs.specs.Runs.{KeepsCommitsIn, KeepsOrderIn}
use Rattle.commit_runs.proofs.EveryRun.{runs-in-order, runs-keep}
use Rattle.world_model.specs.Emits.{Emits}
use Rattle.pat_world.specs.KeptCommits.{KeepsAcknowledged}
use Rattle.run_model.proofs.Steps.{run_events-both}
use Rattle.run_model.proofs.Steps.{run_events-last}

-- what every run keeps is kept behind one more step, and behind more steps at once
module _ (claim : HeadText → List Event → Type 0)
    (every : (head : HeadText) → IsHead head → (steps : List Step) →
    claim head (run_events (cluster_of head) steps)) where
  by-step : (before after : Cluster) (had has : Listed) (step : Step) (cost : ℕ) → had.items ≡ []
      → Emits before after had has (next_events before step) cost
      → (head : HeadText) (steps : List Step) → IsHead head
      → StandsFor (cluster_of head) (run_events (cluster_of head) steps) before
      → claim head (run_events (cluster_of head) steps ++ has.items)
  by-step before after had has step cost none took head steps is stands =
      let start : Cluster = cluster_of head in
      let next : has.items ≡ next_events (cluster_over start (run_events start steps)) step =
      ap (λ (l : Listed). l.items) took.event ∙ ap (λ (es : List Event). es ++ next_events before step) none
      ∙ ap (λ (c : Cluster). next_events c step) stands.world_is in
      subst (claim head)
      (run_events-last start steps step ∙ sym (ap (λ (es : List Event). run_events start steps ++ es) next))
      (every head is (steps ++ step ∷ []))

  by-steps : (world : Cluster) (more : List Step) (head : HeadText) (steps : List Step) → IsHead head
      → StandsFor (cluster_of head) (run_events (cluster_of head) steps) world
      → claim head (run_events (cluster_of head) steps ++ run_events world more)
  by-steps world more head steps is stands =
      let start : Cluster = cluster_of head in
      let next : run_events world more ≡ run_events (cluster_over start (run_events start steps)) more =
      ap (λ (c : Cluster). run_events c more) stands.world_is in
      subst (claim head)
      (run_events-both start steps more ∙ sym (ap (λ (es : List Event). run_events start steps ++ es) next))
      (every head is (steps ++ more))

pub step-keeps-commits : (before after : Cluster) (had has : Listed) (step : Step) (cost : ℕ) → had.items ≡ []
    → Emits before after had has (next_events before step) cost → KeepsAcknowledged before has.items
step-keeps-commits before after had has step cost none took = record {
  kept = by-step KeepsCommitsIn runs-keep before after had has step cost none took;
  order = by-step KeepsOrderIn runs-in-order before after had has step cost none took;
}

pub steps-keep-commits : (world : Cluster) (more : List Step) → KeepsAcknowledged world (run_events world more)
steps-keep-commits world more = record {
  kept = by-steps KeepsCommitsIn runs-keep world more;
  order = by-steps KeepsOrderIn runs-in-order world more;
}
