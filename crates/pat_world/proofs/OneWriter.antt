-- A step of a world that a run brought keeps one writer, whom alone a load balancer finds.
use Rattle.std.proofs.Common.{◌≡◌, ℕ, List, [], ◌∷◌, ◌++◌, ◌∙◌, ap, sym}
use Rattle.cluster_model.specs.declared.step.Step.{Step}
use Rattle.event_book.specs.declared.event.Event.{Event}
use Rattle.event_list.specs.Listed.{Listed}
use Rattle.cluster_model.specs.Next.{next_events, run_events}
use Rattle.cluster_model.specs.Starting.{cluster_of}
use Rattle.cluster_model.specs.State.{Cluster}
use Rattle.lease_runs.proofs.EveryRun.{runs-one}
use Rattle.world_model.specs.Emits.{Emits}
use Rattle.rest_law.proofs.Found.{one-found}
use Rattle.pat_world.specs.OnePrimary.{KeepsOnePrimary}
use Rattle.pat_world.specs.OneWriter.{KeepsOneWriter}
use Rattle.run_model.proofs.Steps.{run_events-last}

pub step-keeps : (before after : Cluster) (had has : Listed) (step : Step) (cost : ℕ) → had.items ≡ []
    → Emits before after had has (next_events before step) cost → KeepsOneWriter before has.items
step-keeps before after had has step cost none took = record {
  sole = λ head steps is stands front rest whole met.
      let start = cluster_of head in
      let next = ap (λ (l : Listed). l.items) took.event ∙ ap (λ es. es ++ next_events before step) none
      ∙ ap (λ (c : Cluster). next_events c step) stands.world_is in
      runs-one head is (steps ++ step ∷ []) front rest
      (whole ∙ ap (λ es. run_events start steps ++ es) next ∙ sym (run_events-last start steps step))
      met.timely met.hands_off;
}

-- where one server accepts writes, one member is found as the primary
pub one-primary : (world : Cluster) (events : List Event) → KeepsOneWriter world events → KeepsOnePrimary world events
one-primary world events keeps = record {
  found = λ head steps is stands front rest whole met.
      one-found head front (keeps.sole head steps is stands front rest whole met);
}
