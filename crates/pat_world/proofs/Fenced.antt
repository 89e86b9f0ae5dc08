-- A step of a world that a run brought grants writes under a lease only while the leader key is as the lease left it.
use Rattle.std.proofs.Common.{◌≡◌, List, [], ◌∷◌, ◌++◌, ◌∙◌, ap, sym, subst}
use Rattle.cluster_model.specs.declared.step.Step.{Step}
use Rattle.event_book.specs.declared.event.Event.{Event}
use Rattle.event_list.specs.Listed.{Listed}
use Rattle.cluster_model.specs.Cluster.{cluster_over}
use Rattle.cluster_model.specs.Next.{next_events, run_events}
use Rattle.cluster_model.specs.Starting.{cluster_of}
use Rattle.cluster_model.specs.State.{Cluster}
use Rattle.lease_runs.specs.Fencing.{AreFenced}
use Rattle.lease_runs.proofs.Fencing.{fenced-behind}
use Rattle.lease_runs.proofs.MeasuredRuns.{runs-fenced}
use Rattle.world_model.specs.Emits.{Emits}
use Rattle.pat_world.specs.Fenced.{KeepsFencing}
use Rattle.run_model.proofs.Steps.{run_events-last}

pub step-fenced : (before after : Cluster) (had has : Listed) (step : Step) (cost : _) → had.items ≡ []
    → Emits before after had has (next_events before step) cost → KeepsFencing before has.items
step-fenced before after had has step cost none took = λ head steps stands.
    let start : Cluster = cluster_of head in
    let book : List Event = run_events start steps in
    let reached : Cluster = cluster_over start book in
    let world : before ≡ reached = stands.world_is in
    let next : has.items ≡ next_events before step = ap (λ (l : Listed). l.items) took.event
    ∙ ap (λ (es : List Event). es ++ next_events before step) none in
    let whole : AreFenced start (book ++ next_events reached step) =
    subst (AreFenced start) (run_events-last start steps step) (runs-fenced head (steps ++ step ∷ [])) in
    let behind : AreFenced reached (next_events reached step) =
    fenced-behind start book (next_events reached step) whole in
    let same : AreFenced before (next_events before step) =
    subst (λ (c : Cluster). AreFenced c (next_events c step)) (sym world) behind in
    subst (AreFenced before) (sym next) same
