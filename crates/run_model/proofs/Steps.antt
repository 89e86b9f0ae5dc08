-- What happens in steps, one after another.
use Rattle.std.proofs.Common.{◌≡◌, List, [], ◌∷◌, ◌++◌, append-nil, append_assoc, ◌∙◌, ap, refl, sym}
use Rattle.event_book.specs.declared.event.Event.{Event}
use Rattle.cluster_model.specs.declared.step.Step.{Step}
use Rattle.cluster_model.specs.Cluster.{cluster_over}
use Rattle.cluster_model.specs.Next.{next_events, run_events}
use Rattle.cluster_model.specs.State.{Cluster}
use Rattle.world_model.proofs.Taking.{cluster_over-append}

-- some steps, and then others
pub run_events-both : (start : Cluster) (first more : List Step)
    → run_events start (first ++ more)
    ≡ run_events start first ++ run_events (cluster_over start (run_events start first)) more
run_events-both start [] more = refl
run_events-both start (step ∷ first) more =
    let taken = next_events start step in
    let later : Cluster = cluster_over start taken in
    ap (λ (es : List Event). taken ++ es) (run_events-both later first more)
    ∙ sym (append_assoc taken (run_events later first) (run_events (cluster_over later (run_events later first)) more))
    ∙ ap (λ (c : Cluster). (taken ++ run_events later first) ++ run_events c more)
    (sym (cluster_over-append start taken (run_events later first)))

-- the events of steps and of one more
pub run_events-last : (start : Cluster) (steps : List Step) (step : Step)
    → run_events start (steps ++ step ∷ [])
    ≡ run_events start steps ++ next_events (cluster_over start (run_events start steps)) step
run_events-last start steps step =
    let later : Cluster = cluster_over start (run_events start steps) in
    run_events-both start steps (step ∷ [])
    ∙ ap (λ (es : List Event). run_events start steps ++ es) (append-nil (next_events later step))
