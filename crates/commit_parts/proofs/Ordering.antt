-- Events that happen in order, one after another.
use Rattle.std.proofs.Common.{◌++◌, List, [], ◌∷◌}
use Rattle.event_book.specs.declared.event.Event.{Event}
use Rattle.cluster_model.specs.Cluster.{cluster_after, cluster_over}
use Rattle.cluster_model.specs.State.{Cluster}
use Rattle.commit_actions.specs.Past.{Past, past_after, past_over}
use Rattle.commit_parts.specs.Ordered.{AllInOrder}

pub order-then : (past : Past) (cluster : Cluster) (xs ys : List Event) → AllInOrder past cluster xs
    → AllInOrder (past_over past xs) (cluster_over cluster xs) ys → AllInOrder past cluster (xs ++ ys)
order-then past cluster [] ys first second = second
order-then past cluster (x ∷ xs) ys first second =
    (first.0, order-then (past_after past x.kind) (cluster_after cluster x.kind) xs ys first.1 second)

pub order-front : (past : Past) (cluster : Cluster) (xs ys : List Event) → AllInOrder past cluster (xs ++ ys)
    → AllInOrder past cluster xs
order-front past cluster [] ys all = tt
order-front past cluster (x ∷ xs) ys all =
    (all.0, order-front (past_after past x.kind) (cluster_after cluster x.kind) xs ys all.1)
