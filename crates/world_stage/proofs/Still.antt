-- What may not move stays where it is.
use Rattle.std.proofs.Common.{◌≡◌, ℕ, false, []}
use Rattle.cluster_model.specs.Messages.{message_events}
use Rattle.cluster_model.specs.State.{Cluster}
use Rattle.world_flight.specs.FlightIndex.{AreTended, IndexFacts, may_move}
use Rattle.world_model.proofs.Silence.{kept-still}

pub held-still : (cluster : Cluster) (index : IndexFacts) (number : ℕ)
    → AreTended index cluster.facts.flight cluster.facts.processes cluster.facts.cuts
    → may_move index number ≡ false → message_events cluster number ≡ []
held-still cluster index number tended out =
    kept-still cluster number (λ message is. (tended number message is out).suspended)
