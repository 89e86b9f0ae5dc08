use Rattle.std.proofs.lemmas.Bool.Decides.{Decides-and}
use Rattle.rest_facts.proofs.Served.{ok-where, load-decides, lag-decides}
use Rattle.rest_facts.proofs.laws.replicas_serve_within_their_lag.Goals as goal

pub returns : goal.returns
returns c = λ view seen lag. ok-where _ (Decides-and _ _ (load-decides view) (lag-decides view seen lag))
