use Rattle.rest_facts.proofs.Served.{ok-where, turns-decide}
use Rattle.rest_facts.proofs.laws.agents_live_by_their_turns.Goals as goal

pub returns : goal.returns
returns c = λ view seen lag. ok-where _ (turns-decide view seen)
