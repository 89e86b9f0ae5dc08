use Rattle.std.proofs.Common.{Some, rules}
use Rattle.agent_model.specs.Agents.{Follower}
use Rattle.agent_model.proofs.Judging.{unless-by}
use Rattle.agent_turn.specs.Turns.{reached}
use Rattle.agent_following.proofs.racing.race_unless.Goals as goal

pub returns-in-Some-clause-outcome : goal.returns-in-Some-clause-outcome
returns-in-Some-clause-outcome c =
    unless-by c.args.turn.now.moment (reached Follower c.args.turn.now) (reached Follower c.stay_out.new.turn)
    c.args.bar (Some c.in-Some.bar) c.in-Some.is (search rules)
