use Rattle.std.proofs.Common.{sym, ◌∙◌}
use Rattle.agent_model.specs.Agents.{Follower}
use Rattle.agent_model.proofs.Judging.{free-by}
use Rattle.agent_turn.specs.Turns.{reached}
use Rattle.agent_following.proofs.racing.finds_free.Goals as goal

pub returns-else-can_start-clause-outcome : goal.returns-else-can_start-clause-outcome
returns-else-can_start-clause-outcome c =
    free-by c.args.turn.now.moment (reached Follower c.args.turn.now) (reached Follower c.race_unless.new.turn)
    c.bar_of.result (sym c.can_start.ensures ∙ c.if-can_start.false) c.bar_of.ensures c.race_unless.ensures.outcome
