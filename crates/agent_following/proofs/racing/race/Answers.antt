use Rattle.std.proofs.Common.{refl, sym, ◌∙◌}
use Rattle.agent_model.specs.Agents.{Follower}
use Rattle.agent_model.proofs.Judging.{raced-by}
use Rattle.agent_turn.specs.Turns.{reached}
use Rattle.agent_following.proofs.racing.race.Goals as goal

pub returns-then-all_answered-clause-outcome : goal.returns-then-all_answered-clause-outcome
returns-then-all_answered-clause-outcome c =
    raced-by c.args.turn.now.moment (reached Follower c.args.turn.now) (reached Follower c.judge.new.turn)
    c.forget.new.self c.forget.ensures (sym c.all_answered.ensures ∙ c.if-all_answered.true)
    (c.judge.ensures.outcome Follower refl)
