use Rattle.agent_model.specs.Agents.{Leader}
use Rattle.agent_model.proofs.Judging.{step-shown}
use Rattle.agent_turn.specs.Turns.{reached}
use Rattle.agent_leadership.proofs.planning.take_step.Goals as goal

pub returns-clause-outcome : goal.returns-clause-outcome
returns-clause-outcome c = step-shown c.args.turn.now.moment c.args.revision c.leader_view.result
    c.in-Some.seen c.plan-step.result (reached (Leader c.args.revision) c.args.turn.now)
    (reached (Leader c.args.revision) c.take.new.turn) c.leader_view.ensures c.in-Some.is c.plan-step.ensures
    c.take.ensures.outcome
