use Rattle.std.proofs.Common.{rules}
use Rattle.agent_model.specs.Racing.{turn_keys}
use Rattle.agent_model.specs.Views.{view_of}
use Rattle.agent_model.proofs.Judging.{outcome-shown}
use Rattle.agent_following.proofs.racing.outcome_at.Goals as goal

pub returns : goal.returns
returns c = outcome-shown c.view_of-view.result
    (view_of c.args.now c.args.word c.args.knows.now c.args.machine.now) c.turn_keys.result
    (turn_keys c.args.knows.now) c.args.knows.now.answers c.err.result (search rules) (search rules) (search rules)
