use Rattle.std.proofs.Common.{Some, rules, sym, ◌∙◌}
use Rattle.agent_model.proofs.Judging.{judged-by}
use Rattle.agent_turn.specs.Turns.{reached}
use Rattle.agent_following.proofs.racing.judge.Goals as goal

pub returns-in-Some-clause-outcome : goal.returns-in-Some-clause-outcome
returns-in-Some-clause-outcome c role is = judged-by c.args.turn.now.moment c.args.word (reached role c.args.turn.now)
    (reached role c.stay_out.new.turn) (Some c.in-Some.bar) is (sym c.in-Some.is ∙ c.outcome_at-bar.ensures)
    (search rules)
