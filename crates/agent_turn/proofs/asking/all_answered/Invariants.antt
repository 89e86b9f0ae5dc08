use Rattle.std.proofs.Common.{◌≡◌}
use Rattle.agent_model.specs.Answers.{first_answered}
use Rattle.agent_turn.proofs.asking.all_answered.Given as goal

abbrev pub invariant-loop-number : goal.invariant-loop-number
invariant-loop-number l = l.all ≡ first_answered l.who l.answers l.number
