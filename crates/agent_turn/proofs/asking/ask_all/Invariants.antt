use Rattle.std.proofs.Common.{◌≡◌, ◌+◌, ◌≤◌}
use Rattle.agent_model.specs.Answers.{asking_first}
use Rattle.agent_turn.proofs.asking.ask_all.Given as goal

abbrev pub invariant-loop-number : goal.invariant-loop-number
invariant-loop-number l = (l.out.outputs ≡ asking_first l.who l.sequence l.number l.fn.out.outputs)
    × (l.fn.out.spare ≤ l.out.spare + l.number)
