use Rattle.std.proofs.Common.{◌≡◌, ◌+◌, ◌≤◌}
use Rattle.agent_model.specs.StayingPrimary.{requesting_first}
use Rattle.agent_leadership.proofs.staying.request_all.Given as goal

abbrev pub invariant-loop-number : goal.invariant-loop-number
invariant-loop-number l = (l.out.outputs ≡ requesting_first l.members l.sequence l.ttl l.number l.fn.out.outputs)
    × (l.fn.out.spare ≤ l.out.spare + l.number)
