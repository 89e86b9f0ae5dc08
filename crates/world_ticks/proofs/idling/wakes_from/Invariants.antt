use Rattle.std.proofs.Common.{ℕ, ◌≤◌}
use Rattle.event_book.specs.declared.member.Member.{Member}
use Rattle.world_model.specs.Idle.{SleepsAt}
use Rattle.world_model.proofs.Idling.{AreSoTo}
use Rattle.world_ticks.proofs.idling.wakes_from.Given as goal

-- before the first moment so far, the agents at the places so far aren't to be woken
abbrev pub invariant-loop-place : goal.invariant-loop-place
invariant-loop-place l = (l.first.0 ≤ l.fn.most.0)
    × AreSoTo (λ (now : ℕ) (member : Member). SleepsAt now l.stage member) l.first.0 l.stage.facts.members l.place
