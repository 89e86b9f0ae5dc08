use Rattle.std.proofs.Common.{ℕ, arith}
use Rattle.event_book.specs.declared.member.Member.{Member}
use Rattle.world_model.specs.Idle.{SleepsAt}
use Rattle.world_model.proofs.Idling.{so-more, so-all}
use Rattle.world_ticks.proofs.idling.wakes_from.Goals as goal

pub loop-place-preserved : goal.loop-place-preserved
loop-place-preserved c = (
  omega (arith, c.loop-place.invariant.0, c.wake_from-first.ensures.within),
  so-more _ c.loop-place.first.0 c.wake_from-first.result.0 _ c.loop-place.place c.member.result
      c.loop-place.invariant.1 c.wake_from-first.ensures.within c.member.ensures c.wake_from-first.ensures.asleep,
)

pub returns-clause-asleep : goal.returns-clause-asleep
returns-clause-asleep c =
    so-all (λ (now : ℕ) (member : Member). SleepsAt now c.args.stage.now member) c.loop-place.first.0
    c.args.stage.now.facts.members c.loop-place.place c.loop-place.invariant.1
    (omega (arith, c.loop-place-test.false, c.member_count-place-end.ensures.count))
