use Rattle.std.proofs.Common.{◌+◌, ◌-◌, arith}
use Rattle.cluster_model.specs.Next.{round_events, rounds_events}
use Rattle.cluster_model.specs.Limits.{most_rounds}
use Rattle.world_model.specs.Room.{round_cost}
use Rattle.world_model.proofs.Rest.{Left-room, Left-more, Left-end, rounds_events-next, rounds_events-done, rounds_events-end, round_events-still}
use Rattle.world_play.proofs.steps.rounds.Goals as goal

pub round-requires-clause-room : goal.round-requires-clause-room
round-requires-clause-room c = Left-room _ _ _ _ _ _ _ _ round_cost c.loop-done.invariant.left c.requires.room
    (omega (arith, c.loop-done-test.true))

pub returns-then-len-before-clause-emits : goal.returns-then-len-before-clause-emits
returns-then-len-before-clause-emits c =
    let still = round_events-still _ _ _ _ c.in_ok-round.ensures.emits
    (omega (arith, c.len.ensures, c.len-before.ensures, c.if-len-before.true)) in
    rounds_events-done _ _ _ _ _ _ _ c.loop-done.done _ _ c.loop-done.invariant.left c.loop-done-test.true still

pub loop-done-preserved : goal.loop-done-preserved
loop-done-preserved c = record {
  left = Left-more _ _ _ _ _ _ _ (round_events c.loop-done.stage)
      (λ later. rounds_events later (most_rounds - (c.loop-done.done + 1))) _ _ _ round_cost _
      c.loop-done.invariant.left
      (rounds_events-next c.loop-done.stage c.loop-done.done _ _ c.loop-done-test.true c.in_ok-round.ensures.emits.event
      (λ same. c.if-len-before.false (omega (arith, same, c.len.ensures, c.len-before.ensures))))
      c.in_ok-round.ensures.emits (omega (arith, c.loop-done-test.true));
  asleep = c.in_ok-round.ensures.asleep;
}

pub returns-clause-emits : goal.returns-clause-emits
returns-clause-emits c = Left-end _ _ _ _ _ _ _ _ c.loop-done.invariant.left
    (rounds_events-end c.loop-done.stage c.loop-done.done c.loop-done-test.false)
