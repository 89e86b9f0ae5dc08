use Rattle.std.proofs.Common.{◌<◌, ℕ, Option, arith, subst, sym}
use Rattle.std.specs.Prelude.{IfSome}
use Rattle.world_flight.specs.FlightIndex.{AreNumbered}
use Rattle.world_play.proofs.Passing.{passing-end, passing-more, passing-room, passing-skip, passing-start}
use Rattle.world_play.proofs.messages.pass_messages.Goals as goal

pub loop-number-init : goal.loop-number-init
loop-number-init c = record {
  passing = passing-start c.args.stage.now c.args.events.now c.sent-last.result c.sent-last.ensures
      (omega (arith, c.has_messages.ensures.few));
  asleep = c.requires.asleep;
}

pub pass_message-requires-clause-room : goal.pass_message-requires-clause-room
pass_message-requires-clause-room c =
    let sorted = c.has_messages.ensures.order in
    let high = c.in-Some.ensures.last in
    let skipped = passing-skip c.args.stage.now c.loop-number.stage _ _ c.loop-number.from c.in-Some.number
    c.sent-last.result c.loop-number.invariant.passing sorted c.in-Some.ensures.from (omega (arith, high))
    (λ k low below. c.in-Some.ensures.still k low (omega (arith, below, high)) below) in
    passing-room c.args.stage.now c.loop-number.stage _ _ c.in-Some.number c.sent-last.result skipped sorted
    high c.requires.room

pub overflow_add-from : goal.overflow_add-from
overflow_add-from c = omega (arith, c.in-Some.ensures.last, c.requires.room.sent, c.sent-last.ensures)

pub loop-number-preserved : goal.loop-number-preserved
loop-number-preserved c =
    let sorted = c.has_messages.ensures.order in
    let high = c.in-Some.ensures.last in
    let skipped = passing-skip c.args.stage.now c.loop-number.stage _ _ c.loop-number.from c.in-Some.number
    c.sent-last.result c.loop-number.invariant.passing sorted c.in-Some.ensures.from (omega (arith, high))
    (λ k low below. c.in-Some.ensures.still k low (omega (arith, below, high)) below) in
    record {
      passing = passing-more c.args.stage.now c.loop-number.stage c.pass_message.new.stage _ _ _
          c.in-Some.number c.sent-last.result skipped sorted high c.in_ok-pass_message.ensures.emits;
      asleep = c.in_ok-pass_message.ensures.asleep;
    }

pub returns-clause-emits : goal.returns-clause-emits
returns-clause-emits c =
    passing-end c.args.stage.now c.loop-number.stage _ _ c.loop-number.from c.sent-last.result
    c.loop-number.invariant.passing c.has_messages.ensures.order
    (subst (λ (sent : ℕ). AreNumbered sent c.args.stage.now.facts.flight)
    (sym c.sent-last.ensures) c.has_messages.ensures.numbered)
    (λ k low high.
    c.next_to_move.ensures.still k low high (subst (λ (o : Option ℕ). IfSome o (λ n. k < n)) (sym c.in_default.is) tt))
