use Rattle.std.proofs.Common.{◌≡◌, ◌≤◌, ◌*◌, arith, ap, length, refl}
use Rattle.pat_base.specs.declared.member_id.TheConstants.{MOST_MEMBERS}
use Rattle.world_model.specs.Room.{input_cost, wakes_cost}
use Rattle.world_model.proofs.Rest.{EachLeft-end, EachLeft-members, EachLeft-more, EachLeft-place, EachLeft-room}
use Rattle.world_model.proofs.Rooms.{HasRoom-fewer}
use Rattle.world_model.proofs.Taking.{Emits-weaker}
use Rattle.world_acts.proofs.Sleeping.{passed-over}
use Rattle.world_acts.proofs.wakes.wakes.Goals as goal

pub loop-place-init : goal.loop-place-init
loop-place-init c = record {
  left = passed-over c.args.asleep.now c.args.stage.now c.args.stage.now c.args.events.now c.args.events.now
      c.members.result.now 0 c.first_awake-place.result c.clock.result.0 c.members.ensures c.clock.ensures
      c.requires.asleep
      (record { left = record { state = refl; event = refl; room = λ more room. room } })
      c.first_awake-place.ensures.range c.first_awake-place.ensures.asleep;
  asleep = c.requires.asleep;
}

pub member-member-requires : goal.member-member-requires
member-member-requires c = omega (arith, c.loop-place-test.true, c.member_count.ensures.count)

pub wake-requires-clause-room : goal.wake-requires-clause-room
wake-requires-clause-room c =
    let same : length c.loop-place.stage.facts.members ≡ length c.args.stage.now.facts.members =
    ap length (EachLeft-members _ _ _ _ _ _ _ _ _ c.loop-place.invariant.left) in
    let few : length c.args.stage.now.facts.members ≤ MOST_MEMBERS =
    omega (arith, c.member_count.ensures.few, c.member_count.ensures.count, same) in
    EachLeft-room _ _ input_cost _ _ _ _ _ c.loop-place.place _ c.loop-place.invariant.left
    (EachLeft-place _ _ _ _ _ _ _ _ c.loop-place.invariant.left c.member-member.ensures)
    (HasRoom-fewer _ wakes_cost (input_cost * length c.args.stage.now.facts.members)
    (omega (arith, few)) c.requires.room)

pub first_awake-place-requires-in-loop-place : goal.first_awake-place-requires-in-loop-place
first_awake-place-requires-in-loop-place c =
    let before = EachLeft-members _ _ _ _ _ _ _ _ _ c.loop-place.invariant.left in
    let left = EachLeft-more _ _ _ _ _ _ _ _ _ _ c.loop-place.place _ c.loop-place.invariant.left
    (EachLeft-place _ _ _ _ _ _ _ _ c.loop-place.invariant.left c.member-member.ensures) c.in_ok-wake.ensures.emits in
    let after = EachLeft-members _ _ _ _ _ _ _ _ _ left in
    omega (
      arith,
      c.loop-place-test.true,
      c.member_count.ensures.count,
      ap length before,
      ap length after,
      ap length c.members-in-loop-place.ensures,
    )

pub loop-place-smaller : goal.loop-place-smaller
loop-place-smaller c =
    omega (
      arith,
      c.loop-place-test.true,
      c.member_count.ensures.count,
      ap length (EachLeft-members _ _ _ _ _ _ _ _ _ c.loop-place.invariant.left),
      c.first_awake-place-in-loop-place.ensures.range.0,
    )

pub loop-place-preserved : goal.loop-place-preserved
loop-place-preserved c =
    let left = EachLeft-more _ _ _ _ _ _ _ _ _ _ c.loop-place.place _ c.loop-place.invariant.left
    (EachLeft-place _ _ _ _ _ _ _ _ c.loop-place.invariant.left c.member-member.ensures) c.in_ok-wake.ensures.emits in
    record {
      left = passed-over _ _ _ _ _ _ _ _ _ c.members-in-loop-place.ensures c.clock-in-loop-place.ensures
          c.in_ok-wake.ensures.asleep left c.first_awake-place-in-loop-place.ensures.range
          c.first_awake-place-in-loop-place.ensures.asleep;
      asleep = c.in_ok-wake.ensures.asleep;
    }

pub returns-clause-emits : goal.returns-clause-emits
returns-clause-emits c =
    let same : length c.loop-place.stage.facts.members ≡ length c.args.stage.now.facts.members =
    ap length (EachLeft-members _ _ _ _ _ _ _ _ _ c.loop-place.invariant.left) in
    let few : length c.args.stage.now.facts.members ≤ MOST_MEMBERS =
    omega (arith, c.member_count.ensures.few, c.member_count.ensures.count, same) in
    let over : length c.args.stage.now.facts.members ≤ c.loop-place.place =
    omega (arith, c.loop-place-test.false, c.member_count.ensures.count, same) in
    Emits-weaker _ _ _ _ _ _ wakes_cost
    (EachLeft-end _ _ _ _ _ _ _ _ c.loop-place.place c.loop-place.invariant.left over) (omega (arith, few))
