use Rattle.std.proofs.Common.{◌≤◌, ◌*◌, arith, ap, length}
use Rattle.pat_base.specs.declared.member_id.TheConstants.{MOST_MEMBERS}
use Rattle.world_model.specs.Room.{receiving_cost, streaming_cost}
use Rattle.world_model.proofs.Rest.{EachLeft-end, EachLeft-members, EachLeft-more, EachLeft-place, EachLeft-room}
use Rattle.world_model.proofs.Rooms.{HasRoom-fewer}
use Rattle.world_model.proofs.Taking.{Emits-weaker}
use Rattle.world_ticks.proofs.receiving.each_receives.Goals as goal

pub member-member-requires : goal.member-member-requires
member-member-requires c = omega (
  arith,
  c.loop-place-test.true,
  c.member_count-place-end.ensures.count,
  ap length (EachLeft-members _ _ _ _ _ _ _ _ _ c.loop-place.invariant),
)

pub receive_all-requires : goal.receive_all-requires
receive_all-requires c =
    let few : length c.args.stage.now.facts.members ≤ MOST_MEMBERS =
    omega (arith, c.member_count-place-end.ensures.few, c.member_count-place-end.ensures.count) in
    EachLeft-room _ _ streaming_cost _ _ _ _ _ c.loop-place.place _ c.loop-place.invariant
    (EachLeft-place _ _ _ _ _ _ _ _ c.loop-place.invariant c.member-member.ensures)
    (HasRoom-fewer _ receiving_cost (streaming_cost * length c.args.stage.now.facts.members)
    (omega (arith, few)) c.requires)

pub loop-place-preserved : goal.loop-place-preserved
loop-place-preserved c =
    EachLeft-more _ _ _ _ _ _ _ _ _ _ c.loop-place.place _ c.loop-place.invariant
    (EachLeft-place _ _ _ _ _ _ _ _ c.loop-place.invariant c.member-member.ensures) c.in_ok-receive_all.ensures

pub returns : goal.returns
returns c =
    let few : length c.args.stage.now.facts.members ≤ MOST_MEMBERS =
    omega (arith, c.member_count-place-end.ensures.few, c.member_count-place-end.ensures.count) in
    let over : length c.args.stage.now.facts.members ≤ c.loop-place.place =
    omega (arith, c.loop-place-test.false, c.member_count-place-end.ensures.count) in
    Emits-weaker _ _ _ _ _ _ receiving_cost
    (EachLeft-end _ _ _ _ _ _ _ _ c.loop-place.place c.loop-place.invariant over) (omega (arith, few))
