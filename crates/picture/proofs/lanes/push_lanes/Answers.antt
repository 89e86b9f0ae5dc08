use Rattle.std.proofs.Common.{◌∙◌, string_bytes}
use Rattle.picture.proofs.Steps.{lanes-step}
use Rattle.picture.proofs.lanes.push_lanes.Goals as goal

pub loop-place-preserved : goal.loop-place-preserved
loop-place-preserved c =
    lanes-step c.args.frame.end c.loop-place.place c.args.names.now c.args.sights.now c.index-names-place.result
    (string_bytes c.loop-place.out) (string_bytes c.push_member_lane.new.out) c.loop-place-test.true
    c.index-names-place.is c.in_ok-push_member_lane.ensures
    ∙ c.loop-place.invariant
