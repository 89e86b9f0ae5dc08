use Rattle.std.proofs.Common.{◌+◌, string_bytes}
use Rattle.svg.proofs.Growing.{grew_by_both}
use Rattle.picture.specs.Alarms.{alarms_tree}
use Rattle.picture.specs.Axis.{axis_tree}
use Rattle.picture.specs.Pictures.{lower_tree}
use Rattle.picture.specs.declared.lanes.TheConstants.{TOP}
use Rattle.picture.specs.declared.legend.TheConstants.{LINE}
use Rattle.picture.proofs.drawing.push_axis_with_alarms.Goals as goal

pub returns : goal.returns
unfolding lower_tree
returns c =
    grew_by_both (string_bytes c.args.out.now) (string_bytes c.push_axis.new.out)
    (string_bytes c.push_alarms.new.out) (axis_tree c.args.frame.end (TOP + c.args.height + LINE) c.args.sights.now)
    (alarms_tree c.args.frame.end c.args.height c.args.sights.now c.args.answers.now)
    c.in_ok-push_axis.ensures c.in_ok-push_alarms.ensures
