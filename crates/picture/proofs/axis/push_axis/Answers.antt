use Rattle.std.proofs.Common.{string_bytes}
use Rattle.svg.proofs.Growing.{grew_by_both}
use Rattle.picture.specs.Axis.{axis_heading, axis_tree, times_tree}
use Rattle.picture.proofs.axis.push_axis.Goals as goal

pub returns : goal.returns
unfolding axis_tree
returns c =
    grew_by_both (string_bytes c.args.out.now) (string_bytes c.push_axis_heading.new.out)
    (string_bytes c.push_times.new.out) (axis_heading c.args.y)
    (times_tree c.args.frame.end c.args.y 0 c.args.sights.now) c.in_ok-push_axis_heading.ensures
    c.in_ok-push_times.ensures
