use Rattle.std.proofs.Common.{string_bytes}
use Rattle.svg.proofs.Growing.{grew_by_both}
use Rattle.svg.specs.Forests.{beside}
use Rattle.svg.specs.Shapes.{style_tree}
use Rattle.picture.specs.Lanes.{lanes_tree}
use Rattle.picture.specs.Pictures.{upper_tree}
use Rattle.picture.specs.Stretches.{stretches_tree}
use Rattle.picture.specs.declared.drawing.TheConstants.{SHEET}
use Rattle.picture.proofs.drawing.push_upper.Goals as goal

pub returns : goal.returns
unfolding upper_tree
returns c =
    let end = c.args.frame.end in
    let sights = c.args.sights.now in
    let had = string_bytes c.args.out.now in
    grew_by_both had (string_bytes c.push_stretches.new.out) (string_bytes c.push_lanes.new.out)
    (beside (style_tree SHEET.now) (stretches_tree end c.args.height 0 sights))
    (lanes_tree end 0 c.args.names.now sights)
    (grew_by_both had (string_bytes c.push_style.new.out) (string_bytes c.push_stretches.new.out) (style_tree SHEET.now)
    (stretches_tree end c.args.height 0 sights) c.in_ok-push_style.ensures c.in_ok-push_stretches.ensures)
    c.in_ok-push_lanes.ensures
