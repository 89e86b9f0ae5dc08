use Rattle.std.proofs.Common.{◌+◌, string_bytes}
use Rattle.svg.proofs.Growing.{grew_by_both}
use Rattle.svg.specs.Shapes.{label_tree, rect_tree}
use Rattle.svg.specs.declared.paint.Paint.TheVariants.{Ground, Heading}
use Rattle.svg.specs.declared.shapes.Area.{Area}
use Rattle.svg.specs.declared.shapes.Spot.{Spot}
use Rattle.picture.specs.Lanes.{ground_tree}
use Rattle.picture.specs.declared.frame.TheConstants.{AXIS, LEFT}
use Rattle.picture.proofs.lanes.push_ground.Goals as goal

pub returns : goal.returns
unfolding ground_tree
returns c =
    let area : Area = record { x = LEFT; y = c.args.y + 16; width = AXIS; height = 34 } in
    let spot : Spot = record { x = 8; y = c.args.y + 30 } in
    grew_by_both (string_bytes c.args.out.now) (string_bytes c.push_rect.new.out)
    (string_bytes c.push_label.new.out) (rect_tree area Ground c.args.name.now)
    (label_tree spot Heading c.args.name.now) c.in_ok-push_rect.ensures c.in_ok-push_label.ensures
