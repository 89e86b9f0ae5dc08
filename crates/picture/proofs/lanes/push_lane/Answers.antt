use Rattle.std.proofs.Common.{ℕ, List, [], string_bytes}
use Rattle.svg.proofs.Growing.{grew_by_both, grew_within}
use Rattle.svg.specs.Forests.{beside, closing_tag_text, opening_text}
use Rattle.svg.specs.declared.tag.Tag.TheVariants.{Group}
use Rattle.picture.specs.Lanes.{bands_tree, ground_tree, lane_marks, lane_tree}
use Rattle.picture.proofs.lanes.push_lane.Goals as goal

pub returns : goal.returns
unfolding lane_tree lane_marks
returns c =
    let end = c.args.frame.end in
    let lane = c.args.lane in
    let y = c.args.y in
    let sights = c.args.sights.now in
    let opened : List ℕ = string_bytes c.open_group.new.out in
    let inner =
    beside (beside (ground_tree y c.args.name.now) (bands_tree end lane y sights)) (lane_marks end lane y sights) in
    grew_within (string_bytes c.args.out.now) opened (string_bytes c.push_marks.new.out)
    (string_bytes c.close.new.out) (opening_text Group []) (closing_tag_text Group) inner c.in_ok-open_group.ensures
    (grew_by_both opened (string_bytes c.push_bands.new.out) (string_bytes c.push_marks.new.out)
    (beside (ground_tree y c.args.name.now) (bands_tree end lane y sights)) (lane_marks end lane y sights)
    (grew_by_both opened (string_bytes c.push_ground.new.out) (string_bytes c.push_bands.new.out)
    (ground_tree y c.args.name.now)
    (bands_tree end lane y sights) c.in_ok-push_ground.ensures c.in_ok-push_bands.ensures)
    c.in_ok-push_marks.ensures)
    c.in_ok-close.ensures
