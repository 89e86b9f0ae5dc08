use Rattle.std.proofs.Common.{◌+◌, ◌*◌, string_bytes}
use Rattle.svg.proofs.Growing.{grew_by_both}
use Rattle.svg.specs.Forests.{beside}
use Rattle.picture.specs.Legend.{answers_tree, keys_tree, left_tree, legend_tree}
use Rattle.picture.specs.declared.legend.TheConstants.{LINE}
use Rattle.picture.proofs.legend.push_legend.Goals as goal

pub returns : goal.returns
unfolding legend_tree
returns c =
    let y = c.args.y in
    grew_by_both (string_bytes c.args.out.now) (string_bytes c.push_left.new.out) (string_bytes c.push_answers.new.out)
    (beside (keys_tree y) (left_tree (y + 2 * LINE) c.args.left_out)) (answers_tree (y + 3 * LINE) c.args.answers.now)
    (grew_by_both (string_bytes c.args.out.now) (string_bytes c.push_keys.new.out) (string_bytes c.push_left.new.out)
    (keys_tree y) (left_tree (y + 2 * LINE) c.args.left_out) c.in_ok-push_keys.ensures c.in_ok-push_left.ensures)
    c.in_ok-push_answers.ensures
