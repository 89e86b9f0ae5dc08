use Rattle.std.proofs.Common.{◌+◌, ◌*◌, string_bytes}
use Rattle.svg.proofs.Growing.{grew_by_both}
use Rattle.picture.specs.Marks.{label_in, stroke_tree}
use Rattle.picture.specs.declared.marks.TheConstants.{ROW}
use Rattle.picture.proofs.marks.push_mark_in.Goals as goal

pub returns : goal.returns
returns c =
    let row = c.in-Some.row in
    rw c.in-Some.is
    (grew_by_both (string_bytes c.args.out.now) (string_bytes c.push_stroke-2.new.out)
    (string_bytes c.push_label_in.new.out) (stroke_tree c.args.x c.args.y (40 + row * ROW) c.args.sight.now)
    (label_in c.args.x c.args.y row c.args.label.now) c.in_ok-push_stroke.ensures c.in_ok-push_label_in.ensures)
