use Rattle.std.proofs.Common.{◌≡◌, ◌++◌, drop, string_bytes}
use Rattle.svg.specs.Forests.{forest_text}
use Rattle.picture.specs.Marks.{marks_tree, no_labels}
use Rattle.picture.proofs.marks.push_marks.Given as goal

abbrev pub invariant-loop-sight : goal.invariant-loop-sight
invariant-loop-sight l =
    string_bytes l.out ++ forest_text (marks_tree l.frame.end l.lane l.y l.free (drop l.sight-index l.sights))
    ≡ string_bytes l.fn.out ++ forest_text (marks_tree l.frame.end l.lane l.y no_labels l.sights)
