use Rattle.std.proofs.Common.{◌≡◌, ◌++◌, drop, string_bytes}
use Rattle.svg.specs.Forests.{forest_text}
use Rattle.picture.specs.Axis.{times_tree}
use Rattle.picture.proofs.axis.push_times.Given as goal

abbrev pub invariant-loop-sight : goal.invariant-loop-sight
invariant-loop-sight l =
    string_bytes l.out ++ forest_text (times_tree l.frame.end l.y l.free (drop l.sight-index l.sights))
    ≡ string_bytes l.fn.out ++ forest_text (times_tree l.frame.end l.y 0 l.sights)
