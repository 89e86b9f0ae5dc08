use Rattle.std.proofs.Common.{◌≡◌, ◌++◌, drop, string_bytes}
use Rattle.svg.specs.Forests.{forest_text}
use Rattle.picture.specs.Alarms.{alarms_tree}
use Rattle.picture.proofs.alarms.push_alarms.Given as goal

abbrev pub invariant-loop-line : goal.invariant-loop-line
invariant-loop-line l =
    string_bytes l.out ++ forest_text (alarms_tree l.frame.end l.height l.sights (drop l.line-index l.answers))
    ≡ string_bytes l.fn.out ++ forest_text (alarms_tree l.frame.end l.height l.sights l.answers)
