use Rattle.std.proofs.Common.{◌≡◌, ◌++◌, drop, string_bytes}
use Rattle.svg.specs.Forests.{forest_text}
use Rattle.picture.specs.Stretches.{stretches_tree}
use Rattle.picture.proofs.stretches.push_stretches.Given as goal

abbrev pub invariant-loop-sight : goal.invariant-loop-sight
invariant-loop-sight l =
    string_bytes l.out ++ forest_text (stretches_tree l.frame.end l.height l.last (drop l.sight-index l.sights))
    ≡ string_bytes l.fn.out ++ forest_text (stretches_tree l.frame.end l.height 0 l.sights)
