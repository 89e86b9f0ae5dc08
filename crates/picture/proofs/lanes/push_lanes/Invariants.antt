use Rattle.std.proofs.Common.{◌≡◌, ◌++◌, drop, string_bytes}
use Rattle.svg.specs.Forests.{forest_text}
use Rattle.picture.specs.Lanes.{lanes_tree}
use Rattle.picture.proofs.lanes.push_lanes.Given as goal

abbrev pub invariant-loop-place : goal.invariant-loop-place
invariant-loop-place l =
    string_bytes l.out ++ forest_text (lanes_tree l.frame.end l.place (drop l.place l.names) l.sights)
    ≡ string_bytes l.fn.out ++ forest_text (lanes_tree l.frame.end 0 l.names l.sights)
