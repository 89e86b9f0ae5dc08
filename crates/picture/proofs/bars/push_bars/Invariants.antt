use Rattle.std.proofs.Common.{◌≡◌, ◌++◌, ◌≤◌, drop, length, string_bytes}
use Rattle.run_reading.specs.declared.sight.TheConstants.{MOST_OFFSET}
use Rattle.svg.specs.Forests.{forest_text}
use Rattle.picture.specs.Bars.{bars_tree, until_in}
use Rattle.picture.proofs.bars.push_bars.Given as goal

abbrev pub invariant-loop-left : goal.invariant-loop-left
invariant-loop-left l =
    (string_bytes l.out ≡ string_bytes l.fn.out ++ forest_text (bars_tree l.frame.end l.row (drop l.left l.sights)))
    × (l.until ≡ until_in l.frame.end l.row (drop l.left l.sights)) × (l.until ≤ MOST_OFFSET)
    × (l.left ≤ length l.sights)

abbrev pub decreases-loop-left : goal.decreases-loop-left
decreases-loop-left l = l.left
