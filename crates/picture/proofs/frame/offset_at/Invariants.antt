use Rattle.std.proofs.Common.{◌≡◌, ◌≤◌, drop}
use Rattle.run_reading.specs.declared.sight.TheConstants.{MOST_OFFSET}
use Rattle.picture.specs.Frames.{offset_at, offset_from}
use Rattle.picture.proofs.frame.offset_at.Given as goal

abbrev pub invariant-loop-sight : goal.invariant-loop-sight
invariant-loop-sight l = (offset_from l.last l.offset (drop l.sight-index l.sights) l.tick ≡ offset_at l.sights l.tick)
    × (l.offset ≤ MOST_OFFSET)
