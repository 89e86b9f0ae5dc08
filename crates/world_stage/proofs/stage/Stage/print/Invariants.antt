use Rattle.std.proofs.Common.{◌≡◌, ◌++◌, length, map}
use Rattle.std.specs.Vec.Iter.{into_iter_items, into_iter_len}
use Rattle.event_list.specs.Listed.{◌+++◌}
use Rattle.world_stage.proofs.Printed.{printed}
use Rattle.world_stage.proofs.stage.Stage.print.Given as goal

-- the lines so far are written down, and the others are still to come
abbrev pub invariant-loop-line : goal.invariant-loop-line
invariant-loop-line l =
    (l.events ≡ l.fn.events +++ map (printed l.fn.self) l.yielded)
    × (l.fn.lines.items ≡ l.yielded ++ into_iter_items l.line-iterator)
    × (into_iter_len l.line-iterator ≡ length (into_iter_items l.line-iterator))
