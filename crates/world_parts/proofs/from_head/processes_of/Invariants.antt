use Rattle.std.proofs.Common.{◌≡◌, ◌-◌, ◌++◌}
use Rattle.event_book.specs.Processes.{first_processes}
use Rattle.world_parts.proofs.from_head.processes_of.Given as goal

abbrev pub invariant-loop-made : goal.invariant-loop-made
invariant-loop-made l = l.processes.items ++ first_processes (l.count - l.made) ≡ first_processes l.count
