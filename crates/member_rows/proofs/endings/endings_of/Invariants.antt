use Rattle.std.proofs.Common.{◌≡◌, take}
use Rattle.std.specs.List.{filter_map}
use Rattle.member_rows.specs.Endings.{ended_of}
use Rattle.member_rows.proofs.endings.endings_of.Given as goal

abbrev pub invariant-loop-pair : goal.invariant-loop-pair
invariant-loop-pair l = l.rows.items ≡ filter_map ended_of (take l.pair-index l.snapshot.entries)
