use Rattle.std.proofs.Common.{◌≡◌, ◌++◌, codes, take, string_bytes}
use Rattle.std.specs.List.{flat_map}
use Rattle.text_table.specs.Tables.{dashes}
use Rattle.text_table.proofs.printing.rule_line.Given as goal

abbrev pub invariant-loop-slot : goal.invariant-loop-slot
invariant-loop-slot l = string_bytes l.line ≡ codes "+" ++ flat_map dashes (take l.slot-index l.slots)
