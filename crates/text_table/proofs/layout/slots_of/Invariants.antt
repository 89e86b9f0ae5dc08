use Rattle.std.proofs.Common.{◌≡◌, take}
use Rattle.text_table.specs.Tables.{slots_from}
use Rattle.text_table.proofs.layout.slots_of.Given as goal

abbrev pub invariant-loop-place : goal.invariant-loop-place
invariant-loop-place l = l.slots.items ≡ slots_from 0 (take l.place l.columns) l.rows
