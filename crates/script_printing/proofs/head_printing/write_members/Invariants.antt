use Rattle.std.proofs.Common.{◌≡◌, ◌++◌, drop, map, string_bytes}
use Rattle.script_words.specs.Lines.{ended}
use Rattle.script_model.specs.Script.{shortest_line}
use Rattle.script_printing.proofs.head_printing.write_members.Given as goal

abbrev pub invariant-loop-place : goal.invariant-loop-place
invariant-loop-place l = string_bytes l.text ++ ended (map shortest_line (drop l.place l.head.members))
    ≡ string_bytes l.fn.text ++ ended (map shortest_line l.head.members)
