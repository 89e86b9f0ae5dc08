use Rattle.std.proofs.Common.{◌≡◌, ◌++◌, drop, map, string_bytes}
use Rattle.script_words.specs.Lines.{ended}
use Rattle.script_model.specs.Script.{names_of, line_text, body_lines}
use Rattle.script_printing.proofs.printing.write_body.Given as goal

abbrev pub invariant-loop-place : goal.invariant-loop-place
invariant-loop-place l =
    string_bytes l.text ++ ended (map (line_text (names_of l.script.head)) (drop l.place l.script.body))
    ≡ string_bytes l.fn.text ++ ended (body_lines (names_of l.script.head) l.script.body)
