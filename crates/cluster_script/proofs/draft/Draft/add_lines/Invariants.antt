use Rattle.std.proofs.Common.{◌≡◌, ◌+◌, ◌≤◌, length}
use Rattle.script_words.specs.Lines.{lines_in}
use Rattle.script_grammar.specs.Reading.{after_lines}
use Rattle.cluster_script.proofs.draft.Draft.add_lines.Given as goal

abbrev pub invariant-loop-line : goal.invariant-loop-line
invariant-loop-line l =
    (after_lines l.number l.self (lines_in l.rest) ≡ after_lines 1 l.fn.self (lines_in l.bytes))
    × (l.number + length (lines_in l.rest) ≡ length (lines_in l.bytes) + 1)
    × (l.number + length l.rest ≤ length l.bytes + 1)

abbrev pub decreases-loop-line : goal.decreases-loop-line
decreases-loop-line l = length l.rest
