use Rattle.std.proofs.Common.{◌≡◌, ◌+◌, ◌-◌, ◌^◌, ◌≤◌, length, min}
use Rattle.std.specs.List.{sum_by}
use Rattle.script_words.specs.Lines.{lines_in}
use Rattle.script_grammar.specs.Limits.{member_line_count, ticks_in_line, ticks_in}
use Rattle.cluster_script.proofs.limits.LineCounts.of.Given as goal

abbrev pub invariant-loop-line : goal.invariant-loop-line
invariant-loop-line l =
    (l.lines + length (lines_in l.rest) ≡ length (lines_in l.bytes))
    × (l.members + member_line_count (lines_in l.rest) ≡ member_line_count (lines_in l.bytes))
    × (l.ticks ≤ 2 ^ 64 - 1)
    × (min (l.ticks + sum_by ticks_in_line (lines_in l.rest)) (2 ^ 64 - 1) ≡ ticks_in (lines_in l.bytes))
    × (l.lines + length l.rest ≤ length l.bytes)
    × (l.members ≤ l.lines)

abbrev pub decreases-loop-line : goal.decreases-loop-line
decreases-loop-line l = length l.rest
