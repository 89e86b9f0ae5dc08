use Rattle.std.proofs.Common.{◌≡◌, ◌++◌, drop, string_bytes}
use Rattle.svg.specs.Forests.{forest_text}
use Rattle.picture.specs.Legend.{answers_from}
use Rattle.picture.proofs.legend.push_answers.Given as goal

abbrev pub invariant-loop-place : goal.invariant-loop-place
invariant-loop-place l = string_bytes l.out ++ forest_text (answers_from l.place l.y (drop l.place l.answers))
    ≡ string_bytes l.fn.out ++ forest_text (answers_from 0 l.y l.answers)
