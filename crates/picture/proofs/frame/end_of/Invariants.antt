use Rattle.std.proofs.Common.{◌≡◌, drop, fold}
use Rattle.picture.specs.Frames.{end_by}
use Rattle.picture.proofs.frame.end_of.Given as goal

abbrev pub invariant-loop-line : goal.invariant-loop-line
invariant-loop-line l = fold end_by l.end (drop l.line-index l.answers) ≡ fold end_by l.fn.tick l.answers
