use Rattle.std.proofs.Common.{◌≡◌, drop}
use Rattle.leader_race.specs.Peers.{bars_by, earlier, first_of}
use Rattle.leader_race.proofs.outcome.first_of.Given as goal

abbrev pub invariant-loop-answer : goal.invariant-loop-answer
invariant-loop-answer l = earlier l.first (first_of (bars_by l.racer l.rule) (drop l.answer-index l.answers))
    ≡ first_of (bars_by l.racer l.rule) l.answers
