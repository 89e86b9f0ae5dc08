use Rattle.std.proofs.Common.{◌≡◌, drop}
use Rattle.leader_race.specs.Bars.{first_bar}
use Rattle.leader_race.proofs.bars.first_bar.Given as goal

abbrev pub invariant-loop-rule : goal.invariant-loop-rule
invariant-loop-rule l = first_bar (drop l.rule-index l.rules) ≡ first_bar l.rules
