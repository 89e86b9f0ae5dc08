use Rattle.std.proofs.Common.{rules, sym, ◌∙◌}
use Rattle.agent_upkeep.proofs.Missing.{missing-here, missing-later, within-some}
use Rattle.agent_upkeep.proofs.renewing.missing_point.Goals as goal
use Rattle.agent_upkeep.proofs.renewing.missing_point.Goals.{in-Some+else-not-has_row, in_default}

pub returns-then-not-has_row : goal.returns-then-not-has_row
returns-then-not-has_row c =
    sym (missing-here c.args.snapshot.now c.args.history.now.points c.loop-place.place c.in-Some.point.now
    (search rules) (search rules))
    ∙ c.loop-place.invariant

pub loop-place-preserved : goal.loop-place-preserved
loop-place-preserved c = elim c.match-get.branch [
  | in-Some+else-not-has_row w ↦
      sym (missing-later c.args.snapshot.now c.args.history.now.points c.loop-place.place w.in-Some.point.now
      (search rules) (search rules))
      ∙ c.loop-place.invariant
  | in_default w ↦ absurd (within-some c.args.history.now.points c.loop-place.place (search rules) (search rules))
]
