use Rattle.std.proofs.Common.{◌≡◌, drop}
use Rattle.quorum_commit.specs.Plans.{first_plan}
use Rattle.quorum_commit.proofs.planning.first_plan.Given as goal

abbrev pub invariant-loop-row : goal.invariant-loop-row
invariant-loop-row l = first_plan (drop l.row-index l.rows) ≡ first_plan l.rows
