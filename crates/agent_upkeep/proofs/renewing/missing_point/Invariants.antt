use Rattle.std.proofs.Common.{◌≡◌, drop}
use Rattle.agent_model.specs.Snapshots.{missing_point}
use Rattle.agent_upkeep.proofs.renewing.missing_point.Given as goal

-- what is left has the same first missing point as the whole
abbrev pub invariant-loop-place : goal.invariant-loop-place
invariant-loop-place l =
    missing_point l.snapshot (drop l.place l.history.points) ≡ missing_point l.snapshot l.history.points
