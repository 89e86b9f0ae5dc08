use Rattle.std.proofs.Common.{◌≡◌, drop}
use Rattle.summary_model.specs.Heads.{first_unwatched}
use Rattle.summary.proofs.head.first_unwatched.Given as goal

abbrev pub invariant-loop-member : goal.invariant-loop-member
invariant-loop-member l = first_unwatched (drop l.member-index l.members) ≡ first_unwatched l.members
