use Rattle.std.proofs.Common.{◌≡◌, take, None}
use Rattle.std.specs.Prelude.{replicate}
use Rattle.pat_base.specs.declared.member_id.TheConstants.{MOST_MEMBERS}
use Rattle.summary_model.specs.Heads.{filled}
use Rattle.summary.proofs.head.margins_of.Given as goal

abbrev pub invariant-loop-place : goal.invariant-loop-place
invariant-loop-place l = l.margins ≡ filled (replicate MOST_MEMBERS None) (take l.place l.members)
