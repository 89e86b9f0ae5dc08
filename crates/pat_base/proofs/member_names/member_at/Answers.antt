use Rattle.std.proofs.Common.{ap, ◌∙◌}
use Rattle.pat_base.specs.MemberId.{member_of}
use Rattle.pat_base.proofs.member_names.member_at.Goals as goal

pub returns-in-Ok : goal.returns-in-Ok
returns-in-Ok c = c.new.ensures.by_number ∙ ap member_of c.in-Ok.ensures.1
