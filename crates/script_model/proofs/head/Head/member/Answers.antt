use Rattle.std.proofs.Common.{sym}
use Rattle.script_model.proofs.MemberLaws.{slice_get-member_names}
use Rattle.script_model.proofs.head.Head.member.Goals as goal

pub returns-in-Some-clause-value : goal.returns-in-Some-clause-value
returns-in-Some-clause-value c =
    rw (← c.self.view_is)
    (sym (slice_get-member_names c.self.inside.members.entries c.args.place c.in-Some.name.now c.in-Some.field-0-1.now
    (sym c.in-Some.ensures.entry)))
