use Rattle.std.proofs.Common.{sym, ap, option_map}
use Rattle.script_model.specs.Script.{MemberText}
use Rattle.script_model.proofs.MemberLaws.{slice_get-members_in, slice_get-members_in-None}
use Rattle.script_model.proofs.head.Head.options.Goals as goal

pub returns-in-Some-clause-value : goal.returns-in-Some-clause-value
returns-in-Some-clause-value c =
    rw (← c.self.view_is)
    (sym (ap (option_map (λ (m : MemberText). m.options))
    (slice_get-members_in c.self.inside.members.entries c.args.place c.in-Some.field-0-0.now c.in-Some.options.now
    (sym c.in-Some.ensures.entry))))

pub returns-in-None-clause-value : goal.returns-in-None-clause-value
returns-in-None-clause-value c =
    rw (← c.self.view_is)
    (sym (ap (option_map (λ (m : MemberText). m.options))
    (slice_get-members_in-None c.self.inside.members.entries c.args.place (sym c.in-None.ensures.entry))))
