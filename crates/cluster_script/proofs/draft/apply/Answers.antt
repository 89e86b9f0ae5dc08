use Rattle.std.proofs.Common.{◌≡◌, ◌<◌, ◌∙◌, ap, subst, None, length}
use Rattle.pat_base.proofs.Names.{same_fields-Decides}
use Rattle.pat_base.specs.declared.member_id.TheConstants.{MOST_MEMBERS}
use Rattle.script_grammar.specs.Members.{place_of}
use Rattle.script_grammar.specs.Reading.{IsNew}
use Rattle.script_model.specs.Script.{member_names, members_in}
use Rattle.script_grammar.specs.declared.addition.Addition.{Addition}
use Rattle.script_grammar.proofs.MemberLaws.{members-insert_entry}
use Rattle.cluster_script.proofs.draft.apply.Goals as goal

pub returns-in_ok-insert-in-Member-clause-members : goal.returns-in_ok-insert-in-Member-clause-members
returns-in_ok-insert-in-Member-clause-members c =
    let is_new : (length (members_in c.args.members.now.entries) < MOST_MEMBERS)
    × (place_of (member_names (members_in c.args.members.now.entries)) c.in-Member.name ≡ None) =
    subst (λ (a : Addition). IsNew (members_in c.args.members.now.entries) a) c.in-Member.is c.requires
    in
    rw c.in-Member.is (ap (λ es. members_in es) c.in_ok-insert-in-Member.ensures.entries
    ∙ members-insert_entry _ c.in-Member.name c.in-Member.options
    (λ m. same_fields-Decides c.in-Member.name m) c.args.members.now.entries is_new.1)
