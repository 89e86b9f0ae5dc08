use Rattle.script_grammar.proofs.MemberLaws.{among-members}
use Rattle.cluster_script.proofs.draft.member_addition.Goals as goal

pub returns-clause-new : goal.returns-clause-new
returns-clause-new c =
    among-members c.args.members.now.entries c.in_ok-name.name c.in_ok-name.ensures.few c.in_ok-name.ensures.new
