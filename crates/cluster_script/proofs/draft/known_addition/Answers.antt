use Rattle.std.proofs.Common.{rules}
use Rattle.script_grammar.proofs.MemberLaws.{names-are-keys}
use Rattle.cluster_script.proofs.draft.known_addition.Goals as goal

pub returns-in-Some-clause-value : goal.returns-in-Some-clause-value
returns-in-Some-clause-value c = rw (names-are-keys c.args.members.now.entries) (search rules)
