use Rattle.std.proofs.Common.{ap}
use Rattle.std.specs.Option.{option_copied}
use Rattle.indexmap.specs.IndexMap.{keys}
use Rattle.script_grammar.specs.Arguments.{end_in}
use Rattle.cluster_script.proofs.Behind.{word_behind-is}
use Rattle.cluster_script.proofs.arguments.end_behind.Goals as goal

pub returns : goal.returns
returns c = word_behind-is _ _ (end_in (keys c.args.members.now)) _ _ _ _ _
    (ap (λ o. option_copied o) c.in-Some.is) c.cut_word.ensures c.end_in.ensures c.last_both.ensures
