use Rattle.std.proofs.Common.{ap}
use Rattle.std.specs.Option.{option_copied}
use Rattle.script_grammar.specs.Arguments.{number_in}
use Rattle.cluster_script.proofs.Behind.{word_behind-is}
use Rattle.cluster_script.proofs.arguments.number_behind.Goals as goal

pub returns : goal.returns
returns c = word_behind-is _ _ number_in _ _ _ _ _
    (ap (λ o. option_copied o) c.in-Some.is) c.cut_word.ensures c.number_in.ensures c.last_both.ensures
