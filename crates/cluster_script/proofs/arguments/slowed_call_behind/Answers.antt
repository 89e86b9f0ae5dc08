use Rattle.std.proofs.Common.{ap}
use Rattle.std.specs.Option.{option_copied}
use Rattle.script_grammar.specs.Arguments.{slowed_call_in, delay_in}
use Rattle.cluster_script.proofs.Behind.{words_behind-is}
use Rattle.cluster_script.proofs.arguments.slowed_call_behind.Goals as goal

pub returns : goal.returns
returns c = words_behind-is _ _ slowed_call_in delay_in _ _ _ _ _ _ (ap (λ o. option_copied o) c.in-Some.is)
    c.cut_word.ensures c.slowed_call_in.ensures c.both.ensures c.delay_behind.ensures
