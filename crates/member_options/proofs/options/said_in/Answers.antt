use Rattle.std.proofs.Common.{ap}
use Rattle.std.specs.Option.{option_copied}
use Rattle.member_options.proofs.Cutting.{word-judged}
use Rattle.member_options.proofs.options.said_in.Goals as goal

pub loop-left-preserved : goal.loop-left-preserved
loop-left-preserved c = word-judged c.loop-left.outcome _ _ _ _ _
    (ap (λ o. option_copied o) c.in-Some.is) c.cut_word.ensures c.with_word-outcome.ensures c.loop-left.invariant
