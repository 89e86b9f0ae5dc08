use Rattle.std.proofs.Common.{ap}
use Rattle.std.specs.Option.{option_copied}
use Rattle.ctl_command.specs.Seen.{seen_outcome}
use Rattle.ctl_command.proofs.FirstWords.{word-judged}
use Rattle.ctl_command.proofs.reading.said_in.Goals as goal

pub loop-left-preserved : goal.loop-left-preserved
loop-left-preserved c = word-judged c.args.command c.args.known.now.cluster c.args.known.now.members.now
    (seen_outcome c.loop-left.outcome) _ _ _ _ _
    (ap (λ o. option_copied o) c.in-Some.is) c.cut_once.ensures c.with_next-outcome.ensures c.loop-left.invariant
