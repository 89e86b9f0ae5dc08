use Rattle.std.proofs.Common.{◌≡◌}
use Rattle.std.specs.Option.{option_copied}
use Rattle.ctl_command.specs.Reading.{with_words, said_in}
use Rattle.ctl_command.specs.Seen.{seen_outcome}
use Rattle.ctl_command.specs.Words.{words_behind}
use Rattle.ctl_command.proofs.FirstWords.{words_left}
use Rattle.ctl_command.proofs.reading.said_in.Given as goal

abbrev pub invariant-loop-left : goal.invariant-loop-left
invariant-loop-left l =
    with_words l.fn.command l.fn.known.cluster l.fn.known.members.now (seen_outcome l.outcome)
    (words_behind (option_copied l.left))
    ≡ said_in l.fn.command l.fn.known.cluster l.fn.known.members.now (words_behind (option_copied l.words))

abbrev pub decreases-loop-left : goal.decreases-loop-left
decreases-loop-left l = words_left (option_copied l.left)
