use Rattle.std.proofs.Common.{◌≡◌}
use Rattle.std.specs.Option.{option_copied}
use Rattle.member_options.specs.OptionReading.{option_words, with_words, said_in}
use Rattle.member_options.proofs.Cutting.{words_left}
use Rattle.member_options.proofs.options.said_in.Given as goal

abbrev pub invariant-loop-left : goal.invariant-loop-left
invariant-loop-left l = with_words l.outcome (option_words (option_copied l.left)) ≡ said_in (option_copied l.rest)

abbrev pub decreases-loop-left : goal.decreases-loop-left
decreases-loop-left l = words_left (option_copied l.left)
