use Rattle.failsafe.proofs.Hearing.{counts-once}
use Rattle.failsafe.proofs.laws.each_yes_counts_once.Goals as goal

pub returns : goal.returns
returns c = counts-once
