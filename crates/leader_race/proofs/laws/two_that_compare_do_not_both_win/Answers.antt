use Rattle.leader_race.proofs.Winning.{both-end, both-priority}
use Rattle.leader_race.proofs.laws.two_that_compare_do_not_both_win.Goals as goal

pub returns-clause-end : goal.returns-clause-end
returns-clause-end c = both-end

pub returns-clause-priority : goal.returns-clause-priority
returns-clause-priority c = both-priority
