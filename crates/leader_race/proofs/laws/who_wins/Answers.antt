use Rattle.leader_race.proofs.Winning.{win-no_writer, win-not_behind, win-preferred}
use Rattle.leader_race.proofs.laws.who_wins.Goals as goal

pub returns-clause-no_writer : goal.returns-clause-no_writer
returns-clause-no_writer c = win-no_writer

pub returns-clause-not_behind : goal.returns-clause-not_behind
returns-clause-not_behind c = win-not_behind

pub returns-clause-preferred : goal.returns-clause-preferred
returns-clause-preferred c = win-preferred
