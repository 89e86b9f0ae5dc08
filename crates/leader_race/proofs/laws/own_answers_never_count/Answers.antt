use Rattle.leader_race.proofs.Winning.{win-own}
use Rattle.leader_race.proofs.laws.own_answers_never_count.Goals as goal

pub returns : goal.returns
returns c = win-own
