use Rattle.leader_race.proofs.Barring.{first_of-least}
use Rattle.leader_race.proofs.laws.the_first_declared_bars.Goals as goal

pub returns : goal.returns
returns c = first_of-least
