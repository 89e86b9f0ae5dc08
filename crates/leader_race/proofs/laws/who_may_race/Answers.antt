use Rattle.leader_race.proofs.Winning.{race-replica, race-tags, race-hold, race-sync}
use Rattle.leader_race.proofs.laws.who_may_race.Goals as goal

pub returns-clause-replica : goal.returns-clause-replica
returns-clause-replica c = race-replica

pub returns-clause-tags : goal.returns-clause-tags
returns-clause-tags c = race-tags

pub returns-clause-hold : goal.returns-clause-hold
returns-clause-hold c = race-hold

pub returns-clause-sync : goal.returns-clause-sync
returns-clause-sync c = race-sync
