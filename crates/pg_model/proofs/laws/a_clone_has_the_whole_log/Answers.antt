use Rattle.pg_model.proofs.Rewinds.{cloned-streams}
use Rattle.pg_model.proofs.laws.a_clone_has_the_whole_log.Goals as goal

pub returns-clause-streams : goal.returns-clause-streams
returns-clause-streams c = cloned-streams
