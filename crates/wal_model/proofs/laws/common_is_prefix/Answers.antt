use Rattle.wal_model.proofs.Entries.{common-first, common-second}
use Rattle.wal_model.proofs.laws.common_is_prefix.Goals as goal

pub returns-clause-first : goal.returns-clause-first
returns-clause-first c = common-first

pub returns-clause-second : goal.returns-clause-second
returns-clause-second c = common-second
