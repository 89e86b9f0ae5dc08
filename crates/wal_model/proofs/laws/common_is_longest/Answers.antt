use Rattle.wal_model.proofs.Entries.{common-longest}
use Rattle.wal_model.proofs.laws.common_is_longest.Goals as goal

pub returns : goal.returns
returns c = common-longest
