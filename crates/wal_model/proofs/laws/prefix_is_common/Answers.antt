use Rattle.wal_model.proofs.Entries.{is_prefix-to, is_prefix-from, common-prefix, prefix-common}
use Rattle.wal_model.proofs.laws.prefix_is_common.Goals as goal

pub returns-clause-test : goal.returns-clause-test
returns-clause-test c x y = (is_prefix-to x y, is_prefix-from x y)

pub returns-clause-common : goal.returns-clause-common
returns-clause-common c x y = (common-prefix x y, prefix-common x y)
