use Rattle.std.proofs.Common.{ap, ◌∙◌}
use Rattle.pat_base.proofs.Positions.{lsn_is}
use Rattle.wal_model.specs.Log.{end_of, fork_of}
use Rattle.wal_model.proofs.wal.Wal.fork.Goals as goal

pub returns-clause-at : goal.returns-clause-at
returns-clause-at c = lsn_is c.end_within.result (fork_of c.args.self.now c.args.other.now)
    (c.end_within.ensures ∙ ap end_of c.common.ensures.front)
