use Rattle.std.proofs.Common.{◌∙◌, ap}
use Rattle.pat_base.proofs.Positions.{lsn_is}
use Rattle.wal_model.specs.Log.{end_of}
use Rattle.wal_model.proofs.wal.Wal.end.Goals as goal

pub returns-clause-at : goal.returns-clause-at
returns-clause-at c =
    lsn_is c.self.inside.end (end_of c.args.self.now) (c.self.invariant.end ∙ ap end_of c.self.view_is)
