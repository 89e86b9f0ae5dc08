use Rattle.std.proofs.Common.{rules, ◌≡◌, true}
use Rattle.wal_model.specs.Log.{is_prefix}
use Rattle.wal_model.proofs.Entries.{is_prefix-to}
use Rattle.pg_model.specs.Facts.{entries_of}
use Rattle.pg_model.proofs.server.Server.meet.Goals as goal

pub receive-requires-clause-prefix : goal.receive-requires-clause-prefix
receive-requires-clause-prefix c =
    let e : is_prefix (entries_of c.args.self.now.log) (entries_of c.args.upstream.now.log) ≡ true = search rules in
    is_prefix-to _ _ e
