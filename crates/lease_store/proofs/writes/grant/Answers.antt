use Rattle.std.proofs.Common.{◌≡◌, refl, rules}
use Rattle.lease_store.specs.Writes.{pairs_over, writes_of}
use Rattle.lease_store.proofs.Answering.{kept_written}
use Rattle.lease_store.proofs.writes.grant.Goals as goal

pub returns-clause-kept : goal.returns-clause-kept
returns-clause-kept c =
    let written : c.take_out.new.entries.items
    ≡ pairs_over c.args.stamp.revision c.args.stamp.at.0 c.args.entries.now.items (writes_of c.args.by c.args.txn.now) =
    search rules in
    kept_written c.args.stamp.revision c.args.stamp.at.0 c.args.by c.args.txn.now c.args.entries.now.items
    c.args.entries.now.items _ refl written c.requires.kept
