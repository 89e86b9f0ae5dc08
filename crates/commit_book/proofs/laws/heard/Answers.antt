use Rattle.commit_book.proofs.Hearing.{heard-snapshot, heard-lease, heard-write, heard-other, heard-refused}
use Rattle.commit_book.proofs.laws.heard.Goals as goal

pub returns : goal.returns
returns c = record {
  snapshot = heard-snapshot;
  leased = heard-lease;
  written = heard-write;
  other = heard-other;
  refused = heard-refused;
}
