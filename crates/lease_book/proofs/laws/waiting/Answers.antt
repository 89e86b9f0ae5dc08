use Rattle.lease_book.proofs.Waits.{once-sent, once-kept, last-kept, last-later, run-kept, run-new, waited-granted}
use Rattle.lease_book.proofs.laws.waiting.Goals as goal

pub returns : goal.returns
returns c = record {
  sent = once-sent;
  kept = once-kept;
  last = last-kept;
  later = last-later;
  incarnation = run-kept;
  new = run-new;
  granted = waited-granted;
}
