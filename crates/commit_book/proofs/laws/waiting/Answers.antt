use Rattle.commit_book.proofs.Waits.{once-sent, once-kept, waited-granted, waited-written}
use Rattle.commit_book.proofs.laws.waiting.Goals as goal

pub returns : goal.returns
returns c = record { sent = once-sent; kept = once-kept; granted = waited-granted; written = waited-written }
