use Rattle.lease_book.proofs.Delivering.{book-over}
use Rattle.lease_book.proofs.Groups.{book-first, causal-front, own-causal}
use Rattle.lease_book.proofs.laws.same_book.Goals as goal

pub returns : goal.returns
returns c = record { first = book-first; over = book-over; front = causal-front; members = own-causal }
