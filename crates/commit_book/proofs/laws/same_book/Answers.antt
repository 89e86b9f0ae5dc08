use Rattle.commit_book.proofs.Groups.{book-first, book-after, causal-front, granted-causal, refused-causal, read-causal, own-causal}
use Rattle.commit_book.proofs.Flights.{requested-asked}
use Rattle.commit_book.proofs.laws.same_book.Goals as goal

pub returns : goal.returns
returns c = record {
  first = book-first;
  over = book-after;
  front = causal-front;
  granted = granted-causal;
  refused = refused-causal;
  read = read-causal;
  members = own-causal;
  asked = λ past facts i request same at. requested-asked past facts i request same.flight at;
}
