use Rattle.lease_book.proofs.ExampleBook.{example}
use Rattle.lease_book.proofs.laws.example.Goals as goal

pub returns : goal.returns
returns c = example
