use Rattle.commit_book.proofs.Delivering.{claim-decided, publish-decided}
use Rattle.commit_book.proofs.laws.decisions.Goals as goal

pub returns : goal.returns
returns c = record { claim = claim-decided; publish = publish-decided }
