use Rattle.commit_book.proofs.Delivering.{granted-delivery, refused-delivery, read-delivery}
use Rattle.commit_book.proofs.laws.deliveries.Goals as goal

pub returns : goal.returns
returns c = record { granted = granted-delivery; refused = refused-delivery; read = read-delivery }
