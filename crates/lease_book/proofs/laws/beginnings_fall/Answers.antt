use Rattle.lease_book.proofs.Groups.{begins-front}
use Rattle.lease_model.specs.Claims.{MayBeginBehind}
use Rattle.lease_book.proofs.laws.beginnings_fall.Goals as goal

pub returns : goal.returns
returns c = λ s action. begins-front (MayBeginBehind s action)
