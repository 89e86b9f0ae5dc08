use Rattle.rest_law.proofs.Found.{found-accepts}
use Rattle.rest_law.proofs.laws.whoever_is_found_accepts_writes.Goals as goal

pub returns : goal.returns
returns c = λ head book member found. found-accepts head book member found
