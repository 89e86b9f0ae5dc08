use Rattle.leading_parts.proofs.Others.{arrival-elsewhere}
use Rattle.leading_parts.proofs.laws.the_key_store_is_elsewhere.Goals as goal

pub returns : goal.returns
returns c = record { arrivals = arrival-elsewhere }
