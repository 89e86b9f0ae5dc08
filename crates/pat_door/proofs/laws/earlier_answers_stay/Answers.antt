use Rattle.pat_door.proofs.Growing.{after_write-last}
use Rattle.pat_door.proofs.laws.earlier_answers_stay.Goals as goal

pub returns : goal.returns
returns c = λ facts piece answer earlier is. after_write-last facts piece earlier answer is
