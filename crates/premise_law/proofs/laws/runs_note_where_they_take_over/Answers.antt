use Rattle.premise_law.proofs.TakeOvers.{take-overs}
use Rattle.premise_law.proofs.laws.runs_note_where_they_take_over.Goals as goal

pub returns : goal.returns
returns c = λ head book. take-overs head book
