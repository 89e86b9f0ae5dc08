use Rattle.commit_outputs.proofs.Alone.{alone-moves}
use Rattle.commit_outputs.proofs.Beginning.{begin-moves}
use Rattle.commit_outputs.proofs.Sending.{answer-moves}
use Rattle.commit_outputs.proofs.laws.outputs_are_actions.Goals as goal

pub returns : goal.returns
returns c = record {
  alone = alone-moves;
  answers = answer-moves;
  begins = λ setup past states cluster member s same sound ahead agents is with_data here.
      begin-moves setup past states cluster member same sound ahead agents s is with_data here;
}
