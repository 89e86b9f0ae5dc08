use Rattle.run_promise.proofs.Members.{few-names}
use Rattle.commit_inputs.proofs.EveryInput.{inputs-uphold}
use Rattle.commit_inputs.proofs.laws.inputs_uphold_commits.Goals as goal

pub returns : goal.returns
returns c = λ head is. inputs-uphold head (few-names head is)
