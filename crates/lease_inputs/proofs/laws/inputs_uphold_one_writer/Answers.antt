use Rattle.lease_inputs.proofs.EveryInput.{inputs-keep}
use Rattle.lease_inputs.proofs.laws.inputs_uphold_one_writer.Goals as goal

pub returns : goal.returns
returns c = inputs-keep
