use Rattle.generator_model.proofs.BodyLaws.{generated-IsScript}
use Rattle.generator_law.proofs.laws.generated_is_a_script.Goals as goal

pub returns : goal.returns
returns c = generated-IsScript
