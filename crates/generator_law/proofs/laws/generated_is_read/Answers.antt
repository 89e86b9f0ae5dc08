use Rattle.generator_law.proofs.ReadingLaws.{generated-is-read}
use Rattle.generator_law.proofs.laws.generated_is_read.Goals as goal

pub returns : goal.returns
returns c = generated-is-read
