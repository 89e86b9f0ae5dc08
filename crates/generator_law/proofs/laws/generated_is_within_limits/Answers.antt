use Rattle.std.proofs.Common.{arith}
use Rattle.generator_model.proofs.BodyLaws.{generated-lines, generated-ticks}
use Rattle.generator_law.proofs.ReadingLaws.{generated-within}
use Rattle.generator_law.proofs.laws.generated_is_within_limits.Goals as goal

pub returns-clause-lines : goal.returns-clause-lines
returns-clause-lines c = generated-lines

pub returns-clause-ticks : goal.returns-clause-ticks
returns-clause-ticks c = generated-ticks

pub returns-clause-most : goal.returns-clause-most
returns-clause-most c = λ seed count few. omega (arith, generated-ticks seed count)

pub returns-clause-within : goal.returns-clause-within
returns-clause-within c = generated-within
