use Rattle.std.proofs.Common.{refl}
use Rattle.agent_model.specs.Table.{step}
use Rattle.agent_roles.proofs.Staying.{input-counts, input-ends}
use Rattle.agent_roles.proofs.laws.agents_stay_sound.Goals as goal

pub returns-clause-ends : goal.returns-clause-ends
returns-clause-ends c now points heard o ends = input-ends now points heard o ends

pub returns-clause-counted : goal.returns-clause-counted
returns-clause-counted c now points heard o counted =
    input-counts now points heard o (step now points heard o) refl counted
