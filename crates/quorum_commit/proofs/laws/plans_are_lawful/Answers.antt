use Rattle.quorum_commit.proofs.Lawful.{lawful-plan}
use Rattle.quorum_commit.proofs.laws.plans_are_lawful.Goals as goal

pub returns : goal.returns
returns c = lawful-plan
