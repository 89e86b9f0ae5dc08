use Rattle.summary_law.proofs.Steps.{step-seen, step-stands, steps-told}
use Rattle.summary_law.proofs.sight_laws.sights_are_right.Goals as goal

pub returns : goal.returns
returns c = record { seen = step-seen; each = step-stands; all = steps-told }
