use Rattle.script_grammar.proofs.LimitLaws.{within-limits}
use Rattle.script_law.proofs.laws.within_limits.Goals as goal

pub returns : goal.returns
returns c = within-limits
