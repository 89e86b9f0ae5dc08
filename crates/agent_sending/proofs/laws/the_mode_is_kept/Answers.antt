use Rattle.std.proofs.Common.{[]}
use Rattle.agent_sending.proofs.Asking.{mode-asked}
use Rattle.agent_sending.proofs.Checking.{mode-kept}
use Rattle.agent_model.specs.Agents.{outcome_from}
use Rattle.agent_sending.proofs.laws.the_mode_is_kept.Goals as goal

pub returns : goal.returns
returns c = record {
  known = λ now points heard role knows machine sound. mode-kept now points heard (outcome_from role knows machine []);
  asked = mode-asked;
}
