use Rattle.lease_runs.proofs.EveryRun.{runs-one, runs-one-by}
use Rattle.lease_runs.proofs.laws.runs_have_one_writer.Goals as goal

pub returns : goal.returns
returns c = record {
  declared =
      λ head steps front rest is whole timely hands_off. runs-one head is steps front rest whole timely hands_off;
  alike = λ head steps front rest margin works is whole margins watched timely hands_off.
      runs-one-by head is steps front rest margin works whole margins watched timely hands_off;
}
