use Rattle.cluster_config.proofs.SettingLaws.{read-number, read-truth}
use Rattle.cluster_config.proofs.laws.settings_are_those_of_the_text.Goals as goal

pub returns : goal.returns
returns c = record {
  numbers = λ bytes json value settings setting n is e there set.
      read-number bytes json settings setting value n is e there set;
  truths = λ bytes json value settings setting truth is e there set.
      read-truth bytes json settings setting value truth is e there set;
}
