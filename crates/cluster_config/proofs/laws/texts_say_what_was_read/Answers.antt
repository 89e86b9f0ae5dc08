use Rattle.cluster_config.proofs.TextLaws.{config_read-length, config_read-IsConfiguration}
use Rattle.cluster_config.proofs.laws.texts_say_what_was_read.Goals as goal

pub returns : goal.returns
returns c = record {
  no_longer = λ bytes settings e. config_read-length bytes settings e;
  read_again = λ bytes settings e. config_read-IsConfiguration bytes settings e;
}
