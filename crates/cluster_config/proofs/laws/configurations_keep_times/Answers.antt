use Rattle.cluster_config.proofs.ConfigFacts.{read-keeps_times}
use Rattle.cluster_config.proofs.laws.configurations_keep_times.Goals as goal

pub returns : goal.returns
returns c = λ bytes settings e. read-keeps_times bytes settings e
