use Rattle.cluster_config.proofs.LineLaws.{default-IsConfiguration}
use Rattle.std.proofs.Common.{sym, subst}
use Rattle.cluster_config.specs.ConfigReading.{IsConfiguration}
use Rattle.cluster_script.proofs.draft.config_or_default.Goals as goal

pub returns-in_ok-config-in-None-clause-configured : goal.returns-in_ok-config-in-None-clause-configured
returns-in_ok-config-in-None-clause-configured c =
    subst IsConfiguration (sym c.in_ok-config-in-None.ensures) default-IsConfiguration
