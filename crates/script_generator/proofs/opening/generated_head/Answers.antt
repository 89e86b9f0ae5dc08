use Rattle.std.proofs.Common.{◌∙◌, sym, subst}
use Rattle.pat_base.proofs.Names.{name_bytes-injective}
use Rattle.cluster_config.specs.ConfigReading.{IsConfiguration}
use Rattle.cluster_config.proofs.LineLaws.{default-IsConfiguration}
use Rattle.script_model.specs.Script.{default_base, members_in}
use Rattle.generator_model.specs.Opening.{generated_cluster}
use Rattle.generator_model.proofs.HeadLaws.{generated-IsHead}
use Rattle.script_generator.proofs.opening.generated_head.Goals as goal

pub new-requires : goal.new-requires
new-requires c = record {
  configured = subst IsConfiguration (sym c.in_ok-config.ensures) default-IsConfiguration;
  head = generated-IsHead c.name.result c.in_ok-config.config
      (members_in c.in_ok-members.members.entries) c.in_ok-members.ensures;
}

pub returns : goal.returns
returns c = c.new.ensures ∙ (λ i. record {
  cluster = name_bytes-injective c.name.result generated_cluster c.name.ensures i;
  config = c.in_ok-config.ensures i;
  base = default_base;
  members = c.in_ok-members.ensures i;
})
