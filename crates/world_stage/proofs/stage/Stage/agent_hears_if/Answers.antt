use Rattle.std.proofs.Common.{◌∙◌, Option, ap, sym}
use Rattle.agent_model.specs.declared.heard.Heard.{Heard}
use Rattle.cluster_model.specs.Cluster.{agent_facts_with}
use Rattle.cluster_model.specs.Inputs.{outcome_of_heard}
use Rattle.world_stage.proofs.Hearing.{unheard, with_agents}
use Rattle.world_stage.proofs.stage.Stage.agent_hears_if.Goals as goal

pub returns-in-None-clause-world : goal.returns-in-None-clause-world
returns-in-None-clause-world c =
    let before = c.args.self.now in
    unheard before c.args.member
    ∙ ap (λ (h : Option Heard).
    with_agents before (agent_facts_with before.agents c.args.member (outcome_of_heard before c.args.member h)))
    (sym c.in-None.is)
