use Rattle.std.proofs.Common.{nat_le, ap, sym, ◌∙◌}
use Rattle.pat_base.specs.declared.ticks.Ticks.{Ticks}
use Rattle.agent_model.specs.Agents.{AgentFacts}
use Rattle.agent_model.specs.Wake.{due_from}
use Rattle.agent_model.proofs.Waiting.{due-at}
use Rattle.ha_loop.proofs.agent.Agent.due_from.Goals as goal

pub returns-clause-exact : goal.returns-clause-exact
returns-clause-exact c = λ now machine is.
    due-at c.args.self.now.role c.args.self.now.knows c.args.state now machine is
    ∙ ap (λ (from : Ticks). nat_le from.0 now.0)
    (sym (c.due_from.ensures ∙ ap (λ (a : AgentFacts). due_from a.role a.knows c.args.state) c.self.view_is))
