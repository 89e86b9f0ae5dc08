-- What the law of one writer sees of an agent.
use Rattle.agent_model.specs.Agents.{AgentFacts}
use Rattle.agent_roles.specs.Seen.{agent_seen as role_seen}
use Rattle.lease_model.specs.States.{Agent}

-- what the law of one writer sees of where an agent stands
abbrev pub agent_seen : AgentFacts → Agent
agent_seen agent = role_seen agent.role agent.knows
