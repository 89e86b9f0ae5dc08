-- What an input of an agent brings at most.
use Rattle.std.specs.Prelude.{◌+◌, ◌≤◌, All, length}
use Rattle.agent_model.specs.Agents.{Outcome}
use Rattle.agent_model.specs.Asked.{AsksShortly}
use Rattle.agent_model.specs.Outputs.{most_outputs}

-- an input brings at most so many messages and so many outputs, and asks shortly
pub record IsSmall (o after : Outcome) : Type 0 where
  pub sequence : after.knows.sequence ≤ o.knows.sequence + most_outputs
  pub few : length after.outputs ≤ length o.outputs + most_outputs
  pub short : All AsksShortly o.outputs → All AsksShortly after.outputs
