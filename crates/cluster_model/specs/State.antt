-- A cluster at a moment.
use Rattle.std.specs.Prelude.{Bool, List, Option}
use Rattle.pat_base.specs.declared.name.Name.{Name}
use Rattle.member_options.specs.declared.member_option.MemberOptions.{MemberOptions}
use Rattle.event_book.specs.Facts.{Facts}
use Rattle.agent_model.specs.Agents.{AgentFacts}

-- the cluster's name and what its head declares of the members, what a book leaves of it, whether acknowledgements of
-- other members set the deadline of each watchdog last, and where the agents stand that run; members by their numbers
pub record Cluster : Type 0 where
  pub scope : Name
  pub options : List MemberOptions
  pub facts : Facts
  pub failsafe_deadlines : List Bool
  pub agents : List (Option AgentFacts)
