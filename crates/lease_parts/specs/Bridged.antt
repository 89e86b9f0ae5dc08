-- What a run's book and cluster keep between two actions.
use Rattle.std.specs.Prelude.{ℕ, ◌≡◌, Bool, true, false, List, Option, Some, length, slice_get}
use Rattle.std.specs.Option.{ForSome}
use Rattle.script_model.specs.Script.{HeadText}
use Rattle.lease_book.specs.Flights.{IsSameFlight}
use Rattle.event_book.specs.declared.agent_process.AgentProcess.{AgentProcess}
use Rattle.event_book.specs.declared.event.Event.{Event}
use Rattle.agent_model.specs.Agents.{AgentFacts}
use Rattle.agent_model.specs.Pausing.{is_paused}
use Rattle.cluster_model.specs.Starting.{options_of}
use Rattle.agent_sending.specs.Modes.{KeepsMode, TellsMode}
use Rattle.agent_model.specs.declared.knowledge.Knowledge.{Knowledge}
use Rattle.cluster_model.specs.FailsafeDeadlines.{is_set_by_failsafe}
use Rattle.cluster_model.specs.State.{Cluster}
use Rattle.lease_model.specs.Carried.{IsCarried}
use Rattle.lease_model.specs.Past.{Past, past_of, state_of}
use Rattle.lease_model.specs.Modes.{AskMode, IsDeclaredMode}
use Rattle.lease_model.specs.Pauses.{NobodyPauses}
use Rattle.lease_model.specs.Stores.{IsSameStore}
use Rattle.lease_parts.specs.Declaring.{declared_of}
use Rattle.run_promise.specs.Members.{declared_members, member_count}
use Rattle.lease_parts.specs.Machines.{IsSameEverywhere, IsSized}
use Rattle.lease_parts.specs.Volatile.{volatile_of}
use Rattle.event_book.specs.declared.member.Member.{Member}
use Rattle.lease_parts.specs.Waiting.{AgentsAreSound, AreBetweenMembers}

-- the newest snapshot of an agent, if it has one, has failsafe mode so
abbrev pub SeesMode : Bool → Knowledge → Type 0
SeesMode mode knows = ForSome knows.seen (TellsMode mode)

-- the agent of the member of this number knows that number, and the run of its
-- process, which runs; and it read of failsafe mode as it is declared, and of no pause
pub record KnowsItself (mode : Bool) (m : ℕ) (process : Option AgentProcess) (agent : AgentFacts) : Type 0 where
  pub found : AgentProcess
  pub is : process ≡ Some found
  pub running : found.running ≡ true
  pub incarnation : agent.knows.incarnation ≡ found.incarnation
  pub me : agent.knows.who.me.number ≡ m
  pub keeps : KeepsMode mode agent.knows
  pub sees : SeesMode mode agent.knows
  pub unpaused : is_paused agent.knows ≡ false

-- each agent that is there does
abbrev pub KnowThemselves : Bool → List AgentProcess → List (Option AgentFacts) → Type 0
KnowThemselves mode processes agents = (m : ℕ) (agent : AgentFacts) → slice_get agents m ≡ Some (Some agent)
    → KnowsItself mode m (slice_get processes m) agent

-- the past of a book has whose deadline acknowledgements set last as the cluster
-- has it. Failsafe mode is as it is declared in each configuration, and nobody
-- asks to change it. Members stand at their numbers, and messages go between them
pub record FitsFailsafe (mode : Bool) (count : ℕ) (past : Past) (cluster : Cluster) : Type 0 where
  pub sized : length cluster.failsafe_deadlines ≡ count
  pub bases : (m : ℕ) → past.by_failsafe m ≡ is_set_by_failsafe (slice_get cluster.failsafe_deadlines m)
  pub told : IsDeclaredMode mode cluster.facts
  pub asked : AskMode mode cluster.facts.flight
  pub numbered : (n : ℕ) (member : Member) → slice_get cluster.facts.members n ≡ Some member → member.id.number ≡ n
  pub between : AreBetweenMembers cluster.facts.members cluster.facts.flight

-- the past of a book fits a cluster of this head
pub record IsMatched (head : HeadText) (past : Past) (cluster : Cluster) : Type 0 where
  pub members : cluster.facts.members ≡ declared_members head
  pub options : cluster.options ≡ options_of head
  pub sized : IsSized (member_count head) cluster.facts
  pub agents_sized : length cluster.agents ≡ member_count head
  pub store : IsSameStore past cluster.facts
  pub flight : IsSameFlight past cluster.facts
  pub machines : IsSameEverywhere past cluster.facts
  pub failsafe : FitsFailsafe (declared_of head).failsafe (member_count head) past cluster
  pub unpaused : NobodyPauses cluster.facts
  pub agents : KnowThemselves (declared_of head).failsafe cluster.facts.processes cluster.agents
  pub waiting : AgentsAreSound past cluster

-- a book and a cluster that it leaves, between two actions: what the law of one writer carries holds of them
pub record Bridged (head : HeadText) (book : List Event) (cluster : Cluster) : Type 0 where
  pub matched : IsMatched head (past_of book) cluster
  pub carried : IsCarried (state_of (declared_of head) (past_of book) (volatile_of cluster))
