-- What a run keeps between two parts of a step, whatever its premises.
use Rattle.std.specs.Prelude.{ℕ, ◌≡◌, ◌≤◌, List, Option, Some, slice_get}
use Rattle.lease_store.specs.Keys.{Keys}
use Rattle.script_model.specs.Script.{HeadText}
use Rattle.event_book.specs.declared.agent_process.AgentProcess.{AgentProcess}
use Rattle.event_book.specs.declared.member.Member.{Member}
use Rattle.event_book.specs.Facts.{Facts}
use Rattle.event_book.specs.Flight.{InFlightFacts, grant_for, in_flight}
use Rattle.agent_model.specs.Agents.{AgentFacts, EndsAlone}
use Rattle.cluster_model.specs.State.{Cluster}
use Rattle.lease_book.specs.Flights.{Rises}
use Rattle.lease_model.specs.Leases.{LeaderKey}
use Rattle.lease_model.specs.Past.{Past}
use Rattle.lease_model.specs.Stores.{IsSameStore}
use Rattle.lease_parts.specs.Machines.{IsSized}
use Rattle.lease_parts.specs.Waiting.{IsAddressed, IsKnownEnd}
use Rattle.run_promise.specs.Members.{declared_members, member_count}
use Rattle.run_promise.specs.Promise.{Promise}
use Rattle.lease_owners.specs.Owning.{CarriesOwn, HoldsOwn}

-- a message in flight goes between these members and the key store, as
-- its words say, and where it tells a grant, that is its receiver's
pub record IsSentWell (members : List Member) (carried : InFlightFacts) : Type 0 where
  pub addressed : IsAddressed carried.message.from carried.message.to carried.message.body
  pub from : IsKnownEnd members carried.message.from
  pub to : IsKnownEnd members carried.message.to
  pub grant : (revision : ℕ) × (carried.grant ≡ grant_for carried.message.body carried.message.to revision)

-- the key store and the messages in flight: the keys are those of a lease, no key has a revision that
-- wasn't given, the numbers of messages rise up to the last, and each is sent well, and carries its own
pub record FactsAreKept (members : List Member) (facts : Facts) : Type 0 where
  pub past : Past
  pub store : IsSameStore past facts
  pub bounded : (key : LeaderKey) → past.leader ≡ Some key → key.revision ≤ past.revision
  pub order : Rises 0 facts.flight
  pub flown : (i : ℕ) (carried : InFlightFacts) → in_flight facts.flight i ≡ Some carried → i ≤ facts.sent
  pub sent : (i : ℕ) (carried : InFlightFacts) → in_flight facts.flight i ≡ Some carried
      → IsSentWell members carried × CarriesOwn facts.keys carried

-- an agent of the member of this number knows that number, and the run of its process; who ends its server waits for
-- nothing
pub record KnowsItsRun (m : ℕ) (process : Option AgentProcess) (agent : AgentFacts) : Type 0 where
  pub incarnation : (found : AgentProcess) → process ≡ Some found → agent.knows.incarnation ≡ found.incarnation
  pub me : agent.knows.who.me.number ≡ m
  pub ends : EndsAlone agent.role agent.knows.waited

-- each agent does, and holds its own
abbrev pub AgentsAreKept : Keys → List AgentProcess → List (Option AgentFacts) → Type 0
AgentsAreKept known processes agents = (m : ℕ) (agent : AgentFacts) → slice_get agents m ≡ Some (Some agent)
    → KnowsItsRun m (slice_get processes m) agent × HoldsOwn known m agent

-- a cluster of this head between two parts of a step
pub record IsOwned (head : HeadText) (cluster : Cluster) : Type 0 where
  pub members : cluster.facts.members ≡ declared_members head
  pub sized : IsSized (member_count head) cluster.facts
  pub facts : FactsAreKept cluster.facts.members cluster.facts
  pub agents : AgentsAreKept cluster.facts.keys cluster.facts.processes cluster.agents

-- that is so at each of them, without premises
abbrev pub owners : HeadText → Promise
owners head = record {
  premises = λ book. Unit {0};
  moment = λ book. Unit {0};
  between = λ book cluster. IsOwned head cluster;
}
