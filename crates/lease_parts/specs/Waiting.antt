-- What agents that wait for an answer know of it, and what is in flight.
use Rattle.std.specs.Prelude.{ℕ, ◌≡◌, ◌≤◌, ◌<◌, true, false, List, Option, Some, slice_get}
use Rattle.std.specs.FinMap.{find}
use Rattle.std.specs.Option.{ForSome}
use Rattle.store_keys.specs.declared.key.Key.TheVariants as keys
use Rattle.lease_store.specs.KeyOrder.{key_cmp}
use Rattle.leader_key.specs.Watchdog.{IsLeaseSpan}
use Rattle.event_book.specs.declared.link.LinkEnd.{LinkEnd}
use Rattle.event_book.specs.declared.link.LinkEnd.TheVariants as ends
use Rattle.event_book.specs.declared.member.Member.{Member}
use Rattle.event_book.specs.declared.message.Body.{Body}
use Rattle.event_book.specs.declared.message.Body.TheVariants as bodies
use Rattle.event_book.specs.Flight.{InFlightFacts, Flight, in_flight}
use Rattle.agent_model.specs.declared.knowledge.PendingQuestion.{PendingQuestion}
use Rattle.agent_model.specs.Agents.{AgentFacts, EndsAlone}
use Rattle.agent_model.specs.Decisions.{asks_lease}
use Rattle.cluster_model.specs.Deliveries.{is_answer}
use Rattle.cluster_model.specs.State.{Cluster}
use Rattle.lease_model.specs.Leases.{Question}
use Rattle.lease_model.specs.Past.{Past, lease_span}
use Rattle.lease_model.specs.Stores.{IsLeased}
use Rattle.agent_roles.specs.Asks.{IsQuestion}
use Rattle.lease_book.specs.Waiting.{IsLastAsked, IsLastRun}
use Rattle.lease_parts.specs.Machines.{run_in}

-- a question of this member that has the run and the number of what is
-- waited for was asked when that was, for a lease of its span
abbrev pub IsAskedAs : (ℕ → Option Question) → ℕ → ℕ → PendingQuestion → Type 0
IsAskedAs asked m incarnation waited = (i : ℕ) (question : Question) → asked i ≡ Some question
    → question.member ≡ m → question.incarnation ≡ incarnation → question.sequence ≡ waited.sequence
    → (question.sent ≡ waited.sent.0) × (lease_span question.query ≡ waited.ttl.0)

-- what an agent of this member waits for: the span is that of a lease,
-- its number is counted, and so it was asked if it asks for a lease
pub record IsAwaited (asked : ℕ → Option Question) (m incarnation last : ℕ) (waited : PendingQuestion) : Type 0 where
  pub span : IsLeaseSpan waited.ttl.0
  pub counted : waited.sequence ≤ last
  pub as_asked : asks_lease waited.question ≡ true → IsAskedAs asked m incarnation waited

-- an agent of this member has counted its questions, and knows what it waits for; who ends its server waits for nothing
pub record IsAgentSound (asked : ℕ → Option Question) (m : ℕ) (agent : AgentFacts) : Type 0 where
  pub last : IsLastAsked asked m agent.knows.incarnation agent.knows.sequence
  pub waits : ForSome agent.knows.waited (IsAwaited asked m agent.knows.incarnation agent.knows.sequence)
  pub ends : EndsAlone agent.role agent.knows.waited

-- each agent that is there is such
abbrev pub AreAgentsSound : (ℕ → Option Question) → List (Option AgentFacts) → Type 0
AreAgentsSound asked agents =
    (m : ℕ) (agent : AgentFacts) → slice_get agents m ≡ Some (Some agent) → IsAgentSound asked m agent

-- an answer of the key store
abbrev pub IsAnswer : Body → Type 0
IsAnswer bodies.Snapshot = Unit {0}
IsAnswer (bodies.Granted request leased) = Unit {0}
IsAnswer (bodies.Refused request key found) = Unit {0}
IsAnswer _ = ⊥

-- a question to another member, or an answer to one
abbrev pub IsPeerBody : Body → Type 0
IsPeerBody bodies.Ask = Unit {0}
IsPeerBody (bodies.Answer answer) = Unit {0}
IsPeerBody (bodies.FailsafeRequest ttl) = Unit {0}
IsPeerBody (bodies.FailsafeAnswer accepted) = Unit {0}
IsPeerBody _ = ⊥

-- a message is a question of a member to the key store, an answer of
-- the key store to a member, or goes from one member to another
abbrev pub IsAddressed : LinkEnd → LinkEnd → Body → Type 0
IsAddressed (ends.Member by) ends.Store body = IsQuestion body
IsAddressed ends.Store (ends.Member member) body = IsAnswer body
IsAddressed (ends.Member by) (ends.Member member) body = IsPeerBody body
IsAddressed ends.Store ends.Store body = ⊥

-- an end of a link is the key store, or one of these members, which stands at its number
abbrev pub IsKnownEnd : List Member → LinkEnd → Type 0
IsKnownEnd members ends.Store = Unit {0}
IsKnownEnd members (ends.Member member) = slice_get members member.id.number ≡ Some member

-- each message in flight goes between such ends
abbrev pub AreBetweenMembers : List Member → Flight → Type 0
AreBetweenMembers members flight = (i : ℕ) (carried : InFlightFacts) → in_flight flight i ≡ Some carried
    → IsKnownEnd members carried.message.from × IsKnownEnd members carried.message.to

-- what holds of each message in flight: it is one of these, a question has a
-- number that counts from 1, and the leader key of its snapshot has an expiry
pub record IsCarriedWell (carried : InFlightFacts) : Type 0 where
  pub addressed : IsAddressed carried.message.from carried.message.to carried.message.body
  pub numbered : is_answer carried.message.body ≡ false → 0 < carried.message.sequence
  pub leased : IsLeased (find key_cmp keys.Leader carried.snapshot)

-- each message in flight is such
abbrev pub AreCarriedWell : Flight → Type 0
AreCarriedWell flight = (i : ℕ) (carried : InFlightFacts) → in_flight flight i ≡ Some carried → IsCarriedWell carried

-- messages in flight are such, no question is of a run to come, and agents know what they wait for
pub record AgentsAreSound (past : Past) (cluster : Cluster) : Type 0 where
  pub carried : AreCarriedWell cluster.facts.flight
  pub runs : (m : ℕ) → IsLastRun past.asked m (run_in cluster.facts.processes m)
  pub agents : AreAgentsSound past.asked cluster.agents
