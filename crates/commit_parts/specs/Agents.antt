-- What agents in synchronous mode wait for, what they ask, and whom the sync key names.
use Rattle.std.specs.Prelude.{ℕ, ◌≡◌, ◌<◌, true, false, List, Option, Some, slice_get}
use Rattle.std.specs.FinMap.{find}
use Rattle.std.specs.Option.{ForSome}
use Rattle.store_keys.specs.declared.key.Key.TheVariants as keys
use Rattle.lease_store.specs.KeyOrder.{key_cmp}
use Rattle.lease_model.specs.Leases.{Question as Asked}
use Rattle.event_book.specs.declared.link.LinkEnd.{LinkEnd}
use Rattle.event_book.specs.declared.link.LinkEnd.TheVariants as ends
use Rattle.event_book.specs.declared.message.Body.{Body}
use Rattle.event_book.specs.declared.message.Body.TheVariants as bodies
use Rattle.event_book.specs.Flight.{Flight, InFlightFacts, in_flight}
use Rattle.agent_model.specs.declared.knowledge.Question.{Question}
use Rattle.agent_model.specs.declared.knowledge.PendingQuestion.{PendingQuestion}
use Rattle.agent_model.specs.Agents.{AgentFacts}
use Rattle.agent_commit_law.specs.Committing.{AsksInSynchronousMode, IsAskedBy, IsSynchronousBody}
use Rattle.agent_model.specs.Decisions.{asks_sync}
use Rattle.commit_actions.specs.Actions.{IsNumbered, sync_key_by}
use Rattle.commit_actions.specs.Flights.{SyncRequest}
use Rattle.commit_actions.specs.Past.{Query, SyncQuery}
use Rattle.commit_actions.specs.States.{State}
use Rattle.commit_book.specs.Flights.{is_creating}
use Rattle.commit_book.specs.Keys.{sync_key_of}
use Rattle.commit_showing.specs.Order.{NamesMembers}

-- each request in flight is as synchronous mode has it, among so many members, of which so many may lack a commit
abbrev pub AreSynchronous : ℕ → ℕ → Flight → Type 0
AreSynchronous count quorum flight = (i : ℕ) (carried : InFlightFacts) → in_flight flight i ≡ Some carried
    → IsSynchronousBody count quorum carried.message.body

-- this request that compares the sync key asks for what the question says, whatever its revision comes to be
pub record IsWriteOf (question : Question) (request : SyncRequest) : Type 0 where
  pub writes : is_creating request.aim ≡ false
  pub standbys : (revision : ℕ) → IsAskedBy question (sync_key_by request.member revision request.aim)

-- a request of this member with the run and the number of what is
-- waited for is the write of the sync key that is waited for
abbrev pub IsWriteAsked : (ℕ → Option Asked) → (ℕ → Query) → ℕ → ℕ → PendingQuestion → Type 0
IsWriteAsked named asked m incarnation waited = (i : ℕ) (question : Asked) → named i ≡ Some question
    → question.member ≡ m → question.incarnation ≡ incarnation → question.sequence ≡ waited.sequence
    → (request : SyncRequest) × (asked i ≡ SyncQuery request) × IsWriteOf waited.question request

-- what an agent of this member waits for it asked with the mode on;
-- and so it was asked, if it asks for a write of the sync key
pub record IsAgentSynchronous (named : ℕ → Option Asked) (asked : ℕ → Query) (m : ℕ) (agent : AgentFacts) : Type 0 where
  pub on : AsksInSynchronousMode agent.knows
  pub writes : ForSome agent.knows.waited
      (λ waited. asks_sync waited.question ≡ true → IsWriteAsked named asked m agent.knows.incarnation waited)

-- each agent that is there is such, and each question was asked by one of so many members
pub record AreAgentsSynchronous (count : ℕ) (named : ℕ → Option Asked) (asked : ℕ → Query)
    (agents : List (Option AgentFacts)) : Type 0 where
  pub each : (m : ℕ) (agent : AgentFacts) → slice_get agents m ≡ Some (Some agent)
      → IsAgentSynchronous named asked m agent
  pub members : (i : ℕ) (question : Asked) → named i ≡ Some question → question.member < count

-- each snapshot in flight has a sync key of members alone, of which at most so many may lack a commit, or none
abbrev pub TellsMembers : ℕ → ℕ → Flight → Type 0
TellsMembers count quorum flight = (i : ℕ) (carried : InFlightFacts) → in_flight flight i ≡ Some carried
    → NamesMembers count quorum (sync_key_of (find key_cmp keys.Sync carried.snapshot))

-- what one member asks another has an incarnation and a number that its agents gave
abbrev pub IsAskNumbered : State → LinkEnd → ℕ → ℕ → Body → Type 0
IsAskNumbered s (ends.Member by) incarnation sequence bodies.Ask =
    IsNumbered (s.members by.id.number) incarnation sequence
IsAskNumbered s _ incarnation sequence _ = Unit {0}

-- each ask of one member to another in flight has an incarnation and a number that its agents gave
abbrev pub AsksAreNumbered : State → Flight → Type 0
AsksAreNumbered s flight = (i : ℕ) (carried : InFlightFacts) → in_flight flight i ≡ Some carried
    → IsAskNumbered s carried.message.from carried.message.incarnation carried.message.sequence carried.message.body
