-- What an input asks the key store, and what its agent waits for after it.
use Rattle.std.specs.Prelude.{ℕ, ◌≡◌, ◌⊎◌, ◌≤◌, ◌<◌, ◌==◌, Bool, true, false, Option, Some, None, All, Contains}
use Rattle.pat_base.specs.declared.member_id.MemberId.{MemberId}
use Rattle.pat_base.specs.declared.member_set.MemberSet.{MemberSet}
use Rattle.pat_base.specs.declared.ticks.Ticks.{Ticks}
use Rattle.store_keys.specs.declared.txn.Txn.{Txn}
use Rattle.event_book.specs.declared.message.Body.TheVariants as bodies
use Rattle.lease_model.specs.Past.{query_of, lease_span as span_asked}
use Rattle.agent_model.specs.declared.heard.Heard.{Heard}
use Rattle.agent_model.specs.declared.heard.Heard.TheVariants.{FailsafeAsked}
use Rattle.agent_model.specs.declared.knowledge.Knowledge.{Knowledge}
use Rattle.agent_model.specs.declared.knowledge.PendingQuestion.{PendingQuestion}
use Rattle.agent_model.specs.declared.output.Output.{Output}
use Rattle.agent_model.specs.declared.output.Output.TheVariants as outputs
use Rattle.agent_model.specs.declared.output.Feeding.TheVariants as feedings
use Rattle.agent_model.specs.declared.output.Outgoing.TheVariants as outgoing
use Rattle.agent_model.specs.declared.output.Telling.TheVariants as tellings
use Rattle.agent_model.specs.declared.output.Target.TheVariants as targets
use Rattle.agent_model.specs.Agents.{Outcome}
use Rattle.agent_model.specs.Decisions.{asks_lease}
use Rattle.agent_model.specs.StayingPrimary.{is_staying}

-- a message that this output sends has a number above the first and at most the second
abbrev pub IsNumbered : ℕ → ℕ → Output → Type 0
IsNumbered above most (outputs.Message (outgoing.Send to sequence body)) = (above < sequence) × (sequence ≤ most)
IsNumbered above most _ = Unit {0}

-- what is waited for is asked in this input: under a new number, at this moment, and for leases of that span
pub record IsAskedNow (now : Ticks) (o after : Outcome) (waited : PendingQuestion) : Type 0 where
  pub later : o.knows.sequence < waited.sequence
  pub sent : waited.sent ≡ now
  pub ttl : (txn : Txn)
      → Contains after.outputs (outputs.Message (outgoing.Send targets.Store waited.sequence (bodies.Request txn)))
      → span_asked (query_of txn) ≡ waited.ttl.0

-- the acknowledgements of a failsafe request are waited for
abbrev pub awaits_stay : Option PendingQuestion → Bool
awaits_stay None = false
awaits_stay (Some waited) = is_staying waited.question

-- a watchdog is fed on the acknowledgements of those that were asked by
-- the request whose answers are waited for, or of nobody where none are
pub record FeedsAsAsked (knows : Knowledge) (members : MemberSet) (sequence : ℕ) : Type 0 where
  pub asked : (waited : PendingQuestion) → knows.waited ≡ Some waited → is_staying waited.question ≡ true
      → (members ≡ knows.failsafe.members) × (sequence ≡ waited.sequence)
  pub nobody : awaits_stay knows.waited ≡ false → members.bits == 0 ≡ true

-- this request of that member is heard
abbrev pub HearsFailsafe : Heard → MemberId → ℕ → ℕ → Type 0
HearsFailsafe heard from run sequence = (ttl : Ticks) × (heard ≡ FailsafeAsked from run sequence ttl)

-- an output holds and acknowledges only on a request that is heard, but for holds
-- under number 0, which a member takes for itself; and it feeds the watchdog so
abbrev pub StandsOn : Heard → Knowledge → Output → Type 0
StandsOn heard knows (outputs.Tell (tellings.HoldTaken until from sequence)) =
    ((sequence ≡ 0) × (from ≡ knows.who.me)) ⊎ ((run : ℕ) × HearsFailsafe heard from run sequence)
StandsOn heard knows (outputs.Message (outgoing.FailsafeAnswer to run sequence accepted)) =
    accepted ≡ true → HearsFailsafe heard to run sequence
StandsOn heard knows (outputs.Watchdog (feedings.FedByFailsafe until members sequence since)) =
    FeedsAsAsked knows members sequence
StandsOn heard knows _ = Unit {0}

-- an input asks under new numbers that are counted, and the create or the renewal that its agent waits for
-- after it was waited for before, or is asked in it; and its outputs stand on what is heard and waited for
pub record AsksAsWaited (now : Ticks) (heard : Heard) (o after : Outcome) : Type 0 where
  pub stands : All (StandsOn heard o.knows) after.outputs
  pub numbered : All (IsNumbered o.knows.sequence after.knows.sequence) after.outputs
  pub waits : (waited : PendingQuestion) → after.knows.waited ≡ Some waited
      → asks_lease waited.question ≡ true → (o.knows.waited ≡ Some waited) ⊎ IsAskedNow now o after waited
