-- What a leader does that can't reach the key store.
use Rattle.std.specs.Prelude.{ℕ, ◌≡◌, ◌⊎◌, ◌≤◌, Bool, true, false, Option, Some, Contains}
use Rattle.pat_base.specs.declared.ticks.Ticks.{Ticks}
use Rattle.pat_base.specs.ServerState.{live}
use Rattle.pg_model.specs.Status.{status_stopping}
use Rattle.event_book.specs.declared.reason.Reason.{Reason}
use Rattle.agent_model.specs.declared.knowledge.Question.{Question}
use Rattle.agent_model.specs.declared.knowledge.Question.TheVariants.{Reading, Renewing}
use Rattle.agent_model.specs.declared.knowledge.PendingQuestion.{PendingQuestion}
use Rattle.agent_model.specs.declared.output.Output.TheVariants as outputs
use Rattle.agent_model.specs.declared.output.ServerOrder.TheVariants as orders
use Rattle.agent_model.specs.declared.why.Why.TheVariants.{Lost}
use Rattle.agent_model.specs.Acting.{seconds_after}
use Rattle.agent_model.specs.Agents.{Leader, Ending, Outcome}
use Rattle.agent_model.specs.Pausing.{is_paused}
use Rattle.agent_model.specs.Snapshots.{turn_start}
use Rattle.agent_model.specs.StayingPrimary.{is_staying, may_stay}

-- what a leader asks to go on leading: what the key store holds, and the renewal of its lease
abbrev pub asks_to_lead : Question → Bool
asks_to_lead Reading = true
asks_to_lead Renewing = true
asks_to_lead _ = false

-- outside a pause a leader asked a question of this kind, and it isn't answered until its time is over
pub record HasNoAnswer (asks : Question → Bool) (now : Ticks) (revision : ℕ) (o : Outcome) : Type 0 where
  pub role : o.role ≡ Leader revision
  pub lives : live o.machine.server.state ≡ true
  pub waited : PendingQuestion
  pub waits : o.knows.waited ≡ Some waited
  pub asked : asks waited.question ≡ true
  pub over : waited.until.0 ≤ now.0
  pub unpaused : is_paused o.knows ≡ false

-- that is its read or its renewal, and it may not stay primary by the word
-- of the others: failsafe mode is off, or no grant confirmed a failsafe key
abbrev pub IsOutOfReach : Ticks → ℕ → Outcome → Type 0
IsOutOfReach now revision o = HasNoAnswer asks_to_lead now revision o × (may_stay o.knows ≡ false)

-- that is whether it may stay primary: not each member that it asked has acknowledged
abbrev pub IsUnacknowledged : Ticks → ℕ → Outcome → Type 0
IsUnacknowledged now revision o = HasNoAnswer is_staying now revision o

-- outside a pause a leader waits for the answers to a question of this number, whether it may stay primary
pub record AsksToStay (sequence revision : ℕ) (o : Outcome) : Type 0 where
  pub role : o.role ≡ Leader revision
  pub lives : live o.machine.server.state ≡ true
  pub waited : PendingQuestion
  pub waits : o.knows.waited ≡ Some waited
  pub asked : is_staying waited.question ≡ true
  pub number : waited.sequence ≡ sequence
  pub unpaused : is_paused o.knows ≡ false

-- it ends its server for this reason, and will have no lease when that has ended
pub record EndsServer (reason : Reason) (now : Ticks) (revision : ℕ) (o after : Outcome) : Type 0 where
  pub ends : Contains after.outputs (outputs.Server (orders.Stop reason))
  pub server : after.machine.server ≡ status_stopping now o.machine.server
  pub role : after.role ≡ Ending revision Lost

-- when the turn began in which this is asked at this moment: a read begins it
abbrev pub turn_of : Ticks → Option Ticks → Question → Ticks
turn_of now last_turn Reading = now
turn_of now last_turn question = turn_start now last_turn

-- a read or a renewal that is waited for after an input was waited for before it; or
-- its time is over `retry_timeout` seconds after its turn began, by the newest settings
abbrev pub WaitsForTurn : Ticks → Outcome → Outcome → Type 0
WaitsForTurn now o after =
    (waited : PendingQuestion) → after.knows.waited ≡ Some waited → asks_to_lead waited.question ≡ true
    → (o.knows.waited ≡ Some waited)
    ⊎ (waited.until ≡ seconds_after (turn_of now o.knows.last_turn waited.question) after.knows.settings.retry_timeout)
