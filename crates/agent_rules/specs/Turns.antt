-- A turn that is due reads what the key store holds.
use Rattle.std.specs.Prelude.{◌≡◌, ◌≤◌, ◌<◌, true, Some, None, Contains}
use Rattle.pat_base.specs.declared.ticks.Ticks.{Ticks}
use Rattle.event_book.specs.declared.message.Body.TheVariants as bodies
use Rattle.agent_model.specs.declared.heard.Heard.{Heard}
use Rattle.agent_model.specs.declared.heard.Heard.TheVariants as heards
use Rattle.agent_model.specs.declared.knowledge.Question.{Question}
use Rattle.agent_model.specs.declared.knowledge.Question.TheVariants.{Reading, ComparingPositions, Creating, Renewing, StayingPrimary}
use Rattle.agent_model.specs.declared.knowledge.PendingQuestion.{PendingQuestion}
use Rattle.agent_model.specs.declared.output.Output.TheVariants as outputs
use Rattle.agent_model.specs.declared.output.Outgoing.TheVariants as outgoing
use Rattle.agent_model.specs.declared.output.Target.TheVariants as targets
use Rattle.agent_model.specs.Acting.{seconds_after}
use Rattle.agent_model.specs.Agents.{RoleFacts, Ending, Unleased, Outcome, is_leader}
use Rattle.agent_model.specs.Wake.{is_stopping}

-- the agent ends its server
abbrev pub IsEnding : RoleFacts → Type 0
IsEnding (Ending revision why) = Unit {0}
IsEnding _ = ⊥

-- an agent without a lease, whose server is shutting down
pub record WaitsForEnd (o : Outcome) : Type 0 where
  pub role : o.role ≡ Unleased
  pub stops : is_stopping o.machine.server.state ≡ true

-- a turn is due at this moment: it has come, and nothing is waited
-- for. Who ends its server, or waits for its end, has none
pub record HasTurn (now : Ticks) (o : Outcome) : Type 0 where
  pub come : o.knows.next_turn.0 ≤ now.0
  pub idle : o.knows.waited ≡ None
  pub ends : IsEnding o.role → ⊥
  pub waits : WaitsForEnd o → ⊥

-- the same, but that an answer is waited for, the time for which is over
pub record HasTurnBehind (now : Ticks) (waited : PendingQuestion) (o : Outcome) : Type 0 where
  pub come : o.knows.next_turn.0 ≤ now.0
  pub waits : o.knows.waited ≡ Some waited
  pub over : waited.until.0 ≤ now.0
  pub ends : IsEnding o.role → ⊥

-- the agent asks the key store what it holds, by the newest of its messages, and waits for the answer
-- to that until `retry_timeout` seconds are over; its next turn comes `loop_wait` seconds after this one
pub record ReadsNow (now : Ticks) (o after : Outcome) : Type 0 where
  pub waited : PendingQuestion
  pub waits : after.knows.waited ≡ Some waited
  pub asks : waited.question ≡ Reading
  pub sends : Contains after.outputs (outputs.Message (outgoing.Send targets.Store waited.sequence bodies.Read))
  pub later : o.knows.sequence < waited.sequence
  pub newest : waited.sequence ≡ after.knows.sequence
  pub sent : waited.sent ≡ now
  pub until : waited.until ≡ seconds_after now o.knows.settings.retry_timeout
  pub began : after.knows.last_turn ≡ Some now
  pub next : after.knows.next_turn ≡ seconds_after now o.knows.settings.loop_wait

-- what an agent may ask at once where the time for an answer is over: for the leader key, by the answers of the
-- other members that came; and these, whether it may stay primary, as its read or its renewal isn't answered
abbrev pub FollowsUnanswered : Question → Question → Type 0
FollowsUnanswered ComparingPositions Creating = Unit {0}
FollowsUnanswered Reading StayingPrimary = Unit {0}
FollowsUnanswered Renewing StayingPrimary = Unit {0}
FollowsUnanswered _ _ = ⊥

-- it asks that, and waits for the answer; the turn comes later
pub record AsksFirst (before : Question) (o after : Outcome) : Type 0 where
  pub waited : PendingQuestion
  pub waits : after.knows.waited ≡ Some waited
  pub follows : FollowsUnanswered before waited.question
  pub later : o.knows.sequence < waited.sequence
  pub newest : waited.sequence ≡ after.knows.sequence

-- what comes of a turn behind an unanswered question: the agent reads; or it asks first what
-- may follow; or, of a leader, it ends its server; or it has no lease and waits for its server's end
pub data TurnBehind (now : Ticks) (before : Question) (o after : Outcome) : Type 0 where
  ReadsOn : (reads : ReadsNow now o after) → TurnBehind now before o after
  AsksOn : (asks : AsksFirst before o after) → TurnBehind now before o after
  GivesUp : (led : is_leader o.role ≡ true) → (ends : IsEnding after.role) → TurnBehind now before o after
  WaitsOn : (waits : WaitsForEnd after) → TurnBehind now before o after

-- a wake in which a turn is due reads, and so does one behind an unanswered question
pub record TurnsRead (now : Ticks) (o after : Outcome) : Type 0 where
  pub due : HasTurn now o → ReadsNow now o after
  pub behind : (waited : PendingQuestion) → HasTurnBehind now waited o → TurnBehind now waited.question o after

-- an input that is a wake does
abbrev pub ReadsInTurn : Ticks → Heard → Outcome → Outcome → Type 0
ReadsInTurn now heards.Wake o after = TurnsRead now o after
ReadsInTurn now _ o after = Unit {0}
