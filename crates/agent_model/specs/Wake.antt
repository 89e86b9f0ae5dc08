-- What a woken agent does: an operator whose time is over comes first,
-- then a deadline that has passed, and then a turn that is due.
use Rattle.std.specs.Prelude.{ℕ, ◌&&◌, ◌||◌, nat_le, if◌then◌else◌, not, Bool, true, false, is_none, Option, Some, None}
use Rattle.pat_base.specs.declared.server_state.State.{State}
use Rattle.pat_base.specs.declared.server_state.State.TheVariants as states
use Rattle.pat_base.specs.declared.ticks.Ticks.{Ticks}
use Rattle.pat_base.specs.ServerState.{live}
use Rattle.event_book.specs.declared.message.Body.TheVariants as bodies
use Rattle.event_book.specs.declared.reason.Reason.TheVariants.{StoreOutOfReach}
use Rattle.agent_model.specs.declared.knowledge.Knowledge.{Knowledge}
use Rattle.agent_model.specs.declared.knowledge.Question.{Question}
use Rattle.agent_model.specs.declared.knowledge.Question.TheVariants.{Reading, ComparingPositions, Creating, Renewing, Claiming, Syncing, FindingCandidate, StayingPrimary}
use Rattle.agent_model.specs.declared.knowledge.PendingQuestion.{PendingQuestion}
use Rattle.agent_model.specs.declared.machine.Machine.{Machine}
use Rattle.agent_model.specs.declared.why.Why.TheVariants.{Lost}
use Rattle.agent_model.specs.Acting.{seconds_after, asking, waiting_no_more, ending_server}
use Rattle.agent_model.specs.Pausing.{is_paused}
use Rattle.agent_model.specs.Agents.{RoleFacts, Leader, Ending, Unleased, Outcome}
use Rattle.agent_model.specs.Reconciling.{reconciled}
use Rattle.agent_model.specs.Claiming.{claim_fails}
use Rattle.agent_model.specs.HandingOver.{judged_if_leading}
use Rattle.agent_model.specs.Operators.{given_up}
use Rattle.agent_model.specs.Peers.{judged_if_racing}
use Rattle.agent_model.specs.StayingPrimary.{may_stay, others_known, seeks_to_stay, unacknowledged}

-- an agent that ends its server can find that it has ended
abbrev pub finds_ended : RoleFacts → State → Bool
finds_ended (Ending revision why) state = not (live state)
finds_ended _ state = false

-- waiting has ended without an answer
abbrev pub is_overdue : Ticks → Option PendingQuestion → Bool
is_overdue now None = false
is_overdue now (Some waited) = nat_le waited.until.0 now.0

-- nothing is waited for, and the next turn's moment has come
abbrev pub has_turn : Ticks → Knowledge → Bool
has_turn now knows = is_none knows.waited && nat_le knows.next_turn.0 now.0

-- whether there is something to do for an agent that is woken
abbrev pub is_due : Ticks → RoleFacts → Knowledge → Machine → Bool
is_due now role knows machine =
    finds_ended role machine.server.state || (is_overdue now knows.waited || has_turn now knows)

-- from when on an agent has something to do that waits so, or has its next turn then
abbrev pub waits_until : Option PendingQuestion → Ticks → Ticks
waits_until None next_turn = next_turn
waits_until (Some waited) next_turn = waited.until

-- from when on there is something to do for an agent whose server is in this state
abbrev pub due_from : RoleFacts → Knowledge → State → Ticks
due_from role knows state =
    if finds_ended role state then record { 0 = 0 } else waits_until knows.waited knows.next_turn

-- a leader whose read or renewal isn't answered in time ends its server, since another may have its key soon
abbrev pub leader_out_of_reach : Ticks → ℕ → Outcome → Outcome
leader_out_of_reach now revision o = record (ending_server now StoreOutOfReach o) { role = Ending revision Lost }

-- with failsafe mode it may ask the other members first
abbrev pub leader_unanswered : Ticks → ℕ → Outcome → Outcome
leader_unanswered now revision o =
    if may_stay o.knows then seeks_to_stay now (others_known o.knows) o else leader_out_of_reach now revision o

-- one that has no lease while its server is live ends that
abbrev pub unleased_out_of_reach : Ticks → Outcome → Outcome
unleased_out_of_reach now o = ending_server now StoreOutOfReach o

-- what each role does without an answer: who has a live server ends
-- it, but a leader that may ask the other members to let it stay
abbrev pub out_of_reach_as : Ticks → RoleFacts → Outcome → Outcome
out_of_reach_as now (Leader revision) o = leader_unanswered now revision o
out_of_reach_as now Unleased o = unleased_out_of_reach now o
out_of_reach_as now _ o = o

-- the key store is out of reach: nothing is waited for any more, and in a pause that is all
abbrev pub out_of_reach : Ticks → Outcome → Outcome
out_of_reach now o = if is_paused o.knows then waiting_no_more o else out_of_reach_as now o.role (waiting_no_more o)

-- a question isn't answered in time
abbrev pub unanswered : Ticks → Question → Outcome → Outcome
unanswered now Reading o = out_of_reach now o
unanswered now Renewing o = out_of_reach now o
unanswered now Creating o = waiting_no_more o
unanswered now Claiming o = claim_fails (waiting_no_more o)
unanswered now (Syncing settling) o = waiting_no_more o
unanswered now ComparingPositions o = judged_if_racing now o
unanswered now FindingCandidate o = judged_if_leading now o.role o
unanswered now StayingPrimary o = unacknowledged now o

-- a deadline that has passed, by what is waited for
abbrev pub overdue_for : Ticks → Option PendingQuestion → Outcome → Outcome
overdue_for now None o = o
overdue_for now (Some waited) o = if nat_le waited.until.0 now.0 then unanswered now waited.question o else o

-- a deadline that has passed
abbrev pub overdue : Ticks → Outcome → Outcome
overdue now o = overdue_for now o.knows.waited o

-- the agent asks what the key store holds
abbrev pub reading : Ticks → Outcome → Outcome
reading now o = asking now Reading (seconds_after now o.knows.settings.retry_timeout) bodies.Read o

-- the server is shutting down
abbrev pub is_stopping : State → Bool
is_stopping (states.Stopping was_primary at) = true
is_stopping _ = false

-- who ends its server only waits for that
abbrev pub turn_as : Ticks → RoleFacts → Outcome → Outcome
turn_as now (Ending revision why) o = o
turn_as now Unleased o = if is_stopping o.machine.server.state then o else reading now o
turn_as now _ o = reading now o

-- a turn began at this moment, and the next one is due `loop_wait` seconds after it
abbrev pub turn_noted : Ticks → Knowledge → Knowledge
turn_noted now knows = record knows { last_turn = Some now; next_turn = seconds_after now knows.settings.loop_wait }

-- a turn begins
abbrev pub turn_begins : Ticks → Outcome → Outcome
turn_begins now o = turn_as now o.role (record o { knows = turn_noted now o.knows })

-- a turn begins where one is due
abbrev pub turned : Ticks → Outcome → Outcome
turned now o = if has_turn now o.knows then turn_begins now o else o

-- a wake that finds something to do: operators whose time is over are answered first
abbrev pub roused : Ticks → Outcome → Outcome
roused now o = turned now (overdue now (given_up now (reconciled now o)))

-- a wake
abbrev pub woken : Ticks → Outcome → Outcome
woken now o = if is_due now o.role o.knows o.machine then roused now o else reconciled now o
