-- Which atomic actions there are, what each may be, and the state after it.
use Rattle.std.specs.Prelude.{ℕ, ◌≡◌, ◌⊎◌, ◌≤◌, Bool, true, List, ◌∷◌, Option, Some, None}
use Rattle.event_book.specs.declared.event.Event.{Event}
use Rattle.event_book.specs.Functions.{put_at}
use Rattle.event_book.specs.Writers.{writes_over, Begins}
use Rattle.lease_model.specs.Leases.{FailsafeRequest}
use Rattle.event_book.specs.Premises.{Taking, IsOnTime}
use Rattle.lease_model.specs.States.{Machine, State, Acts, state_after_tick, start_machine, kill_machine, crash_machine}
use Rattle.lease_model.specs.Outcomes.{delivered}
use Rattle.lease_model.specs.Inputs.{AgentInput, Fed, IsLawful, IsInTime}

-- one tick with the servers that stop in it; the key store decides on a message and answers by another;
-- a message is lost; one input of an agent; an agent starts; it is killed; a server crashes; all else
pub data Action : Type 0 where
  Tick : (stops : ℕ → Bool) → Action
  Deliver : (number : ℕ) → (answer : ℕ) → (granted : Bool) → Action
  Lose : (number : ℕ) → Action
  Input : (member : ℕ) → (input : AgentInput) → Action
  Start : (member : ℕ) → Action
  Kill : (member : ℕ) → Action
  Crash : (member : ℕ) → Action
  Note : Action

-- the holds that were taken, with one that this member takes now
abbrev pub taken_by : ℕ → ℕ → Option FailsafeRequest → List Taking → List Taking
taken_by member clock None taken = taken
taken_by member clock (Some failsafe_request) taken = record {
  by = member;
  from = failsafe_request.member;
  incarnation = failsafe_request.incarnation;
  sequence = failsafe_request.sequence;
  moment = clock;
} ∷ taken

-- the state with this machine in place of the member's own
abbrev pub with_machine : State → ℕ → Machine → State
with_machine s member machine = record s { members = put_at s.members member machine }

-- the state after an input of this member's agent
abbrev pub with_input : State → ℕ → AgentInput → State
with_input s member input = record s {
  flight = input.flight;
  taken = taken_by member s.clock input.takes s.taken;
  members = put_at s.members member input.machine;
}

-- the state after an action
abbrev pub act : State → Action → State
act s (Tick stops) = state_after_tick s stops
act s (Deliver number answer granted) = delivered s number answer granted
act s (Lose number) = record s { flight = put_at s.flight number None }
act s (Input member input) = with_input s member input
act s (Start member) = with_machine s member (start_machine (s.members member))
act s (Kill member) = with_machine s member (kill_machine (s.members member))
act s (Crash member) = with_machine s member (crash_machine (s.members member))
act s Note = s

-- only inputs must be lawful
abbrev pub IsLawfulAction : State → Action → Type 0
IsLawfulAction s (Input member input) = IsLawful s member input
IsLawfulAction s _ = Unit {0}

-- only inputs must be in time
abbrev pub IsInTimeAction : State → Action → Type 0
IsInTimeAction s (Input member input) = IsInTime s member input
IsInTimeAction s _ = Unit {0}

-- the agent hears a grant in time while no hold of its machine is active
pub record MayArm (s : State) (m : ℕ) (input : AgentInput) : Type 0 where
  pub fed : Fed s m input.heard
  pub in_time : IsOnTime (s.declared.margin m) s.clock fed.grant.moment
  pub free : (s.members m).hold ≤ s.clock

-- who may begin to accept writes inside an action: a server whose start was under way, in a
-- tick; and in an input its own member's, where that acted before, or may arm its watchdog
abbrev pub MayBegin : State → Action → ℕ → Type 0
MayBegin s (Tick stops) n = (s.members n).live ≡ true
MayBegin s (Input m input) n = (n ≡ m) × (Acts (s.members m) ⊎ MayArm s m input)
MayBegin s _ n = ⊥

-- the state after an action with these events
abbrev pub state_after : State → Action → List Event → State
state_after s action events = record (act s action) { writes = writes_over s.writes events }

-- an action with its events is lawful and in time, only who may begin
-- begins in it, and who accepts writes at its end is live then
pub record IsAllowed (s : State) (action : Action) (events : List Event) : Type 0 where
  pub lawful : IsLawfulAction s action
  pub in_time : IsInTimeAction s action
  pub begins : Begins (MayBegin s action) events
  pub lives : (n : ℕ) → writes_over s.writes events n ≡ true → ((act s action).members n).live ≡ true
