-- Which events behind an input tell a feed.
use Rattle.std.specs.Prelude.{ℕ, ◌≡◌, Bool, true, false, List, Some}
use Rattle.event_book.specs.declared.event.Event.{Event}
use Rattle.event_book.specs.declared.event.EventKind.{EventKind}
use Rattle.event_book.specs.declared.event.EventKind.TheVariants as kinds
use Rattle.event_book.specs.declared.event.MessageEvent.TheVariants as messages
use Rattle.event_book.specs.declared.event.AgentEvent.TheVariants as agents
use Rattle.event_book.specs.declared.event.WatchdogEvent.TheVariants as watchdogs
use Rattle.event_book.specs.declared.reason.Basis.TheVariants as bases
use Rattle.event_book.specs.Kinds.{AllAre}
use Rattle.lease_model.specs.States.{FailsafeCheck, Agent, State}
use Rattle.lease_model.specs.Inputs.{AgentInput}
use Rattle.event_book.specs.Functions.{set_members}

-- an event at which the clock and the incarnations stay as they are
abbrev pub KeepsClockAndRuns : EventKind → Type 0
KeepsClockAndRuns kinds.Tick = ⊥
KeepsClockAndRuns (kinds.Agent (agents.Started agent incarnation)) = ⊥
KeepsClockAndRuns _ = Unit {0}

-- such an event that doesn't send the message of this number
abbrev pub KeepsMomentOf : ℕ → EventKind → Type 0
KeepsMomentOf number (kinds.Message (messages.Sent other message)) = other ≡ number → ⊥
KeepsMomentOf number kind = KeepsClockAndRuns kind

-- the watchdog of this member is armed or fed in this event by the grant that the answer of this number tells
abbrev pub IsFedBy : ℕ → ℕ → EventKind → Type 0
IsFedBy m answer (kinds.Watchdog (watchdogs.Armed member until number)) = (member.id.number ≡ m) × (number ≡ answer)
IsFedBy m answer (kinds.Watchdog (watchdogs.Fed member until (bases.Grant number))) =
    (member.id.number ≡ m) × (number ≡ answer)
IsFedBy m answer _ = ⊥

-- it is fed in this event by the acknowledgements of these members of the failsafe request of this number
abbrev pub IsFedOn : ℕ → (ℕ → Bool) → ℕ → EventKind → Type 0
IsFedOn m members sequence (kinds.Watchdog (watchdogs.Fed member until (bases.Acknowledgements acknowledging number))) =
    (member.id.number ≡ m) × (number ≡ sequence) × ((p : ℕ) → members p ≡ true → set_members acknowledging p ≡ true)
IsFedOn m members sequence _ = ⊥

-- where an input arms or feeds the watchdog, this event behind those tells it
pub record ShowsFeed (s : State) (m : ℕ) (input : AgentInput) (front : List Event) (event : Event) : Type 0 where
  pub by_grant : input.feeds ≡ true → input.machine.by_failsafe ≡ false → (number : ℕ)
      → input.heard ≡ Some number → AllAre (KeepsMomentOf number) front × IsFedBy m number event.kind
  pub by_failsafe : input.feeds ≡ true → input.machine.by_failsafe ≡ true → (was : Agent)
      (failsafe_check : FailsafeCheck) → (s.members m).agent ≡ Some was → was.failsafe_check ≡ Some failsafe_check
      → (was.incarnation ≡ (s.members m).runs) × AllAre KeepsClockAndRuns front
      × IsFedOn m failsafe_check.members failsafe_check.sequence event.kind
