-- The machines of members by the law's definitions are those that the book leaves.
use Rattle.std.specs.Prelude.{ℕ, ◌≡◌, ◌<◌, length, Option, Some, None, slice_get}
use Rattle.pat_base.specs.declared.ticks.Ticks.{Ticks}
use Rattle.event_book.specs.declared.agent_process.AgentProcess.{AgentProcess}
use Rattle.event_book.specs.declared.event.EventKind.{EventKind}
use Rattle.event_book.specs.declared.event.EventKind.TheVariants as kinds
use Rattle.event_book.specs.declared.event.WatchdogEvent.TheVariants as watchdogs
use Rattle.event_book.specs.declared.reason.Basis.TheVariants as bases
use Rattle.event_book.specs.Facts.{Facts}
use Rattle.event_book.specs.Writers.{writes_in}
use Rattle.lease_model.specs.Past.{Past}

-- the deadline of a watchdog, if it is there and armed
abbrev pub deadline_if : Option (Option Ticks) → Option ℕ
deadline_if (Some (Some until)) = Some until.0
deadline_if _ = None

-- when the hold of a member ends, 0 where it took none
abbrev pub hold_if : Option (Option Ticks) → ℕ
hold_if (Some (Some until)) = until.0
hold_if _ = 0

-- the incarnation of an agent, 0 where there is no such agent
abbrev pub run_if : Option AgentProcess → ℕ
run_if None = 0
run_if (Some process) = process.incarnation

-- the law has the deadline, the hold, the incarnation and the writing of each
-- member as the book leaves them, and the book has each of these for each agent
pub record IsSameMachines (past : Past) (facts : Facts) : Type 0 where
  pub deadline_count : length facts.deadlines ≡ length facts.processes
  pub hold_count : length facts.holds ≡ length facts.processes
  pub server_count : length facts.servers ≡ length facts.processes
  pub deadline : (m : ℕ) → m < length facts.processes → past.deadline m ≡ deadline_if (slice_get facts.deadlines m)
  pub hold : (m : ℕ) → m < length facts.processes → past.hold m ≡ hold_if (slice_get facts.holds m)
  pub runs : (m : ℕ) → m < length facts.processes → past.runs m ≡ run_if (slice_get facts.processes m)
  pub writes : (m : ℕ) → m < length facts.processes → past.writes m ≡ writes_in facts.servers m

-- where this event feeds the watchdog of this member, it does so by a grant
abbrev pub FeedsByGrants : ℕ → EventKind → Type 0
FeedsByGrants m (kinds.Watchdog (watchdogs.Fed member until (bases.Acknowledgements members sequence))) =
    member.id.number ≡ m → ⊥
FeedsByGrants m _ = Unit {0}
