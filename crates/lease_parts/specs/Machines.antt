-- What a book leaves of the machines that the law of one writer speaks of.
use Rattle.std.specs.Prelude.{ℕ, ◌≡◌, ◌<◌, Bool, false, List, Option, Some, None, length, slice_get}
use Rattle.pat_base.specs.declared.ticks.Ticks.{Ticks}
use Rattle.pat_base.specs.ServerState.{live}
use Rattle.pg_model.specs.Facts.{ServerFacts}
use Rattle.event_book.specs.declared.agent_process.AgentProcess.{AgentProcess}
use Rattle.event_book.specs.declared.event.AgentEvent.TheVariants as agents
use Rattle.event_book.specs.declared.event.EventKind.{EventKind}
use Rattle.event_book.specs.declared.event.EventKind.TheVariants as kinds
use Rattle.event_book.specs.declared.event.ServerEvent.TheVariants as servers
use Rattle.event_book.specs.declared.event.WatchdogEvent.TheVariants as watchdogs
use Rattle.event_book.specs.Facts.{Facts}
use Rattle.event_book.specs.Writers.{writes_in}
use Rattle.lease_model.specs.Past.{Past}

-- whether there is such a server, and it accepts writes, or will when its start is complete
abbrev pub live_now : Option ServerFacts → Bool
live_now None = false
live_now (Some s) = live s.state

-- which of these servers are live, by their numbers
abbrev pub live_in : List ServerFacts → ℕ → Bool
live_in servers m = live_now (slice_get servers m)

-- the deadline of a watchdog, if there is the watchdog and it is armed
abbrev pub deadline_now : Option (Option Ticks) → Option ℕ
deadline_now (Some (Some deadline)) = Some deadline.0
deadline_now _ = None

-- the deadline of the watchdog of this number
abbrev pub deadline_in : List (Option Ticks) → ℕ → Option ℕ
deadline_in deadlines m = deadline_now (slice_get deadlines m)

-- the end of a hold, 0 where none was taken
abbrev pub hold_now : Option (Option Ticks) → ℕ
hold_now (Some (Some hold)) = hold.0
hold_now _ = 0

-- the end of the hold of the member of this number
abbrev pub hold_in : List (Option Ticks) → ℕ → ℕ
hold_in holds m = hold_now (slice_get holds m)

-- the incarnation of an agent, the first where there is no such member
abbrev pub run_now : Option AgentProcess → ℕ
run_now None = 1
run_now (Some process) = process.incarnation

-- the incarnation of the agent of this number
abbrev pub run_in : List AgentProcess → ℕ → ℕ
run_in processes m = run_now (slice_get processes m)

-- a book's past has of each machine what the book leaves; which
-- servers accept writes by the book is as their states say
pub record IsSameEverywhere (past : Past) (facts : Facts) : Type 0 where
  pub deadline : (m : ℕ) → past.deadline m ≡ deadline_in facts.deadlines m
  pub hold : (m : ℕ) → past.hold m ≡ hold_in facts.holds m
  pub runs : (m : ℕ) → past.runs m ≡ run_in facts.processes m
  pub writes : (m : ℕ) → past.writes m ≡ writes_in facts.servers m

-- lists by members are of this length
pub record IsSized (count : ℕ) (facts : Facts) : Type 0 where
  pub agents : length facts.processes ≡ count
  pub servers : length facts.servers ≡ count
  pub deadlines : length facts.deadlines ≡ count
  pub holds : length facts.holds ≡ count

-- whose watchdog this event feeds, who takes a hold, whose server
-- begins and whose agent starts is one of so many members
abbrev pub IsWithinMembers : ℕ → EventKind → Type 0
IsWithinMembers count (kinds.Watchdog (watchdogs.Armed member until answer)) = member.id.number < count
IsWithinMembers count (kinds.Watchdog (watchdogs.Fed member until basis)) = member.id.number < count
IsWithinMembers count (kinds.Watchdog (watchdogs.HoldTaken member until from incarnation sequence)) =
    member.id.number < count
IsWithinMembers count (kinds.Server (servers.Began server timeline)) = server.id.number < count
IsWithinMembers count (kinds.Agent (agents.Started agent incarnation)) = agent.id.number < count
IsWithinMembers count _ = Unit {0}
