-- What a book leaves of servers, as the law of commits reads it.
use Rattle.std.specs.Prelude.{ℕ, ◌≡◌, Bool, true, false, List, [], ◌∷◌, Option, Some, None, slice_get}
use Rattle.pat_base.specs.ServerState.{live}
use Rattle.pg_model.specs.Facts.{ServerFacts}
use Rattle.event_book.specs.Facts.{Facts}
use Rattle.event_book.specs.Logs.{logs_in}
use Rattle.event_book.specs.Required.{required_in, confirmed_in}
use Rattle.event_book.specs.Writers.{writes_in}
use Rattle.event_book.specs.declared.event.EventKind.{EventKind}
use Rattle.event_book.specs.declared.event.EventKind.TheVariants as kinds
use Rattle.event_book.specs.declared.event.ServerEvent.TheVariants as servers
use Rattle.event_book.specs.declared.event.WatchdogEvent.TheVariants as watchdogs
use Rattle.event_book.specs.declared.event.Event.{Event}
use Rattle.commit_actions.specs.Past.{Past, VolatileState}
use Rattle.commit_showing.specs.Showing.{with_server_down}

-- whether there is such a server, and it accepts writes, or will when its start is complete
abbrev pub live_now : Option ServerFacts → Bool
live_now None = false
live_now (Some s) = live s.state

-- which of these servers are live, by their numbers
abbrev pub live_in : List ServerFacts → ℕ → Bool
live_in servers m = live_now (slice_get servers m)

-- a book's past has of servers what the book leaves: their logs, whom their commits wait for,
-- what was confirmed to them, which of them accept writes, and which commits were acknowledged
pub record IsSameServers (past : Past) (facts : Facts) : Type 0 where
  pub logs : past.logs ≡ logs_in facts
  pub required : past.required ≡ required_in facts.servers
  pub confirmed : past.confirmed ≡ confirmed_in facts.servers
  pub writes : (m : ℕ) → past.lease.writes m ≡ writes_in facts.servers m
  pub acknowledged : past.acknowledged ≡ facts.acknowledged

-- what no event says of members has of each server whether it is live by its state; their agents are any
pub record IsLiveAs (volatile_states : ℕ → VolatileState) (servers : List ServerFacts) : Type 0 where
  pub live : (m : ℕ) → (volatile_states m).live ≡ live_in servers m

-- the same but for one server, which is live though its state doesn't say so yet: its agent ordered it to begin
pub record IsLiveAhead (volatile_states : ℕ → VolatileState) (servers : List ServerFacts) (m : ℕ) : Type 0 where
  pub here : (volatile_states m).live ≡ true
  pub others : (n : ℕ) → (n ≡ m → ⊥) → (volatile_states n).live ≡ live_in servers n

-- what no event says of members, after an event that ends a server, and else as before
abbrev pub volatile_after : (ℕ → VolatileState) → EventKind → ℕ → VolatileState
volatile_after volatile_states (kinds.Server (servers.Ended server)) = with_server_down volatile_states server.id.number
volatile_after volatile_states (kinds.Server (servers.Crashed server)) =
    with_server_down volatile_states server.id.number
volatile_after volatile_states (kinds.Watchdog (watchdogs.Reset member)) =
    with_server_down volatile_states member.id.number
volatile_after volatile_states _ = volatile_states

-- the same after these events
abbrev pub volatile_over : (ℕ → VolatileState) → List Event → ℕ → VolatileState
volatile_over volatile_states [] = volatile_states
volatile_over volatile_states (event ∷ events) = volatile_over (volatile_after volatile_states event.kind) events
