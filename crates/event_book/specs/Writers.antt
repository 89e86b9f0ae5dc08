-- Who accepts writes, from the book alone.
use Rattle.std.specs.Prelude.{ℕ, ◌≡◌, Bool, true, false, List, [], ◌∷◌, Option, Some, None, slice_get}
use Rattle.pat_base.specs.ServerState.{writes}
use Rattle.pg_model.specs.Facts.{ServerFacts}
use Rattle.event_book.specs.declared.event.Event.{Event}
use Rattle.event_book.specs.declared.event.EventKind.{EventKind}
use Rattle.event_book.specs.declared.event.EventKind.TheVariants as kinds
use Rattle.event_book.specs.declared.event.ServerEvent.{ServerEvent}
use Rattle.event_book.specs.declared.event.ServerEvent.TheVariants as servers
use Rattle.event_book.specs.declared.event.WatchdogEvent.{WatchdogEvent}
use Rattle.event_book.specs.declared.event.WatchdogEvent.TheVariants as watchdogs
use Rattle.event_book.specs.Functions.{put_at}

-- whether there is such a server, and it accepts writes by its state
abbrev pub writes_now : Option ServerFacts → Bool
writes_now None = false
writes_now (Some s) = writes s.state

-- which of these servers accept writes, by their states
abbrev pub writes_in : List ServerFacts → ℕ → Bool
writes_in servers n = writes_now (slice_get servers n)

-- which servers accept writes after what happens to one; a server has the number of its member
abbrev pub writes_by_server : (ℕ → Bool) → ServerEvent → ℕ → Bool
writes_by_server writes (servers.Began server timeline) = put_at writes server.id.number true
writes_by_server writes (servers.Ended server) = put_at writes server.id.number false
writes_by_server writes (servers.Crashed server) = put_at writes server.id.number false
writes_by_server writes _ = writes

-- a reset of its machine ends a server too
abbrev pub writes_by_watchdog : (ℕ → Bool) → WatchdogEvent → ℕ → Bool
writes_by_watchdog writes (watchdogs.Reset member) = put_at writes member.id.number false
writes_by_watchdog writes _ = writes

-- which servers accept writes after an event
abbrev pub writes_after : (ℕ → Bool) → EventKind → ℕ → Bool
writes_after writes (kinds.Server happening) = writes_by_server writes happening
writes_after writes (kinds.Watchdog happening) = writes_by_watchdog writes happening
writes_after writes _ = writes

-- which servers accept writes after these events
abbrev pub writes_over : (ℕ → Bool) → List Event → ℕ → Bool
writes_over writes [] = writes
writes_over writes (event ∷ events) = writes_over (writes_after writes event.kind) events

-- at the end of this book the server of this number accepts writes: of what the
-- book says of its beginnings, ends, crashes and resets, the last is a beginning
abbrev pub AcceptsWrites : List Event → ℕ → Type 0
AcceptsWrites book server = writes_over (λ n. false) book server ≡ true

-- at the end of this book at most one server accepts writes
abbrev pub HasOneWriter : List Event → Type 0
HasOneWriter book = (m n : ℕ) → AcceptsWrites book m → AcceptsWrites book n → m ≡ n

-- this holds of each server that begins
abbrev pub BeginsServer : (ℕ → Type 0) → ServerEvent → Type 0
BeginsServer P (servers.Began server timeline) = P server.id.number
BeginsServer P _ = Unit {0}

-- this holds of the server that begins in this happening, if one does
abbrev pub BeginsKind : (ℕ → Type 0) → EventKind → Type 0
BeginsKind P (kinds.Server happening) = BeginsServer P happening
BeginsKind P _ = Unit {0}

-- this holds of each server that begins among these events
abbrev pub Begins : (ℕ → Type 0) → List Event → Type 0
Begins P [] = Unit {0}
Begins P (event ∷ events) = BeginsKind P event.kind × Begins P events
