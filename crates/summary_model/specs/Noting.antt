-- What one more event makes of the closing summary.
use Rattle.std.specs.Prelude.{ℕ, ◌+◌, Bool, true, false, not, List, Option, Some, None, slice_get, slice_set, count_by, is_some, nat_lt}
use Rattle.pat_base.specs.declared.name.Name.{Name}
use Rattle.pat_base.specs.declared.ticks.Ticks.{Ticks}
use Rattle.store_keys.specs.declared.txn.Txn.{Txn}
use Rattle.store_keys.specs.declared.txn.Txn.TheVariants as txns
use Rattle.store_keys.specs.declared.txn.OperatorTxn.TheVariants as operator_txns
use Rattle.event_book.specs.declared.event.AgentEvent.{AgentEvent}
use Rattle.event_book.specs.declared.event.AgentEvent.TheVariants as agents
use Rattle.event_book.specs.declared.event.EventKind.{EventKind}
use Rattle.event_book.specs.declared.event.EventKind.TheVariants as kinds
use Rattle.event_book.specs.declared.event.ReplicationEvent.TheVariants as replications
use Rattle.event_book.specs.declared.event.ServerEvent.{ServerEvent}
use Rattle.event_book.specs.declared.event.ServerEvent.TheVariants as servers
use Rattle.event_book.specs.declared.event.StoreEvent.{StoreEvent}
use Rattle.event_book.specs.declared.event.StoreEvent.TheVariants as stores
use Rattle.event_book.specs.declared.event.WatchdogEvent.{WatchdogEvent}
use Rattle.event_book.specs.declared.event.WatchdogEvent.TheVariants as watchdogs
use Rattle.event_book.specs.Clock.{now_after}
use Rattle.summary_model.specs.declared.answers.Breach.{Breach}
use Rattle.summary_model.specs.declared.answers.Breach.TheVariants as breaches
use Rattle.summary_model.specs.declared.answers.Closing.{Closing}
use Rattle.summary_model.specs.declared.answers.FirstMoment.{FirstMoment}
use Rattle.summary_model.specs.declared.answers.FirstMoment.TheVariants as moments
use Rattle.summary_model.specs.declared.answers.Premises.{Premises}
use Rattle.summary_model.specs.declared.answers.Premises.TheVariants as premises
use Rattle.summary_model.specs.declared.answers.Seen.{Seen}
use Rattle.summary_model.specs.declared.answers.Synchronous.{Synchronous}
use Rattle.summary_model.specs.declared.answers.Synchronous.TheVariants as synchronous

-- what the summary keeps of the events so far: the margins of watchdogs,
-- by the numbers of their members, and how the run would close
pub record WatchFacts : Type 0 where
  pub margins : List (Option Ticks)
  pub closing : Closing

-- the moment after an event
abbrev pub ticks_after : Ticks → EventKind → Ticks
ticks_after clock kind = record { 0 = now_after clock.0 kind }

-- the first moment of something that is so now where the test says it
abbrev pub first_if : FirstMoment → Bool → Ticks → FirstMoment
first_if (moments.At moment) test now = moments.At moment
first_if moments.Never true now = moments.At now
first_if moments.Never false now = moments.Never

-- a margin that is there, and none where there is no such member
abbrev pub margin_if : Option (Option Ticks) → Option Ticks
margin_if None = None
margin_if (Some margin) = margin

-- the margin of the watchdog of the member of this number
abbrev pub margin_at : List (Option Ticks) → ℕ → Option Ticks
margin_at margins member = margin_if (slice_get margins member)

-- so many ticks are past the margin
abbrev pub is_past_margin : Option Ticks → ℕ → Bool
is_past_margin None lateness = false
is_past_margin (Some margin) lateness = nat_lt margin.0 lateness

-- the member of this name was late, where the test says it
abbrev pub late_if : Bool → Name → Option Breach
late_if true name = Some (breaches.LateWatchdog name)
late_if false name = None

-- a pause, where the test says it
abbrev pub pause_if : Bool → Option Breach
pause_if true = Some breaches.Pause
pause_if false = None

-- the breach by what happens to a watchdog so many ticks after what it is measured from
abbrev pub breach_by_watchdog : List (Option Ticks) → ℕ → WatchdogEvent → Option Breach
breach_by_watchdog margins lateness (watchdogs.Armed member until answer) =
    late_if (is_past_margin (margin_at margins member.id.number) lateness) member.name
breach_by_watchdog margins lateness (watchdogs.Fed member until basis) =
    late_if (is_past_margin (margin_at margins member.id.number) lateness) member.name
breach_by_watchdog margins lateness _ = None

-- the breach by a granted transaction: a configuration that pauses
abbrev pub breach_by_txn : Txn → Option Breach
breach_by_txn (txns.Operators (operator_txns.SetConfig revision config)) = pause_if config.config.pause
breach_by_txn _ = None

-- the breach by what happens at the key store
abbrev pub breach_by_store : StoreEvent → Option Breach
breach_by_store (stores.Granted number by txn standbys) = breach_by_txn txn
breach_by_store _ = None

-- the breach by what happens to a server: its operator promotes it
abbrev pub breach_by_server : ServerEvent → Option Breach
breach_by_server (servers.Promoted server) = Some (breaches.Operator server.name)
breach_by_server _ = None

-- which premise an event breaks, if it breaks one
abbrev pub breach_of : List (Option Ticks) → ℕ → EventKind → Option Breach
breach_of margins lateness (kinds.Watchdog happening) = breach_by_watchdog margins lateness happening
breach_of margins lateness (kinds.Store happening) = breach_by_store happening
breach_of margins lateness (kinds.Server happening) = breach_by_server happening
breach_of margins lateness _ = None

-- premises that were met, after this breach, if it is one
abbrev pub broken_by : Option Breach → Ticks → Premises
broken_by None now = premises.Met
broken_by (Some why) now = premises.Broken now why

-- whether the premises are met after an event: the first breach stays
abbrev pub premises_after : Premises → Ticks → List (Option Ticks) → ℕ → EventKind → Premises
premises_after premises.Met now margins lateness kind = broken_by (breach_of margins lateness kind) now
premises_after (premises.Broken tick why) now margins lateness kind = premises.Broken tick why

-- the mode is on, or off, as it is to be
abbrev pub has_mode : Bool → Bool → Bool
has_mode true mode = mode
has_mode false mode = not mode

-- a granted configuration has the mode
abbrev pub keeps_mode_in_txn : Bool → Txn → Bool
keeps_mode_in_txn on (txns.Operators (operator_txns.SetConfig revision config)) =
    has_mode on config.config.synchronous_mode
keeps_mode_in_txn on _ = true

-- so has one that is granted at the key store
abbrev pub keeps_mode_in_store : Bool → StoreEvent → Bool
keeps_mode_in_store on (stores.Granted number by txn standbys) = keeps_mode_in_txn on txn
keeps_mode_in_store on _ = true

-- no member outside the sync key took the leader key
abbrev pub keeps_mode_in_agent : AgentEvent → Bool
keeps_mode_in_agent (agents.Passed agent) = false
keeps_mode_in_agent _ = true

-- after an event synchronous mode is as it is to be, and no member outside the sync key took the leader key in it
abbrev pub keeps_mode : Bool → EventKind → Bool
keeps_mode on (kinds.Store happening) = keeps_mode_in_store on happening
keeps_mode on (kinds.Agent happening) = keeps_mode_in_agent happening
keeps_mode on _ = true

-- as it was where the test says it, and else broken now
abbrev pub broken_unless : Bool → Ticks → Synchronous → Synchronous
broken_unless true now before = before
broken_unless false now before = synchronous.Broken now

-- whether the cluster replicates synchronously after an event
abbrev pub synchronous_after : Synchronous → Ticks → EventKind → Synchronous
synchronous_after synchronous.On now kind = broken_unless (keeps_mode true kind) now synchronous.On
synchronous_after synchronous.Off now kind = broken_unless (keeps_mode false kind) now synchronous.Off
synchronous_after (synchronous.Broken tick) now kind = synchronous.Broken tick

-- the names of the servers that accept writes, by their numbers, after what happens to one
abbrev pub writers_by_server : List (Option Name) → ServerEvent → List (Option Name)
writers_by_server writers (servers.Began server timeline) = slice_set writers server.id.number (Some server.name)
writers_by_server writers (servers.Ended server) = slice_set writers server.id.number None
writers_by_server writers (servers.Crashed server) = slice_set writers server.id.number None
writers_by_server writers _ = writers

-- a reset of its machine ends a server too
abbrev pub writers_by_watchdog : List (Option Name) → WatchdogEvent → List (Option Name)
writers_by_watchdog writers (watchdogs.Reset member) = slice_set writers member.id.number None
writers_by_watchdog writers _ = writers

-- the names of the servers that accept writes, by their numbers, after an event
abbrev pub writers_after : List (Option Name) → EventKind → List (Option Name)
writers_after writers (kinds.Server happening) = writers_by_server writers happening
writers_after writers (kinds.Watchdog happening) = writers_by_watchdog writers happening
writers_after writers _ = writers

-- two servers accept writes
abbrev pub has_two : List (Option Name) → Bool
has_two writers = nat_lt 1 (count_by is_some writers)

-- when two servers accepted writes first, after what happens to one: they are counted where one begins
abbrev pub two_by_server : FirstMoment → Ticks → List (Option Name) → ServerEvent → FirstMoment
two_by_server first now writers (servers.Began server timeline) = first_if first (has_two writers) now
two_by_server first now writers _ = first

-- when two servers accepted writes first, after an event after which these do
abbrev pub two_after : FirstMoment → Ticks → List (Option Name) → EventKind → FirstMoment
two_after first now writers (kinds.Server happening) = two_by_server first now writers happening
two_after first now writers _ = first

-- how many commits are acknowledged after an event
abbrev pub count_after : ℕ → EventKind → ℕ
count_after count (kinds.Replication (replications.Acknowledged server commit)) = count + 1
count_after count _ = count

-- how the run would close after one more event of this moment
abbrev pub closing_after : List (Option Ticks) → Closing → Ticks → EventKind → Seen → Closing
closing_after margins closing now kind seen = record {
  end = now;
  premises = premises_after closing.premises now margins seen.lateness kind;
  synchronous = synchronous_after closing.synchronous now kind;
  two_writers = two_after closing.two_writers now (writers_after closing.writers kind) kind;
  writers = writers_after closing.writers kind;
  acknowledged = count_after closing.acknowledged kind;
  lost = first_if closing.lost seen.lacking now;
}

-- what the summary keeps after one more event, with what is seen beside it
abbrev pub noted : WatchFacts → EventKind → Seen → WatchFacts
noted facts kind seen = record {
  margins = facts.margins;
  closing = closing_after facts.margins facts.closing (ticks_after facts.closing.end kind) kind seen;
}
