-- The servers of a book, by the number of their member, and the remote beside them.
use Rattle.std.specs.Prelude.{ℕ, ◌==◌, ◌&&◌, ◌||◌, not, ◌++◌, if◌then◌else◌, Bool, true, List, [], ◌∷◌, Option, Some, None, map, take, drop}
use Rattle.pat_base.specs.declared.server_state.State.{State}
use Rattle.pat_base.specs.declared.server_state.State.TheVariants as states
use Rattle.pat_base.specs.declared.ticks.Ticks.{Ticks}
use Rattle.pat_base.specs.Changes.{with_changed}
use Rattle.pat_base.specs.ServerState.{live}
use Rattle.wal_model.specs.declared.entry.Entry.{Entry}
use Rattle.pg_model.specs.Facts.{ServerFacts, entries_of, is_creating, is_down, is_up}
use Rattle.pg_model.specs.Replication.{appended, confirming, following, received_from, requiring}
use Rattle.pg_model.specs.Rewinding.{cloned, is_rewindable, rewound_to}
use Rattle.pg_model.specs.Running.{crashed, delayed, is_primary, primary_started, promoted, replica_started, started, stopped, stopping, wiped, ticked_unless_live}
use Rattle.event_book.specs.declared.event.EventKind.{EventKind}
use Rattle.event_book.specs.declared.event.EventKind.TheVariants as kinds
use Rattle.event_book.specs.declared.event.LogEvent.{LogEvent}
use Rattle.event_book.specs.declared.event.LogEvent.TheVariants as logs
use Rattle.event_book.specs.declared.event.ReplicationEvent.{ReplicationEvent}
use Rattle.event_book.specs.declared.event.ReplicationEvent.TheVariants as replications
use Rattle.event_book.specs.declared.event.ServerEvent.{ServerEvent}
use Rattle.event_book.specs.declared.event.ServerEvent.TheVariants as servers
use Rattle.event_book.specs.declared.event.WatchdogEvent.{WatchdogEvent}
use Rattle.event_book.specs.declared.event.WatchdogEvent.TheVariants as watchdogs
use Rattle.event_book.specs.Remote.{remote_changed, server_at}

-- it accepts writes from now on: a replica by its promotion, and else by the
-- end of its start as a primary; what was confirmed before counts no more
abbrev pub begun_in : State → ServerFacts → ServerFacts
begun_in states.Replica s = promoted s
begun_in _ s = started true s

-- a server in this state starts as a replica: of none where it is
-- down, and where it runs as one again, of whom it follows
abbrev pub replica_starts_in : State → Ticks → ServerFacts → ServerFacts
replica_starts_in states.Stopped now s = replica_started now None s
replica_starts_in states.Crashed now s = replica_started now None s
replica_starts_in states.Replica now s = replica_started now s.upstream s
replica_starts_in _ now s = s

-- it starts as a replica, where it is down or runs as one
abbrev pub starts_as_replica : ℕ → ServerFacts → ServerFacts
starts_as_replica now s = replica_starts_in s.state (record { 0 = now }) s

-- a stop of it takes time
abbrev pub stops_slowly : ServerFacts → Bool
stops_slowly s = not (s.stop_delay.0 == 0)

-- a start of it takes time
abbrev pub starts_slowly : ServerFacts → Bool
starts_slowly s = not (s.start_delay.0 == 0)

-- a shutdown of it ends no writing at once: it runs or starts, and
-- accepts no writes, or accepts them until the end of the stop
abbrev pub stops_quietly : ServerFacts → Bool
stops_quietly s = is_up s.state && (not (is_primary s.state) || stops_slowly s)

-- its shutdown begins, where that ends no writing at once: such an end has an event of its own
abbrev pub stops : ℕ → ServerFacts → ServerFacts
stops now s = if stops_quietly s then stopping (record { 0 = now }) s else s

-- its start as a primary begins, where it is down and its start takes
-- time: that it accepts writes has an event of its own
abbrev pub starts_as_primary : ℕ → ServerFacts → ServerFacts
starts_as_primary now s = if is_down s.state && starts_slowly s then primary_started (record { 0 = now }) s else s

-- the servers after what happens to one at this moment
abbrev pub servers_by : ℕ → List ServerFacts → ServerEvent → List ServerFacts
servers_by now known (servers.Began server timeline) = with_changed known server.id.number (λ s. begun_in s.state s)
servers_by now known (servers.Ended server) = with_changed known server.id.number stopped
servers_by now known (servers.Crashed server) = with_changed known server.id.number crashed
servers_by now known (servers.Stops server) = with_changed known server.id.number (stops now)
servers_by now known (servers.StartsAsPrimary server) = with_changed known server.id.number (starts_as_primary now)
servers_by now known (servers.StartsAsReplica server) = with_changed known server.id.number (starts_as_replica now)
servers_by now known (servers.Follows server upstream) = with_changed known server.id.number (following upstream.id)
servers_by now known (servers.Diverged server upstream at) =
    with_changed known server.id.number (λ s. record s { diverged = true })
servers_by now known (servers.Slowed server stop start) = with_changed known server.id.number (delayed stop start)
servers_by now known _ = known

-- the servers after one received so many entries from another; without such another all are as before
abbrev pub received_by : List ServerFacts → ℕ → ℕ → Option ServerFacts → List ServerFacts
received_by known number count None = known
received_by known number count (Some upstream) = with_changed known number (λ s. received_from count s upstream)

-- its log keeps so many entries
abbrev pub cut_to : ℕ → ServerFacts → ServerFacts
cut_to kept s = record s { log = Some (take kept (entries_of s.log)) }

-- it goes back to so many entries of its log: rewound to the source, where it may be;
-- without a source, or in a state in which no server is rewound, only its log changes
abbrev pub goes_back : ℕ → Option ServerFacts → ServerFacts → ServerFacts
goes_back kept None s = cut_to kept s
goes_back kept (Some source) s = if is_rewindable s.state then rewound_to kept s source else cut_to kept s

-- it becomes a copy of the source: cloned from it, where it waits for a copy; in another state only its log changes
abbrev pub becomes_copy : ServerFacts → ServerFacts → ServerFacts
becomes_copy source s = if is_creating s.state then cloned s source else record s { log = source.log }

-- the servers after one became a copy of another; without such another all are as before
abbrev pub copied_by : List ServerFacts → ℕ → Option ServerFacts → List ServerFacts
copied_by known number None = known
copied_by known number (Some source) = with_changed known number (becomes_copy source)

-- its log is gone: it is wiped, unless it accepts writes, or will when
-- its start is complete; of such a server only the log changes
abbrev pub loses_log : ServerFacts → ServerFacts
loses_log s = if live s.state then record s { log = None } else wiped s

-- the servers after what happens to a log, beside this remote
abbrev pub servers_by_log : List ServerFacts → Option ServerFacts → LogEvent → List ServerFacts
servers_by_log known remote (logs.Appended server entry) = with_changed known server.id.number (appended entry)
servers_by_log known remote (logs.Received server from count) =
    received_by known server.id.number count (server_at known remote from.id.number)
servers_by_log known remote (logs.Rewound server from kept at) =
    with_changed known server.id.number (goes_back kept (server_at known remote from.id.number))
servers_by_log known remote (logs.Copied server from) =
    copied_by known server.id.number (server_at known remote from.id.number)
servers_by_log known remote (logs.Wiped server) = with_changed known server.id.number loses_log

-- the servers after what happens in synchronous replication
abbrev pub servers_by_replication : List ServerFacts → ReplicationEvent → List ServerFacts
servers_by_replication known (replications.RequiredSet server required names) =
    with_changed known server.id.number (requiring required)
servers_by_replication known (replications.Confirmed server by end) =
    with_changed known server.id.number (confirming by.id end)
servers_by_replication known (replications.Acknowledged server commit) =
    with_changed known server.id.number (λ s. record s { waiting = drop 1 s.waiting })
servers_by_replication known (replications.Lacks server) = known

-- a reset of its machine crashes a server
abbrev pub servers_by_watchdog : List ServerFacts → WatchdogEvent → List ServerFacts
servers_by_watchdog known (watchdogs.Reset member) = with_changed known member.id.number crashed
servers_by_watchdog known _ = known

-- the servers after an event of this moment, beside this remote: a
-- tick completes the starts and stops that no event tells
abbrev pub servers_after : ℕ → List ServerFacts → Option ServerFacts → EventKind → List ServerFacts
servers_after now known remote kinds.Tick = map (ticked_unless_live (record { 0 = now })) known
servers_after now known remote (kinds.Server happening) = servers_by now known happening
servers_after now known remote (kinds.Log happening) = servers_by_log known remote happening
servers_after now known remote (kinds.Replication happening) = servers_by_replication known happening
servers_after now known remote (kinds.Watchdog happening) = servers_by_watchdog known happening
servers_after now known remote _ = known

-- a commit stands at the end of the remote's log; its client isn't one of the cluster's, so it waits for no member
abbrev pub supplied : Entry → ServerFacts → ServerFacts
supplied entry s = record s { log = Some (entries_of s.log ++ entry ∷ []) }

-- the remote after what happens to a log
abbrev pub remote_by_log : Option ServerFacts → LogEvent → Option ServerFacts
remote_by_log remote (logs.Appended server entry) = remote_changed remote server.id.number (supplied entry)
remote_by_log remote _ = remote

-- the remote after an event
abbrev pub remote_after : Option ServerFacts → EventKind → Option ServerFacts
remote_after remote (kinds.Log happening) = remote_by_log remote happening
remote_after remote _ = remote
