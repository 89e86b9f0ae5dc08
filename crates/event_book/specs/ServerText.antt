-- The lines of what happens to watchdogs, servers, their logs and their synchronous replication.
use Rattle.std.specs.Prelude.{ℕ, Bool, List, ◌++◌, Option, Some, None, codes}
use Rattle.std.specs.Fmt.{decimal}
use Rattle.pat_base.specs.declared.name.Name.{Name}
use Rattle.pat_base.specs.declared.server_state.Required.{Required}
use Rattle.pat_base.specs.declared.server_state.Required.TheVariants.{Nobody, AnyOne, All, AtLeast}
use Rattle.pat_base.specs.LsnText.{lsn_text}
use Rattle.pat_base.specs.Name.{name_bytes}
use Rattle.event_book.specs.declared.event.LogEvent.{LogEvent}
use Rattle.event_book.specs.declared.event.LogEvent.TheVariants as logs
use Rattle.event_book.specs.declared.event.ReplicationEvent.{ReplicationEvent}
use Rattle.event_book.specs.declared.event.ReplicationEvent.TheVariants as replications
use Rattle.event_book.specs.declared.event.ServerEvent.{ServerEvent}
use Rattle.event_book.specs.declared.event.ServerEvent.TheVariants as servers
use Rattle.event_book.specs.declared.event.WatchdogEvent.{WatchdogEvent}
use Rattle.event_book.specs.declared.event.WatchdogEvent.TheVariants as watchdogs
use Rattle.event_book.specs.Listing.{listed}
use Rattle.event_book.specs.Traced.{traced}
use Rattle.wal_model.specs.declared.entry.Entry.{Entry}

-- the line of a watchdog that is fed
abbrev pub feeding_line : ℕ → List ℕ → ℕ → List ℕ
feeding_line tick name until =
    decimal tick ++ (codes " " ++ (name ++ (codes " feeds its watchdog until " ++ (decimal until ++ codes "\n"))))

-- the line of a new deadline for the watchdog of the member of this name, which it has only while messages are traced
abbrev pub fed_line : Bool → ℕ → List ℕ → ℕ → Option (List ℕ)
fed_line trace tick name until = traced trace (feeding_line tick name until)

-- the line of what happens to a watchdog, if it has one
abbrev pub watchdog_line : Bool → ℕ → WatchdogEvent → Option (List ℕ)
watchdog_line trace tick (watchdogs.Armed member until answer) =
    Some (decimal tick
    ++ (codes " "
    ++ (name_bytes member.name ++ (codes " arms its watchdog until " ++ (decimal until.0 ++ codes "\n")))))
watchdog_line trace tick (watchdogs.Fed member until basis) = fed_line trace tick (name_bytes member.name) until.0
watchdog_line trace tick (watchdogs.Disarmed member) = None
watchdog_line trace tick (watchdogs.Reset member) =
    Some (decimal tick ++ (codes " " ++ (name_bytes member.name ++ codes " is reset by its watchdog\n")))
watchdog_line trace tick (watchdogs.Measured member since) = None
watchdog_line trace tick (watchdogs.HoldTaken member until from incarnation sequence) = None

-- the line of what happens to a server by itself
abbrev pub own_server_line : ℕ → ServerEvent → Option (List ℕ)
own_server_line tick (servers.Ended server) =
    Some (decimal tick ++ (codes " " ++ (name_bytes server.name ++ codes " no longer accepts writes\n")))
own_server_line tick (servers.Crashed server) =
    Some (decimal tick ++ (codes " " ++ (name_bytes server.name ++ codes " crashed\n")))
own_server_line tick (servers.Promoted server) =
    Some (decimal tick ++ (codes " " ++ (name_bytes server.name ++ codes " is promoted by its operator\n")))
own_server_line tick (servers.StartsAsReplica server) =
    Some (decimal tick ++ (codes " " ++ (name_bytes server.name ++ codes " starts as a replica\n")))
own_server_line tick (servers.Frozen server) =
    Some (decimal tick ++ (codes " " ++ (name_bytes server.name ++ codes " is frozen\n")))
own_server_line tick (servers.Thawed server) =
    Some (decimal tick ++ (codes " " ++ (name_bytes server.name ++ codes " is thawed\n")))
own_server_line tick _ = None

-- the line of what happens to a server, if it has one
abbrev pub server_line : ℕ → ServerEvent → Option (List ℕ)
server_line tick (servers.Began server timeline) =
    Some (decimal tick
    ++ (codes " "
    ++ (name_bytes server.name ++ (codes " accepts writes on timeline " ++ (decimal timeline ++ codes "\n")))))
server_line tick (servers.Follows server upstream) =
    Some (decimal tick
    ++ (codes " " ++ (name_bytes server.name ++ (codes " follows " ++ (name_bytes upstream.name ++ codes "\n")))))
server_line tick (servers.Diverged server upstream at) =
    Some (decimal tick
    ++ (codes " "
    ++ (name_bytes server.name
    ++ (codes " diverges from "
    ++ (name_bytes upstream.name ++ (codes " at " ++ (lsn_text at.position ++ codes "\n")))))))
server_line tick event = own_server_line tick event

-- the line of a commit, on a server of this name
abbrev pub commit_line : ℕ → Entry → List ℕ → List ℕ
commit_line tick entry name = decimal tick
    ++ (codes " commit "
    ++ (decimal entry.serial
    ++ (codes " of " ++ (decimal entry.bytes ++ (codes " bytes on " ++ (name ++ codes "\n"))))))

-- the line of what happens to a log, if it has one
abbrev pub log_line : ℕ → LogEvent → Option (List ℕ)
log_line tick (logs.Appended server entry) = Some (commit_line tick entry (name_bytes server.name))
log_line tick (logs.Received server from count) = None
log_line tick (logs.Rewound server from kept at) =
    Some (decimal tick
    ++ (codes " " ++ (name_bytes server.name ++ (codes " is rewound to " ++ (lsn_text at.position ++ codes "\n")))))
log_line tick (logs.Copied server from) =
    Some (decimal tick
    ++ (codes " " ++ (name_bytes server.name ++ (codes " is cloned from " ++ (name_bytes from.name ++ codes "\n")))))
log_line tick (logs.Wiped server) =
    Some (decimal tick ++ (codes " " ++ (name_bytes server.name ++ codes " is wiped\n")))

-- the line of the list of those whose confirmation commits of the server of this name wait for
abbrev pub required_line : ℕ → List ℕ → Required → List Name → Option (List ℕ)
required_line tick name Nobody names = Some (decimal tick ++ (codes " " ++ (name ++ codes " requires no standby\n")))
required_line tick name AnyOne names = Some (decimal tick ++ (codes " " ++ (name ++ codes " requires any standby\n")))
required_line tick name (All members) names =
    Some (decimal tick
    ++ (codes " " ++ (name ++ (codes " requires " ++ (listed (codes "no standby") names ++ codes "\n")))))
required_line tick name (AtLeast number of) names =
    Some (decimal tick
    ++ (codes " "
    ++ (name
    ++ (codes " requires "
    ++ (decimal number ++ (codes " of " ++ (listed (codes "no standby") names ++ codes "\n")))))))

-- the line of what happens in synchronous replication, if it has one
abbrev pub replication_line : ℕ → ReplicationEvent → Option (List ℕ)
replication_line tick (replications.RequiredSet server required names) =
    required_line tick (name_bytes server.name) required names
replication_line tick (replications.Confirmed server by end) = None
replication_line tick (replications.Lacks server) = None
replication_line tick (replications.Acknowledged server commit) =
    Some (decimal tick ++ (codes " commit " ++ (decimal commit ++ codes " is acknowledged\n")))
