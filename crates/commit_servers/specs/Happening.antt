-- What may happen to servers and logs.
use Rattle.std.specs.Prelude.{ℕ, ◌≡◌, ◌≤◌, ◌+◌, ◌^◌, true, false, List, [], ◌∷◌, Some, slice_get, length}
use Rattle.pat_base.specs.declared.lsn.Lsn.{Lsn}
use Rattle.pat_base.specs.ServerState.{writes, live}
use Rattle.wal_model.specs.declared.entry.Entry.{Entry}
use Rattle.wal_model.specs.Log.{IsPrefixOf, end_of}
use Rattle.pg_model.specs.declared.waiting.Waiting.{Waiting}
use Rattle.pg_model.specs.Facts.{ServerFacts, entries_of, has_data, is_creating}
use Rattle.pg_model.specs.Replication.{is_met}
use Rattle.pg_model.specs.Rewinding.{common_log, is_rewindable}
use Rattle.event_book.specs.declared.event.Event.{Event}
use Rattle.event_book.specs.declared.event.EventKind.{EventKind}
use Rattle.event_book.specs.declared.event.EventKind.TheVariants as kinds
use Rattle.event_book.specs.declared.event.LogEvent.{LogEvent}
use Rattle.event_book.specs.declared.event.LogEvent.TheVariants as logs
use Rattle.event_book.specs.declared.event.ReplicationEvent.{ReplicationEvent}
use Rattle.event_book.specs.declared.event.ReplicationEvent.TheVariants as replications
use Rattle.event_book.specs.declared.event.ServerEvent.{ServerEvent}
use Rattle.event_book.specs.declared.event.ServerEvent.TheVariants as servers
use Rattle.event_book.specs.declared.event.WatchdogEvent.TheVariants as watchdogs
use Rattle.event_book.specs.declared.member.Member.{Member}
use Rattle.event_book.specs.Facts.{Facts, facts_after}
use Rattle.commit_showing.specs.Showing.{IsIdle}
use Rattle.commit_servers.specs.Sound.{WaitsForMembers}

-- a server accepts writes, and the next commit may stand at its log's
-- end as this entry: it has bytes, and the log doesn't pass 2^63 of them
pub record Appends (facts : Facts) (m : ℕ) (entry : Entry) : Type 0 where
  pub server : ServerFacts
  pub is : slice_get facts.servers m ≡ Some server
  pub is_writer : writes server.state ≡ true
  pub next : entry.serial ≡ facts.commits + 1
  pub bytes : 1 ≤ entry.bytes
  pub room : end_of (entries_of server.log) + entry.bytes ≤ 2 ^ 63

-- a server that isn't live takes entries from one that accepts writes
pub record Takes (servers : List ServerFacts) (m from : ℕ) : Type 0 where
  pub server : ServerFacts
  pub is : slice_get servers m ≡ Some server
  pub not_live : live server.state ≡ false
  pub source : ServerFacts
  pub source_is : slice_get servers from ≡ Some source
  pub is_writer : writes source.state ≡ true

-- it receives them: its log is a front of the other
pub record Receives (servers : List ServerFacts) (m from : ℕ) : Type 0 where
  pub takes : Takes servers m from
  pub with_data : has_data takes.server.state ≡ true
  pub prefix : IsPrefixOf (entries_of takes.server.log) (entries_of takes.source.log)

-- it is rewound to the other, and keeps so many entries: those that both logs begin with
pub record Rewinds (servers : List ServerFacts) (m from kept : ℕ) : Type 0 where
  pub takes : Takes servers m from
  pub rewindable : is_rewindable takes.server.state ≡ true
  pub kept_is : kept ≡ length (common_log takes.server takes.source)

-- it becomes a copy of the other
pub record Copies (servers : List ServerFacts) (m from : ℕ) : Type 0 where
  pub takes : Takes servers m from
  pub creating : is_creating takes.server.state ≡ true

-- a server that isn't live loses its log
pub record Wipes (servers : List ServerFacts) (m : ℕ) : Type 0 where
  pub server : ServerFacts
  pub is : slice_get servers m ≡ Some server
  pub not_live : live server.state ≡ false

-- a member confirms the end of its log to a server that accepts writes, of whose log it is a front
pub record Confirms (servers : List ServerFacts) (m by : ℕ) (end : Lsn) : Type 0 where
  pub server : ServerFacts
  pub is : slice_get servers m ≡ Some server
  pub is_writer : writes server.state ≡ true
  pub standby : ServerFacts
  pub standby_is : slice_get servers by ≡ Some standby
  pub with_data : has_data standby.state ≡ true
  pub prefix : IsPrefixOf (entries_of standby.log) (entries_of server.log)
  pub end_is : end.position ≡ end_of (entries_of standby.log)

-- the oldest commit that waits at a server that accepts writes is this one, and whom it waits for has confirmed its end
pub record Acknowledges (servers : List ServerFacts) (m commit : ℕ) : Type 0 where
  pub server : ServerFacts
  pub is : slice_get servers m ≡ Some server
  pub is_writer : writes server.state ≡ true
  pub first : Waiting
  pub more : List Waiting
  pub waiting : server.waiting ≡ first ∷ more
  pub commit_is : commit ≡ first.serial
  pub met : is_met server.required first.end server.confirmed ≡ true

-- there is this server, and it is live
pub record IsLiveAt (servers : List ServerFacts) (m : ℕ) : Type 0 where
  pub server : ServerFacts
  pub is : slice_get servers m ≡ Some server
  pub is_live : live server.state ≡ true

-- there is this server, and it has data
pub record HasDataAt (servers : List ServerFacts) (m : ℕ) : Type 0 where
  pub server : ServerFacts
  pub is : slice_get servers m ≡ Some server
  pub with_data : has_data server.state ≡ true

-- what may happen to a log
abbrev pub MayHappenToLog : Facts → LogEvent → Type 0
MayHappenToLog facts (logs.Appended server entry) = Appends facts server.id.number entry
MayHappenToLog facts (logs.Received server from count) = Receives facts.servers server.id.number from.id.number
MayHappenToLog facts (logs.Rewound server from kept at) = Rewinds facts.servers server.id.number from.id.number kept
MayHappenToLog facts (logs.Copied server from) = Copies facts.servers server.id.number from.id.number
MayHappenToLog facts (logs.Wiped server) = Wipes facts.servers server.id.number

-- what may happen to a server beside an input of its agent: it begins where it was live before, and it ends
abbrev pub MayHappenToServer : List ServerFacts → ServerEvent → Type 0
MayHappenToServer known (servers.Began server timeline) = IsLiveAt known server.id.number
MayHappenToServer known (servers.Ended server) = IsLiveAt known server.id.number
MayHappenToServer known (servers.Stops server) = ⊥
MayHappenToServer known (servers.StartsAsPrimary server) = ⊥
MayHappenToServer known _ = Unit {0}

-- what may happen in replication beside an input of an agent
abbrev pub MayBeReplicated : List ServerFacts → ReplicationEvent → Type 0
MayBeReplicated known (replications.RequiredSet server required names) = ⊥
MayBeReplicated known (replications.Confirmed server by end) = Confirms known server.id.number by.id.number end
MayBeReplicated known (replications.Acknowledged server commit) = Acknowledges known server.id.number commit
MayBeReplicated known (replications.Lacks server) = Unit {0}

-- what may happen beside inputs of agents and deliveries to the key store: to logs,
-- to servers, in replication, a reset, or something of which commits read nothing
abbrev pub MayHappen : Facts → EventKind → Type 0
MayHappen facts (kinds.Log happening) = MayHappenToLog facts happening
MayHappen facts (kinds.Server happening) = MayHappenToServer facts.servers happening
MayHappen facts (kinds.Replication happening) = MayBeReplicated facts.servers happening
MayHappen facts (kinds.Watchdog (watchdogs.Reset member)) = Unit {0}
MayHappen facts kind = IsIdle kind

-- these events may happen one after another
abbrev pub MayFollow : Facts → List Event → Type 0
MayFollow facts [] = Unit {0}
MayFollow facts (event ∷ events) = MayHappen facts event.kind × MayFollow (facts_after facts event.kind) events

-- what leaves each server sound, of all that can happen: logs change
-- as above, who begins or ends has data, and commits wait for members
abbrev pub LeavesSound : Facts → EventKind → Type 0
LeavesSound facts (kinds.Log happening) = MayHappenToLog facts happening
LeavesSound facts (kinds.Server (servers.Began server timeline)) = HasDataAt facts.servers server.id.number
LeavesSound facts (kinds.Server (servers.Ended server)) = HasDataAt facts.servers server.id.number
LeavesSound facts (kinds.Replication (replications.RequiredSet server required names)) = WaitsForMembers required
LeavesSound facts _ = Unit {0}

-- all of these events do, one after another
abbrev pub AllLeaveSound : Facts → List Event → Type 0
AllLeaveSound facts [] = Unit {0}
AllLeaveSound facts (event ∷ events) =
    LeavesSound facts event.kind × AllLeaveSound (facts_after facts event.kind) events

-- the server of this number is that to which this happens
abbrev pub IsAtServer : ℕ → ServerEvent → Type 0
IsAtServer m (servers.Began server timeline) = server.id.number ≡ m
IsAtServer m (servers.Ended server) = server.id.number ≡ m
IsAtServer m (servers.Crashed server) = server.id.number ≡ m
IsAtServer m (servers.Promoted server) = server.id.number ≡ m
IsAtServer m (servers.Stops server) = server.id.number ≡ m
IsAtServer m (servers.StartsAsPrimary server) = server.id.number ≡ m
IsAtServer m (servers.StartsAsReplica server) = server.id.number ≡ m
IsAtServer m (servers.Follows server upstream) = server.id.number ≡ m
IsAtServer m (servers.Diverged server upstream at) = server.id.number ≡ m
IsAtServer m (servers.Frozen server) = server.id.number ≡ m
IsAtServer m (servers.Thawed server) = server.id.number ≡ m
IsAtServer m (servers.Slowed server stop start) = server.id.number ≡ m

-- an event that makes no server live or not but that of this number
abbrev pub MovesOnly : ℕ → EventKind → Type 0
MovesOnly m (kinds.Server happening) = IsAtServer m happening
MovesOnly m (kinds.Watchdog (watchdogs.Reset member)) = member.id.number ≡ m
MovesOnly m _ = Unit {0}

-- each member stands at its own number
pub record AreInPlace (members : List Member) : Type 0 where
  pub number : (n : ℕ) (member : Member) → slice_get members n ≡ Some member → member.id.number ≡ n
