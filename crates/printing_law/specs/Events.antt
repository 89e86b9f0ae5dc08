-- What is told of events that are drawn.
use Rattle.std.specs.Prelude.{ℕ, ◌≡◌, ◌<◌, ◌^◌, List, [], ◌∷◌, ◌++◌, Option, Some, None}
use Rattle.pat_base.specs.declared.name.Name.{Name}
use Rattle.store_keys.specs.declared.txn.Txn.{Txn}
use Rattle.store_keys.specs.declared.txn.Txn.TheVariants as txns
use Rattle.store_keys.specs.declared.txn.LeaseTxn.TheVariants as lease_txns
use Rattle.store_keys.specs.declared.txn.OperatorTxn.TheVariants as operator_txns
use Rattle.store_keys.specs.declared.txn.SyncTxn.TheVariants as sync_txns
use Rattle.event_book.specs.declared.agent_note.AgentNote.{AgentNote}
use Rattle.event_book.specs.declared.agent_note.AgentNote.TheVariants as agent_notes
use Rattle.event_book.specs.declared.event.AgentEvent.{AgentEvent}
use Rattle.event_book.specs.declared.event.AgentEvent.TheVariants as agents
use Rattle.event_book.specs.declared.event.Event.{Event}
use Rattle.event_book.specs.declared.event.EventKind.{EventKind}
use Rattle.event_book.specs.declared.event.EventKind.TheVariants as kinds
use Rattle.event_book.specs.declared.event.LogEvent.{LogEvent}
use Rattle.event_book.specs.declared.event.LogEvent.TheVariants as logs
use Rattle.event_book.specs.declared.event.Note.{Note}
use Rattle.event_book.specs.declared.event.Note.TheVariants as notes
use Rattle.event_book.specs.declared.event.ReplicationEvent.{ReplicationEvent}
use Rattle.event_book.specs.declared.event.ReplicationEvent.TheVariants as replications
use Rattle.event_book.specs.declared.event.ServerEvent.{ServerEvent}
use Rattle.event_book.specs.declared.event.ServerEvent.TheVariants as servers
use Rattle.event_book.specs.declared.event.StoreEvent.{StoreEvent}
use Rattle.event_book.specs.declared.event.StoreEvent.TheVariants as stores
use Rattle.event_book.specs.declared.event.WatchdogEvent.{WatchdogEvent}
use Rattle.event_book.specs.declared.event.WatchdogEvent.TheVariants as watchdogs
use Rattle.run_reading.specs.declared.happening.Happening.{Happening}
use Rattle.run_reading.specs.declared.happening.Happening.TheVariants as happenings
use Rattle.run_reading.specs.declared.told.Told.{Told}
use Rattle.run_reading.specs.Told.{of_nobody, told_of}

-- this is told of one of this name
abbrev pub of_one : ℕ → Name → Happening → Option Told
of_one tick name happening = Some (record { tick = tick; of = Some name; happening = happening })

-- what is told of a granted write
abbrev pub told_in_write : ℕ → Name → Txn → Option Told
told_in_write tick name (txns.Lease (lease_txns.Create info ttl failsafe sync)) = of_one tick name happenings.TakesKey
told_in_write tick name (txns.Lease (lease_txns.Release revision)) = of_one tick name happenings.ReleasesKey
told_in_write tick name (txns.Sync (sync_txns.Claim revision sync)) = of_one tick name happenings.ClaimsSync
told_in_write tick name (txns.Sync (sync_txns.SetSync revision sync members may_lack)) =
    of_one tick name happenings.PublishesSync
told_in_write tick name (txns.Sync (sync_txns.DropSync revision sync)) = of_one tick name happenings.RemovesSync
told_in_write tick name (txns.Operators (operator_txns.SetFailover failover ttl)) =
    of_one tick name happenings.WritesFailover
told_in_write tick name (txns.Operators (operator_txns.Fire revision scheduled failover ttl)) =
    of_one tick name happenings.WritesFailover
told_in_write tick name (txns.Operators (operator_txns.DropFailover revision)) =
    of_one tick name happenings.ClearsFailover
told_in_write tick name (txns.Operators (operator_txns.SetConfig revision config)) =
    of_one tick name happenings.ChangesConfiguration
told_in_write tick name _ = None

-- of the key store
abbrev pub told_in_store : ℕ → StoreEvent → Option Told
told_in_store tick (stores.Granted number by txn standbys) = told_in_write tick by.name txn
told_in_store tick (stores.Refused number by request key found) = of_one tick by.name happenings.IsRefused
told_in_store tick (stores.LeaderExpired holder) = of_one tick holder.name happenings.KeyExpires
told_in_store tick (stores.Expired key) = None

-- of a watchdog
abbrev pub told_in_watchdog : ℕ → WatchdogEvent → Option Told
told_in_watchdog tick (watchdogs.Armed member until answer) = of_one tick member.name happenings.Arms
told_in_watchdog tick (watchdogs.Fed member until basis) = of_one tick member.name happenings.Feeds
told_in_watchdog tick (watchdogs.Reset member) = of_one tick member.name happenings.IsReset
told_in_watchdog tick _ = None

-- of a server
abbrev pub told_in_server : ℕ → ServerEvent → Option Told
told_in_server tick (servers.Began server timeline) = of_one tick server.name happenings.AcceptsWrites
told_in_server tick (servers.Ended server) = of_one tick server.name happenings.AcceptsNoMore
told_in_server tick (servers.Crashed server) = of_one tick server.name happenings.Crashes
told_in_server tick (servers.Promoted server) = of_one tick server.name happenings.IsPromoted
told_in_server tick (servers.StartsAsReplica server) = of_one tick server.name happenings.StartsAsReplica
told_in_server tick (servers.Follows server upstream) = of_one tick server.name happenings.Follows
told_in_server tick (servers.Diverged server upstream at) = of_one tick server.name happenings.Diverges
told_in_server tick (servers.Frozen server) = of_one tick server.name happenings.IsFrozen
told_in_server tick (servers.Thawed server) = of_one tick server.name happenings.IsThawed
told_in_server tick _ = None

-- of a log
abbrev pub told_in_log : ℕ → LogEvent → Option Told
told_in_log tick (logs.Appended server entry) = Some (of_nobody tick happenings.Commits)
told_in_log tick (logs.Rewound server from kept at) = of_one tick server.name happenings.IsRewound
told_in_log tick (logs.Copied server from) = of_one tick server.name happenings.IsCloned
told_in_log tick (logs.Wiped server) = of_one tick server.name happenings.IsWiped
told_in_log tick _ = None

-- of synchronous replication
abbrev pub told_in_replication : ℕ → ReplicationEvent → Option Told
told_in_replication tick (replications.RequiredSet server required names) = of_one tick server.name happenings.Requires
told_in_replication tick (replications.Acknowledged server commit) = Some (of_nobody tick happenings.IsAcknowledged)
told_in_replication tick _ = None

-- of an agent
abbrev pub told_in_agent : ℕ → AgentEvent → Option Told
told_in_agent tick (agents.Suspended agent) = of_one tick agent.name happenings.IsHeld
told_in_agent tick (agents.Resumed agent) = of_one tick agent.name happenings.Resumes
told_in_agent tick (agents.Killed agent) = of_one tick agent.name happenings.IsKilled
told_in_agent tick (agents.Started agent incarnation) = of_one tick agent.name happenings.IsStarted
told_in_agent tick _ = None

-- what an agent notes
abbrev pub noted : AgentNote → Happening
noted agent_notes.CannotArm = happenings.CannotArm
noted agent_notes.DisablesWatchdog = happenings.DisablesWatchdog
noted agent_notes.PostponesPromotion = happenings.PostponesPromotion
noted agent_notes.RunsWithoutKey = happenings.RunsWithoutKey
noted (agent_notes.DoesNotRace because) = happenings.DoesNotRace
noted (agent_notes.HandsOver candidate) = happenings.HandsOver

-- of a note
abbrev pub told_in_note : ℕ → Note → Option Told
told_in_note tick (notes.OfAgent member note about) = of_one tick member.name (noted note)
told_in_note tick (notes.EndsServer member reason) = of_one tick member.name happenings.EndsServer
told_in_note tick (notes.StaysByFailsafe member) = of_one tick member.name happenings.StaysByFailsafe
told_in_note tick (notes.RefusesCommit server) = of_one tick server.name happenings.RefusesCommit
told_in_note tick (notes.AlreadyRunning agent) = of_one tick agent.name happenings.RunsAlready
told_in_note tick (notes.Answered agent status json body) = of_one tick agent.name happenings.Answers
told_in_note tick (notes.NoAnswer agent) = of_one tick agent.name happenings.GivesNoAnswer
told_in_note tick _ = None

-- what is told of an event, if it is drawn
abbrev pub told_in_kind : ℕ → EventKind → Option Told
told_in_kind tick kinds.Tick = None
told_in_kind tick (kinds.Message happening) = None
told_in_kind tick (kinds.Store happening) = told_in_store tick happening
told_in_kind tick (kinds.Watchdog happening) = told_in_watchdog tick happening
told_in_kind tick (kinds.Server happening) = told_in_server tick happening
told_in_kind tick (kinds.Log happening) = told_in_log tick happening
told_in_kind tick (kinds.Replication happening) = told_in_replication tick happening
told_in_kind tick (kinds.Agent happening) = told_in_agent tick happening
told_in_kind tick (kinds.Link happening) = None
told_in_kind tick (kinds.Note note) = told_in_note tick note

abbrev pub told_in : Event → Option Told
told_in event = told_in_kind event.tick.0 event.kind

-- a number of 64 bits
abbrev pub IsNumber : ℕ → Type 0
IsNumber n = n < 2 ^ 64

-- the numbers that the line of an event has are such as its types hold
abbrev pub AreKindNumbers : EventKind → Type 0
AreKindNumbers (kinds.Watchdog (watchdogs.Armed member until answer)) = IsNumber until.0
AreKindNumbers (kinds.Watchdog (watchdogs.Fed member until basis)) = IsNumber until.0
AreKindNumbers (kinds.Server (servers.Began server timeline)) = IsNumber timeline
AreKindNumbers (kinds.Log (logs.Appended server entry)) = IsNumber entry.serial × IsNumber entry.bytes
AreKindNumbers (kinds.Replication (replications.Acknowledged server commit)) = IsNumber commit
AreKindNumbers _ = Unit {0}

pub record AreNumbers (event : Event) : Type 0 where
  pub tick : IsNumber event.tick.0
  pub kind : AreKindNumbers event.kind

-- this was printed: a line with its line feed, which is read as this
pub record IsReadAs (printed : List ℕ) (told : Told) : Type 0 where
  pub line : List ℕ
  pub ended : printed ≡ line ++ 10 ∷ []
  pub read : told_of line ≡ Some told

-- where there is a line, and it is of an event that is drawn, it is read as that
abbrev pub IsReadAgain : Option (List ℕ) → Option Told → Type 0
IsReadAgain None told = Unit {0}
IsReadAgain (Some printed) None = Unit {0}
IsReadAgain (Some printed) (Some told) = IsReadAs printed told
