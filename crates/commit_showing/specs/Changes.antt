-- Which events change the order of required lists and sync key.
use Rattle.std.specs.Prelude.{◌⊎◌, List, [], ◌∷◌}
use Rattle.event_book.specs.declared.event.Event.{Event}
use Rattle.event_book.specs.declared.event.EventKind.{EventKind}
use Rattle.event_book.specs.declared.event.EventKind.TheVariants as kinds
use Rattle.event_book.specs.declared.event.ReplicationEvent.TheVariants as replications
use Rattle.event_book.specs.declared.event.ServerEvent.TheVariants as servers
use Rattle.event_book.specs.declared.event.StoreEvent.TheVariants as stores
use Rattle.event_book.specs.declared.event.WatchdogEvent.TheVariants as watchdogs
use Rattle.commit_showing.specs.Books.{Transition}

-- an event that is no change of who accepts writes, of whom commits wait for, or of a key
abbrev pub LeavesOrder : EventKind → Type 0
LeavesOrder (kinds.Server (servers.Began server timeline)) = ⊥
LeavesOrder (kinds.Server (servers.Ended server)) = ⊥
LeavesOrder (kinds.Server (servers.Crashed server)) = ⊥
LeavesOrder (kinds.Watchdog (watchdogs.Reset member)) = ⊥
LeavesOrder (kinds.Replication (replications.RequiredSet server required names)) = ⊥
LeavesOrder (kinds.Store (stores.Granted number by txn standbys)) = ⊥
LeavesOrder _ = Unit {0}

-- all of these events are such
abbrev pub AllLeaveOrder : List Event → Type 0
AllLeaveOrder [] = Unit {0}
AllLeaveOrder (event ∷ events) = LeavesOrder event.kind × AllLeaveOrder events

-- at most one of these events is such a change
abbrev pub ChangeOrderOnce : List Event → Type 0
ChangeOrderOnce [] = Unit {0}
ChangeOrderOnce (event ∷ events) = (LeavesOrder event.kind × ChangeOrderOnce events) ⊎ AllLeaveOrder events

-- each of these actions has at most one such event
abbrev pub EachChangesOnce : List Transition → Type 0
EachChangesOnce [] = Unit {0}
EachChangesOnce (transition ∷ transitions) = ChangeOrderOnce transition.events × EachChangesOnce transitions
