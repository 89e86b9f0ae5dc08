-- Watchdogs, and the holds that members take.
use Rattle.std.specs.Prelude.{max, Bool, true, false, List, Option, Some, None}
use Rattle.pat_base.specs.declared.ticks.Ticks.{Ticks}
use Rattle.pat_base.specs.Changes.{with_changed}
use Rattle.event_book.specs.declared.event.EventKind.{EventKind}
use Rattle.event_book.specs.declared.event.EventKind.TheVariants as kinds
use Rattle.event_book.specs.declared.event.WatchdogEvent.{WatchdogEvent}
use Rattle.event_book.specs.declared.event.WatchdogEvent.TheVariants as watchdogs
use Rattle.event_book.specs.declared.reason.Basis.{Basis}
use Rattle.event_book.specs.declared.reason.Basis.TheVariants as bases

-- acknowledgements of a failsafe request let a leader feed its watchdog, and no grant
abbrev pub is_acknowledged : Basis → Bool
is_acknowledged (bases.Grant answer) = false
is_acknowledged (bases.Acknowledgements members sequence) = true

-- the deadlines after what happens to a watchdog: one that has reset its machine is no longer armed
abbrev pub deadlines_by : List (Option Ticks) → WatchdogEvent → List (Option Ticks)
deadlines_by deadlines (watchdogs.Armed member until answer) =
    with_changed deadlines member.id.number (λ before. Some until)
deadlines_by deadlines (watchdogs.Fed member until basis) =
    with_changed deadlines member.id.number (λ before. Some until)
deadlines_by deadlines (watchdogs.Disarmed member) = with_changed deadlines member.id.number (λ before. None)
deadlines_by deadlines (watchdogs.Reset member) = with_changed deadlines member.id.number (λ before. None)
deadlines_by deadlines _ = deadlines

-- by member, the moment at which its watchdog resets its machine if it is armed, after an event
abbrev pub deadlines_after : List (Option Ticks) → EventKind → List (Option Ticks)
deadlines_after deadlines (kinds.Watchdog happening) = deadlines_by deadlines happening
deadlines_after deadlines _ = deadlines

-- the later of two moments
abbrev pub later_of : Ticks → Ticks → Ticks
later_of a b = record { 0 = max a.0 b.0 }

-- a hold until this moment, taken by a member that may have one: it never ends earlier than the one before
abbrev pub prolonged_to : Ticks → Option Ticks → Option Ticks
prolonged_to until None = Some until
prolonged_to until (Some before) = Some (later_of before until)

-- the holds after one was taken, if one was
abbrev pub holds_by : List (Option Ticks) → WatchdogEvent → List (Option Ticks)
holds_by holds (watchdogs.HoldTaken member until from incarnation sequence) =
    with_changed holds member.id.number (prolonged_to until)
holds_by holds _ = holds

-- by member, the moment until which it promised not to take the leader key, if it ever did, after an event
abbrev pub holds_after : List (Option Ticks) → EventKind → List (Option Ticks)
holds_after holds (kinds.Watchdog happening) = holds_by holds happening
holds_after holds _ = holds
