-- Whose deadlines were set last by acknowledgements of other members (Patroni documentation, "DCS Failsafe Mode").
use Rattle.std.specs.Prelude.{Bool, true, false, List, Option, Some, None}
use Rattle.pat_base.specs.Changes.{with_changed}
use Rattle.event_book.specs.declared.event.EventKind.{EventKind}
use Rattle.event_book.specs.declared.event.EventKind.TheVariants as kinds
use Rattle.event_book.specs.declared.event.WatchdogEvent.{WatchdogEvent}
use Rattle.event_book.specs.declared.event.WatchdogEvent.TheVariants as watchdogs
use Rattle.event_book.specs.Watchdogs.{is_acknowledged}

-- whose deadlines acknowledgements set last, after what happens to a
-- watchdog: a deadline that is removed leaves that as it was
abbrev pub failsafe_deadlines_by : List Bool → WatchdogEvent → List Bool
failsafe_deadlines_by before (watchdogs.Armed member until answer) = with_changed before member.id.number (λ was. false)
failsafe_deadlines_by before (watchdogs.Fed member until basis) =
    with_changed before member.id.number (λ was. is_acknowledged basis)
failsafe_deadlines_by before _ = before

-- by member, whether acknowledgements set the deadline of its watchdog last, after an event
abbrev pub failsafe_deadlines_after : List Bool → EventKind → List Bool
failsafe_deadlines_after before (kinds.Watchdog happening) = failsafe_deadlines_by before happening
failsafe_deadlines_after before _ = before

-- that of one member, none where there is none
abbrev pub is_set_by_failsafe : Option Bool → Bool
is_set_by_failsafe None = false
is_set_by_failsafe (Some by_failsafe) = by_failsafe
