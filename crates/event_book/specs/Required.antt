-- Whose confirmation the commits of servers wait for, and what was confirmed, from the book alone.
use Rattle.std.specs.Prelude.{List, [], ◌∷◌, Option, Some, map, slice_set}
use Rattle.pat_base.specs.declared.lsn.Lsn.{Lsn}
use Rattle.pat_base.specs.declared.server_state.Required.{Required}
use Rattle.pat_base.specs.Changes.{with_changed}
use Rattle.pg_model.specs.Facts.{ServerFacts, none_confirmed}
use Rattle.event_book.specs.declared.event.Event.{Event}
use Rattle.event_book.specs.declared.event.EventKind.{EventKind}
use Rattle.event_book.specs.declared.event.EventKind.TheVariants as kinds
use Rattle.event_book.specs.declared.event.ReplicationEvent.TheVariants as replications
use Rattle.event_book.specs.declared.event.ServerEvent.TheVariants as servers

-- the required lists of these servers
abbrev pub required_in : List ServerFacts → List Required
required_in servers = map (λ s. s.required) servers

-- and what was confirmed to them
abbrev pub confirmed_in : List ServerFacts → List (List (Option Lsn))
confirmed_in servers = map (λ s. s.confirmed) servers

-- the required lists after an event, by the numbers of their servers
abbrev pub required_after : List Required → EventKind → List Required
required_after known (kinds.Replication (replications.RequiredSet server required names)) =
    with_changed known server.id.number (λ before. required)
required_after known _ = known

-- the required list of each server is the last one that was set
abbrev pub required_over : List Required → List Event → List Required
required_over known [] = known
required_over known (event ∷ events) = required_over (required_after known event.kind) events

-- the positions that members confirmed to each server, after an event; those from before it began count no more
abbrev pub confirmed_after : List (List (Option Lsn)) → EventKind → List (List (Option Lsn))
confirmed_after known (kinds.Server (servers.Began server timeline)) =
    with_changed known server.id.number (λ before. none_confirmed)
confirmed_after known (kinds.Replication (replications.Confirmed server by end)) =
    with_changed known server.id.number (λ before. slice_set before by.id.number (Some end))
confirmed_after known _ = known

-- what was confirmed to each server since it last began
abbrev pub confirmed_over : List (List (Option Lsn)) → List Event → List (List (Option Lsn))
confirmed_over known [] = known
confirmed_over known (event ∷ events) = confirmed_over (confirmed_after known event.kind) events
