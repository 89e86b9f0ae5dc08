-- Where the logs of servers ended when their required lists last grew, from the book alone.
use Rattle.std.specs.Prelude.{ℕ, ◌==◌, bit_and, if◌then◌else◌, Bool, List, [], ◌∷◌, Option, Some, None, slice_get}
use Rattle.pat_base.specs.declared.member_set.MemberSet.{MemberSet}
use Rattle.pat_base.specs.declared.server_state.Required.{Required}
use Rattle.pat_base.specs.declared.server_state.Required.TheVariants as requireds
use Rattle.wal_model.specs.Log.{end_of}
use Rattle.event_book.specs.declared.event.Event.{Event}
use Rattle.event_book.specs.declared.event.EventKind.{EventKind}
use Rattle.event_book.specs.declared.event.EventKind.TheVariants as kinds
use Rattle.event_book.specs.declared.event.ReplicationEvent.TheVariants as replications
use Rattle.event_book.specs.Functions.{put_at}
use Rattle.event_book.specs.Logs.{Logs, entries_at, logs_after}
use Rattle.event_book.specs.Required.{required_after}

-- each member of the first set is in the other
abbrev pub is_within : MemberSet → MemberSet → Bool
is_within one other = bit_and one.bits other.bits == one.bits

-- whom a required list names
abbrev pub listed : Required → MemberSet
listed (requireds.All members) = members
listed _ = record { bits = 0 }

-- where the log ended when a list last grew, after it was set, while the log ends here: 0 where it names nobody
abbrev pub grown_to : ℕ → ℕ → Required → Required → ℕ
grown_to end was before (requireds.All members) = if is_within members (listed before) then was else end
grown_to end was before _ = 0

-- the same of a server that there may be
abbrev pub grown_of : ℕ → ℕ → Option Required → Required → ℕ
grown_of end was None required = 0
grown_of end was (Some before) required = grown_to end was before required

-- the same of all servers, by an event, where these were the required lists and the logs before it
abbrev pub grown_after : List Required → Logs → (ℕ → ℕ) → EventKind → ℕ → ℕ
grown_after known logs grown (kinds.Replication (replications.RequiredSet server required names)) =
    put_at grown server.id.number
    (grown_of (end_of (entries_at logs server.id.number)) (grown server.id.number)
    (slice_get known server.id.number) required)
grown_after known logs grown _ = grown

-- and by a list of events
abbrev pub grown_over : List Required → Logs → (ℕ → ℕ) → List Event → ℕ → ℕ
grown_over known logs grown [] = grown
grown_over known logs grown (event ∷ events) = grown_over (required_after known event.kind)
    (logs_after logs event.kind) (grown_after known logs grown event.kind) events
