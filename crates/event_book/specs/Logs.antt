-- The logs of servers, from the book alone.
use Rattle.std.specs.Prelude.{ℕ, List, [], ◌∷◌, ◌++◌, Option, Some, None, option_map, map, slice_get, take}
use Rattle.pat_base.specs.Changes.{with_changed}
use Rattle.wal_model.specs.declared.entry.Entry.{Entry}
use Rattle.wal_model.specs.Log.{received}
use Rattle.pg_model.specs.Facts.{ServerFacts, entries_of}
use Rattle.event_book.specs.declared.event.Event.{Event}
use Rattle.event_book.specs.declared.event.EventKind.{EventKind}
use Rattle.event_book.specs.declared.event.EventKind.TheVariants as kinds
use Rattle.event_book.specs.declared.event.LogEvent.{LogEvent}
use Rattle.event_book.specs.declared.event.LogEvent.TheVariants as logs
use Rattle.event_book.specs.Facts.{Facts}
use Rattle.event_book.specs.Remote.{remote_changed, server_at}

-- what there is of the logs of members' servers, by number; a server that was wiped has none
abbrev pub MemberLogs : Type 0
MemberLogs = List (Option (List Entry))

-- the logs of members' servers, and beside them the remote's, if there is one
pub record Logs : Type 0 where
  pub members : MemberLogs
  pub remote : Option (Option (List Entry))

-- none of anybody
abbrev pub no_logs : Logs
no_logs = record { members = []; remote = None }

-- the logs of these servers
abbrev pub logs_of : List ServerFacts → Option ServerFacts → Logs
logs_of servers remote = record { members = map (λ s. s.log) servers; remote = option_map (λ s. s.log) remote }

-- the logs that a book leaves
abbrev pub logs_in : Facts → Logs
logs_in facts = logs_of facts.servers facts.remote

-- the log of the server of this number, if there is one
abbrev pub log_at : Logs → ℕ → Option (Option (List Entry))
log_at known number = server_at known.members known.remote number

-- a log with one more entry at its end
abbrev pub log_with : Entry → Option (List Entry) → Option (List Entry)
log_with entry log = Some (entries_of log ++ entry ∷ [])

-- the logs after the next entries of another server's log came to the
-- end of one; without such a server all are as before
abbrev pub log_received : MemberLogs → ℕ → ℕ → Option (Option (List Entry)) → MemberLogs
log_received known number count None = known
log_received known number count (Some theirs) =
    with_changed known number (λ log. Some (received (entries_of log) (entries_of theirs) count))

-- the logs after one became a copy of another server's; without such a server all are as before
abbrev pub log_copied : MemberLogs → ℕ → Option (Option (List Entry)) → MemberLogs
log_copied known number None = known
log_copied known number (Some theirs) = with_changed known number (λ log. theirs)

-- the logs of members' servers after what happens to one: a commit stands at its end; the next entries of another
-- log do, as that one is at that moment; it keeps so many entries; it is a copy of another one; it is gone
abbrev pub member_logs_by : Logs → LogEvent → MemberLogs
member_logs_by known (logs.Appended server entry) = with_changed known.members server.id.number (log_with entry)
member_logs_by known (logs.Received server from count) =
    log_received known.members server.id.number count (log_at known from.id.number)
member_logs_by known (logs.Rewound server from kept at) =
    with_changed known.members server.id.number (λ log. Some (take kept (entries_of log)))
member_logs_by known (logs.Copied server from) =
    log_copied known.members server.id.number (log_at known from.id.number)
member_logs_by known (logs.Wiped server) = with_changed known.members server.id.number (λ log. None)

-- the remote's log after what happens to a log
abbrev pub remote_log_by : Option (Option (List Entry)) → LogEvent → Option (Option (List Entry))
remote_log_by remote (logs.Appended server entry) = remote_changed remote server.id.number (log_with entry)
remote_log_by remote _ = remote

-- the logs after what happens to one
abbrev pub logs_by : Logs → LogEvent → Logs
logs_by known happening =
    record { members = member_logs_by known happening; remote = remote_log_by known.remote happening }

-- the logs after an event
abbrev pub logs_after : Logs → EventKind → Logs
logs_after known (kinds.Log happening) = logs_by known happening
logs_after known _ = known

-- the logs at the end of a book that began with these
abbrev pub logs_over : Logs → List Event → Logs
logs_over known [] = known
logs_over known (event ∷ events) = logs_over (logs_after known event.kind) events

-- the entries of a log, none where there is no such server or it has no log
abbrev pub entries_found : Option (Option (List Entry)) → List Entry
entries_found None = []
entries_found (Some log) = entries_of log

-- the entries of the log of the member's server of this number
abbrev pub entries_at : Logs → ℕ → List Entry
entries_at known server = entries_found (slice_get known.members server)
