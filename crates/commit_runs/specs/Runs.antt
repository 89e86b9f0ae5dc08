-- Runs in synchronous mode that keep commits, and the order of required lists and sync key.
use Rattle.std.specs.Prelude.{ℕ, ◌≡◌, true, List, slice_get}
use Rattle.script_model.specs.Script.{HeadText, names_of}
use Rattle.event_book.specs.declared.event.Event.{Event}
use Rattle.event_book.specs.Facts.{Facts, start_of}
use Rattle.event_book.specs.Kept.{KeepsCommits}
use Rattle.event_book.specs.Logs.{Logs, logs_in}
use Rattle.cluster_model.specs.Cluster.{cluster_over}
use Rattle.cluster_model.specs.Starting.{cluster_of}
use Rattle.lease_parts.specs.Kept.{WhereMet}
use Rattle.summary_model.specs.Claims.{KeepMode}
use Rattle.commit_parts.specs.Ordered.{noted_by}
use Rattle.sync_order.specs.Order.{KeepsOrder}

-- what there is of a cluster of this head before the first event
abbrev pub start_in : HeadText → Facts
start_in head = start_of head.config (names_of head) head.base

-- the logs that the servers of this head begin with
abbrev pub first_logs : HeadText → Logs
first_logs head = logs_in (start_in head)

-- the log position that a member's agent has noted at the end of a book of this head
abbrev pub noted_in : HeadText → List Event → ℕ → ℕ
noted_in head book member = noted_by (slice_get (cluster_over (cluster_of head) book).agents member)

-- where the head has synchronous mode on, this is so of each front of the
-- book that meets the premises of one writer and in which the mode stays on
abbrev pub InSynchronousMode : HeadText → List Event → (List Event → Type 0) → Type 0
InSynchronousMode head book claim =
    head.config.config.synchronous_mode ≡ true → WhereMet head book (λ front. KeepMode true front → claim front)

-- at its end each server that accepts writes has each acknowledged commit
abbrev pub KeepsCommitsIn : HeadText → List Event → Type 0
KeepsCommitsIn head book = InSynchronousMode head book (KeepsCommits (first_logs head))

-- required lists and sync key are in order at its end, and were at each of its events
abbrev pub KeepsOrderIn : HeadText → List Event → Type 0
KeepsOrderIn head book = InSynchronousMode head book (KeepsOrder (start_in head) (noted_in head))
