-- Servers that begin to accept writes, and what they lack.
use Rattle.std.specs.Prelude.{ℕ, ◌+◌, if◌then◌else◌, List, ◌∷◌, Option, Some, None, option_and_then, slice_get}
use Rattle.pg_model.specs.Facts.{ServerFacts, entries_of, is_replica}
use Rattle.event_book.specs.declared.event.Event.{Event}
use Rattle.event_book.specs.declared.event.EventKind.{EventKind}
use Rattle.event_book.specs.declared.event.EventKind.TheVariants as kinds
use Rattle.event_book.specs.declared.event.ServerEvent.TheVariants as servers
use Rattle.event_book.specs.declared.member.Member.{Member}
use Rattle.event_book.specs.Members.{server_of}
use Rattle.wal_model.specs.Lacking.{lacks_in}
use Rattle.cluster_model.specs.Commands.{kinds_of}
use Rattle.cluster_model.specs.Losing.{is_lacking, loss_if}
use Rattle.cluster_model.specs.Parts.{events_of}
use Rattle.cluster_model.specs.State.{Cluster}

-- a replica may be promoted, to the next timeline
abbrev pub promoted_timeline : ServerFacts → Option ℕ
promoted_timeline s = if is_replica s.state then Some (s.timeline + 1) else None

-- that a server lacks one of these commits is told
abbrev pub loss_of_any : List ℕ → Member → ServerFacts → Option EventKind
loss_of_any commits member s = loss_if member (lacks_in (entries_of s.log) commits)

-- that one that accepts writes lacks this commit is told
abbrev pub loss_at : ℕ → Member → ServerFacts → Option EventKind
loss_at commit member s = loss_if member (is_lacking commit s)

-- the server of a member begins on this timeline, and then it may be told that it lacks an acknowledged commit
abbrev pub beginning_at : Cluster → Member → ℕ → List Event
beginning_at cluster member timeline =
    events_of cluster
    (kinds.Server (servers.Began (server_of member) timeline)
    ∷ kinds_of (option_and_then (loss_of_any cluster.facts.acknowledged member)
    (slice_get cluster.facts.servers member.id.number)))
