-- Acknowledged commits that a server lacks which accepts writes.
use Rattle.std.specs.Prelude.{ℕ, ◌&&◌, not, Bool, true, false, List, [], ◌∷◌, ◌++◌, Option, Some, None, slice_get}
use Rattle.pat_base.specs.ServerState.{writes}
use Rattle.wal_model.specs.declared.entry.Entry.{Entry}
use Rattle.pg_model.specs.Facts.{ServerFacts, entries_of}
use Rattle.event_book.specs.declared.event.EventKind.{EventKind}
use Rattle.event_book.specs.declared.event.EventKind.TheVariants as kinds
use Rattle.event_book.specs.declared.event.ReplicationEvent.TheVariants as replications
use Rattle.event_book.specs.declared.event.ServerEvent.TheVariants as servers
use Rattle.event_book.specs.declared.member.Member.{Member}
use Rattle.event_book.specs.Members.{server_of}
use Rattle.wal_model.specs.Lacking.{has_serial, lacks_in}
use Rattle.cluster_model.specs.Commands.{kinds_of}

-- that the server of a member lacks an acknowledged commit is told, where the test says it
abbrev pub loss_if : Member → Bool → Option EventKind
loss_if member true = Some (kinds.Replication (replications.Lacks (server_of member)))
loss_if member false = None

-- a server of this log begins to accept writes on this timeline, and lacks one of these commits, or doesn't
abbrev pub beginning_kinds : Member → ℕ → List ℕ → Option (List Entry) → List EventKind
beginning_kinds member timeline acknowledged log = kinds.Server (servers.Began (server_of member) timeline)
    ∷ kinds_of (loss_if member (lacks_in (entries_of log) acknowledged))

-- a server that accepts writes lacks this commit
abbrev pub is_lacking : ℕ → ServerFacts → Bool
is_lacking commit s = writes s.state && not (has_serial (entries_of s.log) commit)

-- that is told, where there is such a server
abbrev pub loss_of : ℕ → Member → Option ServerFacts → List EventKind
loss_of commit member None = []
loss_of commit member (Some s) = kinds_of (loss_if member (is_lacking commit s))

-- it is told of each server of these members
abbrev pub losses_of : ℕ → List ServerFacts → List Member → List EventKind
losses_of commit known [] = []
losses_of commit known (member ∷ members) =
    loss_of commit member (slice_get known member.id.number) ++ losses_of commit known members
