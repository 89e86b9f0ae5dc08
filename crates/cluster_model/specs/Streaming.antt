-- From whom a server receives, and what it confirms.
use Rattle.std.specs.Prelude.{◌==◌, ◌&&◌, not, Bool, false, if◌then◌else◌, List, Option, Some, None, slice_get, slice_index_or}
use Rattle.pat_base.specs.declared.lsn.Lsn.{Lsn}
use Rattle.pat_base.specs.declared.server_id.ServerId.{ServerId}
use Rattle.pat_base.specs.Lsn.{lsn_at}
use Rattle.pat_base.specs.ServerState.{writes}
use Rattle.wal_model.specs.declared.entry.Entry.{Entry}
use Rattle.wal_model.specs.Log.{end_of}
use Rattle.pg_model.specs.Facts.{ServerFacts, is_replica}
use Rattle.event_book.specs.declared.event.EventKind.{EventKind}
use Rattle.event_book.specs.declared.event.EventKind.TheVariants as kinds
use Rattle.event_book.specs.declared.event.ReplicationEvent.TheVariants as replications
use Rattle.event_book.specs.declared.link.Link.{Link}
use Rattle.event_book.specs.declared.link.LinkEnd.TheVariants as link_ends
use Rattle.event_book.specs.declared.member.Member.{Member}
use Rattle.event_book.specs.Links.{CutLinks, is_cut}
use Rattle.event_book.specs.Members.{server_of}

-- the link between two members
abbrev pub link_of_members : Member → Member → Link
link_of_members member other = record { first = link_ends.Member member; second = link_ends.Member other }

-- the member of the upstream, where that accepts writes and the link to it is joined
abbrev pub source_at : CutLinks → Member → Option Member → Option ServerFacts → Option Member
source_at cuts member None upstream = None
source_at cuts member (Some from) None = None
source_at cuts member (Some from) (Some upstream) =
    if writes upstream.state && not (is_cut cuts (link_of_members member from)) then Some from else None

-- the member of this upstream, where that accepts writes and the link to it is joined
abbrev pub source_named : List Member → List ServerFacts → CutLinks → Member → Option ServerId → Option Member
source_named members servers cuts member None = None
source_named members servers cuts member (Some id) =
    source_at cuts member (slice_get members id.number) (slice_get servers id.number)

-- the member from whose server this one receives, if it is a replica whose log didn't diverge
abbrev pub source_for : List Member → List ServerFacts → CutLinks → Member → Option ServerFacts → Option Member
source_for members servers cuts member None = None
source_for members servers cuts member (Some s) =
    if is_replica s.state && not s.diverged then source_named members servers cuts member s.upstream else None

-- the member from whose server that of this member receives: it is a replica whose log
-- didn't diverge, its upstream accepts writes, and the link between the two is joined
abbrev pub source_of : List Member → List ServerFacts → CutLinks → Member → Option Member
source_of members servers cuts member = source_for members servers cuts member (slice_get servers member.id.number)

-- whether this end of a log is what was confirmed
abbrev pub is_confirmed : Lsn → Option Lsn → Bool
is_confirmed end None = false
is_confirmed end (Some confirmed) = confirmed.position == end.position

-- this end of a log, where it isn't what was confirmed
abbrev pub unless_confirmed : Lsn → Option Lsn → Option Lsn
unless_confirmed end confirmed = if is_confirmed end confirmed then None else Some end

-- the end of this log, where there is one and its end isn't what was confirmed
abbrev pub end_unless_confirmed : Option (List Entry) → Option Lsn → Option Lsn
end_unless_confirmed None confirmed = None
end_unless_confirmed (Some log) confirmed = unless_confirmed (lsn_at (end_of log)) confirmed

-- the end of a server's log, where it isn't what this member confirmed to its upstream
abbrev pub unconfirmed_end : Member → Option ServerFacts → Option ServerFacts → Option Lsn
unconfirmed_end member None upstream = None
unconfirmed_end member (Some s) None = None
unconfirmed_end member (Some s) (Some upstream) =
    end_unless_confirmed s.log (slice_index_or upstream.confirmed member.id.number None)

-- a replica confirms that its log ends there
abbrev pub confirm_of : Member → Member → Option Lsn → Option EventKind
confirm_of member from None = None
confirm_of member from (Some end) = Some (kinds.Replication (replications.Confirmed (server_of from) member end))
