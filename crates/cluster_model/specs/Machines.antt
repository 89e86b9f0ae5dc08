-- The machines of members, as their agents find them.
use Rattle.std.specs.Prelude.{ℕ, ◌==◌, Bool, false, is_some, if◌then◌else◌, List, [], Option, Some, None, option_map, map, replicate, slice_get, slice_index_or, length}
use Rattle.std.specs.List.{range_with_len}
use Rattle.pat_base.specs.declared.lsn.Lsn.{Lsn}
use Rattle.pat_base.specs.ServerState.{writes}
use Rattle.event_book.specs.Links.{CutLinks}
use Rattle.agent_model.specs.declared.machine.Replication.{Replication}
use Rattle.pat_base.specs.declared.host.Host.{Host}
use Rattle.pat_base.specs.declared.name.Name.{Name}
use Rattle.pat_base.specs.declared.ticks.Ticks.{Ticks}
use Rattle.member_options.specs.Options.{margin_span, unsaid_options}
use Rattle.member_options.specs.declared.member_option.MemberOptions.{MemberOptions}
use Rattle.wal_model.specs.declared.entry.HistoryPoint.{HistoryPoint}
use Rattle.pg_model.specs.Facts.{ServerFacts}
use Rattle.pg_model.specs.Status.{status_of}
use Rattle.event_book.specs.declared.member.Member.{Member}
use Rattle.leader_key.specs.Watchdog.{WatchdogFacts}
use Rattle.agent_model.specs.declared.machine.Machine.{Machine}
use Rattle.agent_model.specs.declared.who.Who.{Who}
use Rattle.cluster_model.specs.FailsafeDeadlines.{is_set_by_failsafe}
use Rattle.cluster_model.specs.State.{Cluster}
use Rattle.cluster_model.specs.Streaming.{source_of}
use Rattle.pat_base.specs.declared.member_id.TheConstants.{MOST_MEMBERS}

-- the watchdog of a member with these options and this deadline
abbrev pub watchdog_of : MemberOptions → Option Ticks → WatchdogFacts
watchdog_of options deadline = record {
  mode = options.watchdog;
  works = options.device_works;
  margin = margin_span options.margin;
  deadline = deadline;
}

-- this member is the one from which another one receives, if there is such a one
abbrev pub is_source : Member → Option Member → Bool
is_source member None = false
is_source member (Some from) = from.id.number == member.id.number

-- the server of the member of this number is connected to that of this one: it receives from it
abbrev pub is_connected : List Member → List ServerFacts → CutLinks → Member → Option Member → Bool
is_connected members servers cuts member None = false
is_connected members servers cuts member (Some other) = is_source member (source_of members servers cuts other)

-- how far the member of this number has confirmed, where it is connected
abbrev pub connected_end : List Member → List ServerFacts → CutLinks → Member → List (Option Lsn) → ℕ → Option Lsn
connected_end members servers cuts member confirmed number =
    if is_connected members servers cuts member (slice_get members number)
    then slice_index_or confirmed number None else None

-- by member number, how far each connected member has confirmed, where members confirmed these positions
unfoldable pub connected_ends : List Member → List ServerFacts → CutLinks → Member → List (Option Lsn)
    → List (Option Lsn)
connected_ends members servers cuts member confirmed =
    map (connected_end members servers cuts member confirmed) (range_with_len 0 MOST_MEMBERS)

-- nobody has confirmed a position, by member number
abbrev pub nothing_confirmed : List (Option Lsn)
nothing_confirmed = replicate MOST_MEMBERS None

-- synchronous replication on this server of a member: whom its commits wait for, and how far
-- each connected member has confirmed. To a server that accepts no writes nobody is connected
abbrev pub replication_of : List Member → List ServerFacts → CutLinks → Member → ServerFacts → Replication
replication_of members servers cuts member s = record {
  required = s.required;
  confirmed_positions =
      if writes s.state then connected_ends members servers cuts member s.confirmed else nothing_confirmed;
}

-- a machine of these parts; its server receives, or not, and acknowledgements set the deadline last, or not
abbrev pub machine_from : Bool → Bool → Option Replication → Option MemberOptions → Option (Option Ticks)
    → Option (Option Ticks) → Option ServerFacts → Option Machine
machine_from receives by_failsafe (Some replication) (Some options) (Some deadline) (Some hold) (Some s) =
    Some (record {
      server = record (status_of s) { receives = receives };
      replication = replication;
      watchdog = watchdog_of options deadline;
      by_failsafe = by_failsafe;
      hold = hold;
    })
machine_from receives by_failsafe _ _ _ _ _ = None

-- the machine of a member. A replica receives where its upstream accepts
-- writes, the link to that is joined, and its log didn't diverge
abbrev pub machine_of : Cluster → Member → Option Machine
machine_of cluster member =
    machine_from (is_some (source_of cluster.facts.members cluster.facts.servers cluster.facts.cuts member))
    (is_set_by_failsafe (slice_get cluster.failsafe_deadlines member.id.number))
    (option_map (replication_of cluster.facts.members cluster.facts.servers cluster.facts.cuts member)
    (slice_get cluster.facts.servers member.id.number))
    (slice_get cluster.options member.id.number) (slice_get cluster.facts.deadlines member.id.number)
    (slice_get cluster.facts.holds member.id.number) (slice_get cluster.facts.servers member.id.number)

-- the history of a server, none where there is no server
abbrev pub points_from : Option ServerFacts → List HistoryPoint
points_from None = []
points_from (Some s) = s.history

-- the history of a member's server
abbrev pub points_of : Cluster → Member → List HistoryPoint
points_of cluster member = points_from (slice_get cluster.facts.servers member.id.number)

-- these options, or those of a line without any
abbrev pub options_or_unsaid : Option MemberOptions → MemberOptions
options_or_unsaid None = unsaid_options
options_or_unsaid (Some options) = options

-- what is declared of a member beside its name
abbrev pub declared_options : List MemberOptions → Member → MemberOptions
declared_options options member = options_or_unsaid (slice_get options member.id.number)

-- whose agent that of this member is, in a cluster of this name with these members, of whom these options are declared
abbrev pub who_of : Name → List MemberOptions → List Member → Member → Who
who_of scope options members member = record {
  me = member.id;
  members = length members;
  scope = scope;
  name = member.name;
  host = (declared_options options member).host;
  tags = (declared_options options member).tags;
}

-- where members are reached, as snapshots tell agents
abbrev pub hosts_of : List MemberOptions → List Member → List (Name × Host)
hosts_of options members = map (λ (member : Member). (member.name, (declared_options options member).host)) members
