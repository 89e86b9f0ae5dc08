-- Commands of a script keep the law, but for those by which agents act and messages come.
use Rattle.std.proofs.Common.{◌≡◌, ◌+◌, ◌<◌, Bool, true, false, cond, List, [], ◌∷◌, length, slice_get, Option, Some, None, option_and_then, refl, ◌≤◌}
use Rattle.pat_base.specs.declared.member_id.MemberId.{MemberId}
use Rattle.wal_model.specs.declared.entry.Entry.{Entry}
use Rattle.pg_model.specs.Facts.{ServerFacts, is_replica}
use Rattle.pg_cluster.specs.Servers.{entry_for}
use Rattle.event_book.specs.declared.agent_process.AgentProcess.{AgentProcess}
use Rattle.event_book.specs.declared.event.AgentEvent.TheVariants as agents
use Rattle.event_book.specs.declared.event.Event.{Event}
use Rattle.event_book.specs.declared.event.EventKind.{EventKind}
use Rattle.event_book.specs.declared.event.EventKind.TheVariants as kinds
use Rattle.event_book.specs.declared.event.ServerEvent.TheVariants as servers
use Rattle.event_book.specs.declared.member.Member.{Member}
use Rattle.event_book.specs.Members.{server_of}
use Rattle.script_model.specs.declared.line.Command.{Command}
use Rattle.script_model.specs.declared.line.Command.TheVariants as commands
use Rattle.cluster_model.specs.Commands.{kill_of, kinds_of}
use Rattle.script_model.specs.Script.{HeadText, names_of}
use Rattle.cluster_model.specs.Next.{command_kind, declared, promote_events, agent_start_events}
use Rattle.cluster_model.specs.Parts.{event_of, events_of, for_some}
use Rattle.cluster_model.specs.ServerCommands.{commit_of, crash_of, is_gone}
use Rattle.cluster_model.specs.State.{Cluster}
use Rattle.cluster_model.proofs.Commanding.{EndsNothing, HoldsOfCommands, command-holds}
use Rattle.lease_parts.specs.Asides.{IsQuiet}
use Rattle.lease_parts.specs.Bridged.{Bridged}
use Rattle.run_promise.specs.Members.{member_count}
use Rattle.lease_parts.specs.Kept.{IsKept}
use Rattle.lease_parts.proofs.Composing.{kept-for_some, kept-none, kept-then}
use Rattle.lease_parts.proofs.Ending.{kept-crash, kept-kill}
use Rattle.run_promise.proofs.Members.{declared-now, declared-within}
use Rattle.lease_parts.proofs.Promoting.{kept-breach}
use Rattle.lease_parts.proofs.Starting.{kept-restart}
use Rattle.lease_parts.proofs.Streams.{IsQuietIf, kept-quiet-if}
use Rattle.pat_base.specs.declared.member_id.TheConstants.{MOST_MEMBERS}

commit-quiet : (member : Member) (entry : Option Entry) → IsQuiet (commit_of member entry)
commit-quiet member None = tt
commit-quiet member (Some entry) = tt

commands-quiet : (cluster : Cluster) → HoldsOfCommands IsQuiet cluster
commands-quiet cluster = record {
  suspended = λ m. tt;
  resumed = λ m. tt;
  committed =
      λ m bytes least. commit-quiet m (entry_for cluster.facts.servers m.id.number (cluster.facts.commits + 1) bytes);
  frozen = λ m. tt;
  thawed = λ m. tt;
  slowed = λ m stop start. tt;
  links = λ change. tt;
}

pub command-quiet : (cluster : Cluster) (command : Command) → EndsNothing command
    → IsQuietIf (command_kind cluster command)
command-quiet cluster command is = command-holds IsQuiet cluster (commands-quiet cluster) command is

-- ---- commands that bring one event at most
pub kept-quiet-command : (head : HeadText) (book : List Event) (cluster : Cluster) (command : Command)
    → EndsNothing command → Bridged head book cluster
    → IsKept head book cluster (events_of cluster (kinds_of (command_kind cluster command)))
kept-quiet-command head book cluster command is good =
    kept-quiet-if head (command_kind cluster command) (command-quiet cluster command is) book cluster good

kill-by : (head : HeadText) (book : List Event) (cluster : Cluster) (m : Member) (running : Bool)
    → m.id.number < member_count head → Bridged head book cluster
    → IsKept head book cluster (events_of cluster (kinds_of (cond running (Some (kinds.Agent (agents.Killed m))) None)))
kill-by head book cluster m true small good =
    kept-then head book cluster (event_of cluster (kinds.Agent (agents.Killed m))) []
    (kept-kill head book cluster m small good) (λ later. kept-none head _ _ later)
kill-by head book cluster m false small good = kept-none head book cluster good

kill-found : (head : HeadText) (book : List Event) (cluster : Cluster) (m : Member) (process : Option AgentProcess)
    → m.id.number < member_count head → Bridged head book cluster
    → IsKept head book cluster (events_of cluster (kinds_of (option_and_then (kill_of m) process)))
kill-found head book cluster m None small good = kept-none head book cluster good
kill-found head book cluster m (Some process) small good = kill-by head book cluster m process.running small good

kill-declared : (head : HeadText) (book : List Event) (cluster : Cluster) (found : Option Member)
    → ((m : Member) → found ≡ Some m → m.id.number < member_count head) → Bridged head book cluster
    → IsKept head book cluster
    (events_of cluster
    (kinds_of (option_and_then (λ m. option_and_then (kill_of m) (slice_get cluster.facts.processes m.id.number))
    found)))
kill-declared head book cluster None small good = kept-none head book cluster good
kill-declared head book cluster (Some m) small good =
    kill-found head book cluster m (slice_get cluster.facts.processes m.id.number) (small m refl) good

crash-by : (head : HeadText) (book : List Event) (cluster : Cluster) (m : Member) (gone : Bool)
    → Bridged head book cluster
    → IsKept head book cluster
    (events_of cluster (kinds_of (cond gone None (Some (kinds.Server (servers.Crashed (server_of m)))))))
crash-by head book cluster m true good = kept-none head book cluster good
crash-by head book cluster m false good =
    kept-then head book cluster (event_of cluster (kinds.Server (servers.Crashed (server_of m)))) []
    (kept-crash head book cluster (server_of m) good) (λ later. kept-none head _ _ later)

crash-found : (head : HeadText) (book : List Event) (cluster : Cluster) (m : Member) (s : Option ServerFacts)
    → Bridged head book cluster
    → IsKept head book cluster (events_of cluster (kinds_of (option_and_then (crash_of m) s)))
crash-found head book cluster m None good = kept-none head book cluster good
crash-found head book cluster m (Some s) good = crash-by head book cluster m (is_gone s.state) good

crash-declared : (head : HeadText) (book : List Event) (cluster : Cluster) (found : Option Member)
    → Bridged head book cluster
    → IsKept head book cluster
    (events_of cluster
    (kinds_of (option_and_then (λ m. option_and_then (crash_of m) (slice_get cluster.facts.servers m.id.number))
    found)))
crash-declared head book cluster None good = kept-none head book cluster good
crash-declared head book cluster (Some m) good =
    crash-found head book cluster m (slice_get cluster.facts.servers m.id.number) good

pub kept-command-kind : (head : HeadText) → length (names_of head) ≤ MOST_MEMBERS
    → (book : List Event) (cluster : Cluster) (command : Command) → Bridged head book cluster
    → IsKept head book cluster (events_of cluster (kinds_of (command_kind cluster command)))
kept-command-kind head few book cluster (commands.Kill id) good =
    kill-declared head book cluster (declared cluster id)
    (λ m is. declared-within head few m (declared-now head few cluster good.matched.members id m is)) good
kept-command-kind head few book cluster (commands.Crash id) good =
    crash-declared head book cluster (declared cluster id) good
kept-command-kind head few book cluster command good = kept-quiet-command head book cluster command tt good

-- ---- others
promote-by : (head : HeadText) (book : List Event) (cluster : Cluster) (m : Member) (more : List EventKind)
    (replica : Bool) → Bridged head book cluster
    → IsKept head book cluster
    (events_of cluster (cond replica (kinds.Server (servers.Promoted (server_of m)) ∷ more) []))
promote-by head book cluster m more true good = kept-breach head book cluster _ _ (λ no. no) good
promote-by head book cluster m more false good = kept-none head book cluster good

pub kept-promote : (head : HeadText) (book : List Event) (cluster : Cluster) (m : Member)
    → Bridged head book cluster → IsKept head book cluster (promote_events cluster m)
kept-promote head book cluster m good =
    kept-for_some head book cluster (slice_get cluster.facts.servers m.id.number) _ good
    (λ s is. promote-by head book cluster m _ (is_replica s.state) good)

pub kept-restarts : (head : HeadText) → length (names_of head) ≤ MOST_MEMBERS
    → (book : List Event) (cluster : Cluster) (id : MemberId) → Bridged head book cluster
    → IsKept head book cluster (for_some (declared cluster id) (agent_start_events cluster))
kept-restarts head few book cluster id good =
    kept-for_some head book cluster (declared cluster id) (agent_start_events cluster) good
    (λ m is. kept-restart head book cluster m
    (declared-within head few m (declared-now head few cluster good.matched.members id m is)) good)
