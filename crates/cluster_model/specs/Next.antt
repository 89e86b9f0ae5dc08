-- What happens in a step.
use Rattle.std.specs.Prelude.{ℕ, ◌+◌, ◌-◌, ◌^◌, if◌then◌else◌, true, false, List, [], ◌∷◌, Option, Some, None, option_and_then, option_map, slice_get, zero, suc}
use Rattle.std.specs.Map.{keys_of}
use Rattle.pat_base.specs.declared.member_id.MemberId.{MemberId}
use Rattle.pg_model.specs.declared.answers.Streamed.{Streamed}
use Rattle.pg_model.specs.declared.answers.Streamed.TheVariants as streams
use Rattle.pg_cluster.specs.Servers.{entry_for, news_at}
use Rattle.event_book.specs.declared.agent_process.AgentProcess.{AgentProcess}
use Rattle.event_book.specs.declared.event.Event.{Event}
use Rattle.event_book.specs.declared.event.EventKind.{EventKind}
use Rattle.event_book.specs.declared.event.EventKind.TheVariants as kinds
use Rattle.event_book.specs.declared.event.LogEvent.TheVariants as logs
use Rattle.event_book.specs.declared.event.Note.TheVariants.{CtlLine}
use Rattle.event_book.specs.declared.event.ServerEvent.TheVariants as servers
use Rattle.event_book.specs.declared.member.Member.{Member}
use Rattle.event_book.specs.Flight.{in_flight}
use Rattle.event_book.specs.Members.{server_of}
use Rattle.script_model.specs.declared.line.Command.{Command}
use Rattle.script_model.specs.declared.line.Command.TheVariants as commands
use Rattle.rest_message.specs.Requests.{RequestText}
use Rattle.patronictl.specs.Answers.{CtlTold, Prints, Asks, ctl_answer}
use Rattle.cluster_model.specs.declared.asker.Asker.TheVariants as askers
use Rattle.cluster_model.specs.declared.step.Step.{Step}
use Rattle.cluster_model.specs.declared.step.Step.TheVariants as steps
use Rattle.cluster_model.specs.Acknowledging.{acknowledge_kinds}
use Rattle.cluster_model.specs.Commands.{kinds_of, suspend_of, resume_of, kill_of, agent_started, disarm_at_start, link_of, cut_of, join_of}
use Rattle.cluster_model.specs.Hearing.{snapshot_at}
use Rattle.cluster_model.specs.Limits.{most_rounds}
use Rattle.cluster_model.specs.Machines.{machine_of}
use Rattle.cluster_model.specs.Messages.{wake_events, turn_events, request_events, visit_events, message_events, deliver_events, lose_events}
use Rattle.cluster_model.specs.Parts.{event_of, events_of, events_then, for_some, each, is_empty}
use Rattle.cluster_model.specs.Requests.{asked_in_words}
use Rattle.cluster_model.specs.ServerCommands.{promote_kinds, crash_of, freezing_of, slow_of, commit_of}
use Rattle.cluster_model.specs.State.{Cluster}
use Rattle.cluster_model.specs.Streaming.{source_of, confirm_of, unconfirmed_end}
use Rattle.cluster_model.specs.Ticking.{tick_events}

-- each due agent is woken, in script order, and then each message that
-- is in flight at that point moves, in the order of numbers
abbrev pub round_events : Cluster → List Event
round_events cluster = events_then cluster (each wake_events cluster cluster.facts.members)
    (λ later. each message_events later (keys_of later.facts.flight))

-- at most so many rounds; a round in which nothing happens is the last
unfoldable pub rounds_events : Cluster → ℕ → List Event
rounds_events cluster zero = []
rounds_events cluster (suc count) = if is_empty (round_events cluster) then []
    else events_then cluster (round_events cluster) (λ later. rounds_events later count)

-- a replica confirms what it has, where that isn't known
abbrev pub confirm_events : Cluster → Member → Member → List Event
confirm_events cluster member from = events_of cluster
    (kinds_of (confirm_of member from
    (unconfirmed_end member (slice_get cluster.facts.servers member.id.number)
    (slice_get cluster.facts.servers from.id.number))))

-- the server of a member receives from that of another one what is new
-- to it, and confirms; or finds that its log diverged
abbrev pub receive_events : Cluster → Member → Member → Option Streamed → List Event
receive_events cluster member from None = confirm_events cluster member from
receive_events cluster member from (Some streams.NotConnected) = []
receive_events cluster member from (Some (streams.Diverged at)) =
    event_of cluster (kinds.Server (servers.Diverged (server_of member) (server_of from) at))
receive_events cluster member from (Some (streams.Received count)) =
    events_then cluster (event_of cluster (kinds.Log (logs.Received (server_of member) (server_of from) count)))
    (λ later. confirm_events later member from)

-- the server of a member receives at most so many entries
abbrev pub receive_events_at_most : Cluster → ℕ → Member → List Event
receive_events_at_most cluster most member =
    for_some (source_of cluster.facts.members cluster.facts.servers cluster.facts.cuts member)
    (λ from. receive_events cluster member from (news_at cluster.facts.servers member.id.number from.id.number most))

-- more entries than a log has
abbrev pub all_entries : ℕ
all_entries = 2 ^ 64 - 1

-- the server of a member receives all, unless it is frozen
abbrev pub receive_events_of : Cluster → Member → List Event
receive_events_of cluster member = for_some (slice_get cluster.facts.frozen member.id.number)
    (λ frozen. if frozen then [] else receive_events_at_most cluster all_entries member)

-- the commits of the server of a member are acknowledged, as far as they may be
abbrev pub acknowledge_events : Cluster → Member → List Event
acknowledge_events cluster member = events_of cluster
    (acknowledge_kinds cluster.facts.servers cluster.facts.members member
    (slice_get cluster.facts.servers member.id.number))

-- a replica is promoted by its operator, and begins on the next timeline
abbrev pub promote_events : Cluster → Member → List Event
promote_events cluster member = for_some (slice_get cluster.facts.servers member.id.number)
    (λ s. events_of cluster (promote_kinds member cluster.facts.acknowledged s))

-- the declared member of this number
abbrev pub declared : Cluster → MemberId → Option Member
declared cluster id = slice_get cluster.facts.members id.number

-- what becomes of the agent of the declared member of this number, by its process
abbrev pub process_kind : (Member → AgentProcess → Option EventKind) → Cluster → MemberId → Option EventKind
process_kind change cluster id = option_and_then
    (λ m. option_and_then (change m) (slice_get cluster.facts.processes m.id.number)) (declared cluster id)

-- what a command comes to that brings one event at most
abbrev pub command_kind : Cluster → Command → Option EventKind
command_kind cluster (commands.Suspend id) = process_kind suspend_of cluster id
command_kind cluster (commands.Resume id) = process_kind resume_of cluster id
command_kind cluster (commands.Kill id) = process_kind kill_of cluster id
command_kind cluster (commands.Crash id) = option_and_then
    (λ m. option_and_then (crash_of m) (slice_get cluster.facts.servers m.id.number)) (declared cluster id)
command_kind cluster (commands.Commit id size) =
    option_map (λ m. commit_of m (entry_for cluster.facts.servers m.id.number (cluster.facts.commits + 1) size.bytes))
    (declared cluster id)
command_kind cluster (commands.Freeze id) = option_and_then
    (λ m. option_and_then (freezing_of true m) (slice_get cluster.facts.frozen m.id.number)) (declared cluster id)
command_kind cluster (commands.Thaw id) = option_and_then
    (λ m. option_and_then (freezing_of false m) (slice_get cluster.facts.frozen m.id.number)) (declared cluster id)
command_kind cluster (commands.Slow id slowed delay) = option_and_then
    (λ m. option_and_then (slow_of m slowed delay) (slice_get cluster.facts.servers m.id.number)) (declared cluster id)
command_kind cluster (commands.Cut first second) =
    option_and_then (cut_of cluster.facts.cuts) (link_of cluster.facts.members first second)
command_kind cluster (commands.Join first second) =
    option_and_then (join_of cluster.facts.cuts) (link_of cluster.facts.members first second)
command_kind cluster _ = None

-- the agent of a member starts, where it doesn't run
abbrev pub agent_start_events_of : Cluster → Member → AgentProcess → List Event
agent_start_events_of cluster member process = events_of cluster
    (agent_started member process ∷ kinds_of (disarm_at_start member process (machine_of cluster member)))

-- the agent of a member starts, where there is one that doesn't run
abbrev pub agent_start_events : Cluster → Member → List Event
agent_start_events cluster member =
    for_some (slice_get cluster.facts.processes member.id.number) (agent_start_events_of cluster member)

-- a line of a script makes a request of the agent of the declared member of this number
abbrev pub asking_events : Cluster → MemberId → RequestText → List Event
asking_events cluster id asked = for_some (declared cluster id) (request_events cluster askers.Line asked)

-- what patronictl does for these words, by what a read at this moment gives
unfoldable pub ctl_told_at : Cluster → List ℕ → CtlTold
ctl_told_at cluster said = ctl_answer (snapshot_at cluster) said

-- patronictl prints a line
abbrev pub ctl_line_events : Cluster → List ℕ → List Event
ctl_line_events cluster line = event_of cluster (kinds.Note (CtlLine line))

-- patronictl prints lines, or makes a request as a line of a script does
abbrev pub ctl_events : Cluster → CtlTold → List Event
ctl_events cluster (Prints lines) = each ctl_line_events cluster lines
ctl_events cluster (Asks id asked) = asking_events cluster id asked

-- the events of a command
abbrev pub command_events : Cluster → Command → List Event
command_events cluster (commands.Turn id) = for_some (declared cluster id) (turn_events cluster)
command_events cluster (commands.Deliver number) = deliver_events cluster number (in_flight cluster.facts.flight number)
command_events cluster (commands.Lose number) = lose_events cluster number (in_flight cluster.facts.flight number)
command_events cluster (commands.StartAgent id) = for_some (declared cluster id) (agent_start_events cluster)
command_events cluster (commands.Promote id) = for_some (declared cluster id) (promote_events cluster)
command_events cluster (commands.Rest id request) = asking_events cluster id (asked_in_words request)
command_events cluster (commands.Ctl said) = ctl_events cluster (ctl_told_at cluster said)
command_events cluster (commands.Stream id most) = for_some (declared cluster id) (receive_events_at_most cluster most)
command_events cluster command = events_of cluster (kinds_of (command_kind cluster command))

-- a tick of the default schedule: replicas receive, in script order, and then agents are woken and messages come
abbrev pub scheduled_events : Cluster → List Event
scheduled_events cluster = events_then cluster (each receive_events_of cluster cluster.facts.members)
    (λ later. rounds_events later most_rounds)

-- what happens in a step, before the acknowledgements
abbrev pub step_events : Cluster → Step → List Event
step_events cluster steps.Scheduled = events_then cluster (tick_events cluster) scheduled_events
step_events cluster steps.Tick = tick_events cluster
step_events cluster (steps.Command command) = command_events cluster command
step_events cluster (steps.Connection id visit) = for_some (declared cluster id) (visit_events cluster visit)

-- the events of a step; after each the commits that may be are acknowledged
abbrev pub next_events : Cluster → Step → List Event
next_events cluster step =
    events_then cluster (step_events cluster step) (λ later. each acknowledge_events later later.facts.members)

-- the events of these steps, one after another
abbrev pub run_events : Cluster → List Step → List Event
run_events cluster [] = []
run_events cluster (step ∷ more) = events_then cluster (next_events cluster step) (λ later. run_events later more)
