-- The start of an agent keeps the law.
use Rattle.std.proofs.Common.{ℕ, ◌≡◌, ◌<◌, ◌+◌, ◌++◌, Bool, cond, true, false, List, [], ◌∷◌, length, slice_get, Option, Some, None, option_map, refl, ◌∙◌, ap, sym, subst, arith}
use Rattle.std.proofs.Math.ListN.{length-map}
use Rattle.pat_base.specs.declared.ticks.Ticks.{Ticks}
use Rattle.pat_base.specs.ServerState.{live}
use Rattle.pg_model.specs.Facts.{ServerFacts}
use Rattle.script_model.specs.Script.{HeadText}
use Rattle.member_options.specs.declared.member_option.MemberOptions.{MemberOptions}
use Rattle.event_book.specs.declared.agent_process.AgentProcess.{AgentProcess}
use Rattle.event_book.specs.declared.event.AgentEvent.TheVariants as agents
use Rattle.event_book.specs.declared.event.Event.{Event}
use Rattle.event_book.specs.declared.event.EventKind.{EventKind}
use Rattle.event_book.specs.declared.event.EventKind.TheVariants as kinds
use Rattle.event_book.specs.declared.event.Note.TheVariants.{AlreadyRunning}
use Rattle.event_book.specs.declared.event.WatchdogEvent.TheVariants as watchdogs
use Rattle.event_book.specs.declared.member.Member.{Member}
use Rattle.event_book.specs.Processes.{running_in}
use Rattle.event_book.specs.Functions.{put_at}
use Rattle.agent_model.specs.Agents.{AgentFacts}
use Rattle.cluster_model.specs.Cluster.{cluster_after, cluster_over}
use Rattle.cluster_model.specs.Commands.{disarm_of, disarm_if, kinds_of}
use Rattle.cluster_model.specs.Machines.{machine_from, machine_of, replication_of, who_of}
use Rattle.agent_model.specs.declared.machine.Replication.{Replication}
use Rattle.cluster_model.specs.Next.{agent_start_events, agent_start_events_of}
use Rattle.cluster_model.specs.Parts.{event_of, events_of}
use Rattle.cluster_model.specs.Starting.{options_of}
use Rattle.cluster_model.specs.State.{Cluster}
use Rattle.lease_model.specs.Actions.{Start}
use Rattle.lease_model.specs.Claims.{MayBeginBehind}
use Rattle.lease_model.specs.Past.{Past, first_past, past_after, past_of, state_of}
use Rattle.event_book.specs.Kinds.{AllAre}
use Rattle.lease_model.specs.Showing.{IsLocal}
use Rattle.lease_model.specs.States.{State, deadline_if, fresh_agent, start_machine}
use Rattle.lease_parts.specs.Asides.{IsAside}
use Rattle.lease_parts.specs.Bridged.{Bridged, IsMatched}
use Rattle.lease_parts.specs.Declaring.{declared_of}
use Rattle.run_promise.specs.Members.{member_count}
use Rattle.lease_parts.specs.Kept.{IsKept}
use Rattle.lease_parts.specs.Machines.{deadline_in, deadline_now, live_in, live_now, run_in, run_now}
use Rattle.lease_law.proofs.Showing.{past-append}
use Rattle.lease_parts.proofs.Asides.{asides-begin, asides-matched, started-matched}
use Rattle.lease_parts.specs.Volatile.{agent_now, machine_in, volatile_of}
use Rattle.lease_parts.proofs.Actions.{machines-kept}
use Rattle.lease_parts.proofs.Composing.{kept-for_some, kept-none, kept-then}
use Rattle.lease_parts.proofs.Machines.{no-deadline}
use Rattle.lease_parts.proofs.SameMachine.{machine-same, machines-put}
use Rattle.lease_parts.proofs.Fresh.{fresh-seen}
use Rattle.cluster_model.proofs.Places.{get-here, get-elsewhere, there}
use Rattle.lease_parts.proofs.Quiet.{kept-quiet}

-- what a start does to a deadline: an event that removes it, or none where it stays as it is
abbrev IsStartOf : Member → Bool → Option ℕ → Option EventKind → Type 0
IsStartOf member live deadline None = deadline_if live deadline ≡ deadline
IsStartOf member live deadline (Some kind) =
    (kind ≡ kinds.Watchdog (watchdogs.Disarmed member)) × (deadline_if live deadline ≡ None)

fresh-there : (agents : List (Option AgentFacts)) (k incarnation : ℕ) (agent : AgentFacts) → k < length agents
    → agent_now (Some (Some agent)) ≡ Some (fresh_agent incarnation)
    → agent_now (option_map (λ (before : Option AgentFacts). Some agent) (slice_get agents k))
    ≡ Some (fresh_agent incarnation)
fresh-there agents k incarnation agent small fresh = let found = there agents k small in
    ap (λ (o : Option (Option AgentFacts)). agent_now (option_map (λ (before : Option AgentFacts). Some agent) o))
    found.1
    ∙ fresh

started-run : (processes : List AgentProcess) (k incarnation : ℕ) → k < length processes
    → run_now (option_map (λ (process : AgentProcess). running_in incarnation) (slice_get processes k)) ≡ incarnation
started-run processes k incarnation small = let found = there processes k small in
    ap (λ (o : Option AgentProcess). run_now (option_map (λ (process : AgentProcess). running_in incarnation) o))
    found.1

started-machine : (cluster : Cluster) (member : Member) (found : Option EventKind)
    → member.id.number < length cluster.agents → member.id.number < length cluster.facts.processes
    → IsStartOf member (live_in cluster.facts.servers member.id.number)
    (deadline_in cluster.facts.deadlines member.id.number) found
    → (m : ℕ)
    → let incarnation : ℕ = run_in cluster.facts.processes member.id.number + 1 in
    let started : Cluster = cluster_after cluster (kinds.Agent (agents.Started member incarnation)) in
    machine_in (cluster_over cluster
    (event_of cluster (kinds.Agent (agents.Started member incarnation)) ++ events_of started (kinds_of found)))
    m
    ≡ put_at (machine_in cluster) member.id.number (start_machine (machine_in cluster member.id.number)) m
started-machine cluster member None few small is =
    let k : ℕ = member.id.number in
    let incarnation : ℕ = run_in cluster.facts.processes k + 1 in
    machines-put (machine_in cluster)
    (machine_in (cluster_after cluster (kinds.Agent (agents.Started member incarnation)))) k
    (start_machine (machine_in cluster k))
    (machine-same _ _ _ _ _ _ _ _ _ _ _ _ refl (sym is) refl refl
    (ap agent_now (get-here cluster.agents k _) ∙ fresh-there cluster.agents k incarnation _ few (ap Some
    (fresh-seen (who_of cluster.scope cluster.options cluster.facts.members member) cluster.facts.clock incarnation)))
    (ap run_now (get-here cluster.facts.processes k _) ∙ started-run cluster.facts.processes k incarnation small))
    (λ m other.
    machine-same _ _ _ _ _ _ _ _ _ _ _ _ refl refl refl refl (ap agent_now (get-elsewhere cluster.agents k m _ other))
    (ap run_now (get-elsewhere cluster.facts.processes k m _ other)))
started-machine cluster member (Some kind) few small is =
    let k : ℕ = member.id.number in
    let incarnation : ℕ = run_in cluster.facts.processes k + 1 in
    let started : Cluster = cluster_after cluster (kinds.Agent (agents.Started member incarnation)) in
    subst (λ (z : EventKind). (m : ℕ) →
    machine_in (cluster_after started z) m ≡ put_at (machine_in cluster) k (start_machine (machine_in cluster k)) m)
    (sym is.0)
    (machines-put (machine_in cluster) (machine_in (cluster_after started (kinds.Watchdog (watchdogs.Disarmed member))))
    k (start_machine (machine_in cluster k))
    (machine-same _ _ _ _ _ _ _ _ _ _ _ _ refl
    (ap deadline_now (get-here cluster.facts.deadlines k _)
    ∙ no-deadline (slice_get cluster.facts.deadlines k) ∙ sym is.1)
    refl refl
    (ap agent_now (get-here cluster.agents k _) ∙ fresh-there cluster.agents k incarnation _ few (ap Some
    (fresh-seen (who_of cluster.scope cluster.options cluster.facts.members member) cluster.facts.clock incarnation)))
    (ap run_now (get-here cluster.facts.processes k _) ∙ started-run cluster.facts.processes k incarnation small))
    (λ m other. machine-same _ _ _ _ _ _ _ _ _ _ _ _ refl
    (ap deadline_now (get-elsewhere cluster.facts.deadlines k m _ other)) refl refl
    (ap agent_now (get-elsewhere cluster.agents k m _ other))
    (ap run_now (get-elsewhere cluster.facts.processes k m _ other))))

disarms-if : (member : Member) (is_live : Bool) (deadline : Option Ticks)
    → IsStartOf member is_live (deadline_now (Some deadline)) (cond is_live None (disarm_if member deadline))
disarms-if member true deadline = refl
disarms-if member false None = refl
disarms-if member false (Some deadline) = (refl, refl)

abbrev IsThere : {A : Type 0} → Option A → Type 0
IsThere None = ⊥
IsThere (Some x) = Unit {0}

there-too : {A B : Type 0} (f : A → B) (found : Option A) → IsThere found → IsThere (option_map f found)
there-too f None there = absurd there
there-too f (Some x) there = tt

disarms : (member : Member) (receives by_failsafe : Bool) (replication : Option Replication)
    (options : Option MemberOptions) (deadline hold : Option (Option Ticks)) (s : Option ServerFacts)
    → IsThere replication → IsThere options → IsThere deadline → IsThere hold → IsThere s
    → IsStartOf member (live_now s) (deadline_now deadline)
    (disarm_of member (machine_from receives by_failsafe replication options deadline hold s))
disarms member receives by_failsafe None options deadline hold s r a b c d = absurd r
disarms member receives by_failsafe (Some replication) None deadline hold s r a b c d = absurd a
disarms member receives by_failsafe (Some replication) (Some options) None hold s r a b c d = absurd b
disarms member receives by_failsafe (Some replication) (Some options) (Some deadline) None s r a b c d = absurd c
disarms member receives by_failsafe (Some replication) (Some options) (Some deadline) (Some hold) None r a b c d =
    absurd d
disarms member receives by_failsafe (Some replication) (Some options) (Some deadline) (Some hold) (Some s) r a b c d =
    disarms-if member (live s.state) deadline

is-there : {A : Type 0} (xs : List A) (k : ℕ) → k < length xs → IsThere (slice_get xs k)
is-there xs k small = let found = there xs k small in subst IsThere (sym found.1) tt

options-sized : (head : HeadText) → length (options_of head) ≡ member_count head
options-sized head = length-map head.members _ ∙ sym (length-map head.members _)

start-disarms : (head : HeadText) (book : List Event) (cluster : Cluster) (member : Member)
    → member.id.number < member_count head → Bridged head book cluster
    → IsStartOf member (live_in cluster.facts.servers member.id.number)
    (deadline_in cluster.facts.deadlines member.id.number) (disarm_of member (machine_of cluster member))
start-disarms head book cluster member small good =
    let k : ℕ = member.id.number in
    let within : (n : ℕ) → n ≡ member_count head → k < n = λ n e. subst (λ (n : ℕ). k < n) (sym e) small in
    let server : IsThere (slice_get cluster.facts.servers k) =
    is-there cluster.facts.servers k (within (length cluster.facts.servers) good.matched.sized.servers) in
    disarms member _ _ _ (slice_get cluster.options k) (slice_get cluster.facts.deadlines k)
    (slice_get cluster.facts.holds k) (slice_get cluster.facts.servers k)
    (there-too (replication_of cluster.facts.members cluster.facts.servers cluster.facts.cuts member)
    (slice_get cluster.facts.servers k) server)
    (is-there cluster.options k
    (within (length cluster.options) (ap (λ xs. length xs) good.matched.options ∙ options-sized head)))
    (is-there cluster.facts.deadlines k (within (length cluster.facts.deadlines) good.matched.sized.deadlines))
    (is-there cluster.facts.holds k (within (length cluster.facts.holds) good.matched.sized.holds))
    server

disarm-asides : (started : Cluster) (member : Member) (found : Option EventKind) (is_live : Bool) (deadline : Option ℕ)
    → IsStartOf member is_live deadline found → AllAre IsAside (events_of started (kinds_of found))
disarm-asides started member None is_live deadline is = tt
disarm-asides started member (Some kind) is_live deadline is = (subst IsAside (sym is.0) tt, tt)

disarm-local : (started : Cluster) (member : Member) (found : Option EventKind) (is_live : Bool) (deadline : Option ℕ)
    → IsStartOf member is_live deadline found → AllAre IsLocal (events_of started (kinds_of found))
disarm-local started member None is_live deadline is = tt
disarm-local started member (Some kind) is_live deadline is = (subst IsLocal (sym is.0) tt, tt)

-- the run of a process has a next one
next-later : (incarnation : ℕ) → incarnation < incarnation + 1
next-later incarnation = omega arith

kept-start : (head : HeadText) (book : List Event) (cluster : Cluster) (member : Member) (incarnation : ℕ)
    → member.id.number < member_count head → incarnation ≡ run_in cluster.facts.processes member.id.number + 1
    → Bridged head book cluster
    → let started : Cluster = cluster_after cluster (kinds.Agent (agents.Started member incarnation)) in
    IsKept head book cluster
    (event_of cluster (kinds.Agent (agents.Started member incarnation))
    ++ events_of started (kinds_of (disarm_of member (machine_of cluster member))))
kept-start head book cluster member incarnation small next good =
    let k : ℕ = member.id.number in
    let found : Option EventKind = disarm_of member (machine_of cluster member) in
    let is = start-disarms head book cluster member small good in
    subst (λ (r : ℕ). IsKept head book cluster
    (event_of cluster (kinds.Agent (agents.Started member r))
    ++ events_of (cluster_after cluster (kinds.Agent (agents.Started member r))) (kinds_of found)))
    (sym next)
    (let incarnation : ℕ = run_in cluster.facts.processes k + 1 in
    let kind : EventKind = kinds.Agent (agents.Started member incarnation) in
    let started : Cluster = cluster_after cluster kind in
    let rest : List Event = events_of started (kinds_of found) in
    let asides : AllAre IsAside rest =
    disarm-asides started member found (live_in cluster.facts.servers k) (deadline_in cluster.facts.deadlines k) is in
    let s : State = state_of (declared_of head) (past_of book) (volatile_of cluster) in
    machines-kept head book cluster (event_of cluster kind ++ rest) (Start k) good tt
    (tt, disarm-local started member found (live_in cluster.facts.servers k) (deadline_in cluster.facts.deadlines k) is)
    (tt, asides-begin (MayBeginBehind s (Start k)) (event_of cluster kind) rest asides)
    (subst (λ (past : Past). IsMatched head past (cluster_over started rest))
    (sym (past-append first_past book (event_of cluster kind ++ rest)))
    (asides-matched head (past_after (past_of book) kind) started rest asides
    (started-matched head (past_of book) cluster member incarnation small
    (next-later (run_in cluster.facts.processes k)) good.matched)))
    (started-machine cluster member found (subst (λ (n : ℕ). k < n) (sym good.matched.agents_sized) small)
    (subst (λ (n : ℕ). k < n) (sym good.matched.sized.agents) small) is))

-- an agent that is to start, by its process
restart-by : (head : HeadText) (book : List Event) (cluster : Cluster) (member : Member)
    (process : AgentProcess) (running : Bool) → process.running ≡ running → member.id.number < member_count head
    → slice_get cluster.facts.processes member.id.number ≡ Some process → Bridged head book cluster
    → IsKept head book cluster
    (events_of cluster
    (cond running (kinds.Note (AlreadyRunning member)) (kinds.Agent (agents.Started member (process.incarnation + 1)))
    ∷ kinds_of (cond running None (disarm_of member (machine_of cluster member)))))
restart-by head book cluster member process true runs small is good =
    kept-then head book cluster (event_of cluster (kinds.Note (AlreadyRunning member))) []
    (kept-quiet head book cluster (kinds.Note (AlreadyRunning member)) tt good) (λ later. kept-none head _ _ later)
restart-by head book cluster member process false runs small is good =
    kept-start head book cluster member (process.incarnation + 1) small
    (ap (λ (o : Option AgentProcess). run_now o + 1) (sym is)) good

pub kept-restart : (head : HeadText) (book : List Event) (cluster : Cluster) (member : Member)
    → member.id.number < member_count head → Bridged head book cluster
    → IsKept head book cluster (agent_start_events cluster member)
kept-restart head book cluster member small good =
    kept-for_some head book cluster (slice_get cluster.facts.processes member.id.number)
    (agent_start_events_of cluster member) good
    (λ process is. restart-by head book cluster member process process.running refl small is good)
