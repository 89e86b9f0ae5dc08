-- An agent is there exactly where its process runs, and then it stands with its machine.
use Rattle.std.proofs.Common.{◌≡◌, ℕ, ◌<◌, ◌≤◌, ◌==◌, Bool, true, false, cond, List, [], ◌∷◌, length, map, Option, Some, None, is_some, option_map, arith, refl, ◌∙◌, ap, sym, subst, suc, zero}
use Rattle.std.specs.Prelude.{option_and_then, slice_get}
use Rattle.std.proofs.lemmas.Bool.Decides.{nat_tests}
use Rattle.std.proofs.lemmas.List.{length-map}
use Rattle.pat_base.specs.declared.name.Name.{Name}
use Rattle.pat_base.specs.declared.ticks.Ticks.{Ticks}
use Rattle.pat_base.specs.Changes.{with_changed}
use Rattle.wal_model.specs.declared.entry.HistoryPoint.{HistoryPoint}
use Rattle.pg_model.specs.Facts.{ServerFacts}
use Rattle.member_options.specs.declared.member_option.MemberOptions.{MemberOptions}
use Rattle.event_book.specs.declared.agent_process.AgentProcess.{AgentProcess}
use Rattle.event_book.specs.declared.event.AgentEvent.{AgentEvent}
use Rattle.event_book.specs.declared.event.AgentEvent.TheVariants as agents
use Rattle.event_book.specs.declared.event.EventKind.{EventKind}
use Rattle.event_book.specs.declared.event.EventKind.TheVariants as kinds
use Rattle.event_book.specs.declared.event.MessageEvent.{MessageEvent}
use Rattle.event_book.specs.declared.event.MessageEvent.TheVariants as messages
use Rattle.event_book.specs.declared.event.WatchdogEvent.{WatchdogEvent}
use Rattle.event_book.specs.declared.event.WatchdogEvent.TheVariants as watchdogs
use Rattle.event_book.specs.declared.link.LinkEnd.{LinkEnd}
use Rattle.event_book.specs.declared.link.LinkEnd.TheVariants as link_ends
use Rattle.event_book.specs.declared.member.Member.{Member}
use Rattle.event_book.specs.Flight.{InFlightFacts, in_flight}
use Rattle.event_book.specs.Processes.{ended_process, first_processes, processes_by, processes_by_watchdog, running_in}
use Rattle.agent_model.specs.declared.heard.Heard.{Heard}
use Rattle.agent_model.specs.declared.heard.Heard.TheVariants.{Wake, Operated}
use Rattle.agent_model.specs.declared.machine.Machine.{Machine}
use Rattle.agent_model.specs.declared.machine.Replication.{Replication}
use Rattle.agent_model.specs.Agents.{AgentFacts}
use Rattle.cluster_model.specs.Cluster.{agent_after, agent_facts_by, agent_facts_by_message, agent_facts_by_watchdog, agent_facts_reached, agent_facts_reached_at, cluster_after}
use Rattle.cluster_model.specs.Hearing.{heard_from}
use Rattle.cluster_model.specs.Inputs.{agent_at, moment_of, outcome_at, outcome_of, outcome_of_heard, standing, standing_of, starting_agent}
use Rattle.cluster_model.specs.Machines.{machine_from, machine_of, points_of, replication_of, who_of}
use Rattle.cluster_model.specs.Starting.{cluster_of, first_agent}
use Rattle.cluster_model.specs.State.{Cluster}
use Rattle.cluster_model.proofs.Places.{get-changed, there}
use Rattle.script_model.specs.Script.{HeadText, names_of}
use Rattle.world_model.specs.Running.{runs_now}
use Rattle.world_model.proofs.Declaring.{names-start}
use Rattle.pat_base.specs.declared.member_id.TheConstants.{MOST_MEMBERS}

-- an agent is there exactly where its process runs
abbrev pub IsAlike : Option AgentProcess → Option (Option AgentFacts) → Type 0
IsAlike None None = Unit {0}
IsAlike (Some process) (Some agent) = is_some agent ≡ process.running
IsAlike _ _ = ⊥

pub AreAlike : List AgentProcess → List (Option AgentFacts) → Type 0
AreAlike processes agents = (m : ℕ) → IsAlike (slice_get processes m) (slice_get agents m)

same-place : (m k : ℕ) → (m == k) ≡ true → m ≡ k
same-place m k e = grind (arith, nat_tests)

module _ (f : AgentProcess → AgentProcess) (g : Option AgentFacts → Option AgentFacts) where
  changed-both : ((process : AgentProcess) (agent : Option AgentFacts) → is_some agent ≡ process.running →
      is_some (g agent) ≡ (f process).running)
      → (here : Bool) (found : Option AgentProcess) (there : Option (Option AgentFacts)) → IsAlike found there
      → IsAlike (cond here (option_map f found) found) (cond here (option_map g there) there)
  changed-both keeps false found there alike = alike
  changed-both keeps true None None alike = tt
  changed-both keeps true (Some process) (Some agent) alike = keeps process agent alike
  changed-both keeps true None (Some agent) alike = absurd alike
  changed-both keeps true (Some process) None alike = absurd alike

  changed-process : ((process : AgentProcess) → (f process).running ≡ process.running)
      → (here : Bool) (found : Option AgentProcess) (there : Option (Option AgentFacts)) → IsAlike found there
      → IsAlike (cond here (option_map f found) found) there
  changed-process keeps false found there alike = alike
  changed-process keeps true None None alike = tt
  changed-process keeps true (Some process) (Some agent) alike = alike ∙ sym (keeps process)
  changed-process keeps true None (Some agent) alike = absurd alike
  changed-process keeps true (Some process) None alike = absurd alike

  changed-agent : (here : Bool) (found : Option AgentProcess) (there : Option (Option AgentFacts))
      → (here ≡ true → (agent : Option AgentFacts) → there ≡ Some agent → is_some (g agent) ≡ is_some agent)
      → IsAlike found there → IsAlike found (cond here (option_map g there) there)
  changed-agent false found there keeps alike = alike
  changed-agent true None None keeps alike = tt
  changed-agent true (Some process) (Some agent) keeps alike = keeps refl agent refl ∙ alike
  changed-agent true None (Some agent) keeps alike = absurd alike
  changed-agent true (Some process) None keeps alike = absurd alike

module _ (processes : List AgentProcess) (known : List (Option AgentFacts)) (k : ℕ)
    (alike : AreAlike processes known) where
  both-change : (f : AgentProcess → AgentProcess) (g : Option AgentFacts → Option AgentFacts)
      → ((process : AgentProcess) (agent : Option AgentFacts) → is_some agent ≡ process.running →
      is_some (g agent) ≡ (f process).running)
      → AreAlike (with_changed processes k f) (with_changed known k g)
  unfolding AreAlike
  both-change f g keeps = λ m. rw (get-changed processes k m f, get-changed known k m g)
      (changed-both f g keeps (m == k) (slice_get processes m) (slice_get known m) (alike m))

  process-changes : (f : AgentProcess → AgentProcess)
      → ((process : AgentProcess) → (f process).running ≡ process.running) → AreAlike (with_changed processes k f) known
  unfolding AreAlike
  process-changes f keeps = λ m. rw (get-changed processes k m f)
      (changed-process f (λ agent. agent) keeps (m == k) (slice_get processes m) (slice_get known m) (alike m))

  agent-changes : (g : Option AgentFacts → Option AgentFacts)
      → ((agent : Option AgentFacts) → slice_get known k ≡ Some agent → is_some (g agent) ≡ is_some agent)
      → AreAlike processes (with_changed known k g)
  unfolding AreAlike
  agent-changes g keeps = λ m. rw (get-changed known k m g)
      (changed-agent (λ process. process) g (m == k) (slice_get processes m) (slice_get known m)
      (λ here agent is. keeps agent (ap (slice_get known) (sym (same-place m k here)) ∙ is)) (alike m))

-- an input leaves an agent where there was one
hears : (now : Ticks) (points : List HistoryPoint) (heard : Heard) (agent : Option AgentFacts)
    (machine : Option Machine) → is_some (agent_after (outcome_at now points heard agent machine) agent) ≡ is_some agent
hears now points heard None machine = refl
hears now points heard (Some agent) None = refl
hears now points heard (Some agent) (Some machine) = refl

hears-at : (cluster : Cluster) (member : Member) (heard : Heard) (agent : Option AgentFacts)
    → slice_get cluster.agents member.id.number ≡ Some agent
    → is_some (agent_after (outcome_of cluster member heard) agent) ≡ is_some agent
hears-at cluster member heard agent is =
    let here : agent_at cluster.agents member.id.number ≡ agent =
    ap (λ (o : Option (Option AgentFacts)). option_and_then (λ (a : Option AgentFacts). a) o) is in
    ap (λ (a : Option AgentFacts). is_some
    (agent_after (outcome_at (moment_of cluster) (points_of cluster member) heard a (machine_of cluster member)) agent))
    here
    ∙ hears (moment_of cluster) (points_of cluster member) heard agent (machine_of cluster member)

hears-if : (cluster : Cluster) (member : Member) (heard : Option Heard) (agent : Option AgentFacts)
    → slice_get cluster.agents member.id.number ≡ Some agent
    → is_some (agent_after (outcome_of_heard cluster member heard) agent) ≡ is_some agent
hears-if cluster member None agent is = refl
hears-if cluster member (Some heard) agent is = hears-at cluster member heard agent is

abbrev pub Alike : Cluster → Type 0
Alike cluster = AreAlike cluster.facts.processes cluster.agents

reached-at : (cluster : Cluster) (message : InFlightFacts) (to : LinkEnd) → Alike cluster
    → AreAlike cluster.facts.processes (agent_facts_reached_at cluster message to)
reached-at cluster message link_ends.Store alike = alike
reached-at cluster message (link_ends.Member member) alike = agent-changes cluster.facts.processes cluster.agents
    member.id.number alike (agent_after (outcome_of_heard cluster member (heard_from cluster message)))
    (hears-if cluster member (heard_from cluster message))

reached : (cluster : Cluster) (found : Option InFlightFacts) → Alike cluster
    → AreAlike cluster.facts.processes (agent_facts_reached cluster found)
reached cluster None alike = alike
reached cluster (Some message) alike = reached-at cluster message message.message.to alike

by-message : (cluster : Cluster) (happening : MessageEvent) → Alike cluster
    → AreAlike cluster.facts.processes (agent_facts_by_message cluster happening)
by-message cluster (messages.Delivered number) alike = reached cluster (in_flight cluster.facts.flight number) alike
by-message cluster _ alike = alike

by-watchdog : (cluster : Cluster) (happening : WatchdogEvent) → Alike cluster
    → AreAlike (processes_by_watchdog cluster.facts.processes happening)
    (agent_facts_by_watchdog cluster.agents happening)
by-watchdog cluster (watchdogs.Reset member) alike = both-change cluster.facts.processes cluster.agents
    member.id.number alike ended_process (λ agent. None) (λ process agent is. refl)
by-watchdog cluster _ alike = alike

by-agent : (cluster : Cluster) (happening : AgentEvent) → Alike cluster
    → AreAlike (processes_by cluster.facts.processes happening) (agent_facts_by cluster happening)
by-agent cluster (agents.Woken member) alike = agent-changes cluster.facts.processes cluster.agents
    member.id.number alike (agent_after (outcome_of cluster member Wake)) (hears-at cluster member Wake)
by-agent cluster (agents.Operated member action) alike =
    agent-changes cluster.facts.processes cluster.agents member.id.number alike
    (agent_after (outcome_of cluster member (Operated action))) (hears-at cluster member (Operated action))
by-agent cluster (agents.Suspended member) alike = process-changes cluster.facts.processes cluster.agents
    member.id.number alike (λ process. record process { suspended = true }) (λ process. refl)
by-agent cluster (agents.Resumed member) alike = process-changes cluster.facts.processes cluster.agents
    member.id.number alike (λ process. record process { suspended = false }) (λ process. refl)
by-agent cluster (agents.Killed member) alike = both-change cluster.facts.processes cluster.agents
    member.id.number alike ended_process (λ agent. None) (λ process agent is. refl)
by-agent cluster (agents.Started member incarnation) alike =
    both-change cluster.facts.processes cluster.agents member.id.number alike (λ process. running_in incarnation)
    (λ agent.
    Some (starting_agent (who_of cluster.scope cluster.options cluster.facts.members member)
    cluster.facts.clock incarnation))
    (λ process agent is. refl)
by-agent cluster _ alike = alike

-- each event keeps it so
pub alike-after : (cluster : Cluster) (kind : EventKind) → Alike cluster → Alike (cluster_after cluster kind)
alike-after cluster (kinds.Message happening) alike = by-message cluster happening alike
alike-after cluster (kinds.Watchdog happening) alike = by-watchdog cluster happening alike
alike-after cluster (kinds.Agent happening) alike = by-agent cluster happening alike
alike-after cluster _ alike = alike

-- one more of each
alike-one : (process : AgentProcess) (agent : Option AgentFacts) (processes : List AgentProcess)
    (known : List (Option AgentFacts)) → is_some agent ≡ process.running → AreAlike processes known
    → AreAlike (process ∷ processes) (agent ∷ known)
unfolding AreAlike
alike-one process agent processes known here behind = at
  where
    at : (m : ℕ) → IsAlike (slice_get (process ∷ processes) m) (slice_get (agent ∷ known) m)
    at zero = here
    at (suc m) = behind m

alike-first : (scope : Name) (options : List MemberOptions) (all members : List Member)
    → AreAlike (first_processes (length members)) (map (first_agent scope options all) members)
unfolding AreAlike
alike-first scope options all [] = λ m. tt
alike-first scope options all (member ∷ members) =
    alike-one (running_in 1) (first_agent scope options all member) (first_processes (length members))
    (map (first_agent scope options all) members) refl (alike-first scope options all members)

-- so it is before the first event
pub alike-start : (head : HeadText) → length head.members ≤ MOST_MEMBERS → Alike (cluster_of head)
alike-start head few =
    let start : Cluster = cluster_of head in
    let many : length start.facts.members ≡ length (names_of head) =
    sym (length-map start.facts.members (λ (member : Member). member.name))
    ∙ ap (λ (names : List Name). length names) (names-start head few) in
    subst (λ (n : ℕ). AreAlike (first_processes n) start.agents) many
    (alike-first head.cluster start.options start.facts.members start.facts.members)

some-within : {A : Type 0} (xs : List A) (k : ℕ) → k < length xs → is_some (slice_get xs k) ≡ true
some-within xs k small = ap is_some (there xs k small).1

no-true : false ≡ true → ⊥
no-true e = cc

machine-there : (receives by_failsafe : Bool) (f : ServerFacts → Replication) (options : Option MemberOptions)
    (deadline hold : Option (Option Ticks)) (s : Option ServerFacts) → is_some options ≡ true
    → is_some deadline ≡ true → is_some hold ≡ true → is_some s ≡ true
    → is_some (machine_from receives by_failsafe (option_map f s) options deadline hold s) ≡ true
machine-there receives by_failsafe f (Some options) (Some deadline) (Some hold) (Some s) a b c d = refl
machine-there receives by_failsafe f (Some options) (Some deadline) (Some hold) None a b c d = absurd (no-true d)
machine-there receives by_failsafe f (Some options) (Some deadline) None s a b c d = absurd (no-true c)
machine-there receives by_failsafe f (Some options) None hold s a b c d = absurd (no-true b)
machine-there receives by_failsafe f None deadline hold s a b c d = absurd (no-true a)

standing-there : (agent : Option AgentFacts) (machine : Option Machine) → is_some machine ≡ true
    → is_some (standing agent machine) ≡ is_some agent
standing-there None machine is = refl
standing-there (Some agent) None is = absurd (no-true is)
standing-there (Some agent) (Some machine) is = refl

alike-runs : (found : Option AgentProcess) (there : Option (Option AgentFacts)) → IsAlike found there
    → is_some (option_and_then (λ (a : Option AgentFacts). a) there) ≡ runs_now found
alike-runs None None alike = refl
alike-runs (Some process) (Some agent) alike = alike
alike-runs None (Some agent) alike = absurd alike
alike-runs (Some process) None alike = absurd alike

-- an agent that is there stands with its machine, where each list by members has the parts of one
pub member-runs : (cluster : Cluster) (member : Member) → member.id.number < length cluster.options
    → member.id.number < length cluster.facts.deadlines → member.id.number < length cluster.facts.holds
    → member.id.number < length cluster.facts.servers → Alike cluster
    → is_some (standing_of cluster member) ≡ runs_now (slice_get cluster.facts.processes member.id.number)
unfolding AreAlike
member-runs cluster member options deadlines holds servers alike =
    let n : ℕ = member.id.number in
    let machine : is_some (machine_of cluster member) ≡ true =
    machine-there _ _ (replication_of cluster.facts.members cluster.facts.servers cluster.facts.cuts member) _ _ _ _
    (some-within cluster.options n options) (some-within cluster.facts.deadlines n deadlines)
    (some-within cluster.facts.holds n holds) (some-within cluster.facts.servers n servers) in
    standing-there (agent_at cluster.agents n) (machine_of cluster member) machine
    ∙ alike-runs (slice_get cluster.facts.processes n) (slice_get cluster.agents n) (alike n)
