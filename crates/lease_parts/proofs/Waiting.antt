-- What agents that wait know of their questions is kept by events at which none acts, and by the start of one.
use Rattle.std.proofs.Common.{ℕ, ◌≡◌, ◌<◌, ◌==◌, Bool, true, false, cond, List, length, slice_get, Option, Some, None, option_map, refl, ◌∙◌, sym, subst, arith}
use Rattle.std.proofs.lemmas.Option.{slice_get-map}
use Rattle.pat_base.specs.declared.name.Name.{Name}
use Rattle.pat_base.specs.Changes.{with_changed}
use Rattle.event_book.specs.declared.agent_process.AgentProcess.{AgentProcess}
use Rattle.event_book.specs.declared.event.AgentEvent.TheVariants as agents
use Rattle.event_book.specs.declared.event.EventKind.{EventKind}
use Rattle.event_book.specs.declared.event.EventKind.TheVariants as kinds
use Rattle.event_book.specs.declared.event.MessageEvent.TheVariants as messages
use Rattle.event_book.specs.declared.event.ServerEvent.TheVariants as servers
use Rattle.event_book.specs.declared.event.WatchdogEvent.TheVariants as watchdogs
use Rattle.event_book.specs.declared.member.Member.{Member}
use Rattle.event_book.specs.Processes.{processes_after}
use Rattle.agent_model.specs.Agents.{AgentFacts}
use Rattle.cluster_model.specs.Cluster.{agent_facts_after, cluster_after}
use Rattle.cluster_model.specs.Inputs.{starting_agent}
use Rattle.cluster_model.specs.Machines.{who_of}
use Rattle.member_options.specs.declared.member_option.MemberOptions.{MemberOptions}
use Rattle.script_model.specs.Script.{HeadText}
use Rattle.cluster_model.specs.Starting.{cluster_of, first_agent, options_of}
use Rattle.cluster_model.specs.State.{Cluster}
use Rattle.lease_model.specs.Leases.{Question}
use Rattle.lease_model.specs.Past.{Past, first_past, past_after}
use Rattle.event_book.specs.Premises.{runs_after}
use Rattle.lease_model.proofs.Tools.{eq-from, none-some, put-all, some-is}
use Rattle.lease_book.specs.Waiting.{IsLastRun}
use Rattle.lease_book.proofs.Waits.{run-new}
use Rattle.lease_parts.specs.Asides.{IsAsideIn}
use Rattle.event_book.specs.Writers.{BeginsKind}
use Rattle.lease_parts.specs.Bridged.{IsMatched}
use Rattle.lease_parts.specs.Declaring.{declared_of}
use Rattle.run_promise.specs.Members.{declared_members, member_count}
use Rattle.lease_parts.specs.Machines.{IsWithinMembers, run_in}
use Rattle.lease_parts.specs.Waiting.{AgentsAreSound, IsAgentSound}
use Rattle.lease_parts.proofs.Fitting.{SendsAddressed, carried-by}
use Rattle.lease_parts.proofs.Machines.{runs-of}
use Rattle.cluster_model.proofs.Places.{get-changed}

-- ---- what such an event leaves
aside-asked : (May : ℕ → Type 0) (past : Past) (kind : EventKind) → IsAsideIn May kind
    → (past_after past kind).asked ≡ past.asked
aside-asked May past (kinds.Message (messages.Sent number message)) is = absurd is
aside-asked May past (kinds.Message (messages.Delivered number)) is = refl
aside-asked May past (kinds.Message (messages.Lost number)) is = refl
aside-asked May past _ is = refl

pub aside-sends : (members : List Member) (mode : Bool) (May : ℕ → Type 0) (kind : EventKind)
    → IsAsideIn May kind → SendsAddressed members mode kind
aside-sends members mode May (kinds.Message (messages.Sent number message)) is = absurd is
aside-sends members mode May (kinds.Message (messages.Delivered number)) is = tt
aside-sends members mode May (kinds.Message (messages.Lost number)) is = tt
aside-sends members mode May _ is = tt

-- whose server begins is one of so many
pub aside-within : (May : ℕ → Type 0) (count : ℕ) (kind : EventKind) → IsAsideIn May kind
    → BeginsKind (λ n. n < count) kind → IsWithinMembers count kind
aside-within May count (kinds.Watchdog (watchdogs.Armed member until answer)) is begins = absurd is
aside-within May count (kinds.Watchdog (watchdogs.Fed member until basis)) is begins = absurd is
aside-within May count (kinds.Watchdog (watchdogs.HoldTaken member until from incarnation sequence)) is begins =
    absurd is
aside-within May count (kinds.Server (servers.Began server timeline)) is begins = begins
aside-within May count (kinds.Agent (agents.Started agent incarnation)) is begins = absurd is
aside-within May count _ is begins = tt

aside-runs : (May : ℕ → Type 0) (runs : ℕ → ℕ) (kind : EventKind) (m : ℕ) → IsAsideIn May kind
    → runs_after runs kind m ≡ runs m
aside-runs May runs (kinds.Agent (agents.Started agent incarnation)) m is = absurd is
aside-runs May runs (kinds.Agent _) m is = refl
aside-runs May runs _ m is = refl

same-run : (May : ℕ → Type 0) (processes : List AgentProcess) (kind : EventKind) (m : ℕ) → IsAsideIn May kind
    → run_in (processes_after processes kind) m ≡ run_in processes m
same-run May processes (kinds.Server happening) m is = refl
same-run May processes kind m is =
    sym (runs-of (run_in processes) processes kind (aside-within May (length processes) kind is tt) (λ n. refl) m)
    ∙ aside-runs May (run_in processes) kind m is

-- an agent that is left was there
left-by : (found : Option (Option AgentFacts)) (same : Bool) (agent : AgentFacts)
    → cond same (option_map (λ (agent : Option AgentFacts). let none : Option AgentFacts = None in none) found) found
    ≡ Some (Some agent)
    → found ≡ Some (Some agent)
left-by found false agent e = e
left-by None true agent e = absurd (none-some (Some agent) e)
left-by (Some found) true agent e = absurd (none-some agent (some-is None (Some agent) e))

left-there : (agents : List (Option AgentFacts)) (k m : ℕ) (agent : AgentFacts)
    → slice_get (with_changed agents k (λ agent. None)) m ≡ Some (Some agent) → slice_get agents m ≡ Some (Some agent)
left-there agents k m agent e =
    left-by (slice_get agents m) (m == k) agent (sym (get-changed agents k m (λ agent. None)) ∙ e)

aside-left : (May : ℕ → Type 0) (cluster : Cluster) (kind : EventKind) (m : ℕ) (agent : AgentFacts) → IsAsideIn May kind
    → slice_get (agent_facts_after cluster kind) m ≡ Some (Some agent) → slice_get cluster.agents m ≡ Some (Some agent)
aside-left May cluster (kinds.Message (messages.Sent number message)) m agent is e = absurd is
aside-left May cluster (kinds.Message (messages.Delivered number)) m agent is e = absurd is
aside-left May cluster (kinds.Watchdog (watchdogs.Reset member)) m agent is e =
    left-there cluster.agents member.id.number m agent e
aside-left May cluster (kinds.Agent (agents.Woken member)) m agent is e = absurd is
aside-left May cluster (kinds.Agent (agents.Operated member action)) m agent is e = absurd is
aside-left May cluster (kinds.Agent (agents.Killed member)) m agent is e =
    left-there cluster.agents member.id.number m agent e
aside-left May cluster (kinds.Agent (agents.Started member incarnation)) m agent is e = absurd is
aside-left May cluster _ m agent is e = e

pub waiting-aside : (May : ℕ → Type 0) (head : HeadText) (past : Past) (cluster : Cluster) (kind : EventKind)
    → IsAsideIn May kind → IsMatched head past cluster
    → AgentsAreSound (past_after past kind) (cluster_after cluster kind)
waiting-aside May head past cluster kind aside old =
    let asked = aside-asked May past kind aside in
    record {
      carried = carried-by cluster.facts.members (declared_of head).failsafe past cluster.facts kind
          (record { store = old.store; flight = old.flight })
          (aside-sends cluster.facts.members (declared_of head).failsafe May kind aside) old.waiting.carried;
      runs = λ m. subst (λ (n : ℕ). IsLastRun (past_after past kind).asked m n)
          (sym (same-run May cluster.facts.processes kind m aside))
          (subst (λ (a : ℕ → Option Question). IsLastRun a m (run_in cluster.facts.processes m)) (sym asked)
          (old.waiting.runs m));
      agents = λ m agent e. subst (λ (a : ℕ → Option Question). IsAgentSound a m agent) (sym asked)
          (old.waiting.agents m agent (aside-left May cluster kind m agent aside e));
    }

-- ---- the start of an agent
fresh-sound : (asked : ℕ → Option Question) (m runs incarnation now : ℕ) (scope : Name) (options : List MemberOptions)
    (members : List Member) (member : Member) → runs < incarnation → IsLastRun asked m runs
    → IsAgentSound asked m (starting_agent (who_of scope options members member) now incarnation)
fresh-sound asked m runs incarnation now scope options members member later last = record {
  last = run-new asked m runs incarnation later last;
  waits = λ waited is. absurd (none-some waited is);
  ends = tt;
}

started-by : (asked : ℕ → Option Question) (m k : ℕ) (found : Option (Option AgentFacts)) (same : Bool)
    (started agent : AgentFacts) → (m == k) ≡ same → (m ≡ k → IsAgentSound asked m started)
    → (found ≡ Some (Some agent) → IsAgentSound asked m agent)
    → cond same (option_map (λ (agent : Option AgentFacts). Some started) found) found ≡ Some (Some agent)
    → IsAgentSound asked m agent
started-by asked m k found false started agent is here there e = there e
started-by asked m k None true started agent is here there e = absurd (none-some (Some agent) e)
started-by asked m k (Some found) true started agent is here there e =
    subst (IsAgentSound asked m) (some-is started agent (some-is (Some started) (Some agent) e)) (here (eq-from m k is))

later-run : (asked : ℕ → Option Question) (m low high : ℕ) → low < high → IsLastRun asked m low → IsLastRun asked m high
later-run asked m low high h old i q e member = let small = old i q e member in omega (arith, small, h)

pub waiting-started : (head : HeadText) (past : Past) (cluster : Cluster) (member : Member) (incarnation : ℕ)
    → member.id.number < member_count head → run_in cluster.facts.processes member.id.number < incarnation
    → IsMatched head past cluster
    → AgentsAreSound (past_after past (kinds.Agent (agents.Started member incarnation)))
    (cluster_after cluster (kinds.Agent (agents.Started member incarnation)))
waiting-started head past cluster member incarnation small later old =
    let kind : EventKind = kinds.Agent (agents.Started member incarnation) in
    let k : ℕ = member.id.number in
    let runs : ℕ → ℕ = run_in cluster.facts.processes in
    let started : AgentFacts = starting_agent (who_of cluster.scope cluster.options cluster.facts.members member)
    cluster.facts.clock incarnation in
    record {
      carried = carried-by cluster.facts.members (declared_of head).failsafe past cluster.facts kind
          (record { store = old.store; flight = old.flight }) tt old.waiting.carried;
      runs = λ m. subst (λ (n : ℕ). IsLastRun past.asked m n)
          (runs-of runs cluster.facts.processes kind (subst (λ (n : ℕ). k < n) (sym old.sized.agents) small)
          (λ n. refl) m)
          (put-all runs k incarnation (λ n r. IsLastRun past.asked n r)
          (later-run past.asked k (runs k) incarnation later (old.waiting.runs k)) (λ n other. old.waiting.runs n) m);
      agents = λ m agent e. started-by past.asked m k (slice_get cluster.agents m) (m == k) started agent refl
          (λ here. fresh-sound past.asked m
          (runs k) incarnation cluster.facts.clock cluster.scope cluster.options cluster.facts.members member later
          (subst (λ (n : ℕ). IsLastRun past.asked n (runs k)) (sym here) (old.waiting.runs k)))
          (old.waiting.agents m agent)
          (sym (get-changed cluster.agents k m (λ (agent : Option AgentFacts). Some started)) ∙ e);
    }

-- ---- before the first event
first-sound : (scope : Name) (options : List MemberOptions) (members : List Member) (m : ℕ) (found : Option Member)
    (agent : AgentFacts) → option_map (first_agent scope options members) found ≡ Some (Some agent)
    → IsAgentSound first_past.asked m agent
first-sound scope options members m None agent e = absurd (none-some (Some agent) e)
first-sound scope options members m (Some member) agent e =
    subst (IsAgentSound first_past.asked m) (some-is _ agent (some-is _ (Some agent) e))
    (fresh-sound first_past.asked m 0 1 member.id.number scope options members member (omega arith)
    (λ i q is _. absurd (none-some q is)))

pub waiting-first : (head : HeadText) → AgentsAreSound first_past (cluster_of head)
waiting-first head = record {
  carried = λ i carried e. absurd (none-some carried e);
  runs = λ m i q e _. absurd (none-some q e);
  agents = λ m agent e.
      first-sound head.cluster (options_of head) (declared_members head) m (slice_get (declared_members head) m) agent
      (sym (slice_get-map (first_agent head.cluster (options_of head) (declared_members head))
      (declared_members head) m)
      ∙ e);
}
