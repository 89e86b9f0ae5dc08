-- What agents know of their runs, and hold of the leader key, over events at which none acts.
use Rattle.std.proofs.Common.{ℕ, ◌≡◌, ◌==◌, Bool, true, false, cond, List, [], ◌∷◌, Option, Some, None, option_map, slice_get, refl, sym, ap, subst, ◌∙◌}
use Rattle.pat_base.specs.Changes.{with_changed}
use Rattle.lease_store.specs.Keys.{Keys}
use Rattle.event_book.specs.declared.agent_process.AgentProcess.{AgentProcess}
use Rattle.event_book.specs.declared.event.AgentEvent.TheVariants as agents
use Rattle.event_book.specs.declared.event.Event.{Event}
use Rattle.event_book.specs.declared.event.EventKind.{EventKind}
use Rattle.event_book.specs.declared.event.EventKind.TheVariants as kinds
use Rattle.event_book.specs.declared.event.MessageEvent.TheVariants as messages
use Rattle.event_book.specs.declared.event.StoreEvent.TheVariants as stores
use Rattle.event_book.specs.declared.event.WatchdogEvent.TheVariants as watchdogs
use Rattle.event_book.specs.declared.member.Member.{Member}
use Rattle.event_book.specs.Facts.{Facts, facts_after}
use Rattle.event_book.specs.Kinds.{AllAre}
use Rattle.event_book.specs.Processes.{ended_process, processes_after, running_in}
use Rattle.agent_model.specs.declared.who.Who.{Who}
use Rattle.agent_model.specs.Agents.{AgentFacts, EndsAlone}
use Rattle.cluster_model.specs.Cluster.{agent_facts_after, cluster_after, cluster_over}
use Rattle.cluster_model.specs.Inputs.{starting_agent}
use Rattle.cluster_model.specs.Machines.{who_of}
use Rattle.cluster_model.specs.State.{Cluster}
use Rattle.cluster_model.proofs.Places.{eq-self, get-changed}
use Rattle.lease_model.proofs.Tools.{eq-from, none-some, some-is}
use Rattle.lease_owners.specs.Kept.{AgentsAreKept, KnowsItsRun}
use Rattle.lease_owners.specs.Owning.{HoldsOwn, IsOf}

pub holds-on : (known later : Keys) (m : ℕ) (agent : AgentFacts)
    → ((n revision : ℕ) → IsOf known n revision → IsOf later n revision) → HoldsOwn known m agent
    → HoldsOwn later m agent
holds-on known later m agent grow old = record {
  held = λ revision is. grow m revision (old.held revision is);
  read = λ seen is. grow seen.holder seen.revision (old.read seen is);
}

-- no agent acts at this event, and nothing is sent or granted; one may start
abbrev pub IsStill : EventKind → Type 0
IsStill (kinds.Message (messages.Sent number message)) = ⊥
IsStill (kinds.Message (messages.Delivered number)) = ⊥
IsStill (kinds.Store (stores.Granted number by txn standbys)) = ⊥
IsStill (kinds.Agent (agents.Woken by)) = ⊥
IsStill (kinds.Agent (agents.Operated by action)) = ⊥
IsStill _ = Unit {0}

-- ---- processes that go on in their incarnation
pub record GoesOn (before : Option AgentProcess) (process : AgentProcess) : Type 0 where
  pub was : AgentProcess
  pub is : before ≡ Some was
  pub same : process.incarnation ≡ was.incarnation

pub knows-on : (m : ℕ) (before after : Option AgentProcess) (agent : AgentFacts)
    → ((process : AgentProcess) → after ≡ Some process → GoesOn before process) → KnowsItsRun m before agent
    → KnowsItsRun m after agent
knows-on m before after agent goes old = record {
  incarnation = λ process is. let on = goes process is in old.incarnation on.was on.is ∙ sym on.same;
  me = old.me;
  ends = old.ends;
}

goes-same : (before : Option AgentProcess) (process : AgentProcess) → before ≡ Some process → GoesOn before process
goes-same before process is = record { was = process; is = is; same = refl }

changed-goes : (processes : List AgentProcess) (k m : ℕ) (change : AgentProcess → AgentProcess)
    → ((process : AgentProcess) → (change process).incarnation ≡ process.incarnation) → (process : AgentProcess)
    → slice_get (with_changed processes k change) m ≡ Some process → GoesOn (slice_get processes m) process
changed-goes processes k m change same process is =
    by (m == k) (slice_get processes m) refl (sym (get-changed processes k m change) ∙ is)
  where
    by : (here : Bool) (found : Option AgentProcess) → slice_get processes m ≡ found
        → cond here (option_map change found) found ≡ Some process → GoesOn (slice_get processes m) process
    by true None at e = absurd (none-some process e)
    by true (Some was) at e = record {
      was = was;
      is = at;
      same = ap (λ (p : AgentProcess). p.incarnation) (sym (some-is (change was) process e)) ∙ same was;
    }
    by false found at e = record { was = process; is = at ∙ e; same = refl }

-- ---- one that ended
ended-none : {A : Type 0} (found : Option (Option A)) (agent : A)
    → option_map (λ (agent : Option A). let none : Option A = None in none) found ≡ Some (Some agent) → ⊥
ended-none None agent e = cc
ended-none (Some found) agent e = cc

without-was : (known : List (Option AgentFacts)) (k m : ℕ) (agent : AgentFacts)
    → slice_get (with_changed known k (λ agent. None)) m ≡ Some (Some agent) → slice_get known m ≡ Some (Some agent)
without-was known k m agent is = by (m == k) (sym (get-changed known k m (λ agent. None)) ∙ is)
  where
    by : (same : Bool)
        → cond same
        (option_map (λ (agent : Option AgentFacts). let none : Option AgentFacts = None in none) (slice_get known m))
        (slice_get known m) ≡ Some (Some agent)
        → slice_get known m ≡ Some (Some agent)
    by true e = absurd (ended-none (slice_get known m) agent e)
    by false e = e

-- ---- one that starts
started-agent : (found : Option (Option AgentFacts)) (start agent : AgentFacts)
    → option_map (λ (agent : Option AgentFacts). Some start) found ≡ Some (Some agent) → start ≡ agent
started-agent None start agent e = absurd (none-some (Some agent) e)
started-agent (Some found) start agent e = some-is start agent (some-is (Some start) (Some agent) e)

pub fresh-holds : (known : Keys) (m now incarnation : ℕ) (who : Who)
    → HoldsOwn known m (starting_agent who now incarnation)
fresh-holds known m now incarnation who = record {
  held = λ revision is. absurd (none-some revision is);
  read = λ seen is. absurd (none-some seen is);
}

run-found : (found : Option AgentProcess) (run : AgentProcess) (process : AgentProcess)
    → option_map (λ (state : AgentProcess). run) found ≡ Some process → run ≡ process
run-found None run process e = absurd (none-some process e)
run-found (Some found) run process e = some-is run process e

module _ (known : Keys) (processes : List AgentProcess) (agents : List (Option AgentFacts))
    (old : AgentsAreKept known processes agents) (k now incarnation : ℕ) (who : Who) (me : who.me.number ≡ k)
    (run : AgentProcess) (runs : run.incarnation ≡ incarnation) where
  abbrev Start : AgentFacts
  Start = starting_agent who now incarnation

  started-by : (m : ℕ) (here : Bool) → (m == k) ≡ here → (agent : AgentFacts)
      → cond here (option_map (λ (agent : Option AgentFacts). Some Start) (slice_get agents m)) (slice_get agents m)
      ≡ Some (Some agent)
      → KnowsItsRun m (cond here (option_map (λ (state : AgentProcess). run) (slice_get processes m))
      (slice_get processes m)) agent × HoldsOwn known m agent
  started-by m true same agent is =
      let start = started-agent (slice_get agents m) Start agent is in (
        record {
          incarnation = λ process found. ap (λ (a : AgentFacts). a.knows.incarnation) (sym start)
              ∙ sym runs ∙ ap (λ (p : AgentProcess). p.incarnation)
              (run-found (slice_get processes m) run process found);
          me = ap (λ (a : AgentFacts). a.knows.who.me.number) (sym start) ∙ me ∙ sym (eq-from m k same);
          ends = subst (λ (a : AgentFacts). EndsAlone a.role a.knows.waited) start tt;
        },
        subst (HoldsOwn known m) start (fresh-holds known m now incarnation who),
      )
  started-by m false same agent is = old m agent is

  started-kept : AgentsAreKept known (with_changed processes k (λ state. run))
      (with_changed agents k (λ agent. Some Start))
  started-kept m agent is =
      subst (λ (found : Option AgentProcess). KnowsItsRun m found agent × HoldsOwn known m agent)
      (sym (get-changed processes k m (λ state. run)))
      (started-by m (m == k) refl agent (sym (get-changed agents k m (λ agent. Some Start)) ∙ is))

-- ---- one event
module _ (known : Keys) (cluster : Cluster)
    (old : AgentsAreKept known cluster.facts.processes cluster.agents) where
  ended-kept : (k : ℕ)
      → AgentsAreKept known (with_changed cluster.facts.processes k ended_process)
      (with_changed cluster.agents k (λ agent. None))
  ended-kept k m agent is =
      let was = old m agent (without-was cluster.agents k m agent is) in (
        knows-on m (slice_get cluster.facts.processes m) _ agent
            (changed-goes cluster.facts.processes k m ended_process (λ process. refl)) was.0,
        was.1,
      )

  changed-kept : (k : ℕ) (change : AgentProcess → AgentProcess)
      → ((process : AgentProcess) → (change process).incarnation ≡ process.incarnation)
      → AgentsAreKept known (with_changed cluster.facts.processes k change) cluster.agents
  changed-kept k change same m agent is = let was = old m agent is in (
    knows-on m (slice_get cluster.facts.processes m) _ agent
        (changed-goes cluster.facts.processes k m change same) was.0,
    was.1,
  )

  pub still-agents : (kind : EventKind) → IsStill kind
      → AgentsAreKept known (processes_after cluster.facts.processes kind) (agent_facts_after cluster kind)
  still-agents (kinds.Message (messages.Sent number message)) is = absurd is
  still-agents (kinds.Message (messages.Delivered number)) is = absurd is
  still-agents (kinds.Message (messages.Lost number)) is = old
  still-agents (kinds.Watchdog (watchdogs.Reset member)) is = ended-kept member.id.number
  still-agents (kinds.Agent (agents.Woken by)) is = absurd is
  still-agents (kinds.Agent (agents.Operated by action)) is = absurd is
  still-agents (kinds.Agent (agents.Suspended member)) is =
      changed-kept member.id.number (λ state. record state { suspended = true }) (λ process. refl)
  still-agents (kinds.Agent (agents.Resumed member)) is =
      changed-kept member.id.number (λ state. record state { suspended = false }) (λ process. refl)
  still-agents (kinds.Agent (agents.Killed member)) is = ended-kept member.id.number
  still-agents (kinds.Agent (agents.Started member incarnation)) is =
      started-kept known cluster.facts.processes cluster.agents old member.id.number cluster.facts.clock incarnation
      (who_of cluster.scope cluster.options cluster.facts.members member) refl (running_in incarnation) refl
  still-agents (kinds.Agent (agents.Passed member)) is = old
  still-agents _ is = old
