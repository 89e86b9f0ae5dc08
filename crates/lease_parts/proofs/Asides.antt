-- An event at which no agent acts keeps a book's past and its cluster matched.
use Rattle.std.proofs.Common.{ℕ, ◌≡◌, ◌<◌, ◌==◌, ◌++◌, Bool, true, false, cond, List, [], ◌∷◌, length, slice_get, Option, Some, None, option_map, refl, ◌∙◌, ap, sym, subst}
use Rattle.pat_base.specs.Changes.{with_changed}
use Rattle.event_book.specs.declared.agent_process.AgentProcess.{AgentProcess}
use Rattle.event_book.specs.declared.event.AgentEvent.TheVariants as agents
use Rattle.event_book.specs.declared.event.Event.{Event}
use Rattle.event_book.specs.declared.event.EventKind.{EventKind}
use Rattle.event_book.specs.declared.event.EventKind.TheVariants as kinds
use Rattle.event_book.specs.declared.event.MessageEvent.TheVariants as messages
use Rattle.event_book.specs.declared.event.ServerEvent.TheVariants as servers
use Rattle.event_book.specs.declared.event.StoreEvent.TheVariants as stores
use Rattle.event_book.specs.declared.event.WatchdogEvent.TheVariants as watchdogs
use Rattle.event_book.specs.declared.member.Member.{Member}
use Rattle.event_book.specs.Processes.{processes_after, running_in}
use Rattle.event_book.specs.Facts.{Facts}
use Rattle.event_book.specs.Writers.{BeginsKind}
use Rattle.agent_model.specs.Agents.{AgentFacts}
use Rattle.cluster_model.specs.Cluster.{agent_facts_after, cluster_after, cluster_over}
use Rattle.script_model.specs.Script.{HeadText}
use Rattle.cluster_model.specs.State.{Cluster}
use Rattle.lease_model.specs.Claims.{BeginsBehind}
use Rattle.lease_model.specs.Past.{Past, past_after, past_over, past_of, first_past}
use Rattle.event_book.specs.Premises.{IsHandsOffKind}
use Rattle.event_book.specs.Kinds.{AllAre}
use Rattle.lease_model.specs.Stores.{IsSpanned}
use Rattle.lease_law.proofs.SameStore.{same-by}
use Rattle.lease_law.proofs.Showing.{past-append}
use Rattle.lease_model.proofs.Tools.{eq-from}
use Rattle.lease_law.proofs.Unpaused.{pauses-by}
use Rattle.lease_book.specs.Flights.{IsCausal}
use Rattle.lease_book.proofs.Flights.{flight-by}
use Rattle.lease_parts.specs.Asides.{IsAside, IsAsideIn}
use Rattle.lease_model.specs.Modes.{LeavesMode}
use Rattle.agent_sending.specs.Modes.{KeepsMode}
use Rattle.lease_parts.specs.Bridged.{KnowsItself, KnowThemselves, IsMatched, SeesMode}
use Rattle.lease_parts.specs.Declaring.{declared_of}
use Rattle.lease_parts.proofs.Fitting.{failsafe-by}
use Rattle.lease_parts.proofs.Fresh.{fresh-keeps, fresh-sees}
use Rattle.run_promise.specs.Members.{member_count}
use Rattle.lease_parts.specs.Machines.{run_in}
use Rattle.lease_parts.proofs.Machines.{machines-by, sized-by}
use Rattle.cluster_model.proofs.Places.{get-changed, length-changed, there}
use Rattle.lease_parts.proofs.Waiting.{aside-sends, aside-within, waiting-aside, waiting-started}
use Rattle.agent_model.specs.Pausing.{is_paused}

-- what such an event is beside
aside-spanned : (May : ℕ → Type 0) (kind : EventKind) → IsAsideIn May kind → IsSpanned kind
aside-spanned May (kinds.Store (stores.Granted number by txn standbys)) is = absurd is
aside-spanned May _ is = tt

aside-causal : (May : ℕ → Type 0) (past : Past) (facts : Facts) (kind : EventKind) → IsAsideIn May kind
    → IsCausal past facts kind
aside-causal May past facts (kinds.Message (messages.Sent number message)) is = absurd is
aside-causal May past facts _ is = tt

pub aside-hands_off : (May : ℕ → Type 0) (kind : EventKind) → IsAsideIn May kind → IsHandsOffKind kind
aside-hands_off May (kinds.Store (stores.Granted number by txn standbys)) is = absurd is
aside-hands_off May (kinds.Server (servers.Promoted server)) is = absurd is
aside-hands_off May _ is = tt

pub aside-mode : (mode : Bool) (May : ℕ → Type 0) (kind : EventKind) → IsAsideIn May kind → LeavesMode mode kind
aside-mode mode May (kinds.Store (stores.Granted number by txn standbys)) is = absurd is
aside-mode mode May _ is = tt

aside-begins : (May P : ℕ → Type 0) (kind : EventKind) → IsAsideIn May kind → ((n : ℕ) → May n → P n)
    → BeginsKind P kind
aside-begins May P (kinds.Server (servers.Began server timeline)) is so = so server.id.number is
aside-begins May P _ is so = tt

-- who begins at such events may
pub asides-begin-as : (May : ℕ → Type 0) (P : List Event → ℕ → Type 0) (before events : List Event)
    → AllAre (IsAsideIn May) events → ((book : List Event) (n : ℕ) → May n → P book n) → BeginsBehind P before events
asides-begin-as May P before [] all so = tt
asides-begin-as May P before (event ∷ events) all so = (
  aside-begins May (P before) event.kind all.0 (so before),
  asides-begin-as May P (before ++ event ∷ []) events all.1 so,
)

-- nobody begins at such events
pub asides-begin : (P : List Event → ℕ → Type 0) (before events : List Event) → AllAre IsAside events
    → BeginsBehind P before events
asides-begin P before events all = asides-begin-as (λ n. ⊥) P before events all (λ book n e. absurd e)

pub aside-sized : (May : ℕ → Type 0) (cluster : Cluster) (kind : EventKind) → IsAsideIn May kind
    → length (agent_facts_after cluster kind) ≡ length cluster.agents
aside-sized May cluster (kinds.Message (messages.Sent number message)) is = absurd is
aside-sized May cluster (kinds.Message (messages.Delivered number)) is = absurd is
aside-sized May cluster (kinds.Watchdog (watchdogs.Reset member)) is = length-changed cluster.agents _ _
aside-sized May cluster (kinds.Agent (agents.Woken agent)) is = absurd is
aside-sized May cluster (kinds.Agent (agents.Operated agent action)) is = absurd is
aside-sized May cluster (kinds.Agent (agents.Killed agent)) is = length-changed cluster.agents _ _
aside-sized May cluster (kinds.Agent (agents.Started agent incarnation)) is = absurd is
aside-sized May cluster _ is = refl

-- an agent and its process change together
knows-at : (mode : Bool) (processes : List AgentProcess) (agents : List (Option AgentFacts)) (k m : ℕ)
    (change : AgentProcess → AgentProcess) (becomes : Option AgentFacts → Option AgentFacts)
    (agent : AgentFacts) (same : Bool) → (m == k) ≡ same
    → (m ≡ k → option_map becomes (slice_get agents m) ≡ Some (Some agent) →
    KnowsItself mode m (option_map change (slice_get processes m)) agent)
    → (slice_get agents m ≡ Some (Some agent) → KnowsItself mode m (slice_get processes m) agent)
    → cond same (option_map becomes (slice_get agents m)) (slice_get agents m) ≡ Some (Some agent)
    → KnowsItself mode m (cond same (option_map change (slice_get processes m)) (slice_get processes m)) agent
knows-at mode processes agents k m change becomes agent true e here before is = here (eq-from m k e) is
knows-at mode processes agents k m change becomes agent false e here before is = before is

knows-changed : (mode : Bool) (processes : List AgentProcess) (agents : List (Option AgentFacts)) (k : ℕ)
    (change : AgentProcess → AgentProcess) (becomes : Option AgentFacts → Option AgentFacts)
    → ((m : ℕ) (agent : AgentFacts) → m ≡ k → option_map becomes (slice_get agents m) ≡ Some (Some agent) →
    KnowsItself mode m (option_map change (slice_get processes m)) agent)
    → KnowThemselves mode processes agents
    → KnowThemselves mode (with_changed processes k change) (with_changed agents k becomes)
knows-changed mode processes agents k change becomes here before m agent is =
    subst (λ (o : Option AgentProcess). KnowsItself mode m o agent) (sym (get-changed processes k m change))
    (knows-at mode processes agents k m change becomes agent (m == k) refl (here m agent) (before m agent)
    (sym (get-changed agents k m becomes) ∙ is))

none-there : {A : Type 0} (found : Option (Option A)) (agent : A)
    → option_map (λ (agent : Option A). let none : Option A = None in none) found ≡ Some (Some agent) → ⊥
none-there None agent e = cc
none-there (Some found) agent e = cc

the-started : {A : Type 0} (found : Option (Option A)) (started agent : A)
    → option_map (λ (agent : Option A). Some started) found ≡ Some (Some agent) → started ≡ agent
the-started None started agent e = cc
the-started (Some found) started agent e = cc

-- a process is suspended, or goes on
suspended-knows : (mode : Bool) (m : ℕ) (to same : Bool) (process : Option AgentProcess) (agent : AgentFacts)
    → KnowsItself mode m process agent
    → KnowsItself mode m
    (cond same (option_map (λ (process : AgentProcess). let changed : AgentProcess = record process {
      suspended = to;
    } in changed) process) process) agent
suspended-knows mode m to true process agent old = record {
  found = let changed : AgentProcess = record old.found { suspended = to } in changed;
  is =
      ap (option_map (λ (process : AgentProcess). let changed : AgentProcess = record process { suspended = to } in
      changed))
      old.is;
  running = old.running;
  incarnation = old.incarnation;
  me = old.me;
  keeps = old.keeps;
  sees = old.sees;
  unpaused = old.unpaused;
}
suspended-knows mode m to false process agent old = old

knows-suspended : (mode : Bool) (to : Bool) (processes : List AgentProcess) (agents : List (Option AgentFacts)) (k : ℕ)
    → KnowThemselves mode processes agents
    → KnowThemselves mode (with_changed processes k (λ process. record process { suspended = to })) agents
knows-suspended mode to processes agents k before m agent is =
    subst (λ (o : Option AgentProcess). KnowsItself mode m o agent) (sym (get-changed processes k m _))
    (suspended-knows mode m to (m == k) (slice_get processes m) agent (before m agent is))

aside-knows : (mode : Bool) (May : ℕ → Type 0) (cluster : Cluster) (kind : EventKind) → IsAsideIn May kind
    → KnowThemselves mode cluster.facts.processes cluster.agents
    → KnowThemselves mode (processes_after cluster.facts.processes kind) (agent_facts_after cluster kind)
aside-knows mode May cluster (kinds.Message (messages.Sent number message)) is old = absurd is
aside-knows mode May cluster (kinds.Message (messages.Delivered number)) is old = absurd is
aside-knows mode May cluster (kinds.Watchdog (watchdogs.Reset member)) is old =
    knows-changed mode cluster.facts.processes cluster.agents member.id.number _ _
    (λ m agent here none. absurd (none-there (slice_get cluster.agents m) agent none)) old
aside-knows mode May cluster (kinds.Agent (agents.Woken agent)) is old = absurd is
aside-knows mode May cluster (kinds.Agent (agents.Operated agent action)) is old = absurd is
aside-knows mode May cluster (kinds.Agent (agents.Killed member)) is old =
    knows-changed mode cluster.facts.processes cluster.agents member.id.number _ _
    (λ m agent here none. absurd (none-there (slice_get cluster.agents m) agent none)) old
aside-knows mode May cluster (kinds.Agent (agents.Started member incarnation)) is old = absurd is
aside-knows mode May cluster (kinds.Agent (agents.Suspended member)) is old =
    knows-suspended mode true cluster.facts.processes cluster.agents member.id.number old
aside-knows mode May cluster (kinds.Agent (agents.Resumed member)) is old =
    knows-suspended mode false cluster.facts.processes cluster.agents member.id.number old
aside-knows mode May cluster _ is old = old

-- one such event, in which one of the members begins if anybody does
pub aside-matched : (May : ℕ → Type 0) (head : HeadText) (past : Past) (cluster : Cluster) (kind : EventKind)
    → IsAsideIn May kind → ((n : ℕ) → May n → n < member_count head)
    → IsMatched head past cluster → IsMatched head (past_after past kind) (cluster_after cluster kind)
aside-matched May head past cluster kind is within old = record {
  members = old.members;
  options = old.options;
  sized = sized-by (member_count head) cluster.facts kind old.sized;
  agents_sized = aside-sized May cluster kind is ∙ old.agents_sized;
  store = same-by past cluster.facts kind (aside-spanned May kind is) old.store;
  flight = flight-by past cluster.facts kind (aside-causal May past cluster.facts kind is) old.store old.flight;
  machines = machines-by (member_count head) past cluster.facts kind old.sized
      (aside-within May (member_count head) kind is (aside-begins May (λ n. n < member_count head) kind is within))
      old.machines;
  unpaused = pauses-by cluster.facts kind (aside-hands_off May kind is) old.unpaused;
  failsafe = failsafe-by (declared_of head).failsafe (member_count head) past cluster kind
      (record { store = old.store; flight = old.flight })
      (aside-within May (member_count head) kind is (aside-begins May (λ n. n < member_count head) kind is within))
      (aside-sends cluster.facts.members (declared_of head).failsafe May kind is)
      (aside-mode (declared_of head).failsafe May kind is) old.failsafe;
  agents = aside-knows (declared_of head).failsafe May cluster kind is old.agents;
  waiting = waiting-aside May head past cluster kind is old;
}

-- a list of them
pub asides-matched-as : (May : ℕ → Type 0) (head : HeadText) (past : Past) (cluster : Cluster) (events : List Event)
    → AllAre (IsAsideIn May) events → ((n : ℕ) → May n → n < member_count head)
    → IsMatched head past cluster → IsMatched head (past_over past events) (cluster_over cluster events)
asides-matched-as May head past cluster [] all within old = old
asides-matched-as May head past cluster (event ∷ events) all within old =
    asides-matched-as May head (past_after past event.kind) (cluster_after cluster event.kind) events all.1 within
    (aside-matched May head past cluster event.kind all.0 within old)

pub asides-matched : (head : HeadText) (past : Past) (cluster : Cluster) (events : List Event) → AllAre IsAside events
    → IsMatched head past cluster → IsMatched head (past_over past events) (cluster_over cluster events)
asides-matched head past cluster events all old =
    asides-matched-as (λ n. ⊥) head past cluster events all (λ n e. absurd e) old

-- the same behind a book
pub matched-behind-as : (May : ℕ → Type 0) (head : HeadText) (book : List Event) (cluster : Cluster)
    (events : List Event) → AllAre (IsAsideIn May) events → ((n : ℕ) → May n → n < member_count head)
    → IsMatched head (past_of book) cluster → IsMatched head (past_of (book ++ events)) (cluster_over cluster events)
matched-behind-as May head book cluster events all within old =
    subst (λ (past : Past). IsMatched head past (cluster_over cluster events))
    (sym (past-append first_past book events)) (asides-matched-as May head (past_of book) cluster events all within old)

pub matched-behind : (head : HeadText) (book : List Event) (cluster : Cluster) (events : List Event)
    → AllAre IsAside events
    → IsMatched head (past_of book) cluster → IsMatched head (past_of (book ++ events)) (cluster_over cluster events)
matched-behind head book cluster events all old =
    matched-behind-as (λ n. ⊥) head book cluster events all (λ n e. absurd e) old

-- ---- an agent starts
started-knows : (mode : Bool) (count : ℕ) (cluster : Cluster) (member : Member) (incarnation : ℕ)
    → length cluster.facts.processes ≡ count → member.id.number < count
    → KnowThemselves mode cluster.facts.processes cluster.agents
    → KnowThemselves mode (processes_after cluster.facts.processes (kinds.Agent (agents.Started member incarnation)))
    (agent_facts_after cluster (kinds.Agent (agents.Started member incarnation)))
started-knows mode count cluster member incarnation sized is old =
    knows-changed mode cluster.facts.processes cluster.agents member.id.number _ _ (λ m agent here started.
    let one = the-started (slice_get cluster.agents m) _ agent started in
    let process = there cluster.facts.processes m
    (subst (λ (n : ℕ). n < length cluster.facts.processes) (sym here)
    (subst (λ (n : ℕ). member.id.number < n) (sym sized) is)) in
    record {
      found = running_in incarnation;
      is = ap (option_map (λ (process : AgentProcess). running_in incarnation)) process.1;
      running = refl;
      incarnation = ap (λ (a : AgentFacts). a.knows.incarnation) (sym one);
      me = ap (λ (a : AgentFacts). a.knows.who.me.number) (sym one) ∙ sym here;
      keeps = subst (λ (a : AgentFacts). KeepsMode mode a.knows) one (fresh-keeps mode _ _ _);
      sees = subst (λ (a : AgentFacts). SeesMode mode a.knows) one (fresh-sees mode);
      unpaused = ap (λ (a : AgentFacts). is_paused a.knows) (sym one);
    }) old

-- in a run above that of its process
pub started-matched : (head : HeadText) (past : Past) (cluster : Cluster) (member : Member) (incarnation : ℕ)
    → member.id.number < member_count head → run_in cluster.facts.processes member.id.number < incarnation
    → IsMatched head past cluster
    → IsMatched head (past_after past (kinds.Agent (agents.Started member incarnation)))
    (cluster_after cluster (kinds.Agent (agents.Started member incarnation)))
started-matched head past cluster member incarnation small later old =
    let kind : EventKind = kinds.Agent (agents.Started member incarnation) in
    record {
      members = old.members;
      options = old.options;
      sized = sized-by (member_count head) cluster.facts kind old.sized;
      agents_sized = length-changed cluster.agents _ _ ∙ old.agents_sized;
      store = same-by past cluster.facts kind tt old.store;
      flight = flight-by past cluster.facts kind tt old.store old.flight;
      machines = machines-by (member_count head) past cluster.facts kind old.sized small old.machines;
      unpaused = pauses-by cluster.facts kind tt old.unpaused;
      failsafe = failsafe-by (declared_of head).failsafe (member_count head) past cluster kind
          (record { store = old.store; flight = old.flight }) small tt tt old.failsafe;
      agents = started-knows (declared_of head).failsafe
          (member_count head) cluster member incarnation old.sized.agents small old.agents;
      waiting = waiting-started head past cluster member incarnation small later old;
    }
