-- A failsafe request is in flight to each member once at most, and each member holds for it once
-- at most: so those whose acknowledgements an agent waits for took their holds when it has noted.
use Rattle.std.proofs.Common.{◌≡◌, ◌≢◌, ◌⊎◌, ◌+◌, ◌==◌, ◌≤◌, ◌<◌, ℕ, zero, suc, nat_lt, Bool, true, false, cond, List, [], ◌∷◌, Option, Some, None, slice_get, option_map, refl, sym, subst, ap, ◌∙◌, arith, inl, inr}
use Rattle.std.proofs.lemmas.Bool.{cases_eq}
use Rattle.std.proofs.lemmas.Bool.Decides.{nat_tests}
use Rattle.pat_base.specs.Changes.{with_changed}
use Rattle.pat_base.specs.declared.member_id.TheConstants.{MOST_MEMBERS}
use Rattle.pat_base.specs.declared.name.Name.{Name}
use Rattle.pat_base.specs.declared.ticks.Ticks.{Ticks}
use Rattle.pat_base.specs.MemberId.{member_by}
use Rattle.event_book.specs.declared.agent_process.AgentProcess.{AgentProcess}
use Rattle.event_book.specs.declared.event.AgentEvent.TheVariants as agents
use Rattle.event_book.specs.declared.event.Event.{Event}
use Rattle.event_book.specs.declared.event.EventKind.{EventKind}
use Rattle.event_book.specs.declared.event.EventKind.TheVariants as kinds
use Rattle.event_book.specs.declared.event.MessageEvent.TheVariants as messages
use Rattle.event_book.specs.declared.event.WatchdogEvent.TheVariants as watchdogs
use Rattle.event_book.specs.declared.link.LinkEnd.{LinkEnd}
use Rattle.event_book.specs.declared.link.LinkEnd.TheVariants as ends
use Rattle.event_book.specs.declared.member.Member.{Member}
use Rattle.event_book.specs.declared.message.Body.{Body}
use Rattle.event_book.specs.declared.message.Body.TheVariants as bodies
use Rattle.event_book.specs.declared.message.Message.{Message}
use Rattle.event_book.specs.Flight.{Flight, InFlightFacts, in_flight, launched}
use Rattle.event_book.specs.Functions.{put_at}
use Rattle.event_book.specs.Kinds.{AllAre}
use Rattle.event_book.specs.Members.{members_from, put_first}
use Rattle.event_book.specs.Premises.{IsTaken, Moments, Taking, moments_after, taken_with}
use Rattle.event_book.specs.Processes.{ended_process, running_in}
use Rattle.failsafe.specs.declared.asks.Ask.{Ask}
use Rattle.failsafe.specs.Asks.{has}
use Rattle.agent_model.specs.declared.knowledge.PendingQuestion.{PendingQuestion}
use Rattle.agent_model.specs.Agents.{AgentFacts, EndsAlone, HasCounted}
use Rattle.agent_model.specs.StayingPrimary.{is_staying}
use Rattle.cluster_model.specs.Cluster.{cluster_after, cluster_over}
use Rattle.cluster_model.specs.Inputs.{starting_agent}
use Rattle.cluster_model.specs.Machines.{who_of}
use Rattle.cluster_model.specs.State.{Cluster}
use Rattle.cluster_model.proofs.Places.{get-changed}
use Rattle.lease_model.proofs.Tools.{eq-from, none-some, put-here, put-there, some-is}
use Rattle.lease_book.specs.Flights.{Rises}
use Rattle.lease_book.specs.Groups.{AreNumberedAbove}
use Rattle.lease_book.proofs.Entries.{in-with, in-without}
use Rattle.lease_runs.proofs.Moments.{KnowsSending, moments_over, sending-by}

-- a failsafe request of one member to another: who is asked, who asks in which incarnation, and under which number
pub record Request : Type 0 where
  pub by : ℕ
  pub from : ℕ
  pub incarnation : ℕ
  pub sequence : ℕ

-- a hold that was taken for it
abbrev pub taking : Request → ℕ → Taking
taking r moment =
    record { by = r.by; from = r.from; incarnation = r.incarnation; sequence = r.sequence; moment = moment }

-- the failsafe request that a message is, if it is one
abbrev pub request_in : Member → Member → ℕ → ℕ → Body → Option Request
request_in from to incarnation sequence (bodies.FailsafeRequest ttl) =
    Some (record { by = to.id.number; from = from.id.number; incarnation = incarnation; sequence = sequence })
request_in from to incarnation sequence _ = None

abbrev pub request_by : LinkEnd → LinkEnd → ℕ → ℕ → Body → Option Request
request_by (ends.Member from) (ends.Member to) incarnation sequence body = request_in from to incarnation sequence body
request_by (ends.Member from) ends.Store incarnation sequence body = None
request_by ends.Store to incarnation sequence body = None

abbrev pub request_of : Message → Option Request
request_of message = request_by message.from message.to message.incarnation message.sequence message.body

-- the failsafe request that a message acknowledges, if it does
abbrev pub yes_in : Member → Member → ℕ → ℕ → Body → Option Request
yes_in from to incarnation sequence (bodies.FailsafeAnswer true) =
    Some (record { by = from.id.number; from = to.id.number; incarnation = incarnation; sequence = sequence })
yes_in from to incarnation sequence _ = None

abbrev pub yes_by : LinkEnd → LinkEnd → ℕ → ℕ → Body → Option Request
yes_by (ends.Member from) (ends.Member to) incarnation sequence body = yes_in from to incarnation sequence body
yes_by (ends.Member from) ends.Store incarnation sequence body = None
yes_by ends.Store to incarnation sequence body = None

abbrev pub yes_of : Message → Option Request
yes_of message = yes_by message.from message.to message.incarnation message.sequence message.body

-- a request has a number that counts from 1, and that its sender has given in no incarnation to come
pub record IsGiven (runs : ℕ → ℕ) (known : List (Option AgentFacts)) (r : Request) : Type 0 where
  pub counted : 0 < r.sequence
  pub run : r.incarnation ≤ runs r.from
  pub given : (agent : AgentFacts) → slice_get known r.from ≡ Some (Some agent)
      → r.incarnation ≡ agent.knows.incarnation → r.sequence ≤ agent.knows.sequence

-- requests are in flight once at most, and held for once at most; and
-- whoever acknowledges holds from the moment of its word on
pub record AskOnce (taken : List Taking) (runs : ℕ → ℕ) (flight : Flight) (known : List (Option AgentFacts)) : Type
    0 where
  pub once : (i j : ℕ) (c d : InFlightFacts) (r : Request) → in_flight flight i ≡ Some c
      → in_flight flight j ≡ Some d → request_of c.message ≡ Some r → request_of d.message ≡ Some r → i ≡ j
  pub fresh : (i : ℕ) (c : InFlightFacts) (r : Request) (moment : ℕ) → in_flight flight i ≡ Some c
      → request_of c.message ≡ Some r → IsTaken taken (taking r moment) → ⊥
  pub unique : (r : Request) (a b : ℕ) → IsTaken taken (taking r a) → IsTaken taken (taking r b) → a ≡ b
  pub yes : (i : ℕ) (c : InFlightFacts) (r : Request) → in_flight flight i ≡ Some c
      → yes_of c.message ≡ Some r → IsTaken taken (taking r c.sent.0)
  pub asked : (i : ℕ) (c : InFlightFacts) (r : Request) → in_flight flight i ≡ Some c
      → request_of c.message ≡ Some r → IsGiven runs known r
  pub held : (r : Request) (moment : ℕ) → IsTaken taken (taking r moment) → IsGiven runs known r

-- those who acknowledged a request of this member hold for it, the
-- earliest of them from the moment on that is noted; and some were asked
pub record IsCounted (taken : List Taking) (m run sequence : ℕ) (ask : Ask) : Type 0 where
  pub some : ask.members.bits == 0 ≡ false
  pub none : ask.earliest ≡ None → ask.acknowledged.bits ≡ 0
  pub each : (p : ℕ) (e : Ticks) → ask.earliest ≡ Some e → has ask.acknowledged p ≡ true
      → (t : ℕ)
      × (IsTaken taken (record { by = p; from = m; incarnation = run; sequence = sequence; moment = t }) × (e.0 ≤ t))
  pub one : (e : Ticks) → ask.earliest ≡ Some e
      → (p : ℕ)
      × ((has ask.members p ≡ true) ×
      IsTaken taken (record { by = p; from = m; incarnation = run; sequence = sequence; moment = e.0 }))

-- an agent of this member knows its incarnation, and who acknowledged what it waits for
pub record KnowsAsked (taken : List Taking) (m run : ℕ) (agent : AgentFacts) : Type 0 where
  pub run_is : agent.knows.incarnation ≡ run
  pub ends : EndsAlone agent.role agent.knows.waited
  pub counted : HasCounted agent.knows
  pub stays : (waited : PendingQuestion) → agent.knows.waited ≡ Some waited
      → is_staying waited.question ≡ true → IsCounted taken m run waited.sequence agent.knows.failsafe

abbrev pub KnowAsked : List Taking → (ℕ → ℕ) → List (Option AgentFacts) → Type 0
KnowAsked taken runs known =
    (m : ℕ) (agent : AgentFacts) → slice_get known m ≡ Some (Some agent) → KnowsAsked taken m (runs m) agent

abbrev pub RunsAre : (ℕ → ℕ) → List AgentProcess → Type 0
RunsAre runs processes =
    (m : ℕ) (process : AgentProcess) → slice_get processes m ≡ Some process → process.incarnation ≡ runs m

-- so it is behind a book
pub record AsksOnce (moments : Moments) (cluster : Cluster) : Type 0 where
  pub runs : RunsAre moments.runs cluster.facts.processes
  pub agents : KnowAsked moments.taken moments.runs cluster.agents
  pub asks : AskOnce moments.taken moments.runs cluster.facts.flight cluster.agents

-- ---- fewer messages and agents
-- a message that is no failsafe request, and acknowledges none
abbrev pub IsOther : Message → Type 0
IsOther message = (request_of message ≡ None) × (yes_of message ≡ None)

no-request : {A : Type 0} (o : Option A) (x : A) → o ≡ None → o ≡ Some x → ⊥
no-request o x none some = none-some x (sym none ∙ some)

given-sub : (runs : ℕ → ℕ) (known later : List (Option AgentFacts)) (r : Request)
    → ((m : ℕ) (agent : AgentFacts) → slice_get later m ≡ Some (Some agent) → slice_get known m ≡ Some (Some agent))
    → IsGiven runs known r → IsGiven runs later r
given-sub runs known later r sub old =
    record { counted = old.counted; run = old.run; given = λ agent is same. old.given agent (sub r.from agent is) same }

pub once-sub : (taken : List Taking) (runs : ℕ → ℕ) (flight then : Flight) (known later : List (Option AgentFacts))
    → ((i : ℕ) (c : InFlightFacts) → in_flight then i ≡ Some c → (in_flight flight i ≡ Some c) ⊎ IsOther c.message)
    → ((m : ℕ) (agent : AgentFacts) → slice_get later m ≡ Some (Some agent) → slice_get known m ≡ Some (Some agent))
    → AskOnce taken runs flight known → AskOnce taken runs then later
once-sub taken runs flight then known later messages sub old = record {
  once = λ i j c d r is at rc rd. elim (messages i c is) [
    | inl was ↦ elim (messages j d at) [
      | inl also ↦ old.once i j c d r was also rc rd
      | inr other ↦ absurd (no-request (request_of d.message) r other.0 rd)
    ]
    | inr other ↦ absurd (no-request (request_of c.message) r other.0 rc)
  ];
  fresh = λ i c r moment is rc taken_is. elim (messages i c is) [
    | inl was ↦ old.fresh i c r moment was rc taken_is
    | inr other ↦ absurd (no-request (request_of c.message) r other.0 rc)
  ];
  unique = old.unique;
  yes = λ i c r is yc. elim (messages i c is) [
    | inl was ↦ old.yes i c r was yc
    | inr other ↦ absurd (no-request (yes_of c.message) r other.1 yc)
  ];
  asked = λ i c r is rc. elim (messages i c is) [
    | inl was ↦ given-sub runs known later r sub (old.asked i c r was rc)
    | inr other ↦ absurd (no-request (request_of c.message) r other.0 rc)
  ];
  held = λ r moment is. given-sub runs known later r sub (old.held r moment is);
}

-- ---- an event by which nobody asks, holds, acknowledges or starts, and no agent acts
abbrev pub IsNeutral : EventKind → Type 0
IsNeutral (kinds.Message (messages.Sent number message)) = IsOther message
IsNeutral (kinds.Message (messages.Delivered number)) = ⊥
IsNeutral (kinds.Watchdog (watchdogs.HoldTaken by until from run sequence)) = sequence ≡ 0
IsNeutral (kinds.Agent (agents.Woken by)) = ⊥
IsNeutral (kinds.Agent (agents.Operated by action)) = ⊥
IsNeutral (kinds.Agent (agents.Started by incarnation)) = ⊥
IsNeutral _ = Unit {0}

-- a message that is sent is in flight behind those that were
pub sent-then : (flight : Flight) (number : ℕ) (one : InFlightFacts) (i : ℕ) (c : InFlightFacts)
    → put_at (in_flight flight) number (Some one) i ≡ Some c
    → ((i ≢ number) × (in_flight flight i ≡ Some c)) ⊎ ((i ≡ number) × (one ≡ c))
sent-then flight number one i c is = elim (cases_eq i number) [
  | inl here ↦ inr (
    here,
    some-is one c
        (sym (put-here (in_flight flight) number (Some one))
        ∙ ap (put_at (in_flight flight) number (Some one)) (sym here) ∙ is),
  )
  | inr other ↦ inl (other, sym (put-there (in_flight flight) number (Some one) i other) ∙ is)
]

other-sent : (flight : Flight) (number : ℕ) (one : InFlightFacts) → IsOther one.message → (i : ℕ) (c : InFlightFacts)
    → put_at (in_flight flight) number (Some one) i ≡ Some c → (in_flight flight i ≡ Some c) ⊎ IsOther c.message
other-sent flight number one other i c is = elim (sent-then flight number one i c is) [
  | inl was ↦ inl was.1
  | inr here ↦ inr (subst (λ (x : InFlightFacts). IsOther x.message) here.1 other)
]

pub gone-sub : (flight : Flight) (number : ℕ) → Rises 0 flight → (i : ℕ) (c : InFlightFacts)
    → put_at (in_flight flight) number None i ≡ Some c → in_flight flight i ≡ Some c
gone-sub flight number order i c is = elim (cases_eq i number) [
  | inl here ↦
      absurd (none-some c
      (sym (put-here (in_flight flight) number None) ∙ ap (put_at (in_flight flight) number None) (sym here) ∙ is))
  | inr other ↦ sym (put-there (in_flight flight) number None i other) ∙ is
]

none-there : {A : Type 0} (found : Option (Option A)) (agent : A)
    → option_map (λ (agent : Option A). let none : Option A = None in none) found ≡ Some (Some agent) → ⊥
none-there None agent e = cc
none-there (Some found) agent e = cc

without-sub : (known : List (Option AgentFacts)) (k : ℕ) (m : ℕ) (agent : AgentFacts)
    → slice_get (with_changed known k (λ agent. None)) m ≡ Some (Some agent) → slice_get known m ≡ Some (Some agent)
without-sub known k m agent is = by (m == k) (sym (get-changed known k m (λ agent. None)) ∙ is)
  where
    by : (same : Bool)
        → cond same
        (option_map (λ (agent : Option AgentFacts). let none : Option AgentFacts = None in none) (slice_get known m))
        (slice_get known m) ≡ Some (Some agent)
        → slice_get known m ≡ Some (Some agent)
    by true e = absurd (none-there (slice_get known m) agent e)
    by false e = e

-- a process goes on in its incarnation
changed-runs : (runs : ℕ → ℕ) (processes : List AgentProcess) (k : ℕ) (change : AgentProcess → AgentProcess)
    → ((process : AgentProcess) → (change process).incarnation ≡ process.incarnation) → RunsAre runs processes
    → RunsAre runs (with_changed processes k change)
changed-runs runs processes k change same old m process is =
    by (m == k) (slice_get processes m) refl (sym (get-changed processes k m change) ∙ is)
  where
    by : (here : Bool) (found : Option AgentProcess) → slice_get processes m ≡ found
        → cond here (option_map change found) found ≡ Some process → process.incarnation ≡ runs m
    by true None at e = absurd (none-some process e)
    by true (Some was) at e =
        ap (λ (p : AgentProcess). p.incarnation) (sym (some-is (change was) process e)) ∙ same was ∙ old m was at
    by false found at e = old m process (at ∙ e)

agents-sub : (taken : List Taking) (runs : ℕ → ℕ) (known later : List (Option AgentFacts))
    → ((m : ℕ) (agent : AgentFacts) → slice_get later m ≡ Some (Some agent) → slice_get known m ≡ Some (Some agent))
    → KnowAsked taken runs known → KnowAsked taken runs later
agents-sub taken runs known later sub old m agent is = old m agent (sub m agent is)

same-agents : (known : List (Option AgentFacts)) (m : ℕ) (agent : AgentFacts)
    → slice_get known m ≡ Some (Some agent) → slice_get known m ≡ Some (Some agent)
same-agents known m agent is = is

same-flight : (flight : Flight) (i : ℕ) (c : InFlightFacts) → in_flight flight i ≡ Some c
    → (in_flight flight i ≡ Some c) ⊎ IsOther c.message
same-flight flight i c is = inl is

pub neutral-one : (moments : Moments) (cluster : Cluster) (kind : EventKind) → IsNeutral kind
    → Rises 0 cluster.facts.flight → AsksOnce moments cluster
    → AsksOnce (moments_after moments kind) (cluster_after cluster kind)
neutral-one moments cluster (kinds.Message (messages.Sent number message)) is order old =
    let one : InFlightFacts = launched cluster.facts.clock cluster.facts.keys message in record {
      runs = old.runs;
      agents = old.agents;
      asks = once-sub moments.taken moments.runs cluster.facts.flight _ cluster.agents cluster.agents
          (λ i c at.
          other-sent cluster.facts.flight number one is i c (sym (in-with cluster.facts.flight number one i) ∙ at))
          (same-agents cluster.agents) old.asks;
    }
neutral-one moments cluster (kinds.Message (messages.Delivered number)) is order old = absurd is
neutral-one moments cluster (kinds.Message (messages.Lost number)) is order old = record {
  runs = old.runs;
  agents = old.agents;
  asks = once-sub moments.taken moments.runs cluster.facts.flight _ cluster.agents cluster.agents
      (λ i c at. inl
      (gone-sub cluster.facts.flight number order i c (sym (in-without 0 cluster.facts.flight number i order) ∙ at)))
      (same-agents cluster.agents) old.asks;
}
neutral-one moments cluster (kinds.Watchdog (watchdogs.HoldTaken by until from run sequence)) is order old =
    let same : taken_with moments.clock moments.taken by.id.number from.id.number run sequence ≡ moments.taken =
    ap (taken_with moments.clock moments.taken by.id.number from.id.number run) is in
    record {
      runs = old.runs;
      agents = subst (λ (taken : List Taking). KnowAsked taken moments.runs cluster.agents) (sym same) old.agents;
      asks = subst (λ (taken : List Taking). AskOnce taken moments.runs cluster.facts.flight cluster.agents)
          (sym same) old.asks;
    }
neutral-one moments cluster (kinds.Watchdog (watchdogs.Reset by)) is order old = record {
  runs = changed-runs moments.runs cluster.facts.processes by.id.number ended_process (λ process. refl) old.runs;
  agents = agents-sub moments.taken moments.runs cluster.agents _ (without-sub cluster.agents by.id.number) old.agents;
  asks = once-sub moments.taken moments.runs cluster.facts.flight cluster.facts.flight cluster.agents _
      (same-flight cluster.facts.flight) (without-sub cluster.agents by.id.number) old.asks;
}
neutral-one moments cluster (kinds.Agent (agents.Woken by)) is order old = absurd is
neutral-one moments cluster (kinds.Agent (agents.Operated by action)) is order old = absurd is
neutral-one moments cluster (kinds.Agent (agents.Started by incarnation)) is order old = absurd is
neutral-one moments cluster (kinds.Agent (agents.Killed by)) is order old = record {
  runs = changed-runs moments.runs cluster.facts.processes by.id.number ended_process (λ process. refl) old.runs;
  agents = agents-sub moments.taken moments.runs cluster.agents _ (without-sub cluster.agents by.id.number) old.agents;
  asks = once-sub moments.taken moments.runs cluster.facts.flight cluster.facts.flight cluster.agents _
      (same-flight cluster.facts.flight) (without-sub cluster.agents by.id.number) old.asks;
}
neutral-one moments cluster (kinds.Agent (agents.Suspended by)) is order old = record {
  runs = changed-runs moments.runs cluster.facts.processes by.id.number
      (λ state. record state { suspended = true }) (λ process. refl) old.runs;
  agents = old.agents;
  asks = old.asks;
}
neutral-one moments cluster (kinds.Agent (agents.Resumed by)) is order old = record {
  runs = changed-runs moments.runs cluster.facts.processes by.id.number
      (λ state. record state { suspended = false }) (λ process. refl) old.runs;
  agents = old.agents;
  asks = old.asks;
}
neutral-one moments cluster _ is order old = record { runs = old.runs; agents = old.agents; asks = old.asks }

pub neutral-over : (moments : Moments) (cluster : Cluster) (events : List Event) → AllAre IsNeutral events
    → AreNumberedAbove cluster.facts.sent events → KnowsSending moments cluster.facts
    → AsksOnce moments cluster → AsksOnce (moments_over moments events) (cluster_over cluster events)
neutral-over moments cluster [] all above knows old = old
neutral-over moments cluster (event ∷ events) all above knows old =
    neutral-over (moments_after moments event.kind) (cluster_after cluster event.kind) events all.1 above.1
    (sending-by moments cluster.facts event.kind above.0 knows)
    (neutral-one moments cluster event.kind all.0 knows.order old)

-- ---- an agent starts in a new incarnation
pub changed-at : {A : Type 0} (known : List A) (k m : ℕ) (change : A → A) (x : A)
    → slice_get (with_changed known k change) m ≡ Some x
    → ((m ≢ k) × (slice_get known m ≡ Some x))
    ⊎ ((m ≡ k) × ((was : A) × ((slice_get known m ≡ Some was) × (change was ≡ x))))
changed-at {A} known k m change x is =
    by (m == k) refl (slice_get known m) refl (sym (get-changed known k m change) ∙ is)
  where
    by : (same : Bool) → (m == k) ≡ same → (found : Option A) → slice_get known m ≡ found
        → cond same (option_map change found) found ≡ Some x
        → ((m ≢ k) × (slice_get known m ≡ Some x))
        ⊎ ((m ≡ k) × ((was : A) × ((slice_get known m ≡ Some was) × (change was ≡ x))))
    by true same None at e = absurd (none-some x e)
    by true same (Some was) at e = inr (eq-from m k same, (was, (at, some-is (change was) x e)))
    by false same found at e = inl (ne-of m k same, at ∙ e)
      where
        ne-of : (a b : ℕ) → (a == b) ≡ false → a ≢ b
        ne-of a b off is = grind (arith, nat_tests)

pub started-one : (moments : Moments) (cluster : Cluster) (by : Member) (process : AgentProcess)
    → slice_get cluster.facts.processes by.id.number ≡ Some process → AsksOnce moments cluster
    → AsksOnce (moments_after moments (kinds.Agent (agents.Started by (process.incarnation + 1))))
    (cluster_after cluster (kinds.Agent (agents.Started by (process.incarnation + 1))))
started-one moments cluster by process here old = record {
  runs = λ m found is.
      elim (changed-at cluster.facts.processes by.id.number m (λ state. running_in incarnation) found is) [
        | inl other ↦ old.runs m found other.1 ∙ sym (put-there moments.runs by.id.number incarnation m other.0)
        | inr same ↦ ap (λ (p : AgentProcess). p.incarnation) (sym same.1.1.1) ∙ sym (runs-here m same.0)
      ];
  agents = λ m agent is. elim (changed-at cluster.agents by.id.number m (λ was. Some one) (Some agent) is) [
    | inl other ↦ subst (λ (n : ℕ). KnowsAsked moments.taken m n agent)
        (sym (put-there moments.runs by.id.number incarnation m other.0)) (old.agents m agent other.1)
    | inr same ↦
        subst (KnowsAsked moments.taken m (runs m)) (some-is one agent same.1.1.1)
        (record {
          run_is = sym (runs-here m same.0);
          ends = tt;
          counted = λ waited e. absurd (none-some waited e);
          stays = λ waited e. absurd (none-some waited e);
        })
  ];
  asks = record {
    once = old.asks.once;
    fresh = old.asks.fresh;
    unique = old.asks.unique;
    yes = old.asks.yes;
    asked = λ i c r is rc. given r (old.asks.asked i c r is rc);
    held = λ r moment is. given r (old.asks.held r moment is);
  };
}
  where
    incarnation : ℕ
    incarnation = process.incarnation + 1

    one : AgentFacts
    one = starting_agent (who_of cluster.scope cluster.options cluster.facts.members by) cluster.facts.clock incarnation

    runs : ℕ → ℕ
    runs = put_at moments.runs by.id.number incarnation

    runs-here : (m : ℕ) → m ≡ by.id.number → runs m ≡ incarnation
    runs-here m same = ap runs same ∙ put-here moments.runs by.id.number incarnation

    was : process.incarnation ≡ moments.runs by.id.number
    was = old.runs by.id.number process here

    later : (m : ℕ) → moments.runs m ≤ runs m
    later m = elim (cases_eq m by.id.number) [
      | inl same ↦ let a : runs m ≡ incarnation = runs-here m same in
          let b : moments.runs m ≡ moments.runs by.id.number = ap moments.runs same in omega (arith, a, b, was)
      | inr other ↦
          let a : runs m ≡ moments.runs m = put-there moments.runs by.id.number incarnation m other in omega (arith, a)
    ]

    given : (r : Request) → IsGiven moments.runs cluster.agents r
        → IsGiven runs (with_changed cluster.agents by.id.number (λ was. Some one)) r
    given r given_is = record {
      counted = given_is.counted;
      run = let a : r.incarnation ≤ moments.runs r.from = given_is.run in omega (arith, a, later r.from);
      given = λ agent is same. elim (changed-at cluster.agents by.id.number r.from (λ was. Some one) (Some agent) is) [
        | inl other ↦ given_is.given agent other.1 same
        | inr here ↦
            let a : r.incarnation ≤ moments.runs r.from = given_is.run in
            let b : moments.runs r.from ≡ moments.runs by.id.number = ap moments.runs here.0 in
            let c : incarnation ≡ agent.knows.incarnation =
            ap (λ (x : AgentFacts). x.knows.incarnation) (some-is one agent here.1.1.1) in
            absurd (not-new r.incarnation (moments.runs r.from)
            (moments.runs by.id.number) process.incarnation agent.knows.incarnation a b was c same)
      ];
    }
      where
        not-new : (x y z p a : ℕ) → x ≤ y → y ≡ z → p ≡ z → p + 1 ≡ a → x ≡ a → ⊥
        not-new x y z p a one two three four five = omega (arith, one, two, three, four, five)

-- ---- the members of a head stand at their numbers
pub numbered-members : (n : ℕ) (names : List Name) (i : ℕ) (m : Member)
    → slice_get (members_from n names) i ≡ Some m → m.id.number ≡ n + i
numbered-members n [] i m is = absurd (none-some m is)
numbered-members n (name ∷ names) i m is =
    by (λ k. numbered-members (n + 1) names k m) (nat_lt n MOST_MEMBERS) refl i is
  where
    rest : List Member
    rest = members_from (n + 1) names

    next-number : (k i : ℕ) → k ≡ (n + 1) + i → k ≡ n + suc i
    next-number k i e = omega (arith, e)

    first-number : (k : ℕ) → k ≡ n → k ≡ n + 0
    first-number k e = omega (arith, e)

    past : (k i : ℕ) → k ≡ (n + 1) + i → k < MOST_MEMBERS → nat_lt n MOST_MEMBERS ≡ false → ⊥
    past k i e below off = grind (arith, nat_tests)

    by : ((k : ℕ) → slice_get rest k ≡ Some m → m.id.number ≡ (n + 1) + k)
        → (test : Bool) (off : nat_lt n MOST_MEMBERS ≡ test) (i : ℕ)
        → slice_get (put_first (member_by n test off) name rest) i ≡ Some m → m.id.number ≡ n + i
    by later true off zero e = first-number m.id.number (ap (λ (x : Member). x.id.number) (sym (some-is _ m e)))
    by later true off (suc i) e = next-number m.id.number i (later i e)
    by later false off i e = absurd (past m.id.number i (later i e) m.id.below off)
