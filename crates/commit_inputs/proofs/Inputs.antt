-- An input of an agent in synchronous mode: the law's input that
-- stands for it is allowed, and shown by the events that it covers.
use Rattle.std.proofs.Common.{ℕ, ◌≡◌, ◌≢◌, ◌<◌, ◌≤◌, ◌⊎◌, ◌==◌, ◌&&◌, ◌||◌, Bool, true, false, if◌then◌else◌, List, [], ◌∷◌, Option, Some, None, option_map, slice_get, All, refl, sym, ap, ◌∙◌, subst, inl, inr, append-nil}
use Rattle.std.proofs.Math.Bool.{or-false}
use Rattle.std.proofs.lemmas.Bool.{eqb-true}
use Rattle.std.proofs.lemmas.Option.{slice_get_within}
use Rattle.pat_base.specs.Changes.{with_changed}
use Rattle.pat_base.specs.declared.ticks.Ticks.{Ticks}
use Rattle.pat_base.specs.ServerState.{live}
use Rattle.pg_model.specs.Facts.{ServerFacts}
use Rattle.event_book.specs.declared.event.Event.{Event}
use Rattle.event_book.specs.declared.event.EventKind.{EventKind}
use Rattle.event_book.specs.declared.member.Member.{Member}
use Rattle.event_book.specs.Functions.{put_at}
use Rattle.script_model.specs.Script.{HeadText}
use Rattle.agent_model.specs.declared.heard.Heard.{Heard}
use Rattle.agent_model.specs.declared.heard.Heard.TheVariants as heards
use Rattle.agent_model.specs.declared.machine.Machine.{Machine}
use Rattle.agent_model.specs.declared.machine.Replication.{Replication}
use Rattle.agent_model.specs.declared.output.Output.{Output}
use Rattle.agent_model.specs.Agents.{AgentFacts, Outcome, outcome_from}
use Rattle.agent_commit_law.specs.Committing.{AsksInSynchronousMode, CommitsFrom, DoesAs, GrowsByConnected, HolderAsks, HearsBelow, is_carrying, HearsSynchronousMode, HearsToCommit, IsLawfulAs, IsSent, ListsMember, StandsToCommit, StaysInSynchronousMode, committer_seen, is_begin, is_claim_outside_sync, live_shown, requests_of}
use Rattle.agent_lease_law.specs.Lawful.{Hears}
use Rattle.agent_model.specs.Pausing.{is_paused}
use Rattle.agent_roles.proofs.GoingOn.{tells_pause}
use Rattle.agent_roles.proofs.Knowing.{told_by}
use Rattle.agent_outputs.specs.Orders.{IsCarriedOut, IsOfTable}
use Rattle.agent_model.specs.Outputs.{has_one}
use Rattle.agent_model.specs.Table.{step}
use Rattle.agent_commit_law.proofs.CommitInputs.{input-commits-as}
use Rattle.agent_outputs.proofs.Orders.{step-carried-out}
use Rattle.cluster_model.specs.declared.heard_message.HeardMessage.{HeardMessage}
use Rattle.cluster_model.specs.Cluster.{agent_after, agent_facts_after, cluster_after, cluster_over}
use Rattle.cluster_model.specs.Inputs.{moment_of}
use Rattle.cluster_model.specs.Machines.{machine_of, points_of}
use Rattle.cluster_model.specs.Messages.{output_events}
use Rattle.cluster_model.specs.Parts.{each}
use Rattle.cluster_model.specs.State.{Cluster}
use Rattle.lease_model.specs.Leases.{LeaderKey}
use Rattle.lease_model.specs.Past as lease_past
use Rattle.lease_model.proofs.Tools.{none-some, put-all}
use Rattle.commit_actions.specs.Actions.{Input, send}
use Rattle.commit_showing.specs.Books.{AllLeaveCommits, ChangeOnce, IsShown}
use Rattle.commit_actions.specs.Functions.{forget}
use Rattle.commit_actions.specs.Inputs.{AgentInput, Arming, ChangingRequired, CreatingLeader, Does, HearingAnswer, Idling, IsGivenByLease, Promoting, Publishing, Racing, Sending, SettlingRequired, TakingOver, WinningRace}
use Rattle.commit_actions.specs.Keys.{Confirmers, Nobody, strict_quorum}
use Rattle.commit_actions.specs.Past.{Past, VolatileState, is_holder, key_holder, leader_revision, confirmers_in, confirmers_of, past_after, past_over}
use Rattle.commit_showing.specs.Showing.{AreOwn}
use Rattle.commit_actions.specs.States.{Agent, State}
use Rattle.commit_showing.proofs.Showing.{input-shown}
use Rattle.commit_servers.specs.Acting.{Fits}
use Rattle.commit_servers.specs.Matching.{live_in}
use Rattle.lease_parts.specs.Declaring.{declared_of, works_of}
use Rattle.run_promise.specs.Members.{member_count}
use Rattle.lease_parts.specs.Volatile as run_volatile
use Rattle.lease_hearing.specs.Hearing.{IsHeardWell}
use Rattle.lease_inputs.proofs.InputKinds.{IsOpening}
use Rattle.cluster_model.proofs.Places.{get-elsewhere, get-here}
use Rattle.commit_parts.specs.Bridged.{CommitsBridged}
use Rattle.commit_showing.specs.Changes.{AllLeaveOrder, ChangeOrderOnce}
use Rattle.commit_parts.specs.Ordered.{AllInOrder}
use Rattle.commit_parts.specs.Reading.{agent_now, past_of, setup_of, state_of_run, volatile_of}
use Rattle.commit_parts.proofs.Agents.{volatile-put}
use Rattle.commit_outputs.proofs.Covering.{Covers, Held, NoneAbove, Told, each-covers, told_of, IsCarried}
use Rattle.commit_parts.specs.Moving.{Moves}
use Rattle.commit_outputs.proofs.Page.{RequiresNone, fits-told, none-above, required-stays}
use Rattle.commit_inputs.proofs.Opening.{Opens, opened-none, opening-aside, opening-ordered, opening-own, opens}
use Rattle.commit_parts.proofs.Standing.{agent-stands}

-- ---- what the timed lease gives is asked only by who sends a claim
pub given-unless : (now : Ticks) (heard : Heard) (o : Outcome) (s : State) (m : ℕ) (input : AgentInput)
    (was : Agent) (does : Does s m input was) → input.sends ≡ None
    → DoesAs now heard strict_quorum o s m input was does → IsGivenByLease s m input was does
given-unless now heard o s m input was (Racing races) none as-it = absurd as-it
given-unless now heard o s m input was (Arming arms) none as-it = absurd (none-some _ (sym none ∙ arms.sends.is))
given-unless now heard o s m input was (Idling idles) none as-it = tt
given-unless now heard o s m input was (HearingAnswer answer) none as-it = tt
given-unless now heard o s m input was (WinningRace wins) none as-it = tt
given-unless now heard o s m input was (CreatingLeader creates) none as-it = tt
given-unless now heard o s m input was (TakingOver takes) none as-it = tt
given-unless now heard o s m input was (ChangingRequired changes) none as-it = tt
given-unless now heard o s m input was (Publishing publishes) none as-it = tt
given-unless now heard o s m input was (Promoting promotes) none as-it = tt
given-unless now heard o s m input was (SettlingRequired settles) none as-it = tt

-- ---- whom commits come to wait for
same-grows : (o : Outcome) (before after : Confirmers) → after ≡ before → GrowsByConnected o before after
same-grows o before after same n needs = inl (subst (λ (confirmers : Confirmers). ListsMember confirmers n) same needs)

nobody-grows : (o : Outcome) (before after : Confirmers) → after ≡ Nobody → GrowsByConnected o before after
nobody-grows o before after none n needs =
    absurd (subst (λ (confirmers : Confirmers). ListsMember confirmers n) none needs)

pub grows-by : (now : Ticks) (heard : Heard) (o : Outcome) (s : State) (m : ℕ) (input : AgentInput)
    (was : Agent) (does : Does s m input was) → DoesAs now heard strict_quorum o s m input was does
    → GrowsByConnected o (s.members m).required input.required
grows-by now heard o s m input was (Idling idles) as-it =
    same-grows o (s.members m).required input.required idles.keeps.server.required
grows-by now heard o s m input was (Racing races) as-it = absurd as-it
grows-by now heard o s m input was (HearingAnswer answer) as-it = absurd as-it
grows-by now heard o s m input was (WinningRace wins) as-it = absurd as-it
grows-by now heard o s m input was (CreatingLeader creates) as-it = absurd as-it
grows-by now heard o s m input was (Arming arms) as-it =
    same-grows o (s.members m).required input.required arms.keeps.required
grows-by now heard o s m input was (TakingOver takes) as-it =
    same-grows o (s.members m).required input.required takes.keeps.required
grows-by now heard o s m input was (ChangingRequired changes) as-it = as-it
grows-by now heard o s m input was (Publishing publishes) as-it =
    same-grows o (s.members m).required input.required publishes.keeps.required
grows-by now heard o s m input was (Promoting promotes) as-it =
    nobody-grows o (s.members m).required input.required promotes.required
grows-by now heard o s m input was (SettlingRequired settles) as-it = as-it

input-is : (heard : Option ℕ) (agent : Agent) (live : Bool) (required required' : Confirmers)
    (sends : Option Sending) (was was' : Bool) → required ≡ required' → was ≡ was'
    → ◌≡◌ {A = AgentInput}
    (record { heard = heard; agent = agent; live = live; required = required; sends = sends; holder_was_live = was })
    (record { heard = heard; agent = agent; live = live; required = required'; sends = sends; holder_was_live = was' })
input-is heard agent live required required' sends was was' a b = cc

shown-begins : (begun now_live was_live : Bool) → begun ≡ false → (if begun then now_live else was_live) ≡ was_live
shown-begins true now_live was_live is = absurd (not-so is)
  where
    not-so : true ≡ false → ⊥
    not-so e = cc
shown-begins false now_live was_live is = refl

-- events of which none changes what commits being kept speaks of
pub change-none : (events : List Event) → AllLeaveCommits events → ChangeOnce events
change-none [] leaves = tt
change-none (event ∷ events) leaves = inr leaves.1

-- ---- the input
-- what an agent makes of what it hears
abbrev pub outcome_by : Cluster → Member → AgentFacts → Machine → Heard → Outcome
outcome_by cluster member agent machine heard =
    step (moment_of cluster) (points_of cluster member) heard (outcome_from agent.role agent.knows machine [])

-- an agent acts: it is woken, does what an operator asks, or hears a message,
-- which the law hears so; and synchronous mode is on in what comes with it
pub record Acting (head : HeadText) (book : List Event) (cluster : Cluster) : Type 0 where
  pub member : Member
  pub agent : AgentFacts
  pub here : slice_get cluster.agents member.id.number ≡ Some (Some agent)
  pub machine : Machine
  pub machine_is : machine_of cluster member ≡ Some machine
  pub heard : Heard
  pub number : Option ℕ
  pub message : HeardMessage
  pub opening : EventKind
  pub opening_is : IsOpening number opening
  pub acts : agent_facts_after cluster opening
      ≡ with_changed cluster.agents member.id.number
      (agent_after (Some (outcome_by cluster member agent machine heard)))
  pub hears : (input : AgentInput) → input.heard ≡ number
      → HearsToCommit (state_of_run head book cluster) member.id.number input heard
      (outcome_from agent.role agent.knows machine [])
  pub on : HearsSynchronousMode heard
  pub below : HearsBelow (member_count head) heard
  -- the law of the lease hears it too, where watchdogs work
  pub hears_lease : ((m : ℕ) → works_of head m ≡ true)
      → Hears (lease_past.state_of (declared_of head) (lease_past.past_of book) (run_volatile.volatile_of cluster))
      member.id.number number heard (outcome_from agent.role agent.knows machine [])
  -- the number of the message is none of those to come
  pub numbered : (n : ℕ) → number ≡ Some n → (message.number ≡ n) × (n ≤ cluster.facts.sent)
  pub low : message.number ≤ cluster.facts.sent
  -- the member is one of the cluster, a failsafe request that it hears
  -- is the message, and failsafe mode is told as it is declared
  pub well : IsHeardWell (declared_of head).failsafe cluster.facts.members
      (lease_past.past_of book).flight member heard number message

calm-on : (heard : Heard) → HearsSynchronousMode heard → tells_pause (told_by heard) ≡ false
calm-on (heards.ReadAnswered sequence snapshot) on = on.unpaused
calm-on (heards.Granted sequence grant snapshot) on = on.unpaused
calm-on heards.Wake on = refl
calm-on (heards.Mismatch sequence key found) on = refl
calm-on (heards.Asked from incarnation sequence) on = refl
calm-on (heards.Answered sequence answer) on = refl
calm-on (heards.FailsafeAsked from incarnation sequence ttl) on = refl
calm-on (heards.FailsafeAnswered from sequence accepted sent) on = refl
calm-on (heards.Operated action) on = refl

module _ (head : HeadText) (book : List Event) (cluster : Cluster) (good : CommitsBridged head book cluster)
    (a : Acting head book cluster) where
  abbrev pub M : ℕ
  M = a.member.id.number

  abbrev pub Before : Outcome
  Before = outcome_from a.agent.role a.agent.knows a.machine []

  abbrev pub After : Outcome
  After = outcome_by cluster a.member a.agent a.machine a.heard

  abbrev pub First : Cluster
  First = cluster_after cluster a.opening

  abbrev pub Open : Event
  Open = record { tick = record { 0 = First.facts.clock }; kind = a.opening }

  abbrev pub Part : Cluster → Output → List Event
  Part = output_events a.member a.message

  -- all its events
  abbrev pub Events : List Event
  Events = Open ∷ each Part First After.outputs

  abbrev P : Past
  P = past_of head book

  abbrev S : State
  S = state_of_run head book cluster

  abbrev States : ℕ → VolatileState
  States = volatile_of cluster

  abbrev Now : Ticks
  Now = moment_of cluster

  abbrev Seen : Agent
  Seen = committer_seen After.role After.knows

  pub carried-out : IsCarriedOut Now a.machine After
  carried-out = step-carried-out Now (points_of cluster a.member) a.heard a.agent.role a.agent.knows a.machine

  pub small : M < member_count head
  small =
      subst (λ (n : ℕ). M < n) good.lease.matched.agents_sized (slice_get_within cluster.agents M (Some a.agent) a.here)

  pub stands : StandsToCommit S M strict_quorum Before
  stands = agent-stands head book cluster good a.member a.agent a.here small a.machine a.machine_is

  commits : CommitsFrom Now a.heard Before After
  commits =
      input-commits-as Now (points_of cluster a.member) a.heard a.agent.role a.agent.knows a.machine [] After refl refl

  asks-on : AsksInSynchronousMode a.agent.knows
  asks-on = (good.fits.agents.each M a.agent a.here).on

  unpaused : is_paused a.agent.knows ≡ false
  unpaused = (good.lease.matched.agents M a.agent a.here).unpaused

  pub stays-on : StaysInSynchronousMode strict_quorum a.heard Before After
  stays-on = commits.stays unpaused asks-on a.on

  -- what it hears tells of no pause
  pub calm : tells_pause (told_by a.heard) ≡ false
  calm = calm-on a.heard a.on

  pub table : All IsOfTable After.outputs
  table = carried-out.kinds

  -- the holder of the leader key was live, behind what the input asks:
  -- that its renewal carry a set for the failsafe key
  abbrev pub WasLive : Bool
  WasLive = P.holder_was_live || (has_one is_carrying After.outputs && is_holder P.lease.leader M)

  pub still-live : has_one is_carrying After.outputs ≡ false → P.holder_was_live ≡ WasLive
  still-live none =
      sym (ap (λ (carries : Bool). P.holder_was_live || (carries && is_holder P.lease.leader M)) none
      ∙ or-false P.holder_was_live)

  holder-asks : (carries : Bool) (leader : Option LeaderKey) → has_one is_carrying After.outputs ≡ carries
      → P.lease.leader ≡ leader
      → ((P.holder_was_live || (carries && is_holder leader M)) ≡ S.holder_was_live) ⊎ HolderAsks S M After
  holder-asks false leader carries is = inl (or-false P.holder_was_live)
  holder-asks true None carries is = inl (or-false P.holder_was_live)
  holder-asks true (Some key) carries is = by (key.holder == M) refl
    where
      by : (holds : Bool) → key.holder == M ≡ holds
          → ((P.holder_was_live || holds) ≡ S.holder_was_live) ⊎ HolderAsks S M After
      by false holds = inl (or-false P.holder_was_live)
      by true holds = inr (record {
        revision = key.revision;
        leader = ap leader_revision is;
        holder = ap key_holder is ∙ eqb-true key.holder M holds;
        carries = carries;
      })

  asks-or-not : (WasLive ≡ S.holder_was_live) ⊎ HolderAsks S M After
  asks-or-not = holder-asks (has_one is_carrying After.outputs) P.lease.leader refl refl

  -- the law's input that stands for it
  abbrev pub Theirs : Option Sending → AgentInput
  Theirs sends = record {
    heard = a.number;
    agent = Seen;
    live = live_shown Before After;
    required = confirmers_in After.machine.replication.required;
    sends = sends;
    holder_was_live = WasLive;
  }

  -- the input sends that, and its member takes no leader key past the sync key
  pub record SendsInside (sends : Option Sending) : Type 0 where
    pub sent : IsSent (requests_of M a.agent.knows.incarnation After.outputs) sends
    pub inside : has_one is_claim_outside_sync After.outputs ≡ false

  pub lawful-as : (sends : Option Sending) → SendsInside sends
      → IsLawfulAs Now a.heard strict_quorum Before S M (Theirs sends)
  lawful-as sends is =
      commits.lawful unpaused asks-on a.on S M (Theirs sends) good.sound stands (a.hears (Theirs sends) refl) (record {
        agent = refl;
        live = refl;
        required = refl;
        sends = is.sent;
        holder_was_live = asks-or-not;
        inside = is.inside;
      })

  -- the events that it covers
  pub record PageOf (events : List Event) (sends : Option Sending) : Type 0 where
    pub own : AreOwn M events
    pub leaves : AllLeaveCommits events
    pub once : ChangeOrderOnce events
    pub flight : (i : ℕ) → (past_over P events).flight i ≡ send sends (forget a.number P.flight) i
    pub live : (past_over P events).holder_was_live ≡ WasLive
    pub needs : confirmers_of (slice_get (past_over P events).required M)
        ≡ confirmers_in After.machine.replication.required
    -- behind them
    pub acted : (cluster_over cluster events).agents ≡ with_changed cluster.agents M (agent_after (Some After))
    pub lives : (n : ℕ) → live_in (cluster_over cluster events).facts.servers n ≡ live_in cluster.facts.servers n
    pub fits : (states : ℕ → VolatileState) → ((n : ℕ) → (states n).live ≡ live_in cluster.facts.servers n)
        → Fits (past_over P events) (cluster_over cluster events).facts states
    pub sent : SendsInside sends

  abbrev pub Ahead : ℕ → VolatileState
  Ahead = put_at States M (record { live = live_shown Before After; agent = Some Seen })

  module _ (events : List Event) (sends : Option Sending) (page : PageOf events sends) where
    abbrev Behind : Cluster
    Behind = cluster_over cluster events

    pub page-shown : IsShown (setup_of head) P States
        (record { action = Input M (Theirs sends); events = events; volatile_states = Ahead })
    page-shown =
        subst (λ (input : AgentInput).
        IsShown (setup_of head) P States (record { action = Input M input; events = events; volatile_states = Ahead }))
        (input-is a.number Seen (live_shown Before After) (confirmers_of (slice_get (past_over P events).required M))
        (confirmers_in After.machine.replication.required) sends
        (past_over P events).holder_was_live WasLive page.needs page.live)
        (input-shown (setup_of head) P States M a.number Seen
        (live_shown Before After) sends events page.own page.flight)

    -- who acts behind them
    agent-there : (n : ℕ) → n ≢ M → (volatile_of Behind n).agent ≡ (States n).agent
    agent-there n other = ap agent_now
        (ap (λ (known : List (Option AgentFacts)). slice_get known n) page.acted
        ∙ get-elsewhere cluster.agents M n (agent_after (Some After)) other)

    agent-here : (volatile_of Behind M).agent ≡ Some Seen
    agent-here = ap agent_now
        (ap (λ (known : List (Option AgentFacts)). slice_get known M) page.acted
        ∙ get-here cluster.agents M (agent_after (Some After)) ∙ ap (option_map (agent_after (Some After))) a.here)

    -- ahead of its server's beginning its agent is the one behind
    pub agents-ahead : (n : ℕ) → (Ahead n).agent ≡ (volatile_of Behind n).agent
    agents-ahead = put-all States M (record { live = live_shown Before After; agent = Some Seen })
        (λ n state. state.agent ≡ (volatile_of Behind n).agent) (sym agent-here) (λ n other. sym (agent-there n other))

    pub states-behind : has_one is_begin After.outputs ≡ false → Ahead ≡ volatile_of Behind
    states-behind unbegun =
        ap (λ (b : Bool). put_at States M (record { live = b; agent = Some Seen }))
        (shown-begins (has_one is_begin After.outputs) (live After.machine.server.state)
        (live a.machine.server.state) unbegun ∙ sym stands.live)
        ∙ volatile-put States (volatile_of Behind) M (Some Seen) (λ n. sym (page.lives n)) agent-here agent-there

    -- where the server doesn't begin, they are one action
    pub page-moves : has_one is_begin After.outputs ≡ false
        → IsGivenByLease S M (Theirs sends) (lawful-as sends page.sent).lawful.was
        (lawful-as sends page.sent).lawful.does
        → Moves (setup_of head) P cluster events
    page-moves unbegun given = record {
      transitions = record { action = Input M (Theirs sends); events = events; volatile_states = Ahead } ∷ [];
      whole = append-nil events;
      allowed = (((lawful-as sends page.sent).lawful, given), page-shown, change-none events page.leaves, tt);
      once = (page.once, tt);
      last = states-behind unbegun;
      fits = page.fits (volatile_of Behind) page.lives;
    }

  -- ---- up to outputs that it covers, or that note the sync key
  module _ (front : List Output) (all : All IsCarried front) (of_table : All IsOfTable front) where
    abbrev pub Fronts : List Event
    Fronts = each Part First front

    abbrev pub Page : List Event
    Page = Open ∷ Fronts

    opened : Opens M a.number P cluster a.opening
    opened = opens M a.number P cluster a.opening a.opening_is

    pub first-none : NoneAbove (past_after P a.opening) First
    first-none = opened-none M a.number P cluster a.opening opened (none-above P cluster good.fits.store.flight)

    pub fronts : Covers M (past_after P a.opening) First Fronts
    fronts = each-covers a.member a.message (past_after P a.opening) First first-none front all of_table

    pub front-own : AreOwn M Page
    front-own = ((opening-own M a.number cluster a.opening a.opening_is).0.0, fronts.own)

    pub front-leaves : AllLeaveCommits Page
    front-leaves = ((opening-own M a.number cluster a.opening a.opening_is).1.0, fronts.leaves)

    pub front-aside : AllLeaveOrder Page
    front-aside = (opening-aside a.number cluster a.opening a.opening_is, fronts.aside)

    pub front-ordered : AllInOrder P cluster Page
    front-ordered = (opening-ordered P cluster a.number a.opening a.opening_is, fronts.ordered)

    pub front-flight : (i : ℕ) → (past_over P Page).flight i ≡ forget a.number P.flight i
    front-flight i = fronts.flight i ∙ opened.flight i

    pub front-live : (past_over P Page).holder_was_live ≡ P.holder_was_live
    front-live = fronts.live ∙ opened.live

    pub front-leads : (past_over P Page).lease.leader ≡ P.lease.leader
    front-leads = fronts.leader ∙ opened.leader

    pub front-told : told_of (past_over P Page) ≡ told_of P
    front-told = fronts.told ∙ opened.told

    pub front-servers : (cluster_over cluster Page).facts.servers ≡ cluster.facts.servers
    front-servers = ap (λ (h : Held). h.servers) fronts.held ∙ opened.servers

    pub front-acted : (cluster_over cluster Page).agents ≡ with_changed cluster.agents M (agent_after (Some After))
    front-acted = ap (λ (h : Held). h.agents) fronts.held ∙ a.acts

    pub front-processes : (cluster_over cluster Page).facts.processes ≡ cluster.facts.processes
    front-processes = ap (λ (h : Held). h.processes) fronts.held ∙ opened.processes

    pub front-lives : (n : ℕ) → live_in (cluster_over cluster Page).facts.servers n ≡ live_in cluster.facts.servers n
    front-lives n = ap (λ (known : List ServerFacts). live_in known n) front-servers

    pub front-fits : (states : ℕ → VolatileState) → ((n : ℕ) → (states n).live ≡ live_in cluster.facts.servers n)
        → Fits (past_over P Page) (cluster_over cluster Page).facts states
    front-fits states lives =
        fits-told P (past_over P Page) cluster.facts (cluster_over cluster Page).facts States states
        front-told front-servers (ap (λ (h : Held). h.remote) fronts.held ∙ opened.remote)
        (ap (λ (h : Held). h.commits) fronts.held ∙ opened.commits)
        (ap (λ (h : Held). h.acknowledged) fronts.held ∙ opened.acknowledged) (λ n. lives n) good.fits.servers

    -- where no output sets it, commits wait for the same
    pub front-needs : All RequiresNone After.outputs
        → confirmers_of (slice_get (past_over P Page).required M) ≡ confirmers_in After.machine.replication.required
    front-needs none =
        ap (λ (t : Told). confirmers_of (slice_get t.required M)) front-told ∙ stands.required
        ∙ ap (λ (r : Replication). confirmers_in r.required)
        (sym (ap (λ (m : Machine). m.replication) carried-out.machine_is
        ∙ required-stays Now a.machine After.outputs none))
