-- An input of an agent keeps the law of one writer.
use Rattle.lease_book.specs.Waiting.{IsLastRun}
use Rattle.event_book.specs.Writers.{BeginsKind}
use Rattle.std.proofs.lemmas.Option.{slice_get_within}
use Rattle.std.proofs.Common.{◌≡◌, ◌≢◌, ◌⊎◌, ◌++◌, ◌≤◌, ◌<◌, ℕ, Bool, true, false, List, [], ◌∷◌, Option, Some, All, Contains, length, slice_get, refl, sym, subst, ap, ◌∙◌, arith, inl, inr}
use Rattle.std.proofs.lemmas.List.Elements.{All-contains_itself}
use Rattle.std.proofs.Math.Path.{fun_ext}
use Rattle.std.proofs.lemmas.Bool.{false_from_ne_true, cases_eq}
use Rattle.pat_base.specs.Changes.{with_changed}
use Rattle.pat_base.specs.declared.ticks.Ticks.{Ticks}
use Rattle.pg_model.specs.Facts.{ServerFacts}
use Rattle.event_book.specs.declared.agent_process.AgentProcess.{AgentProcess}
use Rattle.event_book.specs.declared.event.AgentEvent.TheVariants as agents
use Rattle.event_book.specs.declared.event.Event.{Event}
use Rattle.event_book.specs.declared.event.EventKind.{EventKind}
use Rattle.event_book.specs.declared.event.EventKind.TheVariants as kinds
use Rattle.event_book.specs.declared.event.MessageEvent.TheVariants.{Delivered}
use Rattle.event_book.specs.declared.member.Member.{Member}
use Rattle.event_book.specs.declared.message.Message.{Message}
use Rattle.pat_base.specs.declared.member_id.MemberId.{MemberId}
use Rattle.event_book.specs.Functions.{put_at, set_members}
use Rattle.script_model.specs.Script.{HeadText}
use Rattle.agent_model.specs.declared.heard.Heard.{Heard}
use Rattle.agent_model.specs.declared.machine.Machine.{Machine}
use Rattle.agent_model.specs.declared.output.Output.{Output}
use Rattle.agent_model.specs.declared.output.Output.TheVariants as outputs
use Rattle.agent_model.specs.declared.output.Telling.TheVariants as tellings
use Rattle.agent_roles.specs.Seen.{agent_seen as role_seen, check_seen}
use Rattle.lease_model.specs.States.{FailsafeCheck, is_ready as ready_seen}
use Rattle.agent_model.specs.Agents.{is_ready, AgentFacts, Outcome, outcome_from, EndsAlone}
use Rattle.agent_lease_law.specs.Lawful.{StandsIn, Hears, IsSentBy, AsksStore, AsksMember, SaysYes, IsInputOf, MayPromote, IsLawfulAnd, is_yes, request_heard, request_taken}
use Rattle.agent_sending.specs.Modes.{AsksMode, KeepsMode}
use Rattle.agent_sending.proofs.Asking.{input-asks-from, mode-asked-from}
use Rattle.agent_sending.proofs.Checking.{mode-kept}
use Rattle.agent_sending.specs.Asking.{StandsOn}
use Rattle.std.proofs.lemmas.List.Elements.{All-weaker}
use Rattle.cluster_model.specs.FailsafeDeadlines.{is_set_by_failsafe}
use Rattle.cluster_model.proofs.Places.{there}
use Rattle.agent_outputs.specs.Orders.{IsOfTable}
use Rattle.agent_model.specs.Pausing.{is_paused}
use Rattle.agent_model.specs.Outputs.{is_arming, is_feeding, has_one}
use Rattle.agent_roles.specs.Seen.{machine_seen}
use Rattle.agent_model.specs.Table.{step}
use Rattle.agent_roles.proofs.GoingOn.{tells_pause}
use Rattle.agent_roles.proofs.Knowing.{step-onward, told_by}
use Rattle.agent_lease_law.proofs.LawfulSteps.{input-lawful-from}
use Rattle.agent_roles.proofs.Staying.{input-ends}
use Rattle.agent_outputs.proofs.Orders.{step-carried-out}
use Rattle.cluster_model.specs.declared.heard_message.HeardMessage.{HeardMessage}
use Rattle.cluster_model.specs.Cluster.{agent_after, agent_facts_after, cluster_after, cluster_over}
use Rattle.cluster_model.specs.Inputs.{moment_of}
use Rattle.cluster_model.specs.Machines.{points_of}
use Rattle.cluster_model.specs.Messages.{output_events}
use Rattle.cluster_model.specs.Parts.{each}
use Rattle.cluster_model.specs.State.{Cluster}
use Rattle.lease_model.specs.Leases.{FailsafeRequest, Grant, Question, Requested}
use Rattle.event_book.specs.Premises.{IsOnTime, IsTimely}
use Rattle.lease_model.specs.Actions.{Input}
use Rattle.lease_model.specs.Books.{IsShown}
use Rattle.lease_model.specs.Claims.{BeginsBehind, MayBeginBehind, ShowsIt, IsArmedIn}
use Rattle.lease_model.specs.Inputs.{AgentInput, HeardGrant, Kept, Removed, SetAlone, SetByFailsafe, SetByGrant, Undone, WatchdogMay}
use Rattle.lease_model.specs.Past.{Past, VolatileState, first_past, past_after, past_of, past_over, state_of, machine_of as machine_told}
use Rattle.lease_model.specs.Feeds.{IsFedBy, IsFedOn, KeepsClockAndRuns, KeepsMomentOf}
use Rattle.lease_model.specs.Actions.{taken_by}
use Rattle.pat_base.specs.declared.member_set.MemberSet.{MemberSet}
use Rattle.event_book.specs.Kinds.{AllAre}
use Rattle.lease_model.specs.Showing.{IsOwn, input_of}
use Rattle.lease_model.specs.States.{Acts, Agent, Machine as MachineSeen, State}
use Rattle.lease_law.proofs.Feeding.{input-in-time}
use Rattle.lease_law.proofs.Showing.{input-shown-of, past-append}
use Rattle.lease_model.proofs.Tools.{none-some, some-is, put-here, not-false, put-there}
use Rattle.lease_book.specs.Groups.{IsOfMembers as IsFromMembers, AreNumberedAbove}
use Rattle.lease_book.specs.Sending.{SendsOnly}
use Rattle.lease_book.proofs.Groups.{own-causal}
use Rattle.lease_book.proofs.Sends.{old-or-sent, heard-gone}
use Rattle.cluster_model.proofs.Lists.{all-more}
use Rattle.lease_parts.specs.Bridged.{Bridged, IsMatched, KnowThemselves, KnowsItself, SeesMode}
use Rattle.lease_parts.specs.Declaring.{declared_of, works_of}
use Rattle.run_promise.specs.Members.{declared_members, member_count}
use Rattle.lease_inputs.specs.InputEvents.{IsOfInput, RunsAmong}
use Rattle.lease_parts.specs.Kept.{IsKept, MeetsPremises}
use Rattle.lease_parts.specs.Machines.{live_now, run_in, run_now}
use Rattle.agent_questions.specs.Questions.{SendsBetween, AsksAnew}
use Rattle.lease_parts.specs.Waiting.{AreAgentsSound}
use Rattle.lease_parts.specs.Volatile.{agent_now, volatile_of}
use Rattle.lease_parts.proofs.Actions.{action-kept, machine-is}
use Rattle.lease_parts.proofs.Fitting.{Fits, IsFitting, fits-of, fits-over, matched-from}
use Rattle.lease_inputs.proofs.InputKinds.{IsOpening, opening-clock, opening-own, opening-taken, opening-sends, opening-from, opening-above, opening-members, opening-hands_off, opening-moments, mine-own, mine-from, mine-hands_off, mine-members, mine-sends, asked-over}
use Rattle.lease_inputs.proofs.InputServers.{Mirrors}
use Rattle.lease_inputs.proofs.InputMachines.{IsHeldFor, Resembles, mirrored}
use Rattle.lease_inputs.proofs.InputNumbers.{moments-all}
use Rattle.lease_inputs.proofs.InputOutputs.{GoesBetween, each-basis, each-begins, each-between, each-fed, FedIn, IsFedAs, each-resembles, each-numbered, armed-more}
use Rattle.lease_inputs.proofs.InputSeen.{IsFound, margin-of, seen-of}
use Rattle.lease_inputs.proofs.InputHolds.{each-taken, input-taken, taken_by_outputs}
use Rattle.lease_hearing.proofs.SeenModes.{step-sees}
use Rattle.lease_hearing.specs.Hearing.{IsHeardWell}
use Rattle.lease_inputs.proofs.InputStays.{Stays, each-mine, item-here, stays-over}
use Rattle.lease_inputs.proofs.InputWaiting.{agents-after, knows-after, runs-after}
use Rattle.cluster_model.proofs.Places.{get-elsewhere, length-changed}
use Rattle.agent_questions.proofs.Questions.{step-asks-anew}
use Rattle.lease_inputs.proofs.InputBegun.{ArmsInTime, AskWell, IsBegun, begun-by, both-are, check-is, clock-of, kept-if-works, mine-addressed, mine-mode, opening-addressed, opening-mode, opening-sent, ready-seen, volatile-same}

-- what is in an input's outputs
both-all : (P Q : Output → Type 0) (outs : List Output) → All P outs → All Q outs → All (λ out. P out × Q out) outs
both-all P Q outs p q = λ k d h. (p k d h, q k d h)

-- ---- the input
module _ (head : HeadText) (book : List Event) (cluster : Cluster) (good : Bridged head book cluster)
    (member : Member) (agent : AgentFacts) (machine : Machine) (found : IsFound cluster member machine)
    (here : slice_get cluster.agents member.id.number ≡ Some (Some agent)) (heard : Heard) (hn : Option ℕ)
    (message : HeardMessage) (opening : EventKind) (opens : IsOpening hn opening)
    (numbered : (n : ℕ) → hn ≡ Some n → (message.number ≡ n) × (n ≤ cluster.facts.sent))
    (low : message.number ≤ cluster.facts.sent)
    (well : IsHeardWell (declared_of head).failsafe cluster.facts.members
    (past_of book).flight member heard hn message) where
  abbrev M : ℕ
  M = member.id.number

  abbrev Before : Outcome
  Before = outcome_from agent.role agent.knows machine []

  abbrev Now : Ticks
  Now = moment_of cluster

  abbrev After : Outcome
  After = step Now (points_of cluster member) heard Before

  abbrev First : Cluster
  First = cluster_after cluster opening

  abbrev Rest : List Event
  Rest = each (output_events member message) First After.outputs

  abbrev Events : List Event
  Events = record { tick = record { 0 = First.facts.clock }; kind = opening } ∷ Rest

  abbrev Later : Cluster
  Later = cluster_over First Rest

  abbrev Mode : Bool
  Mode = (declared_of head).failsafe

  abbrev Told : Past
  Told = past_of book

  abbrev S : State
  S = state_of (declared_of head) Told (volatile_of cluster)

  -- the request that it takes a hold for
  abbrev Takes : Option FailsafeRequest
  Takes = request_taken (has_one is_yes After.outputs) (request_heard S.flight hn)

  abbrev Theirs : AgentInput
  Theirs = input_of Told M (volatile_of Later M) hn (has_one is_feeding After.outputs) Takes Events

  pub anew : AsksAnew Now agent.knows After.knows After.outputs
  anew = step-asks-anew Now (points_of cluster member) heard agent.role agent.knows machine

  abbrev Q : Output → Type 0
  Q out = Contains After.outputs out × (SendsBetween agent.knows.sequence After.knows.sequence out × AsksMode Mode out)

  pub table : All IsOfTable After.outputs
  table = (step-carried-out Now (points_of cluster member) heard agent.role agent.knows machine).kinds

  pub begun : IsBegun M cluster First
  begun = begun-by M cluster hn opening opens

  pub knows-it : KnowsItself Mode M (slice_get cluster.facts.processes M) agent
  knows-it = good.matched.agents M agent here

  same-process : (a b process : AgentProcess) (o : Option AgentProcess) → o ≡ Some a → o ≡ Some process → a ≡ process
  same-process a b process o e f = some-is a process (sym e ∙ f)

  pub runs : RunsAmong member agent.knows.incarnation First.facts
  runs = record {
    process = λ process e.
        ap (λ (p : AgentProcess). p.incarnation)
        (some-is process knows-it.found
        (sym e ∙ ap (λ (l : List AgentProcess). slice_get l M) begun.processes ∙ knows-it.is))
        ∙ sym knows-it.incarnation;
    numbered = λ n peer e.
        good.matched.failsafe.numbered n peer (ap (λ (l : List Member). slice_get l n) (sym begun.members) ∙ e);
  }

  modes : All (AsksMode Mode) After.outputs
  modes = mode-asked-from Now (points_of cluster member) heard agent.role agent.knows machine
      (good.matched.waiting.agents M agent here).ends Mode well.told

  pub mine : AllAre (IsOfInput member agent.knows.incarnation message.number Q) Rest
  mine = each-mine member agent.knows.incarnation message.number Q First message refl runs After.outputs table
      (both-all (Contains After.outputs)
      (λ out. SendsBetween agent.knows.sequence After.knows.sequence out × AsksMode Mode out) After.outputs
      (All-contains_itself After.outputs)
      (both-all (SendsBetween agent.knows.sequence After.knows.sequence)
      (AsksMode Mode) After.outputs anew.sends modes))

  pub stays : Stays M First Later
  stays = stays-over member agent.knows.incarnation message.number Q First Rest mine

  -- ---- all its events
  all-events : (P : EventKind → Type 0) → P opening
      → ((kind : EventKind) → IsOfInput member agent.knows.incarnation message.number Q kind → P kind) → AllAre P Events
  all-events P first rest =
      (first, all-more (IsOfInput member agent.knows.incarnation message.number Q) P Rest rest mine)

  pub numbers : AreNumberedAbove cluster.facts.sent Events
  numbers = (
    opening-above cluster.facts.sent hn opening opens,
    subst (λ (n : ℕ). AreNumberedAbove n Rest) (begun.sent ∙ sym (opening-sent hn opening cluster.facts.sent opens))
        (each-numbered member agent.knows.incarnation message First After.outputs runs table),
  )

  sends : AllAre (SendsOnly (IsSentBy M agent.knows.incarnation Told.clock After.outputs) Told.clock) Events
  sends = all-events (SendsOnly (IsSentBy M agent.knows.incarnation Told.clock After.outputs) Told.clock)
      (opening-sends (IsSentBy M agent.knows.incarnation Told.clock After.outputs) Told.clock hn opening opens)
      (mine-sends member agent.knows.incarnation message.number Q
      (IsSentBy M agent.knows.incarnation Told.clock After.outputs) Told.clock
      (record {
        store = λ sequence body query is query-is. AsksStore sequence body query is.0 query-is refl;
        asks = λ to sequence ttl is. AsksMember to sequence ttl is.0 refl;
        says = λ to run sequence is. SaysYes to run sequence is.0 refl;
      }))

  asks : AskWell Mode Q
  asks = record {
    store = λ sequence body is. is.1.0.2;
    numbered = λ to sequence body is. let low : agent.knows.sequence < sequence = is.1.0.0 in omega (arith, low);
    leaves = λ to sequence body is. is.1.1;
  }

  stands-all : All (StandsOn heard agent.knows) After.outputs
  stands-all =
      (input-asks-from Now (points_of cluster member) heard agent.role agent.knows machine
      (good.matched.waiting.agents M agent here).ends).stands

  known : (output : Output) → StandsOn heard agent.knows output → IsHeldFor cluster.facts.members output
  known (outputs.Tell (tellings.HoldTaken until from sequence)) stands = elim stands [
    | inl mine ↦ (
      member,
      ap (λ (id : MemberId). slice_get cluster.facts.members id.number) mine.1
          ∙ ap (slice_get cluster.facts.members) knows-it.me ∙ well.stands,
    )
    | inr asked ↦ let request = well.asked from asked.0 sequence asked.1 in (request.peer, request.there)
  ]
  known _ stands = tt

  -- for whom it takes holds
  held : All (IsHeldFor First.facts.members) After.outputs
  held = subst (λ (l : List Member). All (IsHeldFor l) After.outputs) (sym begun.members)
      (All-weaker (StandsOn heard agent.knows) (IsHeldFor cluster.facts.members) known After.outputs stands-all)

  -- where its messages go
  between : AllAre (GoesBetween (declared_members head)) Rest
  between =
      subst (λ (l : List Member). AllAre (GoesBetween l) Rest) (begun.members ∙ good.matched.members)
      (each-between member agent.knows.incarnation message First After.outputs
      (ap (λ (l : List Member). slice_get l M) begun.members ∙ well.stands) runs table)

  pub small : M < member_count head
  small = subst (λ (n : ℕ). M < n) good.matched.agents_sized (slice_get_within cluster.agents M (Some agent) here)

  -- what set its deadline
  basis-here : slice_get cluster.failsafe_deadlines M ≡ Some machine.by_failsafe
  basis-here =
      let one = there cluster.failsafe_deadlines M (subst (λ (n : ℕ). M < n) (sym good.matched.failsafe.sized) small) in
      one.1 ∙ ap (λ (b : Bool). Some b) (sym (ap is_set_by_failsafe one.1) ∙ found.basis)

  pub fitting : AllAre (IsFitting head) Events
  fitting = (
    (
      opening-hands_off hn opening opens,
      (
        opening-members (member_count head) hn opening opens,
        (opening-addressed (declared_members head) Mode hn opening opens, opening-mode Mode hn opening opens),
      ),
    ),
    all-more (λ kind.
        IsOfInput member agent.knows.incarnation message.number Q kind × GoesBetween (declared_members head) kind)
        (IsFitting head) Rest
        (λ kind is. (
          mine-hands_off member agent.knows.incarnation message.number Q kind is.0,
          (
            mine-members member agent.knows.incarnation message.number Q (member_count head) small kind is.0,
            (
              mine-addressed (declared_members head) Mode member agent.knows.incarnation message.number Q asks
                  kind is.0 is.1,
              mine-mode Mode member agent.knows.incarnation message.number Q kind is.0,
            ),
          ),
        ))
        (both-are (IsOfInput member agent.knows.incarnation message.number Q)
        (GoesBetween (declared_members head)) Rest mine between),
  )

  fits : Fits head (past_over Told Events) Later
  fits = fits-over head Told cluster Events
      (own-causal Told cluster.facts Events
      (all-events IsFromMembers (opening-from hn opening opens)
      (mine-from member agent.knows.incarnation message.number Q))
      numbers)
      fitting (fits-of head Told cluster good.matched)

  -- ---- agents
  clock-is : Now.0 ≡ Told.clock
  clock-is = sym good.matched.store.clock

  pub questions : (i : ℕ) (q : Question) → (past_over Told Events).asked i ≡ Some q
      → (Told.asked i ≡ Some q) ⊎ IsSentBy M agent.knows.incarnation Told.clock After.outputs (Requested q)
  questions = asked-over (IsSentBy M agent.knows.incarnation Told.clock After.outputs) Told.clock Told Events refl sends

  run-is : agent.knows.incarnation ≡ run_in cluster.facts.processes M
  run-is = knows-it.incarnation ∙ sym (ap run_now knows-it.is)

  module _ (acts : agent_facts_after cluster opening ≡ with_changed cluster.agents M (agent_after (Some After))) where
    pub agents-are : Later.agents ≡ with_changed cluster.agents M (agent_after (Some After))
    agents-are = stays.agents ∙ acts

    pub processes-are : Later.facts.processes ≡ cluster.facts.processes
    processes-are = stays.processes ∙ begun.processes

    ends-alone : EndsAlone After.role After.knows.waited
    ends-alone = input-ends Now (points_of cluster member) heard Before (good.matched.waiting.agents M agent here).ends

    after-here : slice_get Later.agents M ≡ Some (Some (record { role = After.role; knows = After.knows }))
    after-here = ap (λ (l : List (Option AgentFacts)). slice_get l M) agents-are
        ∙ item-here cluster.agents M (agent_after (Some After)) (Some agent) here

    -- ---- the machine
    mirrors-first : Mirrors First M machine
    mirrors-first = record {
      server = record {
        server = found.mirrors.server.server;
        is = ap (λ (l : List ServerFacts). slice_get l M) begun.servers ∙ found.mirrors.server.is;
        seen_is = found.mirrors.server.seen_is;
      };
      deadline = ap (λ (l : List (Option Ticks)). slice_get l M) begun.deadlines ∙ found.mirrors.deadline;
      hold = ap (λ (l : List (Option Ticks)). slice_get l M) begun.holds ∙ found.mirrors.hold;
    }

    pub basis-later : is_set_by_failsafe (slice_get Later.failsafe_deadlines M) ≡ After.machine.by_failsafe
    basis-later =
        let carried = step-carried-out Now (points_of cluster member) heard agent.role agent.knows machine in
        ap is_set_by_failsafe
        (each-basis member agent.knows.incarnation message Now First machine After.outputs runs table
        (ap (λ (l : List Bool). slice_get l M) begun.bases ∙ basis-here))
        ∙ ap (λ (x : Machine). x.by_failsafe) (sym carried.machine_is)

    pub resembles-later : Resembles Later M After.machine
    resembles-later =
        let carried = step-carried-out Now (points_of cluster member) heard agent.role agent.knows machine in
        subst (λ (x : Machine). Resembles Later M x) (sym carried.machine_is)
        (each-resembles member agent.knows.incarnation message Now First machine After.outputs runs table held
        carried.last begun.clock mirrors-first)

  -- ---- where it reads of no pause
  module _ (acts : agent_facts_after cluster opening ≡ with_changed cluster.agents M (agent_after (Some After)))
      (calm : tells_pause (told_by heard) ≡ false) where
    unpaused : is_paused After.knows ≡ false
    unpaused = false_from_ne_true (is_paused After.knows)
        (λ e. elim ((step-onward Now (points_of cluster member) heard Before).pauses e) [
          | inl was ↦ not-false (is_paused agent.knows) knows-it.unpaused was
          | inr told ↦ not-false (tells_pause (told_by heard)) calm told
        ])

    keeps : KeepsMode Mode After.knows
    keeps = mode-kept Now (points_of cluster member) heard Before Mode well.told knows-it.keeps

    sees : SeesMode Mode After.knows
    sees = step-sees Mode Now (points_of cluster member) heard Before well.told knows-it.sees

    matched-over : IsMatched head (past_over Told Events) Later
    matched-over = matched-from head (past_over Told Events) Later fits
        (ap (λ (l : List (Option AgentFacts)). length l) (agents-are acts)
        ∙ length-changed cluster.agents M (agent_after (Some After)) ∙ good.matched.agents_sized)
        (subst (λ (p : List AgentProcess). KnowThemselves Mode p Later.agents) (sym (processes-are acts))
        (subst (KnowThemselves Mode cluster.facts.processes) (sym (agents-are acts))
        (knows-after Mode M agent After cluster.facts.processes cluster.agents here anew.who anew.incarnation
        keeps sees unpaused good.matched.agents)))
        (λ n. subst (λ (p : List AgentProcess). IsLastRun (past_over Told Events).asked n (run_in p n))
        (sym (processes-are acts))
        (runs-after M Told.clock agent.knows.incarnation After.outputs Told.asked
        (past_over Told Events).asked cluster.facts.processes run-is questions good.matched.waiting.runs n))
        (subst (AreAgentsSound (past_over Told Events).asked) (sym (agents-are acts))
        (agents-after M Told.clock Now agent After Told.asked (past_over Told Events).asked cluster.agents
        here questions anew clock-is (ends-alone acts) good.matched.waiting.agents))

    behind : past_of (book ++ Events) ≡ past_over Told Events
    behind = past-append first_past book Events

    matched : IsMatched head (past_of (book ++ Events)) Later
    matched = subst (λ (p : Past). IsMatched head p Later) (sym behind) matched-over

    machine-later : machine_told (past_over Told Events) (volatile_of Later M) M
        ≡ machine_seen After.role After.knows After.machine (run_in cluster.facts.processes M)
    machine-later =
        machine-is head (past_over Told Events) Later matched-over M
        ∙ seen-of Later M (record { role = After.role; knows = After.knows }) After.machine
        (resembles-later acts) (basis-later acts) (after-here acts)
        ∙ ap (λ (p : List AgentProcess). machine_seen After.role After.knows After.machine (run_in p M))
        (processes-are acts)

    member-is : S.members M ≡ machine_seen agent.role agent.knows machine (run_in cluster.facts.processes M)
    member-is = machine-is head Told cluster good.matched M
        ∙ seen-of cluster M agent machine (mirrored cluster M machine found.mirrors) found.basis here

    ready : is_ready agent.role ≡ true → machine.by_failsafe ≡ false
    ready e =
        ap (λ (x : MachineSeen). x.by_failsafe) (sym member-is)
        ∙ good.carried.sound.ready_by_grant M
        (ap (λ (x : MachineSeen). ready_seen x.agent) member-is ∙ ready-seen agent.role agent.knows ∙ e)

    pub stands : StandsIn S M (run_in cluster.facts.processes M) Now Before
    stands = record {
      member = member-is;
      me = knows-it.me;
      clock = good.matched.store.clock;
      margin = margin-of head Told cluster member machine good.matched found;
      mode = knows-it.keeps;
      ready = ready;
      unpaused = knows-it.unpaused;
    }

    gone-if : (o : Option ℕ) (kind : EventKind) → IsOpening o kind → (number : ℕ) → o ≡ Some number
        → kind ≡ kinds.Message (Delivered number)
    gone-if o (kinds.Agent (agents.Woken by)) is number e = absurd (none-some number (sym is ∙ e))
    gone-if o (kinds.Agent (agents.Operated by action)) is number e = absurd (none-some number (sym is ∙ e))
    gone-if o (kinds.Message (Delivered n)) is number e =
        ap (λ (k : ℕ). kinds.Message (Delivered k)) (some-is n number (sym is ∙ e))
    gone-if o _ is number e = absurd is

    is-input : IsInputOf S M (run_in cluster.facts.processes M) Before After Theirs
    is-input = record {
      feeds = refl;
      takes = refl;
      machine = machine-later;
      gone = λ number e. heard-gone Told (record { tick = record { 0 = First.facts.clock }; kind = opening })
          Rest cluster.facts.sent number (gone-if hn opening opens number e) (numbered number e).1
          (subst (λ (n : ℕ). AreNumberedAbove n Rest) (opening-sent hn opening cluster.facts.sent opens) numbers.1);
      flight = λ i flying e. old-or-sent (IsSentBy M agent.knows.incarnation Told.clock After.outputs)
          Told.clock Told Events refl sends i flying e;
    }

    -- ---- who begins, and what is fed
    kept : AllAre (KeepsMomentOf message.number) Rest
    kept = moments-all member agent.knows.incarnation message.number cluster.facts.sent message.number Q Rest low
        (subst (λ (n : ℕ). AreNumberedAbove n Rest) (opening-sent hn opening cluster.facts.sent opens) numbers.1) mine

    abbrev May : List Event → ℕ → Type 0
    May before n = MayBeginBehind S (Input M Theirs) before n

    grow : (before more : List Event) → May before M → May (before ++ more) M
    grow before more may = (
      may.0,
      elim may.1 [
        | inl acts ↦ inl acts
        | inr armed ↦ inr (record {
          fed = armed.fed;
          free = armed.free;
          armed = armed-more member agent.knows.incarnation message M armed.fed.hears.number before more armed.armed;
        })
      ],
    )

    makes : (outs : List Output) (before : List Event) → MayPromote S M Theirs outs
        → (has_one is_arming outs ≡ true → IsArmedIn M message.number before) → May before M
    makes outs before (inl acts) armed = (refl, inl acts)
    makes outs before (inr may) armed = (
      refl,
      inr (record {
        fed = may.fed;
        free = may.free;
        armed = subst (λ (n : ℕ). IsArmedIn M n before)
            (numbered may.fed.hears.number may.fed.hears.heard_is).0 (armed may.armed);
      }),
    )

    no-one : (e : has_one is_arming [] ≡ true) → ⊥
    no-one e = cc

    opening-begins : (R : ℕ → Type 0) (o : Option ℕ) (kind : EventKind) → IsOpening o kind → BeginsKind R kind
    opening-begins R o (kinds.Agent (agents.Woken by)) is = tt
    opening-begins R o (kinds.Agent (agents.Operated by action)) is = tt
    opening-begins R o (kinds.Message (Delivered n)) is = tt
    opening-begins R o _ is = absurd is

    begins-all : IsLawfulAnd S M After Theirs → BeginsBehind (MayBeginBehind S (Input M Theirs)) [] Events
    begins-all lawful = (
      opening-begins (May []) hn opening opens,
      each-begins member agent.knows.incarnation message (MayPromote S M Theirs) May grow makes First machine []
          (record { tick = record { 0 = First.facts.clock }; kind = opening } ∷ []) After.outputs (mirrors-first acts)
          (λ alive. (refl, inl (inl (ap (λ (x : MachineSeen). x.live) stands.member ∙ alive)))) runs table held
          (step-carried-out Now (points_of cluster member) heard agent.role agent.knows machine).last
          (opening-moments message.number hn opening opens, tt) kept (λ e. absurd (no-one e)) lawful.begins,
    )

    all-front : (xs ys : List Event) → AllAre (KeepsMomentOf message.number) (xs ++ ys)
        → AllAre (KeepsMomentOf message.number) xs
    all-front [] ys all = tt
    all-front (x ∷ xs) ys all = (all.0, all-front xs ys all.1)

    abbrev First_ : Event
    First_ = record { tick = record { 0 = First.facts.clock }; kind = opening }

    abbrev Basis_ : Bool
    Basis_ = Theirs.machine.by_failsafe

    abbrev IsFed : Bool → EventKind → Type 0
    IsFed b kind = IsFedAs member agent.knows.incarnation message (StandsOn heard agent.knows) b kind

    -- the last feed, as the deadline's basis is
    fed-last : has_one is_feeding After.outputs ≡ true
        → FedIn member agent.knows.incarnation message (StandsOn heard agent.knows) Basis_ Rest
    fed-last is =
        let carried = step-carried-out Now (points_of cluster member) heard agent.role agent.knows machine in
        subst (λ (b : Bool). FedIn member agent.knows.incarnation message (StandsOn heard agent.knows) b Rest)
        (ap (λ (x : Machine). x.by_failsafe) (sym carried.machine_is)
        ∙ ap (λ (x : MachineSeen). x.by_failsafe) (sym machine-later))
        (each-fed member agent.knows.incarnation message
        (StandsOn heard agent.knows) Now First machine After.outputs stands-all is)

    kept-front : (front rest : List Event) (event : Event) → front ++ event ∷ rest ≡ Rest
        → AllAre (KeepsMomentOf message.number) (First_ ∷ front)
    kept-front front rest event is = (
      opening-moments message.number hn opening opens,
      all-front front (event ∷ rest) (subst (AllAre (KeepsMomentOf message.number)) (sym is) kept),
    )

    -- a feed on acknowledgements is on those that are waited for
    fed-on : (kind : EventKind) → IsFed true kind → (failsafe_check : FailsafeCheck)
        → check_seen agent.knows.failsafe agent.knows.waited ≡ Some failsafe_check
        → IsFedOn M failsafe_check.members failsafe_check.sequence kind
    fed-on kind fed failsafe_check is =
        let check = check-is agent.knows.failsafe agent.knows.waited failsafe_check is in
        let on = fed.from.asked check.waited check.is check.staying in
        subst (IsFedOn M failsafe_check.members failsafe_check.sequence) (sym fed.is) (
          refl,
          on.1 ∙ sym check.sequence,
          λ p e. ap (λ (l : MemberSet). set_members l p) on.0 ∙ ap (λ (l : ℕ → Bool). l p) (sym check.members) ∙ e,
        )

    shows-if : (fed : Bool) → has_one is_feeding After.outputs ≡ fed → ShowsIt S (Input M Theirs) Events
    shows-if false is = inl is
    shows-if true is =
        let fed = fed-last is in
        inr (
          First_ ∷ fed.front,
          fed.event,
          fed.rest,
          ap (λ (l : List Event). First_ ∷ l) fed.is,
          record {
            by_grant = λ _ granted number e.
                let same = (numbered number e).0 in (
                  subst (λ (n : ℕ). AllAre (KeepsMomentOf n) (First_ ∷ fed.front)) same
                      (kept-front fed.front fed.rest fed.event fed.is),
                  subst (λ (n : ℕ). IsFedBy M n fed.event.kind) same
                      (subst (λ (b : Bool). IsFed b fed.event.kind) granted fed.fed),
                );
            by_failsafe = λ _ failsafe was failsafe_check there_is checks.
                let seen : role_seen agent.role agent.knows ≡ was = some-is (role_seen agent.role agent.knows) was
                (ap (λ (x : MachineSeen). x.agent) (sym member-is) ∙ there_is) in (
                  ap (λ (x : Agent). x.incarnation) (sym seen) ∙ run-is
                      ∙ ap (λ (x : MachineSeen). x.runs) (sym member-is),
                  all-more (KeepsMomentOf message.number) KeepsClockAndRuns (First_ ∷ fed.front)
                      (clock-of message.number) (kept-front fed.front fed.rest fed.event fed.is),
                  fed-on fed.event.kind (subst (λ (b : Bool). IsFed b fed.event.kind) failsafe fed.fed) failsafe_check
                      (ap (λ (x : Agent). x.failsafe_check) seen ∙ checks),
                );
          },
        )

    -- ---- the action
    -- the holds that the book has taken behind it are as the law has them
    taken-so : (past_over Told Events).taken ≡ taken_by M Told.clock Takes Told.taken
    taken-so =
        each-taken member agent.knows.incarnation message Told.clock
        (past_after Told opening) First After.outputs runs table held (opening-clock hn opening opens Told)
        ∙ ap (taken_by_outputs member agent.knows.incarnation message Told.clock After.outputs)
        (opening-taken Told.clock Told.taken hn opening opens)
        ∙ input-taken member agent.knows.incarnation message cluster.facts.members S.flight hn Told.clock Now
        (points_of cluster member) Before
        (good.matched.waiting.agents M agent here).ends refl Told.taken heard well.asked stands-all

    volatile-put : (n : ℕ) → volatile_of Later n ≡ put_at (volatile_of cluster) M (volatile_of Later M) n
    volatile-put = by
      where
        other-way : (n : ℕ) → n ≢ M → volatile_of Later n ≡ volatile_of cluster n
        other-way n other = volatile-same _ _ _ _
            (ap live_now (stays.servers n other ∙ ap (λ (l : List ServerFacts). slice_get l n) begun.servers))
            (ap agent_now
            (ap (λ (l : List (Option AgentFacts)). slice_get l n) (agents-are acts)
            ∙ get-elsewhere cluster.agents M n (agent_after (Some After)) other))

        by : (n : ℕ) → volatile_of Later n ≡ put_at (volatile_of cluster) M (volatile_of Later M) n
        by n = elim (cases_eq n M) [
          | inl same ↦ ap (volatile_of Later) same ∙ sym (put-here (volatile_of cluster) M (volatile_of Later M))
              ∙ ap (put_at (volatile_of cluster) M (volatile_of Later M)) (sym same)
          | inr other ↦ other-way n other ∙ sym (put-there (volatile_of cluster) M (volatile_of Later M) n other)
        ]

    shown : IsShown (declared_of head) book (volatile_of cluster)
        (record { action = Input M Theirs; events = Events; volatile_states = volatile_of Later })
    shown =
        subst (λ (v : ℕ → VolatileState). IsShown (declared_of head) book (volatile_of cluster)
        (record { action = Input M Theirs; events = Events; volatile_states = v }))
        (sym (fun_ext volatile-put))
        (input-shown-of (declared_of head) book (volatile_of cluster) M (volatile_of Later M) hn
        (has_one is_feeding After.outputs) Takes Events
        (all-events (IsOwn M) (opening-own M hn opening opens)
        (mine-own member agent.knows.incarnation message.number Q))
        taken-so)

    pub input-kept : (((m : ℕ) → works_of head m ≡ true) → Hears S M hn heard Before) → IsKept head book cluster Events
    input-kept hears = kept-if-works head book cluster Events (λ works.
        let sound = good.matched.waiting.agents M agent here in
        let lawful = input-lawful-from Now (points_of cluster member) heard agent.role agent.knows machine
        (λ waited is. (sound.waits waited is).span) sound.ends
        S M (run_in cluster.facts.processes M) Theirs stands (hears works) is-input in
        action-kept head book cluster Events (Input M Theirs) good (begins-all lawful) (λ meets. record {
          lawful = lawful.lawful;
          shows = shows-if (has_one is_feeding After.outputs) refl;
          shown = shown;
          matched = matched;
        }))

    -- ---- who comes to act
    fed-in-time : MeetsPremises head (book ++ Events) → Theirs.feeds ≡ true → Theirs.machine.by_failsafe ≡ false
        → (grant : Grant) → HeardGrant S M hn grant → IsOnTime (S.declared.margin M) S.clock grant.moment
    fed-in-time meets feeds by_grant grant heard_it = elim (shows-if (has_one is_feeding After.outputs) refl) [
      | inl none ↦ absurd (not-false (has_one is_feeding After.outputs) none feeds)
      | inr told ↦
          (input-in-time (declared_of head) book (volatile_of cluster) M Theirs told.0 told.1 told.2
          (subst (λ (l : List Event). IsTimely (declared_of head).margin (book ++ l)) (sym told.3) meets.timely)
          told.4).by_grant
          feeds by_grant grant heard_it
    ]

    comes-to-act : MeetsPremises head (book ++ Events) → Acts Theirs.machine → (Acts (S.members M) → ⊥)
        → (was agent_behind : Agent) → WatchdogMay S M Theirs was agent_behind → ArmsInTime S M hn
    comes-to-act meets acts_behind rests was agent_behind (Kept same basis before) = absurd (rests (before acts_behind))
    comes-to-act meets acts_behind rests was agent_behind (Removed none) = absurd (none acts_behind)
    comes-to-act meets acts_behind rests was agent_behind (SetByGrant fed is none free) = record {
      fed = fed.fed;
      in_time = fed-in-time meets fed.feeds fed.by_grant fed.fed.grant fed.fed.hears;
      free = elim (free acts_behind) [ inl before ↦ absurd (rests before) | inr ended ↦ ended ];
    }
    comes-to-act meets acts_behind rests was agent_behind (SetByFailsafe deadline feeds is basis before all) =
        absurd (rests (before acts_behind))
    comes-to-act meets acts_behind rests was agent_behind (SetAlone deadline is basis before nobody) =
        absurd (rests (before acts_behind))
    comes-to-act meets acts_behind rests was agent_behind (Undone was_ready live_before) =
        absurd (rests (inl live_before))

    -- where the premises are met, whoever comes to act in an input
    -- armed its watchdog in time, on the grant that it hears
    pub arms-in-time : ((m : ℕ) → works_of head m ≡ true) → Hears S M hn heard Before
        → MeetsPremises head (book ++ Events)
        → Acts (machine_seen After.role After.knows After.machine (run_in cluster.facts.processes M))
        → (Acts (S.members M) → ⊥) → ArmsInTime S M hn
    arms-in-time works hears meets acts_behind rests =
        let sound = good.matched.waiting.agents M agent here in
        let lawful = input-lawful-from Now (points_of cluster member) heard agent.role agent.knows machine
        (λ waited is. (sound.waits waited is).span) sound.ends
        S M (run_in cluster.facts.processes M) Theirs stands hears is-input in
        comes-to-act meets (subst (λ (x : MachineSeen). Acts x) (sym machine-later) acts_behind) rests
        lawful.lawful.was lawful.lawful.agent lawful.lawful.watchdog
