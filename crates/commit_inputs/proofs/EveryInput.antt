-- Each input of an agent upholds commits: whoever is woken, whatever
-- an operator asks of one, and whatever message comes to one.
use Rattle.std.proofs.Common.{ℕ, ◌≡◌, ◌≤◌, ◌++◌, Bool, List, [], Option, Some, None, option_map, slice_get, true, refl, sym, ap, ◌∙◌, subst, arith, inl, inr}
use Rattle.std.proofs.Math.Path.{fun_ext}
use Rattle.event_book.specs.declared.event.AgentEvent.{AgentEvent}
use Rattle.event_book.specs.declared.event.AgentEvent.TheVariants as agents
use Rattle.event_book.specs.declared.event.Event.{Event}
use Rattle.event_book.specs.declared.event.EventKind.{EventKind}
use Rattle.event_book.specs.declared.event.EventKind.TheVariants as kinds
use Rattle.event_book.specs.declared.event.MessageEvent.TheVariants.{Delivered}
use Rattle.event_book.specs.declared.link.LinkEnd.{LinkEnd}
use Rattle.event_book.specs.declared.link.LinkEnd.TheVariants as ends
use Rattle.event_book.specs.declared.member.Member.{Member}
use Rattle.event_book.specs.declared.message.Body.{Body}
use Rattle.event_book.specs.declared.message.Body.TheVariants as bodies
use Rattle.event_book.specs.Flight.{InFlightFacts, in_flight}
use Rattle.script_model.specs.Script.{HeadText}
use Rattle.agent_model.specs.declared.heard.Heard.{Heard}
use Rattle.agent_model.specs.declared.heard.Heard.TheVariants as heards
use Rattle.agent_model.specs.declared.machine.Machine.{Machine}
use Rattle.store_keys.specs.declared.action.OperatorAction.{OperatorAction}
use Rattle.lease_store.specs.declared.granted.Granted.{Granted}
use Rattle.agent_model.specs.Agents.{AgentFacts, Outcome, outcome_from}
use Rattle.agent_commit_law.specs.Committing.{HearsBelow, HearsSynchronousMode, HearsToCommit}
use Rattle.agent_lease_law.specs.Lawful.{Hears}
use Rattle.agent_sending.specs.Modes.{IsModeRequested}
use Rattle.cluster_model.specs.declared.delivery.Delivery.TheVariants as deliveries
use Rattle.cluster_model.specs.Cluster.{agent_facts_by, agent_facts_with, cluster_after}
use Rattle.cluster_model.specs.Deliveries.{delivery_of}
use Rattle.cluster_model.specs.Hearing.{heard_from, heard_in, member_at_end, snapshot_in}
use Rattle.cluster_model.specs.Inputs.{agent_at, moment_of, outcome_at, outcome_of, outcome_of_heard}
use Rattle.cluster_model.specs.Machines.{machine_of, points_of}
use Rattle.cluster_model.specs.Messages.{hear_events, heard_message, input_events, no_message, operate_events, wake_events_of}
use Rattle.cluster_model.specs.Parts.{event_of}
use Rattle.cluster_model.specs.Requests.{action_of}
use Rattle.cluster_model.specs.State.{Cluster}
use Rattle.lease_model.specs.Past as lease_past
use Rattle.lease_model.proofs.Tools.{none-some, some-is}
use Rattle.commit_actions.specs.Actions.{IsNumbered, Lose, Note}
use Rattle.commit_showing.specs.Books.{IsShown}
use Rattle.commit_actions.specs.Inputs.{AgentInput}
use Rattle.commit_actions.specs.Past.{VolatileState}
use Rattle.commit_showing.specs.Showing.{IsIdle}
use Rattle.commit_showing.proofs.Showing.{idle-shown}
use Rattle.lease_parts.specs.Declaring.{declared_of, works_of}
use Rattle.run_promise.specs.Members.{member_count, IsDeclared}
use Rattle.lease_parts.specs.Kept.{IsKept}
use Rattle.run_promise.specs.Parts.{InputsUphold}
use Rattle.run_promise.specs.Promise.{Upholds}
use Rattle.lease_parts.specs.Volatile as run_volatile
use Rattle.lease_parts.specs.Waiting.{IsAnswer}
use Rattle.lease_hearing.specs.Hearing.{IsHeardWell}
use Rattle.lease_inputs.proofs.EveryInput.{acted, agent-here, answered-run, kept-hearing, kept-operated, kept-wake, mode-asked, operated-well, sender, same-run, the-outcome, unchanged, wake-well}
use Rattle.lease_hearing.proofs.InputHears.{heard-well, hears-by, peers-hear}
use Rattle.lease_inputs.proofs.InputKinds.{IsOpening}
use Rattle.lease_inputs.proofs.InputSeen.{IsFound, can-feed, found-of}
use Rattle.run_promise.proofs.Members.{numbered}
use Rattle.commit_servers.specs.Matching.{live_in}
use Rattle.commit_parts.specs.Agents.{AreAgentsSynchronous, IsAskNumbered}
use Rattle.commit_parts.specs.Bridged.{CommitsBridged, kept_commits}
use Rattle.commit_parts.specs.Reading.{agent_now, past_of, setup_of, state_of_run, volatile_of}
use Rattle.commit_inputs.proofs.Hearing.{hears-below, hears-commits, hears-on}
use Rattle.commit_parts.proofs.Moving.{moves-one, upheld-moves}
use Rattle.commit_parts.proofs.Still.{volatile-same}
use Rattle.commit_inputs.proofs.Upheld.{MayAnswer, input-upheld}
use Rattle.pat_base.specs.declared.ticks.Ticks.{Ticks}
use Rattle.pat_base.specs.declared.member_id.MemberId.{MemberId}
use Rattle.pat_base.specs.declared.member_id.TheConstants.{MOST_MEMBERS}

-- ---- nobody acts
states-same : (before later : Cluster) → later.facts.servers ≡ before.facts.servers
    → later.agents ≡ before.agents → volatile_of before ≡ volatile_of later
states-same before later servers same =
    fun_ext (λ m. volatile-same _ _ _ _ (ap (λ known. live_in known m) (sym servers))
    (ap (λ (known : List (Option AgentFacts)). agent_now (slice_get known m)) (sym same)))

-- an agent is to act by itself that isn't there
idle-itself : (head : HeadText) (book : List Event) (cluster : Cluster) (happening : AgentEvent)
    → CommitsBridged head book cluster → IsIdle (kinds.Agent happening)
    → (cluster_after cluster (kinds.Agent happening)).agents ≡ cluster.agents
    → IsKept head book cluster (event_of cluster (kinds.Agent happening))
    → Upholds (kept_commits head) book cluster (event_of cluster (kinds.Agent happening))
idle-itself head book cluster happening good idle same kept =
    let kind : EventKind = kinds.Agent happening in
    let later : Cluster = cluster_after cluster kind in
    let states = states-same cluster later refl same in
    upheld-moves head book cluster (event_of cluster kind) good
    (moves-one (setup_of head) (past_of head book)
    (volatile_of cluster) cluster kind Note good.fits.servers.same good.fits.servers.sound tt tt tt
    (subst (λ (v : ℕ → VolatileState). IsShown (setup_of head) (past_of head book) (volatile_of cluster)
    (record { action = Note; events = event_of cluster kind; volatile_states = v }))
    states
    (idle-shown (setup_of head) (past_of head book) (volatile_of cluster) (event_of cluster kind) (idle, tt))))
    kept ((tt, (tt, tt)), (tt, tt)) (tt, tt) (tt, tt)
    (subst (λ (known : List (Option AgentFacts)).
    AreAgentsSynchronous (member_count head) (lease_past.past_of book).asked (past_of head book).asked known)
    (sym same) good.fits.agents)

-- a message says nothing to its receiver, or comes to none: it is gone, as if it were lost
idle-arrival : (head : HeadText) (book : List Event) (cluster : Cluster) (number : ℕ) → CommitsBridged head book cluster
    → (cluster_after cluster (kinds.Message (Delivered number))).agents ≡ cluster.agents
    → IsKept head book cluster (event_of cluster (kinds.Message (Delivered number)))
    → Upholds (kept_commits head) book cluster (event_of cluster (kinds.Message (Delivered number)))
idle-arrival head book cluster number good same kept =
    let kind : EventKind = kinds.Message (Delivered number) in
    let later : Cluster = cluster_after cluster kind in
    let states = states-same cluster later refl same in
    upheld-moves head book cluster (event_of cluster kind) good
    (moves-one (setup_of head) (past_of head book) (volatile_of cluster) cluster kind
    (Lose number) good.fits.servers.same good.fits.servers.sound tt tt tt
    (subst (λ (v : ℕ → VolatileState). IsShown (setup_of head) (past_of head book) (volatile_of cluster) (record {
      action = Lose number;
      events = event_of cluster kind;
      volatile_states = v;
    })) states refl))
    kept ((tt, (tt, tt)), (tt, tt)) (tt, tt) (tt, tt)
    (subst (λ (known : List (Option AgentFacts)).
    AreAgentsSynchronous (member_count head) (lease_past.past_of book).asked (past_of head book).asked known)
    (sym same) good.fits.agents)

from-none : (n : ℕ) → 0 ≤ n
from-none n = omega arith

-- ---- an agent acts by itself
-- an agent is woken, or an operator asks it for something: what it
-- hears comes with no message, and says nothing to the laws
record IsByItself (head : HeadText) (book : List Event) (cluster : Cluster) (member : Member) (heard : Heard)
    (happening : AgentEvent) : Type 0 where
  opens : IsOpening None (kinds.Agent happening)
  idle : IsIdle (kinds.Agent happening)
  acts : agent_facts_by cluster happening ≡ agent_facts_with cluster.agents member (outcome_of cluster member heard)
  hears : (agent : AgentFacts) (machine : Machine) (input : AgentInput)
      → HearsToCommit (state_of_run head book cluster) member.id.number input heard
      (outcome_from agent.role agent.knows machine [])
  on : HearsSynchronousMode heard
  below : HearsBelow (member_count head) heard
  hears_lease : ((m : ℕ) → works_of head m ≡ true) → (agent : AgentFacts) (machine : Machine)
      → IsFound cluster member machine
      → Hears (lease_past.state_of (declared_of head) (lease_past.past_of book) (run_volatile.volatile_of cluster))
      member.id.number None heard (outcome_from agent.role agent.knows machine [])
  well : IsHeardWell (declared_of head).failsafe cluster.facts.members
      (lease_past.past_of book).flight member heard None no_message
  may : MayAnswer head book cluster heard

module _ (head : HeadText) (few : member_count head ≤ MOST_MEMBERS) (book : List Event) (cluster : Cluster)
    (member : Member) (good : CommitsBridged head book cluster) where
  module _ (heard : Heard) (happening : AgentEvent) (itself : IsByItself head book cluster member heard happening) where
    abbrev Opening : EventKind
    Opening = kinds.Agent happening

    idle-by : outcome_of cluster member heard ≡ None → IsKept head book cluster (event_of cluster Opening)
        → Upholds (kept_commits head) book cluster (event_of cluster Opening)
    idle-by none kept =
        idle-itself head book cluster happening good itself.idle
        (itself.acts ∙ ap (λ (o : Option Outcome). agent_facts_with cluster.agents member o) none
        ∙ unchanged cluster.agents member.id.number)
        kept

    itself-by : (agent : Option AgentFacts) (machine : Option Machine)
        → agent_at cluster.agents member.id.number ≡ agent → machine_of cluster member ≡ machine
        → IsKept head book cluster
        (event_of cluster Opening ++ input_events (cluster_after cluster Opening) member no_message
        (outcome_at (moment_of cluster) (points_of cluster member) heard agent machine))
        → Upholds (kept_commits head) book cluster
        (event_of cluster Opening ++ input_events (cluster_after cluster Opening) member no_message
        (outcome_at (moment_of cluster) (points_of cluster member) heard agent machine))
    itself-by None machine a m kept = idle-by (the-outcome cluster member heard None machine a m) kept
    itself-by (Some agent) None a m kept = idle-by (the-outcome cluster member heard (Some agent) None a m) kept
    itself-by (Some agent) (Some machine) a m kept = input-upheld head book cluster good few (record {
      member = member;
      agent = agent;
      here = agent-here cluster member agent a;
      machine = machine;
      machine_is = m;
      heard = heard;
      number = None;
      message = no_message;
      opening = Opening;
      opening_is = itself.opens;
      acts = itself.acts
          ∙ ap (λ (o : Option Outcome). agent_facts_with cluster.agents member o)
          (the-outcome cluster member heard (Some agent) (Some machine) a m);
      hears = λ input is. itself.hears agent machine input;
      on = itself.on;
      below = itself.below;
      hears_lease = λ works. itself.hears_lease works agent machine (found-of cluster member machine m);
      numbered = λ n e. absurd (none-some n e);
      low = from-none cluster.facts.sent;
      well = itself.well;
    }) itself.may kept

    upheld-itself : IsKept head book cluster
        (event_of cluster Opening
        ++ input_events (cluster_after cluster Opening) member no_message (outcome_of cluster member heard))
        → Upholds (kept_commits head) book cluster
        (event_of cluster Opening
        ++ input_events (cluster_after cluster Opening) member no_message (outcome_of cluster member heard))
    upheld-itself = itself-by (agent_at cluster.agents member.id.number) (machine_of cluster member) refl refl

  pub upheld-wake : IsDeclared head member → Upholds (kept_commits head) book cluster (wake_events_of cluster member)
  upheld-wake declared =
      upheld-itself heards.Wake (agents.Woken member) (record {
        opens = refl;
        idle = tt;
        acts = refl;
        hears = λ agent machine input. tt;
        on = tt;
        below = tt;
        hears_lease = λ works agent machine found. can-feed head
            (lease_past.past_of book) cluster member machine good.lease.matched found (works member.id.number);
        well = wake-well head (lease_past.past_of book) cluster member good.lease.matched declared;
        may = tt;
      })
      (kept-wake head book cluster member declared good.lease)

  pub upheld-operated : (action : OperatorAction) → IsDeclared head member
      → IsModeRequested (declared_of head).failsafe action.asked
      → Upholds (kept_commits head) book cluster (operate_events cluster member action)
  upheld-operated action declared mode =
      upheld-itself (heards.Operated action) (agents.Operated member action) (record {
        opens = refl;
        idle = tt;
        acts = refl;
        hears = λ agent machine input. tt;
        on = tt;
        below = tt;
        hears_lease = λ works agent machine found. tt;
        well = operated-well head (lease_past.past_of book) cluster member action good.lease.matched declared mode;
        may = tt;
      })
      (kept-operated head book cluster member action declared mode good.lease)

-- ---- a message comes to an agent
module _ (head : HeadText) (few : member_count head ≤ MOST_MEMBERS) (book : List Event) (cluster : Cluster)
    (number : ℕ) (message : InFlightFacts) (member : Member) (good : CommitsBridged head book cluster)
    (found : in_flight cluster.facts.flight number ≡ Some message) (to : message.message.to ≡ ends.Member member)
    (open_is : delivery_of cluster.facts.cuts cluster.facts.processes message.message ≡ deliveries.Open) where
  abbrev Arrived : EventKind
  Arrived = kinds.Message (Delivered number)

  abbrev Kept : List Event → Type 0
  Kept events = IsKept head book cluster events

  abbrev Up : List Event → Type 0
  Up events = Upholds (kept_commits head) book cluster events

  who-acts : (cluster_after cluster Arrived).agents
      ≡ agent_facts_with cluster.agents member (outcome_of_heard cluster member (heard_from cluster message))
  who-acts = acted head book cluster number message member good.lease found to open_is

  idle : outcome_of_heard cluster member (heard_from cluster message) ≡ None → Kept (event_of cluster Arrived)
      → Up (event_of cluster Arrived)
  idle none kept = idle-arrival head book cluster number good
      (who-acts ∙ ap (λ (o : Option Outcome). agent_facts_with cluster.agents member o) none
      ∙ unchanged cluster.agents member.id.number)
      kept

  run-same : (agent : AgentFacts) → slice_get cluster.agents member.id.number ≡ Some (Some agent)
      → IsAnswer message.message.body → message.message.incarnation ≡ agent.knows.incarnation
  run-same agent here answered =
      same-run head book cluster number message member good.lease found to open_is answered agent here

  -- the law of the lease hears it
  hears-lease-by : ((m : ℕ) → works_of head m ≡ true) → (agent : AgentFacts) (machine : Machine)
      → IsFound cluster member machine → slice_get cluster.agents member.id.number ≡ Some (Some agent)
      → (heard : Heard) → heard_from cluster message ≡ Some heard
      → Hears (lease_past.state_of (declared_of head) (lease_past.past_of book) (run_volatile.volatile_of cluster))
      member.id.number (Some number) heard (outcome_from agent.role agent.knows machine [])
  hears-lease-by works agent machine machine_found here heard h =
      let feeds = can-feed head (lease_past.past_of book) cluster member machine good.lease.matched machine_found
      (works member.id.number) in
      elim (sender head book cluster number message member good.lease found to open_is) [
        | inl store ↦ hears-by head (lease_past.past_of book) cluster good.lease.matched
            (run_volatile.volatile_of cluster) member agent machine feeds here
            number message found store.0 to (run-same agent here store.1) message.message.body refl store.1 heard h
        | inr peer ↦ peers-hear head (lease_past.past_of book) cluster good.lease.matched
            (run_volatile.volatile_of cluster) member agent machine feeds
            number message found to
            (λ answers.
            answered-run head book cluster number message member good.lease found to open_is answers agent here)
            message.message.body refl peer heard h
      ]

  -- a member that asks is one that may be answered
  abbrev May : Heard → Type 0
  May heard = MayAnswer head book cluster heard

  ask-may : (by : Member)
      → IsNumbered ((state_of_run head book cluster).members by.id.number) message.message.incarnation
      message.message.sequence
      → May (heards.Asked by.id message.message.incarnation message.message.sequence)
  ask-may by is peer there =
      let at : peer.id.number ≡ by.id.number = numbered head few by.id.number peer
      (ap (λ (members : List Member). slice_get members by.id.number) (sym good.lease.matched.members) ∙ there) in
      subst (λ (m : ℕ).
      IsNumbered ((state_of_run head book cluster).members m) message.message.incarnation message.message.sequence)
      (sym at) is

  asked-may : (from : LinkEnd) (heard : Heard)
      → IsAskNumbered (state_of_run head book cluster) from message.message.incarnation
      message.message.sequence bodies.Ask
      → option_map (λ by. heards.Asked by message.message.incarnation message.message.sequence) (member_at_end from)
      ≡ Some heard
      → May heard
  asked-may ends.Store heard is e = absurd (none-some heard e)
  asked-may (ends.Member by) heard is e = subst May
      (some-is (heards.Asked by.id message.message.incarnation message.message.sequence) heard e) (ask-may by is)

  granted-may : (given : Option Granted) (heard : Heard)
      → option_map (λ grant. heards.Granted message.message.sequence grant (snapshot_in cluster message)) given
      ≡ Some heard
      → May heard
  granted-may None heard e = absurd (none-some heard e)
  granted-may (Some grant) heard e =
      subst May (some-is (heards.Granted message.message.sequence grant (snapshot_in cluster message)) heard e) tt

  stay-asked-may : (ttl : Ticks) (from : Option MemberId) (heard : Heard)
      → option_map (λ by. heards.FailsafeAsked by message.message.incarnation message.message.sequence ttl) from
      ≡ Some heard
      → May heard
  stay-asked-may ttl None heard e = absurd (none-some heard e)
  stay-asked-may ttl (Some by) heard e =
      subst May (some-is (heards.FailsafeAsked by message.message.incarnation message.message.sequence ttl) heard e) tt

  stay-answered-may : (accepted : Bool) (from : Option MemberId) (heard : Heard)
      → option_map (λ by. heards.FailsafeAnswered by message.message.sequence accepted message.sent) from ≡ Some heard
      → May heard
  stay-answered-may accepted None heard e = absurd (none-some heard e)
  stay-answered-may accepted (Some by) heard e =
      subst May (some-is (heards.FailsafeAnswered by message.message.sequence accepted message.sent) heard e) tt

  may-by : (body : Body) (heard : Heard)
      → IsAskNumbered (state_of_run head book cluster) message.message.from message.message.incarnation
      message.message.sequence body
      → heard_in cluster message body ≡ Some heard → May heard
  may-by bodies.Ask heard is e = asked-may message.message.from heard is e
  may-by bodies.Snapshot heard is e =
      subst May (some-is (heards.ReadAnswered message.message.sequence (snapshot_in cluster message)) heard e) tt
  may-by (bodies.Granted request leased) heard is e = granted-may message.grant heard e
  may-by (bodies.Refused request key held) heard is e =
      subst May (some-is (heards.Mismatch message.message.sequence key held) heard e) tt
  may-by (bodies.Answer answer) heard is e =
      subst May (some-is (heards.Answered message.message.sequence answer) heard e) tt
  may-by (bodies.FailsafeRequest ttl) heard is e = stay-asked-may ttl (member_at_end message.message.from) heard e
  may-by (bodies.FailsafeAnswer accepted) heard is e =
      stay-answered-may accepted (member_at_end message.message.from) heard e
  may-by _ heard is e = absurd (none-some heard e)

  may-answer : (heard : Heard) → heard_from cluster message ≡ Some heard → May heard
  may-answer heard h = may-by message.message.body heard (good.asks number message found) h

  hear-by : (heard : Heard) (agent : Option AgentFacts) (machine : Option Machine)
      → heard_from cluster message ≡ Some heard → agent_at cluster.agents member.id.number ≡ agent
      → machine_of cluster member ≡ machine
      → Kept (event_of cluster Arrived ++ input_events (cluster_after cluster Arrived) member
      (heard_message number message) (outcome_at (moment_of cluster) (points_of cluster member) heard agent machine))
      → Up (event_of cluster Arrived ++ input_events (cluster_after cluster Arrived) member
      (heard_message number message) (outcome_at (moment_of cluster) (points_of cluster member) heard agent machine))
  hear-by heard None machine h a m kept =
      idle (ap (outcome_of_heard cluster member) h ∙ the-outcome cluster member heard None machine a m) kept
  hear-by heard (Some agent) None h a m kept =
      idle (ap (outcome_of_heard cluster member) h ∙ the-outcome cluster member heard (Some agent) None a m) kept
  hear-by heard (Some agent) (Some machine) h a m kept =
      let here = agent-here cluster member agent a in
      let flown = good.lease.matched.flight.flown number message found in
      input-upheld head book cluster good few (record {
        member = member;
        agent = agent;
        here = here;
        machine = machine;
        machine_is = m;
        heard = heard;
        number = Some number;
        message = heard_message number message;
        opening = Arrived;
        opening_is = refl;
        acts = who-acts
            ∙ ap (λ (o : Option Outcome). agent_facts_with cluster.agents member o)
            (ap (outcome_of_heard cluster member) h ∙ the-outcome cluster member heard (Some agent) (Some machine) a m);
        hears = λ input is. hears-commits head book cluster good member agent here number message found to
            (run-same agent here) machine heard h input is;
        on = hears-on head book cluster good member agent here number message found to (run-same agent here) heard h;
        below =
            hears-below head book cluster good member agent here number message found to (run-same agent here) heard h;
        hears_lease = λ works. hears-lease-by works agent machine (found-of cluster member machine m) here heard h;
        numbered = λ n e. let same : number ≡ n = some-is number n e in
            (same, subst (λ (k : ℕ). k ≤ cluster.facts.sent) same flown);
        low = flown;
        well =
            heard-well head (lease_past.past_of book) cluster good.lease.matched member number message found to heard h;
      }) (may-answer heard h) kept

  heard-by : (heard : Option Heard) → heard_from cluster message ≡ heard
      → Kept (event_of cluster Arrived ++ input_events (cluster_after cluster Arrived) member
      (heard_message number message) (outcome_of_heard cluster member heard))
      → Up (event_of cluster Arrived ++ input_events (cluster_after cluster Arrived) member
      (heard_message number message) (outcome_of_heard cluster member heard))
  heard-by None h kept = idle (ap (outcome_of_heard cluster member) h) kept
  heard-by (Some heard) h kept =
      hear-by heard (agent_at cluster.agents member.id.number) (machine_of cluster member) h refl refl kept

  pub upheld-hearing : Upholds (kept_commits head) book cluster (hear_events cluster number message member)
  upheld-hearing = heard-by (heard_from cluster message) refl
      (kept-hearing head book cluster number message member good.lease found to open_is)

-- all of them do
pub inputs-uphold : (head : HeadText) → member_count head ≤ MOST_MEMBERS
    → InputsUphold (IsDeclared head) (kept_commits head)
inputs-uphold head few = record {
  wakes =
      λ book cluster member process good declared found acts. upheld-wake head few book cluster member good declared;
  operates = λ book cluster member process o request asked good declared found acts stands answers.
      upheld-operated head few book cluster member good (action_of o asked) declared
      (mode-asked head (lease_past.past_of book) cluster member o request asked good.lease.matched stands answers);
  hears = λ book cluster number message member good found to opened.
      upheld-hearing head few book cluster number message member good found to opened;
}
