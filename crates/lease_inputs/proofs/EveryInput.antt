-- Each input of an agent keeps the law: whoever is woken, whatever
-- message comes to one, and whatever an operator asks of one.
use Rattle.std.proofs.Common.{inr, inl, ◌⊎◌, ℕ, ◌≡◌, ◌≤◌, ◌++◌, ◌==◌, ◌&&◌, ◌||◌, not, Bool, true, false, cond, List, slice_get, slice_set, Option, Some, None, option_and_then, refl, ◌∙◌, ap, sym, subst, arith}
use Rattle.std.proofs.lemmas.List.{set-get_or}
use Rattle.std.proofs.lemmas.Option.{get_or_from_slice_get}
use Rattle.pat_base.specs.Changes.{changed_at, with_changed}
use Rattle.pat_base.specs.declared.member_id.MemberId.{MemberId}
use Rattle.pat_base.specs.declared.ticks.Ticks.{Ticks}
use Rattle.store_keys.specs.declared.action.OperatorAction.{OperatorAction}
use Rattle.store_keys.specs.declared.action.OperatorRequest.{OperatorRequest}
use Rattle.rest_message.specs.Requests.{RequestText}
use Rattle.rest_answer.specs.Answers.{Acts}
use Rattle.pg_model.specs.Facts.{ServerFacts}
use Rattle.event_book.specs.declared.agent_process.AgentProcess.{AgentProcess}
use Rattle.event_book.specs.declared.event.AgentEvent.{AgentEvent}
use Rattle.event_book.specs.declared.event.AgentEvent.TheVariants as agents
use Rattle.event_book.specs.declared.event.Event.{Event}
use Rattle.event_book.specs.declared.event.EventKind.{EventKind}
use Rattle.event_book.specs.declared.event.EventKind.TheVariants as kinds
use Rattle.event_book.specs.declared.event.MessageEvent.TheVariants.{Delivered}
use Rattle.event_book.specs.declared.link.LinkEnd.{LinkEnd}
use Rattle.event_book.specs.declared.link.LinkEnd.TheVariants as ends
use Rattle.event_book.specs.declared.member.Member.{Member}
use Rattle.event_book.specs.declared.message.Body.{Body}
use Rattle.event_book.specs.declared.message.Body.TheVariants as bodies
use Rattle.event_book.specs.declared.message.Message.{Message}
use Rattle.event_book.specs.Flight.{InFlightFacts, in_flight}
use Rattle.event_book.specs.Links.{is_cut}
use Rattle.agent_model.specs.declared.heard.Heard.{Heard}
use Rattle.agent_model.specs.declared.heard.Heard.TheVariants.{FailsafeAsked, Operated, Wake}
use Rattle.agent_model.specs.declared.machine.Machine.{Machine}
use Rattle.agent_model.specs.Agents.{AgentFacts, Outcome}
use Rattle.agent_lease_law.specs.Lawful.{CanFeed, Hears}
use Rattle.script_model.specs.Script.{HeadText}
use Rattle.cluster_model.specs.declared.delivery.Delivery.TheVariants as deliveries
use Rattle.cluster_model.specs.Cluster.{agent_after, agent_facts_reached, agent_facts_reached_at, agent_facts_with, cluster_after}
use Rattle.cluster_model.specs.Deliveries.{delivery_of, delivery_to, delivery_to_agent, is_answer, is_stale, link_of_message}
use Rattle.cluster_model.specs.Hearing.{heard_from}
use Rattle.cluster_model.specs.Inputs.{agent_at, moment_of, outcome_at, outcome_of, outcome_of_heard, standing, standing_of}
use Rattle.cluster_model.specs.Requests.{action_of, answer_at}
use Rattle.cluster_model.specs.Machines.{machine_of, points_of}
use Rattle.cluster_model.specs.Messages.{hear_events, heard_message, input_events, no_message, operate_events, wake_events_of}
use Rattle.cluster_model.specs.Parts.{event_of}
use Rattle.cluster_model.specs.State.{Cluster}
use Rattle.lease_model.specs.Actions.{Lose, Note}
use Rattle.lease_model.specs.Books.{IsShown}
use Rattle.lease_model.specs.Past.{Past, VolatileState, first_past, past_of, state_of}
use Rattle.lease_model.specs.States.{State}
use Rattle.lease_law.proofs.Showing.{past-append}
use Rattle.lease_model.proofs.Tools.{both, eq-from, none-some, some-is}
use Rattle.lease_parts.specs.Bridged.{Bridged, IsMatched, SeesMode}
use Rattle.lease_parts.specs.Declaring.{declared_of}
use Rattle.run_promise.specs.Members.{declared_members, member_count, IsDeclared}
use Rattle.lease_parts.specs.Machines.{deadline_in, hold_in, live_in, run_in}
use Rattle.run_promise.specs.Parts.{InputsUphold}
use Rattle.lease_parts.specs.Kept.{IsKept, one_writer}
use Rattle.lease_parts.specs.Volatile.{agent_now, volatile_of}
use Rattle.lease_parts.specs.Waiting.{IsAddressed, IsAnswer, IsPeerBody}
use Rattle.lease_parts.proofs.Actions.{action-kept, machines-kept}
use Rattle.agent_roles.proofs.GoingOn.{tells_pause}
use Rattle.agent_roles.proofs.Knowing.{told_by}
use Rattle.lease_hearing.specs.Hearing.{IsHeardWell}
use Rattle.lease_hearing.proofs.InputHears.{calm-from, unpaused-told, heard-well, hears-by, peers-hear}
use Rattle.lease_hearing.proofs.ModeRequests.{asked-mode}
use Rattle.agent_sending.specs.Asking.{HearsFailsafe}
use Rattle.agent_sending.specs.Modes.{IsModeRequested}
use Rattle.lease_inputs.proofs.InputBegun.{IsBegun, begun-by, opening-addressed, opening-mode}
use Rattle.lease_inputs.proofs.InputKept.{input-kept}
use Rattle.lease_inputs.proofs.InputKinds.{IsOpening, opening-hands_off, opening-members}
use Rattle.lease_inputs.proofs.InputSeen.{can-feed, found-of}
use Rattle.lease_parts.proofs.SameMachine.{machine-same}
use Rattle.lease_parts.proofs.StoreArrivals.{matched-after, same-volatile}

-- ---- nobody acts
unchanged-at : (agents : List (Option AgentFacts)) (k : ℕ) (found : Option (Option AgentFacts))
    → slice_get agents k ≡ found → changed_at agents k (agent_after None) found ≡ agents
unchanged-at agents k None is = refl
unchanged-at agents k (Some agent) is =
    ap (λ (a : Option AgentFacts). slice_set agents k a) (sym (get_or_from_slice_get agents k agent agent is))
    ∙ set-get_or agents k agent

pub unchanged : (agents : List (Option AgentFacts)) (k : ℕ) → with_changed agents k (agent_after None) ≡ agents
unchanged agents k = unchanged-at agents k (slice_get agents k) refl

-- what comes to it is no message, and nobody hears it
idle-called : (head : HeadText) (book : List Event) (cluster : Cluster) (member : Member) (heard : Heard)
    (happening : AgentEvent) → IsOpening None (kinds.Agent happening)
    → (cluster_after cluster (kinds.Agent happening)).agents
    ≡ agent_facts_with cluster.agents member (outcome_of cluster member heard)
    → Bridged head book cluster → outcome_of cluster member heard ≡ None
    → IsKept head book cluster (event_of cluster (kinds.Agent happening))
idle-called head book cluster member heard happening opens acts good none =
    let kind : EventKind = kinds.Agent happening in
    let events : List Event = event_of cluster kind in
    let later : Cluster = cluster_after cluster kind in
    let begun : IsBegun member.id.number cluster later = begun-by member.id.number cluster None kind opens in
    let same : later.agents ≡ cluster.agents = acts
    ∙ ap (λ (o : Option Outcome). agent_facts_with cluster.agents member o) none
    ∙ unchanged cluster.agents member.id.number in
    machines-kept head book cluster events Note good tt (tt, tt) (tt, tt)
    (subst (λ (past : Past). IsMatched head past later) (sym (past-append first_past book events))
    (matched-after head (past_of book) cluster events (tt, (tt, tt)) (
      (
        opening-hands_off None kind opens,
        (
          opening-members (member_count head) None kind opens,
          (
            opening-addressed (declared_members head) (declared_of head).failsafe None kind opens,
            opening-mode (declared_of head).failsafe None kind opens,
          ),
        ),
      ),
      tt,
    )
    (record { agents = same; servers = begun.servers; processes = begun.processes; asked = refl }) good.matched))
    (λ m. machine-same _ _ _ _ _ _ _ _ _ _ _ _ (ap (λ (xs : List ServerFacts). live_in xs m) begun.servers)
    (ap (λ (xs : List (Option Ticks)). deadline_in xs m) begun.deadlines) refl
    (ap (λ (xs : List (Option Ticks)). hold_in xs m) begun.holds)
    (ap (λ (xs : List (Option AgentFacts)). agent_now (slice_get xs m)) same)
    (ap (λ (xs : List AgentProcess). run_in xs m) begun.processes))

-- a message that says nothing to its receiver, or comes to none: it is gone, as if it were lost
idle-arrival : (head : HeadText) (book : List Event) (cluster : Cluster) (number : ℕ) → Bridged head book cluster
    → (cluster_after cluster (kinds.Message (Delivered number))).agents ≡ cluster.agents
    → IsKept head book cluster (event_of cluster (kinds.Message (Delivered number)))
idle-arrival head book cluster number good same =
    let kind : EventKind = kinds.Message (Delivered number) in
    let events : List Event = event_of cluster kind in
    action-kept head book cluster events (Lose number) good (tt, tt) (λ meets. record {
      lawful = tt;
      shows = tt;
      shown =
          subst (λ (v : ℕ → VolatileState). IsShown (declared_of head) book (volatile_of cluster)
          (record { action = Lose number; events = events; volatile_states = v }))
          (sym (same-volatile cluster (cluster_after cluster kind) same refl))
          (ap (λ (past : Past). state_of (declared_of head) past (volatile_of cluster))
          (past-append first_past book events));
      matched = subst (λ (past : Past). IsMatched head past (cluster_after cluster kind))
          (sym (past-append first_past book events))
          (matched-after head (past_of book) cluster events (tt, (tt, tt)) ((tt, (tt, (tt, tt))), tt)
          (record { agents = same; servers = refl; processes = refl; asked = refl }) good.matched);
    })

-- ---- an agent acts
found-at : (found : Option (Option AgentFacts)) (agent : AgentFacts)
    → option_and_then (λ (a : Option AgentFacts). a) found ≡ Some agent → found ≡ Some (Some agent)
found-at None agent e = absurd (none-some agent e)
found-at (Some found) agent e = ap Some e

pub agent-here : (cluster : Cluster) (member : Member) (agent : AgentFacts)
    → agent_at cluster.agents member.id.number ≡ Some agent
    → slice_get cluster.agents member.id.number ≡ Some (Some agent)
agent-here cluster member agent e = found-at (slice_get cluster.agents member.id.number) agent e

-- what it makes of what it hears
pub the-outcome : (cluster : Cluster) (member : Member) (heard : Heard) (agent : Option AgentFacts)
    (machine : Option Machine) → agent_at cluster.agents member.id.number ≡ agent → machine_of cluster member ≡ machine
    → outcome_of cluster member heard ≡ outcome_at (moment_of cluster) (points_of cluster member) heard agent machine
the-outcome cluster member heard agent machine a m =
    ap (λ (x : Option AgentFacts).
    outcome_at (moment_of cluster) (points_of cluster member) heard x (machine_of cluster member))
    a
    ∙ ap (λ (y : Option Machine). outcome_at (moment_of cluster) (points_of cluster member) heard agent y) m

from-none : (n : ℕ) → 0 ≤ n
from-none n = omega arith

-- what comes to it is no message, and the law needs nothing of that
module _ (head : HeadText) (book : List Event) (cluster : Cluster) (member : Member) (good : Bridged head book cluster)
    (heard : Heard) (happening : AgentEvent) (opens : IsOpening None (kinds.Agent happening))
    (acts : (cluster_after cluster (kinds.Agent happening)).agents
    ≡ agent_facts_with cluster.agents member (outcome_of cluster member heard))
    (hears : (s : State) (m : ℕ) (o : Outcome) → CanFeed o.machine → Hears s m None heard o)
    (calm : tells_pause (told_by heard) ≡ false)
    (well : IsHeardWell (declared_of head).failsafe cluster.facts.members
    (past_of book).flight member heard None no_message) where
  unheard : outcome_of cluster member heard ≡ None → IsKept head book cluster (event_of cluster (kinds.Agent happening))
  unheard silent = idle-called head book cluster member heard happening opens acts good silent

  called-by : (agent : Option AgentFacts) (machine : Option Machine)
      → agent_at cluster.agents member.id.number ≡ agent → machine_of cluster member ≡ machine
      → IsKept head book cluster
      (event_of cluster (kinds.Agent happening) ++ input_events (cluster_after cluster (kinds.Agent happening))
      member no_message (outcome_at (moment_of cluster) (points_of cluster member) heard agent machine))
  called-by None machine a m = unheard (the-outcome cluster member heard None machine a m)
  called-by (Some agent) None a m = unheard (the-outcome cluster member heard (Some agent) None a m)
  called-by (Some agent) (Some machine) a m =
      let found = found-of cluster member machine m in
      input-kept head book cluster good member agent machine found
      (agent-here cluster member agent a) heard None no_message (kinds.Agent happening) opens
      (λ n e. absurd (none-some n e)) (from-none cluster.facts.sent) well
      (acts ∙ ap (λ (o : Option Outcome). agent_facts_with cluster.agents member o)
      (the-outcome cluster member heard (Some agent) (Some machine) a m))
      calm
      (λ works.
      hears _ _ _ (can-feed head (past_of book) cluster member machine good.matched found (works member.id.number)))

  kept-called : IsKept head book cluster
      (event_of cluster (kinds.Agent happening) ++ input_events (cluster_after cluster (kinds.Agent happening))
      member no_message (outcome_of cluster member heard))
  kept-called = called-by (agent_at cluster.agents member.id.number) (machine_of cluster member) refl refl

-- a member that the head declares stands at its number
stands-declared : (head : HeadText) (past : Past) (cluster : Cluster) (member : Member) → IsMatched head past cluster
    → IsDeclared head member → slice_get cluster.facts.members member.id.number ≡ Some member
stands-declared head past cluster member matched declared =
    ap (λ (l : List Member). slice_get l member.id.number) matched.members ∙ declared

wake-asks : (from : MemberId) (run sequence : ℕ) → HearsFailsafe Wake from run sequence → ⊥
wake-asks from run sequence is = by is.0 is.1
  where
    by : (ttl : Ticks) → Wake ≡ FailsafeAsked from run sequence ttl → ⊥
    by ttl e = cc

pub wake-well : (head : HeadText) (past : Past) (cluster : Cluster) (member : Member)
    → IsMatched head past cluster → IsDeclared head member
    → IsHeardWell (declared_of head).failsafe cluster.facts.members past.flight member Wake None no_message
wake-well head past cluster member matched declared = record {
  stands = stands-declared head past cluster member matched declared;
  told = tt;
  asked = λ from run sequence is. absurd (wake-asks from run sequence is);
}

operated-asks : (action : OperatorAction) (from : MemberId) (run sequence : ℕ)
    → HearsFailsafe (Operated action) from run sequence → ⊥
operated-asks action from run sequence is = by is.0 is.1
  where
    by : (ttl : Ticks) → Operated action ≡ FailsafeAsked from run sequence ttl → ⊥
    by ttl e = cc

pub operated-well : (head : HeadText) (past : Past) (cluster : Cluster) (member : Member) (action : OperatorAction)
    → IsMatched head past cluster → IsDeclared head member → IsModeRequested (declared_of head).failsafe action.asked
    → IsHeardWell (declared_of head).failsafe cluster.facts.members past.flight member (Operated action) None no_message
operated-well head past cluster member action matched declared mode =
    record {
      stands = stands-declared head past cluster member matched declared;
      told = mode;
      asked = λ from run sequence is. absurd (operated-asks action from run sequence is);
    }

pub kept-wake : (head : HeadText) (book : List Event) (cluster : Cluster) (member : Member)
    → IsDeclared head member → Bridged head book cluster → IsKept head book cluster (wake_events_of cluster member)
kept-wake head book cluster member declared good =
    kept-called head book cluster member good Wake (agents.Woken member) refl refl (λ s m o feeds. feeds) refl
    (wake-well head (past_of book) cluster member good.matched declared)

-- an agent does what a request asks that it answers so: that changes failsafe mode for none
standing-agent : (agent : Option AgentFacts) (machine : Option Machine) (o : Outcome)
    → standing agent machine ≡ Some o → (found : AgentFacts) × ((agent ≡ Some found) × (found.knows ≡ o.knows))
standing-agent None None o e = absurd (none-some o e)
standing-agent None (Some machine) o e = absurd (none-some o e)
standing-agent (Some agent) None o e = absurd (none-some o e)
standing-agent (Some agent) (Some machine) o e = (agent, (refl, ap (λ (x : Outcome). x.knows) (some-is _ o e)))

pub mode-asked : (head : HeadText) (past : Past) (cluster : Cluster) (member : Member) (o : Outcome)
    (request : RequestText) (asked : OperatorRequest) → IsMatched head past cluster
    → standing_of cluster member ≡ Some o
    → answer_at (moment_of cluster) o request ≡ Acts asked → IsModeRequested (declared_of head).failsafe asked
mode-asked head past cluster member o request asked matched stands answers =
    let there = standing-agent (agent_at cluster.agents member.id.number) (machine_of cluster member) o stands in
    asked-mode (declared_of head).failsafe (moment_of cluster) o request asked
    (subst (SeesMode (declared_of head).failsafe) there.1.1
    (matched.agents member.id.number there.0 (agent-here cluster member there.0 there.1.0)).sees)
    answers

pub kept-operated : (head : HeadText) (book : List Event) (cluster : Cluster) (member : Member)
    (action : OperatorAction) → IsDeclared head member → IsModeRequested (declared_of head).failsafe action.asked
    → Bridged head book cluster → IsKept head book cluster (operate_events cluster member action)
kept-operated head book cluster member action declared mode good =
    kept-called head book cluster member good (Operated action) (agents.Operated member action) refl refl
    (λ s m o feeds. tt) refl (operated-well head (past_of book) cluster member action good.matched declared mode)

-- ---- what stands in the way of a message
or-second : (a b : Bool) → (a || b) ≡ false → b ≡ false
or-second true b e = absurd (both (sym e))
or-second false b e = e

-- nothing does: the process that it comes to doesn't find it stale
pub record IsOpen (message : Message) (found : Option AgentProcess) : Type 0 where
  pub process : AgentProcess
  pub is : found ≡ Some process
  pub fresh : is_stale message process ≡ false

cut-open : deliveries.Cut ≡ deliveries.Open → ⊥
cut-open e = cc

suspended-open : deliveries.Suspended ≡ deliveries.Open → ⊥
suspended-open e = cc

gone-open : deliveries.Gone ≡ deliveries.Open → ⊥
gone-open e = cc

open-by : (message : Message) (process : AgentProcess) (suspended gone : Bool)
    → (not process.running || is_stale message process) ≡ gone
    → cond suspended deliveries.Suspended (cond gone deliveries.Gone deliveries.Open) ≡ deliveries.Open
    → is_stale message process ≡ false
open-by message process true gone is e = absurd (suspended-open e)
open-by message process false true is e = absurd (gone-open e)
open-by message process false false is e = or-second (not process.running) (is_stale message process) is

open-to : (message : Message) (found : Option AgentProcess)
    → delivery_to_agent message found ≡ deliveries.Open → IsOpen message found
open-to message None e = absurd (gone-open e)
open-to message (Some process) e = record {
  process = process;
  is = refl;
  fresh = open-by message process process.suspended (not process.running || is_stale message process) refl e;
}

open-of : (message : Message) (found : Option AgentProcess) (cut : Bool)
    → cond cut deliveries.Cut (delivery_to_agent message found) ≡ deliveries.Open → IsOpen message found
open-of message found true e = absurd (cut-open e)
open-of message found false e = open-to message found e

answers : (body : Body) → IsAnswer body → is_answer body ≡ true
answers bodies.Snapshot is = refl
answers (bodies.Granted request leased) is = refl
answers (bodies.Refused request key found) is = refl
answers _ is = absurd is

not-not : (a b : Bool) → a ≡ true → (a && not b) ≡ false → b ≡ true
not-not true true is e = refl
not-not true false is e = absurd (both (sym e))
not-not false b is e = absurd (both is)

-- so it is for a message that comes to a member
pub opened-for : (cluster : Cluster) (message : Message) (member : Member) → message.to ≡ ends.Member member
    → delivery_of cluster.facts.cuts cluster.facts.processes message ≡ deliveries.Open
    → IsOpen message (slice_get cluster.facts.processes member.id.number)
opened-for cluster message member to open_is =
    let cut : Bool = is_cut cluster.facts.cuts (link_of_message message) in
    open-of message (slice_get cluster.facts.processes member.id.number) cut
    (ap (λ (end : LinkEnd). cond cut deliveries.Cut (delivery_to cluster.facts.processes message end)) (sym to)
    ∙ open_is)

-- an answer is of the incarnation that asked
pub answer-run : (message : Message) (found : Option AgentProcess) (open_for : IsOpen message found)
    → is_answer message.body ≡ true → message.incarnation ≡ open_for.process.incarnation
answer-run message found open_for answered =
    eq-from message.incarnation open_for.process.incarnation
    (not-not (is_answer message.body) (message.incarnation == open_for.process.incarnation) answered open_for.fresh)

-- from whom it comes
pub addressed-to : (from to : LinkEnd) (body : Body) (member : Member) → to ≡ ends.Member member
    → IsAddressed from to body → ((from ≡ ends.Store) × IsAnswer body) ⊎ IsPeerBody body
addressed-to from to body member is addressed =
    store-to from body member (subst (λ (end : LinkEnd). IsAddressed from end body) is addressed)
  where
    store-to : (from : LinkEnd) (body : Body) (member : Member) → IsAddressed from (ends.Member member) body
        → ((from ≡ ends.Store) × IsAnswer body) ⊎ IsPeerBody body
    store-to ends.Store body member addressed = inl (refl, addressed)
    store-to (ends.Member by) body member addressed = inr addressed

module _ (head : HeadText) (book : List Event) (cluster : Cluster) (number : ℕ) (message : InFlightFacts)
    (member : Member) (good : Bridged head book cluster)
    (found : in_flight cluster.facts.flight number ≡ Some message) (to : message.message.to ≡ ends.Member member)
    (open_is : delivery_of cluster.facts.cuts cluster.facts.processes message.message ≡ deliveries.Open) where
  abbrev Arrived : EventKind
  Arrived = kinds.Message (Delivered number)

  -- who acts on it
  pub acted : (cluster_after cluster Arrived).agents
      ≡ agent_facts_with cluster.agents member (outcome_of_heard cluster member (heard_from cluster message))
  acted = ap (agent_facts_reached cluster) found ∙ ap (λ (end : LinkEnd). agent_facts_reached_at cluster message end) to

  idle : outcome_of_heard cluster member (heard_from cluster message) ≡ None
      → IsKept head book cluster (event_of cluster Arrived)
  idle none = idle-arrival head book cluster number good
      (acted ∙ ap (λ (o : Option Outcome). agent_facts_with cluster.agents member o) none
      ∙ unchanged cluster.agents member.id.number)

  pub sender : ((message.message.from ≡ ends.Store) × IsAnswer message.message.body) ⊎ IsPeerBody message.message.body
  sender = addressed-to message.message.from message.message.to message.message.body member to
      (good.matched.waiting.carried number message found).addressed

  pub opened : IsOpen message.message (slice_get cluster.facts.processes member.id.number)
  opened = opened-for cluster message.message member to open_is

  pub answered-run : is_answer message.message.body ≡ true → (agent : AgentFacts)
      → slice_get cluster.agents member.id.number ≡ Some (Some agent)
      → message.message.incarnation ≡ agent.knows.incarnation
  answered-run answered agent here =
      let knows = good.matched.agents member.id.number agent here in
      let one : knows.found ≡ opened.process = some-is knows.found opened.process (sym knows.is ∙ opened.is) in
      answer-run message.message (slice_get cluster.facts.processes member.id.number) opened answered
      ∙ sym (knows.incarnation ∙ ap (λ (p : AgentProcess). p.incarnation) one)

  pub same-run : IsAnswer message.message.body → (agent : AgentFacts)
      → slice_get cluster.agents member.id.number ≡ Some (Some agent)
      → message.message.incarnation ≡ agent.knows.incarnation
  same-run answered agent here = answered-run (answers message.message.body answered) agent here

  hear-by : (heard : Heard) (agent : Option AgentFacts) (machine : Option Machine)
      → heard_from cluster message ≡ Some heard → agent_at cluster.agents member.id.number ≡ agent
      → machine_of cluster member ≡ machine
      → IsKept head book cluster
      (event_of cluster Arrived ++ input_events (cluster_after cluster Arrived) member (heard_message number message)
      (outcome_at (moment_of cluster) (points_of cluster member) heard agent machine))
  hear-by heard None machine h a m =
      idle (ap (outcome_of_heard cluster member) h ∙ the-outcome cluster member heard None machine a m)
  hear-by heard (Some agent) None h a m =
      idle (ap (outcome_of_heard cluster member) h ∙ the-outcome cluster member heard (Some agent) None a m)
  hear-by heard (Some agent) (Some machine) h a m =
      let here = agent-here cluster member agent a in
      let machine_found = found-of cluster member machine m in
      let flown = good.matched.flight.flown number message found in
      input-kept head book cluster good member agent machine machine_found here heard (Some number)
      (heard_message number message) Arrived refl
      (λ n e. let same : number ≡ n = some-is number n e in
      (same, subst (λ (k : ℕ). k ≤ cluster.facts.sent) same flown))
      flown (heard-well head (past_of book) cluster good.matched member number message found to heard h)
      (acted ∙ ap (λ (o : Option Outcome). agent_facts_with cluster.agents member o)
      (ap (outcome_of_heard cluster member) h ∙ the-outcome cluster member heard (Some agent) (Some machine) a m))
      (calm-from cluster message (unpaused-told cluster number message good.matched.unpaused found) heard h)
      (λ works. elim sender [
        | inl store ↦ hears-by head (past_of book) cluster good.matched (volatile_of cluster) member agent machine
            (can-feed head (past_of book) cluster member machine good.matched machine_found (works member.id.number))
            here
            number message found store.0 to (same-run store.1 agent here) message.message.body refl store.1 heard h
        | inr peer ↦ peers-hear head (past_of book) cluster good.matched (volatile_of cluster) member agent machine
            (can-feed head (past_of book) cluster member machine good.matched machine_found (works member.id.number))
            number message found to (λ answers. answered-run answers agent here) message.message.body refl peer heard h
      ])

  heard-by : (heard : Option Heard) → heard_from cluster message ≡ heard
      → IsKept head book cluster
      (event_of cluster Arrived ++ input_events (cluster_after cluster Arrived) member
      (heard_message number message) (outcome_of_heard cluster member heard))
  heard-by None h = idle (ap (outcome_of_heard cluster member) h)
  heard-by (Some heard) h =
      hear-by heard (agent_at cluster.agents member.id.number) (machine_of cluster member) h refl refl

  pub kept-hearing : IsKept head book cluster (hear_events cluster number message member)
  kept-hearing = heard-by (heard_from cluster message) refl

-- all of them do
pub inputs-keep : (head : HeadText) → InputsUphold (IsDeclared head) (one_writer head)
inputs-keep head = record {
  wakes = λ book cluster member process good declared found acts. kept-wake head book cluster member declared good;
  hears = λ book cluster number message member good found to opened.
      kept-hearing head book cluster number message member good found to opened;
  operates = λ book cluster member process o request asked good declared found acts stands answers.
      kept-operated head book cluster member (action_of o asked) declared
      (mode-asked head (past_of book) cluster member o request asked good.matched stands answers) good;
}
