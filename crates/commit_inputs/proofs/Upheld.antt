-- What an agent that acts brings upholds commits.
use Rattle.std.proofs.Common.{ℕ, ◌≡◌, ◌≤◌, ◌++◌, List, [], ◌∷◌, Option, Some, All, Contains, option_map, slice_get, refl, sym, ap, ◌∙◌, subst, arith, false, append_assoc, Bool, true, inl, inr}
use Rattle.std.proofs.lemmas.List.Elements.{All-append, All-cons, All-contains, All-nil, All-weaker, All-push}
use Rattle.event_book.specs.declared.event.AgentEvent.TheVariants as agents
use Rattle.event_book.specs.declared.event.Event.{Event}
use Rattle.event_book.specs.declared.event.EventKind.{EventKind}
use Rattle.event_book.specs.declared.event.EventKind.TheVariants as kinds
use Rattle.event_book.specs.declared.event.MessageEvent.TheVariants.{Delivered, Lost, Sent}
use Rattle.event_book.specs.declared.link.LinkEnd.TheVariants as ends
use Rattle.event_book.specs.declared.member.Member.{Member}
use Rattle.event_book.specs.declared.message.Body.{Body}
use Rattle.event_book.specs.declared.message.Body.TheVariants as bodies
use Rattle.event_book.specs.declared.message.Message.{Message}
use Rattle.pat_base.specs.declared.ticks.Ticks.{Ticks}
use Rattle.pat_base.specs.declared.server_state.Required.{Required}
use Rattle.pat_base.specs.Changes.{with_changed}
use Rattle.pat_base.specs.declared.member_id.MemberId.{MemberId}
use Rattle.pat_base.specs.declared.peer_answer.PeerAnswer.{PeerAnswer}
use Rattle.lease_store.specs.declared.granted.Granted.{Granted}
use Rattle.store_keys.specs.declared.key.Key.{Key}
use Rattle.store_keys.specs.declared.txn.Expected.{Expected}
use Rattle.cluster_view.specs.Snapshots.{SnapshotFacts}
use Rattle.script_model.specs.Script.{HeadText}
use Rattle.store_keys.specs.declared.action.OperatorAction.{OperatorAction}
use Rattle.store_keys.specs.declared.txn.Txn.TheVariants as txns
use Rattle.store_keys.specs.declared.txn.SyncTxn.TheVariants as sync_txns
use Rattle.agent_model.specs.declared.heard.Heard.{Heard}
use Rattle.agent_model.specs.declared.heard.Heard.TheVariants as heards
use Rattle.agent_model.specs.declared.output.Output.{Output}
use Rattle.agent_model.specs.declared.output.Output.TheVariants as outputs
use Rattle.agent_model.specs.declared.output.Outgoing.TheVariants as outgoing
use Rattle.agent_model.specs.declared.output.ServerOrder.TheVariants as orders
use Rattle.agent_model.specs.declared.output.Telling.TheVariants as tellings
use Rattle.agent_model.specs.declared.output.Target.TheVariants as targets
use Rattle.agent_model.specs.Agents.{AgentFacts}
use Rattle.agent_commit_law.specs.Committing.{Asks as AsksLast, HasForm, IsCovered, NoMore, Ordered, ClaimsOutsideSync, StandsAlone, IsSynchronousBody, IsSynchronousOutput, KnowsBelow, Requires, committer_seen, is_claim_outside_sync}
use Rattle.agent_answers.specs.Replies.{RepliesTo}
use Rattle.agent_commit_law.proofs.CommitInputs.{given-by-lease}
use Rattle.agent_commit_law.proofs.CommitQuiet.{IsUnasking, alone-unasking}
use Rattle.agent_answers.proofs.Replying.{step-replies}
use Rattle.agent_model.specs.Outputs.{has_one}
use Rattle.cluster_model.specs.Cluster.{agent_after, cluster_over}
use Rattle.cluster_model.specs.Inputs.{moment_of}
use Rattle.cluster_model.specs.Machines.{points_of}
use Rattle.cluster_model.specs.Parts.{each}
use Rattle.cluster_model.specs.State.{Cluster}
use Rattle.cluster_model.specs.declared.heard_message.HeardMessage.{HeardMessage}
use Rattle.cluster_model.specs.Messages.{output_events}
use Rattle.event_book.specs.Kinds.{AllAre}
use Rattle.lease_model.proofs.Tools.{some-is}
use Rattle.lease_book.specs.Groups.{IsOfMembers}
use Rattle.commit_actions.specs.Keys.{strict_quorum}
use Rattle.commit_actions.specs.Actions.{IsNumbered}
use Rattle.commit_showing.specs.Books.{AllLeaveCommits, KeepsNow}
use Rattle.event_book.specs.Premises.{runs_after}
use Rattle.commit_actions.specs.Past.{Past, past_after, past_over}
use Rattle.commit_actions.specs.States.{Agent, State}
use Rattle.commit_showing.proofs.Fronts.{aside-front, keeps-aside}
use Rattle.commit_book.specs.Flights.{AreCausal}
use Rattle.commit_book.proofs.Groups.{own-causal}
use Rattle.commit_servers.proofs.Kept.{keeps-now}
use Rattle.lease_parts.specs.Bridged.{KnowsItself}
use Rattle.lease_parts.specs.Declaring.{declared_of}
use Rattle.run_promise.specs.Members.{member_count}
use Rattle.agent_sending.specs.Modes.{AsksMode}
use Rattle.agent_roles.specs.Asks.{IsAsk}
use Rattle.lease_inputs.specs.InputEvents.{AnswersPeer, AnswersRequest, Asks, AsksPeer, IsMessageOf, IsOfInput}
use Rattle.lease_parts.specs.Kept.{IsKept}
use Rattle.lease_parts.specs.Machines.{run_now}
use Rattle.run_promise.specs.Promise.{Upholds}
use Rattle.agent_questions.specs.Questions.{SendsBetween}
use Rattle.agent_roles.specs.Asks.{IsQuestion}
use Rattle.lease_inputs.proofs.InputKept.{agents-are, mine, numbers}
use Rattle.lease_inputs.proofs.InputKinds.{IsOpening, mine-from, opening-from}
use Rattle.lease_inputs.proofs.InputSeen.{found-of}
use Rattle.cluster_model.proofs.Lists.{all-more}
use Rattle.cluster_model.proofs.Places.{get-here}
use Rattle.commit_parts.specs.Agents.{IsAskNumbered}
use Rattle.commit_parts.specs.Bridged.{CommitsBridged, MeetsMode, kept_commits}
use Rattle.commit_parts.specs.Reading.{agent_now, past_of, setup_of, state_of_run, volatile_of}
use Rattle.commit_outputs.specs.Answering.{AnswersNone}
use Rattle.commit_inputs.proofs.Arming.{arms-alone}
use Rattle.commit_inputs.proofs.Asking.{agents-behind}
use Rattle.commit_inputs.proofs.Bringing.{Lawful, covered-moves, requires-moves}
use Rattle.commit_inputs.proofs.BringingAnswers.{answers-moves, unasking-all}
use Rattle.commit_inputs.proofs.BringingAsks.{Sends, asks-aside, asks-leave, asks-moves, asks-ordered, page, inside-ordered}
use Rattle.commit_inputs.proofs.BringingBegins.{begins-moves}
use Rattle.commit_inputs.proofs.Connected.{connected-member}
use Rattle.commit_inputs.proofs.Inputs.{Acting, After, Before, Events, First, Part, Theirs, stays-on}
use Rattle.commit_inputs.proofs.Opening.{opening-ordered}
use Rattle.commit_parts.proofs.Moving.{upheld-moves}
use Rattle.commit_parts.specs.Moving.{Moves}
use Rattle.commit_parts.proofs.Over.{AskSynchronously, AsksSynchronously}
use Rattle.commit_parts.proofs.Starting.{runs-now}
use Rattle.commit_parts.proofs.Transitions.{order-behind, past-more, state_behind, mode-back}
use Rattle.commit_parts.specs.Ordered.{AllInOrder}
use Rattle.commit_parts.proofs.Ordering.{order-front}
use Rattle.commit_showing.specs.Changes.{AllLeaveOrder}
use Rattle.commit_showing.specs.Order.{IsAwaiting, NamesMembers}
use Rattle.commit_showing.proofs.Inside.{Seen, all-aside, aside-front as order-aside-front, order-as, seen_of}
use Rattle.commit_inputs.proofs.Quietly.{AsksQuietly, covered-quietly, quietly-ordered, unasking-quietly}
use Rattle.commit_outputs.proofs.Covering.{IsCarried, carried}
use Rattle.commit_outputs.proofs.Page.{PassesNone, covered-passes, none-passes}
use Rattle.summary_model.specs.Claims.{KeepMode}
use Rattle.pat_base.specs.declared.member_id.TheConstants.{MOST_MEMBERS}

-- ---- events of which none changes what commits being kept speaks of, nor the order
pub upheld-aside : (head : HeadText) (book : List Event) (cluster : Cluster) (events : List Event)
    → CommitsBridged head book cluster → AllLeaveCommits events → AllLeaveOrder events
    → AllInOrder (past_of head book) cluster events
    → (MeetsMode head (book ++ events) → Upholds (kept_commits head) book cluster events)
    → Upholds (kept_commits head) book cluster events
upheld-aside head book cluster events good leave leave_order ordered upheld = record {
  inside = λ front rest e meets. record {
    kept = subst (λ (p : Past). KeepsNow p) (sym (past-more head book front))
        (keeps-aside (past_of head book) front (aside-front front rest events e leave)
        (keeps-now (setup_of head) (past_of head book) (volatile_of cluster) good.sound));
    order = record {
      now = subst IsAwaiting (sym (past-more head book front))
          (order-aside head book cluster front good (order-aside-front front rest events e leave_order));
      each = order-behind head book cluster front good
          (order-front (past_of head book) cluster front rest
          (subst (λ (l : List Event). AllInOrder (past_of head book) cluster l) (sym e) ordered));
    };
  };
  behind = λ meets. (upheld meets).behind meets;
}
  where
    order-aside : (head : HeadText) (book : List Event) (cluster : Cluster) (front : List Event)
        → CommitsBridged head book cluster → AllLeaveOrder front → IsAwaiting (past_over (past_of head book) front)
    order-aside head book cluster front good leave =
        let same : seen_of (past_over (past_of head book) front) ≡ seen_of (past_of head book) =
        all-aside (past_of head book) front leave in
        order-as (setup_of head) (past_over (past_of head book) front) (past_of head book)
        (volatile_of cluster) same good.sound
        (subst (λ (seen : Seen). NamesMembers (member_count head) strict_quorum seen.sync) (sym same) good.fits.strict)

-- ---- who is asked answers, and nobody else does
answer-none : (heard : Heard)
    → ((from : MemberId) (incarnation sequence : ℕ) → heard ≡ heards.Asked from incarnation sequence → ⊥)
    → (output : Output) → RepliesTo heard output → AnswersNone output
answer-none (heards.Asked from asked number) other (outputs.Message (outgoing.Answer to incarnation sequence answer))
    replies =
    absurd (other from asked number refl)
answer-none heards.Wake other (outputs.Message (outgoing.Answer to incarnation sequence answer)) replies = replies
answer-none (heards.ReadAnswered number snapshot) other
    (outputs.Message (outgoing.Answer to incarnation sequence answer)) replies =
    replies
answer-none (heards.Granted number grant snapshot) other
    (outputs.Message (outgoing.Answer to incarnation sequence answer)) replies =
    replies
answer-none (heards.Mismatch number key found) other (outputs.Message (outgoing.Answer to incarnation sequence answer))
    replies =
    replies
answer-none (heards.Answered number given) other (outputs.Message (outgoing.Answer to incarnation sequence answer))
    replies =
    replies
answer-none (heards.FailsafeAsked from asked number ttl) other
    (outputs.Message (outgoing.Answer to incarnation sequence answer)) replies =
    replies
answer-none (heards.FailsafeAnswered from number accepted sent) other
    (outputs.Message (outgoing.Answer to incarnation sequence answer))
    replies =
    replies
answer-none (heards.Operated action) other (outputs.Message (outgoing.Answer to incarnation sequence answer)) replies =
    replies
answer-none heard other _ replies = tt

wake-asks : (from : MemberId) (incarnation sequence : ℕ)
    → ◌≡◌ {A = Heard} heards.Wake (heards.Asked from incarnation sequence) → ⊥
wake-asks from incarnation sequence e = cc

got-asks : (number : ℕ) (snapshot : SnapshotFacts) (from : MemberId) (incarnation sequence : ℕ)
    → ◌≡◌ {A = Heard} (heards.ReadAnswered number snapshot) (heards.Asked from incarnation sequence) → ⊥
got-asks number snapshot from incarnation sequence e = cc

granted-asks : (number : ℕ) (grant : Granted) (snapshot : SnapshotFacts) (from : MemberId) (incarnation sequence : ℕ)
    → ◌≡◌ {A = Heard} (heards.Granted number grant snapshot) (heards.Asked from incarnation sequence) → ⊥
granted-asks number grant snapshot from incarnation sequence e = cc

refused-asks : (number : ℕ) (key : Key) (found : Expected) (from : MemberId) (incarnation sequence : ℕ)
    → ◌≡◌ {A = Heard} (heards.Mismatch number key found) (heards.Asked from incarnation sequence) → ⊥
refused-asks number key found from incarnation sequence e = cc

answered-asks : (number : ℕ) (answer : PeerAnswer) (from : MemberId) (incarnation sequence : ℕ)
    → ◌≡◌ {A = Heard} (heards.Answered number answer) (heards.Asked from incarnation sequence) → ⊥
answered-asks number answer from incarnation sequence e = cc

stay-asked-asks : (by : MemberId) (run number : ℕ) (ttl : Ticks) (from : MemberId) (incarnation sequence : ℕ)
    → ◌≡◌ {A = Heard} (heards.FailsafeAsked by run number ttl) (heards.Asked from incarnation sequence) → ⊥
stay-asked-asks by run number ttl from incarnation sequence e = cc

stay-answered-asks : (by : MemberId) (number : ℕ) (accepted : Bool) (sent : Ticks) (from : MemberId)
    (incarnation sequence : ℕ)
    → ◌≡◌ {A = Heard} (heards.FailsafeAnswered by number accepted sent) (heards.Asked from incarnation sequence) → ⊥
stay-answered-asks by number accepted sent from incarnation sequence e = cc

operated-asks : (action : OperatorAction) (from : MemberId) (incarnation sequence : ℕ)
    → ◌≡◌ {A = Heard} (heards.Operated action) (heards.Asked from incarnation sequence) → ⊥
operated-asks action from incarnation sequence e = cc

-- ---- the runs of agents
mine-runs : (member : Member) (incarnation heard : ℕ) (Q : Output → Type 0) (runs : ℕ → ℕ) (kind : EventKind)
    → IsOfInput member incarnation heard Q kind → runs_after runs kind ≡ runs
mine-runs member incarnation heard Q runs (kinds.Agent (agents.Passed by)) is = refl
mine-runs member incarnation heard Q runs (kinds.Agent _) is = absurd is
mine-runs member incarnation heard Q runs _ is = refl

runs-stay : (member : Member) (incarnation heard : ℕ) (Q : Output → Type 0) (past : Past) (events : List Event)
    → AllAre (IsOfInput member incarnation heard Q) events → (past_over past events).lease.runs ≡ past.lease.runs
runs-stay member incarnation heard Q past [] all = refl
runs-stay member incarnation heard Q past (event ∷ events) all =
    runs-stay member incarnation heard Q (past_after past event.kind) events all.1
    ∙ mine-runs member incarnation heard Q past.lease.runs event.kind all.0

opening-runs : (heard : Option ℕ) (past : Past) (kind : EventKind) → IsOpening heard kind
    → (past_after past kind).lease.runs ≡ past.lease.runs
opening-runs heard past (kinds.Agent (agents.Woken by)) is = refl
opening-runs heard past (kinds.Agent (agents.Operated by action)) is = refl
opening-runs heard past (kinds.Message (Delivered number)) is = refl
opening-runs heard past _ is = absurd is

opening-asks : (s : State) (count quorum : ℕ) (heard : Option ℕ) (kind : EventKind) → IsOpening heard kind
    → AsksSynchronously s count quorum kind
opening-asks s count quorum heard (kinds.Agent (agents.Woken by)) is = tt
opening-asks s count quorum heard (kinds.Agent (agents.Operated by action)) is = tt
opening-asks s count quorum heard (kinds.Message (Delivered number)) is = tt
opening-asks s count quorum heard _ is = absurd is

-- a question to the key store asks no member
question-numbered : (s : State) (by : Member) (incarnation sequence : ℕ) (body : Body) → IsQuestion body
    → IsAskNumbered s (ends.Member by) incarnation sequence body
question-numbered s by incarnation sequence bodies.Ask question = absurd question
question-numbered s by incarnation sequence _ question = tt

-- a member that asks is one that may be answered
abbrev pub MayAnswer : HeadText → List Event → Cluster → Heard → Type 0
MayAnswer head book cluster (heards.Asked from incarnation sequence) =
    (peer : Member) → slice_get cluster.facts.members from.number ≡ Some peer
    → IsNumbered ((state_of_run head book cluster).members peer.id.number) incarnation sequence
MayAnswer head book cluster _ = Unit {0}

at-most : (a b : ℕ) → a ≡ b → a ≤ b
at-most a b e = omega (arith, e)

-- who takes the leader key past the sync key breaks the premise
passing-breaks : (member : Member) (message : HeardMessage) (cluster : Cluster) (front behind : List Output)
    → KeepMode true
    (each (output_events member message) cluster (front ++ (outputs.Tell tellings.ClaimsOutsideSync) ∷ behind))
    → ⊥
passing-breaks member message cluster [] behind mode = mode.0
passing-breaks member message cluster (output ∷ front) behind mode =
    let events : List Event = output_events member message cluster output in
    passing-breaks member message (cluster_over cluster events) front behind
    (mode-back events
    (each (output_events member message) (cluster_over cluster events)
    (front ++ (outputs.Tell tellings.ClaimsOutsideSync) ∷ behind))
    mode)

module _ (head : HeadText) (book : List Event) (cluster : Cluster) (good : CommitsBridged head book cluster)
    (few : member_count head ≤ MOST_MEMBERS) (a : Acting head book cluster) where
  abbrev M : ℕ
  M = a.member.id.number

  abbrev P : Past
  P = past_of head book

  abbrev Outs : List Output
  Outs = (After head book cluster good a).outputs

  abbrev All_ : List Event
  All_ = Events head book cluster good a

  abbrev Later : Cluster
  Later = cluster_over cluster All_

  abbrev Behind : State
  Behind = state_behind head book cluster All_

  abbrev Q : Output → Type 0
  Q out = Contains Outs out
      × (SendsBetween a.agent.knows.sequence (After head book cluster good a).knows.sequence out ×
      AsksMode (declared_of head).failsafe out)

  abbrev Rest : List Event
  Rest = each (Part head book cluster good a) (First head book cluster good a) Outs

  all-mine : AllAre (IsOfInput a.member a.agent.knows.incarnation a.message.number Q) Rest
  all-mine =
      mine head book cluster good.lease a.member a.agent a.machine (found-of cluster a.member a.machine a.machine_is)
      a.here a.heard a.number a.message a.opening a.opening_is a.numbered a.low a.well

  causal : AreCausal P cluster.facts All_
  causal = own-causal P cluster.facts All_ (
    opening-from a.number a.opening a.opening_is,
    all-more (IsOfInput a.member a.agent.knows.incarnation a.message.number Q) IsOfMembers Rest
        (mine-from a.member a.agent.knows.incarnation a.message.number Q) all-mine,
  )
      (numbers head book cluster good.lease a.member a.agent a.machine
      (found-of cluster a.member a.machine a.machine_is) a.here a.heard a.number a.message a.opening
      a.opening_is a.numbered a.low a.well)

  -- ---- what is asked
  below : KnowsBelow (member_count head) a.heard (Before head book cluster good a)
  below = record {
    published = a.below;
    connected = connected-member head book cluster good few a.member a.machine a.machine_is;
  }

  sent-on : (out : Output) → Contains Outs out → IsSynchronousOutput (member_count head) strict_quorum out
  sent-on out among = All-contains (IsSynchronousOutput (member_count head) strict_quorum) Outs out
      ((stays-on head book cluster good a).sends (member_count head) below) among

  acted : Later.agents ≡ with_changed cluster.agents M (agent_after (Some (After head book cluster good a)))
  acted = agents-are head book cluster good.lease a.member a.agent a.machine
      (found-of cluster a.member a.machine a.machine_is) a.here a.heard a.number a.message a.opening
      a.opening_is a.numbered a.low a.well a.acts

  runs-behind : (past_over P All_).lease.runs M ≡ a.agent.knows.incarnation
  runs-behind =
      let knows : KnowsItself (declared_of head).failsafe M (slice_get cluster.facts.processes M) a.agent =
      good.lease.matched.agents M a.agent a.here in
      ap (λ (runs : ℕ → ℕ). runs M)
      (runs-stay a.member a.agent.knows.incarnation a.message.number Q (past_after P a.opening) Rest all-mine
      ∙ opening-runs a.number P a.opening a.opening_is)
      ∙ runs-now head book cluster good M ∙ ap run_now knows.is ∙ sym knows.incarnation

  agent-behind : (Behind.members M).agent
      ≡ Some (committer_seen (After head book cluster good a).role (After head book cluster good a).knows)
  agent-behind = ap agent_now
      (ap (λ (known : List (Option AgentFacts)). slice_get known M) acted
      ∙ get-here cluster.agents M (agent_after (Some (After head book cluster good a)))
      ∙ ap (option_map (agent_after (Some (After head book cluster good a)))) a.here)

  ask-numbered : (sequence : ℕ) → sequence ≤ (After head book cluster good a).knows.sequence
      → IsNumbered (Behind.members M) a.agent.knows.incarnation sequence
  ask-numbered sequence counted = record {
    run_old = at-most a.agent.knows.incarnation ((past_over P All_).lease.runs M) (sym runs-behind);
    sequence_old =
        λ agent is in_run. subst (λ (x : Agent). sequence ≤ x.last) (some-is _ agent (sym agent-behind ∙ is)) counted;
  }

  peer-on : (sequence : ℕ) (body : Body) → IsAsk body → sequence ≤ (After head book cluster good a).knows.sequence
      → IsSynchronousBody (member_count head) strict_quorum body
      × IsAskNumbered Behind (ends.Member a.member) a.agent.knows.incarnation sequence body
  peer-on sequence bodies.Ask ask counted = (tt, ask-numbered sequence counted)
  peer-on sequence (bodies.FailsafeRequest ttl) ask counted = (tt, tt)
  peer-on sequence _ ask counted = absurd ask

  message-on : (message : Message) → IsMessageOf a.member a.agent.knows.incarnation Q message
      → IsSynchronousBody (member_count head) strict_quorum message.body
      × IsAskNumbered Behind message.from message.incarnation message.sequence message.body
  message-on message (Asks question) =
      subst (λ (x : Message). IsSynchronousBody (member_count head) strict_quorum x.body ×
      IsAskNumbered Behind x.from x.incarnation x.sequence x.body)
      (sym question.is) (
        sent-on (outputs.Message (outgoing.Send targets.Store question.sequence question.body)) question.from.0,
        question-numbered Behind a.member a.agent.knows.incarnation question.sequence question.body question.from.1.0.2,
      )
  message-on message (AsksPeer peer id sequence body asks is from) =
      subst (λ (x : Message). IsSynchronousBody (member_count head) strict_quorum x.body ×
      IsAskNumbered Behind x.from x.incarnation x.sequence x.body)
      (sym is) (peer-on sequence body asks from.1.0.1)
  message-on message (AnswersPeer peer id asked sequence answer is from) =
      subst (λ (x : Message). IsSynchronousBody (member_count head) strict_quorum x.body ×
      IsAskNumbered Behind x.from x.incarnation x.sequence x.body)
      (sym is) (tt, tt)
  message-on message (AnswersRequest peer id asked sequence accepted at is from) =
      subst (λ (x : Message). IsSynchronousBody (member_count head) strict_quorum x.body ×
      IsAskNumbered Behind x.from x.incarnation x.sequence x.body)
      (sym is) (tt, tt)

  kind-on : (kind : EventKind) → IsOfInput a.member a.agent.knows.incarnation a.message.number Q kind
      → AsksSynchronously Behind (member_count head) strict_quorum kind
  kind-on (kinds.Message (Sent number message)) is = message-on message is
  kind-on (kinds.Message (Delivered number)) is = absurd is
  kind-on (kinds.Message (Lost number)) is = tt
  kind-on (kinds.Store happening) is = absurd is
  kind-on _ is = tt

  all-on : (events : List Event) → AllAre (IsOfInput a.member a.agent.knows.incarnation a.message.number Q) events
      → AskSynchronously Behind (member_count head) strict_quorum events
  all-on [] all = tt
  all-on (event ∷ events) all = (kind-on event.kind all.0, all-on events all.1)

  asks : AskSynchronously Behind (member_count head) strict_quorum All_
  asks = (opening-asks Behind (member_count head) strict_quorum a.number a.opening a.opening_is, all-on Rest all-mine)

  -- ---- it happens in order
  ordered-by : All AsksQuietly Outs → AllInOrder P cluster All_
  ordered-by quietly = (
    opening-ordered P cluster a.number a.opening a.opening_is,
    quietly-ordered a.member a.agent.knows.incarnation a.message.number Q
        (λ out from. All-contains AsksQuietly Outs out quietly from.0) (past_after P a.opening)
        (First head book cluster good a) Rest all-mine,
  )

  quietly-up-to : (front behind : List Output) → All IsCovered front → All AsksQuietly behind
      → front ++ behind ≡ Outs → All AsksQuietly Outs
  quietly-up-to front behind covered quietly whole = subst (λ (l : List Output). All AsksQuietly l) whole
      (All-append AsksQuietly front behind (All-weaker IsCovered AsksQuietly covered-quietly front covered) quietly)

  -- ---- it upholds them
  upheld-by-moves : IsKept head book cluster All_ → AllInOrder P cluster All_
      → Moves (setup_of head) P cluster All_ → Upholds (kept_commits head) book cluster All_
  upheld-by-moves kept ordered moves = upheld-moves head book cluster All_ good moves kept causal asks ordered
      (agents-behind head book cluster good a.member a.agent a.machine
      (found-of cluster a.member a.machine a.machine_is) a.here a.heard a.number a.message a.opening
      a.opening_is a.numbered a.low a.well a.acts (stays-on head book cluster good a).asks)

  alone-quietly : (outs : List Output) → All StandsAlone outs → All AsksQuietly outs
  alone-quietly outs alone = All-weaker (IsUnasking false) AsksQuietly unasking-quietly outs
      (All-weaker StandsAlone (IsUnasking false) alone-unasking outs alone)

  requires-upheld : IsKept head book cluster All_ → All AnswersNone Outs
      → (front : List Output) (required : Required) (behind : List Output) → All IsCovered front
      → All StandsAlone behind → front ++ outputs.Require required ∷ behind ≡ Outs
      → Upholds (kept_commits head) book cluster All_
  requires-upheld kept none front required behind covered alone whole =
      upheld-by-moves kept
      (ordered-by (quietly-up-to front (outputs.Require required ∷ behind) covered
      (All-cons AsksQuietly (outputs.Require required) behind tt (alone-quietly behind alone)) whole))
      (requires-moves head book cluster good few a front required behind covered alone whole none)

  begins-upheld : IsKept head book cluster All_ → (front : List Output) (required : Required) → All IsCovered front
      → front ++ outputs.Require required ∷ (outputs.Server orders.Begin) ∷ [] ≡ Outs
      → Upholds (kept_commits head) book cluster All_
  begins-upheld kept front required covered whole =
      upheld-by-moves kept
      (ordered-by (quietly-up-to front (outputs.Require required ∷ (outputs.Server orders.Begin) ∷ []) covered
      (All-cons AsksQuietly (outputs.Require required) ((outputs.Server orders.Begin) ∷ []) tt
      (All-cons AsksQuietly (outputs.Server orders.Begin) [] tt (All-nil AsksQuietly)))
      whole))
      (begins-moves head book cluster good few a front required covered whole)

  asks-upheld : IsKept head book cluster All_ → (front : List Output) (sequence : ℕ) (body : Body) → All IsCovered front
      → front ++ outputs.Message (outgoing.Send targets.Store sequence body) ∷ [] ≡ Outs
      → Upholds (kept_commits head) book cluster All_
  asks-upheld kept front sequence body covered whole =
      let all : All IsCarried front = carried front covered in
      let passes-none : All PassesNone (front ++ outputs.Message (outgoing.Send targets.Store sequence body) ∷ []) =
      All-push PassesNone front (outputs.Message (outgoing.Send targets.Store sequence body))
      (All-weaker IsCovered PassesNone covered-passes front covered) tt in
      let inside : has_one is_claim_outside_sync Outs ≡ false =
      none-passes Outs (subst (λ (l : List Output). All PassesNone l) whole passes-none) in
      let sends = Sends head book cluster good few a front sequence body all whole in
      let lawful = Lawful head book cluster good few a sends
      (page head book cluster good few a front sequence body all whole inside).sent in
      let ordered = asks-ordered head book cluster good few a front sequence body all whole
      (inside-ordered head book cluster good few a front sequence body all whole inside) in
      upheld-aside head book cluster All_ good (asks-leave head book cluster good few a front sequence body all whole)
      (asks-aside head book cluster good few a front sequence body all whole) ordered
      (λ meets.
      upheld-by-moves kept ordered (asks-moves head book cluster good few a front sequence body all whole inside
      (given-by-lease (moment_of cluster) a.heard (Before head book cluster good a) (state_of_run head book cluster) M
      (Theirs head book cluster good a sends) lawful.lawful.was lawful.lawful.does lawful.does
      (λ revision arms down ready. arms-alone head book cluster good a meets.timely revision arms down ready))))

  -- the table of orders, row by row
  form-upheld : IsKept head book cluster All_ → All AnswersNone Outs → HasForm Outs
      → Upholds (kept_commits head) book cluster All_
  form-upheld kept none (Ordered front NoMore behind covered alone whole) =
      upheld-by-moves kept (ordered-by (quietly-up-to front behind covered (alone-quietly behind alone) whole))
      (covered-moves head book cluster good few a front behind covered alone whole none)
  form-upheld kept none (Ordered front (Requires required) behind covered (inl last) whole) =
      requires-upheld kept none front required [] covered (All-nil StandsAlone)
      (subst (λ (l : List Output). front ++ outputs.Require required ∷ l ≡ Outs) last whole)
  form-upheld kept none (Ordered front (Requires required) behind covered (inr begins) whole) =
      begins-upheld kept front required covered
      (subst (λ (l : List Output). front ++ outputs.Require required ∷ l ≡ Outs) begins whole)
  form-upheld kept none (Ordered front (AsksLast sequence body) behind covered last whole) =
      asks-upheld kept front sequence body covered
      (subst (λ (l : List Output). front ++ outputs.Message (outgoing.Send targets.Store sequence body) ∷ l ≡ Outs)
      last whole)
  form-upheld kept none (ClaimsOutsideSync front sequence revision sync covered whole) =
      let claim : Body = bodies.Request (txns.Sync (sync_txns.Claim revision sync)) in
      let noted : List Output = front ++ (outputs.Tell tellings.ClaimsOutsideSync) ∷ [] in
      let all : All IsCarried noted =
      All-push IsCarried front (outputs.Tell tellings.ClaimsOutsideSync) (carried front covered) tt in
      let upto : noted ++ outputs.Message (outgoing.Send targets.Store sequence claim) ∷ [] ≡ Outs =
      append_assoc front ((outputs.Tell tellings.ClaimsOutsideSync) ∷ [])
      (outputs.Message (outgoing.Send targets.Store sequence claim) ∷ []) ∙ whole in
      upheld-aside head book cluster All_ good (asks-leave head book cluster good few a noted sequence claim all upto)
      (asks-aside head book cluster good few a noted sequence claim all upto)
      (asks-ordered head book cluster good few a noted sequence claim all upto tt)
      (λ meets.
      absurd (passing-breaks a.member a.message (First head book cluster good a) front
      (outputs.Message (outgoing.Send targets.Store sequence claim) ∷ [])
      (subst (λ (l : List Output).
      KeepMode true (each (Part head book cluster good a) (First head book cluster good a) l))
      (sym whole) (mode-back book All_ meets.mode).1)))

  other-upheld : ((from : MemberId) (incarnation sequence : ℕ) → a.heard ≡ heards.Asked from incarnation sequence → ⊥)
      → IsKept head book cluster All_ → Upholds (kept_commits head) book cluster All_
  other-upheld other kept = form-upheld kept
      (All-weaker (RepliesTo a.heard) AnswersNone (answer-none a.heard other) Outs
      (step-replies (moment_of cluster) (points_of cluster a.member) a.heard a.agent.role a.agent.knows a.machine))
      (stays-on head book cluster good a).form

  heard-upheld : (heard : Heard) → a.heard ≡ heard → MayAnswer head book cluster heard
      → IsKept head book cluster All_ → Upholds (kept_commits head) book cluster All_
  heard-upheld (heards.Asked from incarnation sequence) is may kept =
      upheld-by-moves kept
      (ordered-by (All-weaker (IsUnasking false) AsksQuietly unasking-quietly Outs
      (unasking-all head book cluster good few a from incarnation sequence is)))
      (answers-moves head book cluster good few a from incarnation sequence is may)
  heard-upheld heards.Wake is may kept =
      other-upheld (λ from incarnation sequence e. wake-asks from incarnation sequence (sym is ∙ e)) kept
  heard-upheld (heards.ReadAnswered number snapshot) is may kept =
      other-upheld (λ from incarnation sequence e. got-asks number snapshot from incarnation sequence (sym is ∙ e)) kept
  heard-upheld (heards.Granted number grant snapshot) is may kept = other-upheld
      (λ from incarnation sequence e. granted-asks number grant snapshot from incarnation sequence (sym is ∙ e)) kept
  heard-upheld (heards.Mismatch number key found) is may kept = other-upheld
      (λ from incarnation sequence e. refused-asks number key found from incarnation sequence (sym is ∙ e)) kept
  heard-upheld (heards.Answered number answer) is may kept = other-upheld
      (λ from incarnation sequence e. answered-asks number answer from incarnation sequence (sym is ∙ e)) kept
  heard-upheld (heards.FailsafeAsked by run number ttl) is may kept = other-upheld
      (λ from incarnation sequence e. stay-asked-asks by run number ttl from incarnation sequence (sym is ∙ e)) kept
  heard-upheld (heards.FailsafeAnswered by number accepted sent) is may kept = other-upheld
      (λ from incarnation sequence e. stay-answered-asks by number accepted sent from incarnation sequence (sym is ∙ e))
      kept
  heard-upheld (heards.Operated action) is may kept =
      other-upheld (λ from incarnation sequence e. operated-asks action from incarnation sequence (sym is ∙ e)) kept

  pub input-upheld : MayAnswer head book cluster a.heard → IsKept head book cluster All_
      → Upholds (kept_commits head) book cluster All_
  input-upheld may kept = heard-upheld a.heard refl may kept
