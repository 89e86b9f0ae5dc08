-- An agent that is woken, asked by an operator or reached by a message tells before each feed from when it is measured.
use Rattle.std.proofs.Common.{ℕ, ◌≡◌, ◌+◌, ◌++◌, ◌≤◌, ◌<◌, zero, suc, Bool, true, false, List, [], ◌∷◌, slice_get, Option, Some, None, All, option_map, refl, ◌∙◌, ap, sym, subst, arith, inl, inr}
use Rattle.std.proofs.lemmas.List.Elements.{All-cons, All-head, All-nil, All-push, All-tail, All-weaker}
use Rattle.pat_base.specs.declared.member_id.MemberId.{MemberId}
use Rattle.pat_base.specs.declared.member_set.MemberSet.{MemberSet}
use Rattle.pat_base.specs.declared.peer_answer.PeerAnswer.{PeerAnswer}
use Rattle.store_keys.specs.declared.key.Key.{Key}
use Rattle.store_keys.specs.declared.txn.Expected.{Expected}
use Rattle.cluster_view.specs.Snapshots.{SnapshotFacts}
use Rattle.pat_base.specs.declared.ticks.Ticks.{Ticks}
use Rattle.pat_base.specs.Changes.{with_changed}
use Rattle.store_keys.specs.declared.action.OperatorAction.{OperatorAction}
use Rattle.lease_store.specs.declared.granted.Granted.{Granted}
use Rattle.wal_model.specs.declared.entry.HistoryPoint.{HistoryPoint}
use Rattle.event_book.specs.declared.event.AgentEvent.TheVariants as agents
use Rattle.event_book.specs.declared.event.Event.{Event}
use Rattle.event_book.specs.declared.event.EventKind.{EventKind}
use Rattle.event_book.specs.declared.event.EventKind.TheVariants as kinds
use Rattle.event_book.specs.declared.event.MessageEvent.TheVariants as messages
use Rattle.event_book.specs.declared.link.LinkEnd.TheVariants as ends
use Rattle.event_book.specs.declared.member.Member.{Member}
use Rattle.event_book.specs.declared.message.Body.TheVariants as bodies
use Rattle.event_book.specs.declared.reason.Basis.TheVariants as bases
use Rattle.event_book.specs.Flight.{InFlightFacts, in_flight}
use Rattle.event_book.specs.Kinds.{AllAre}
use Rattle.event_book.specs.Premises.{IsTaken, Moments, Taking, moments_after, taken_with}
use Rattle.failsafe.specs.declared.asks.Ask.{Ask}
use Rattle.failsafe.specs.Asks.{heard as ask_heard}
use Rattle.agent_model.specs.declared.heard.Heard.{Heard}
use Rattle.agent_model.specs.declared.heard.Heard.TheVariants as heards
use Rattle.agent_model.specs.declared.knowledge.PendingQuestion.{PendingQuestion}
use Rattle.agent_model.specs.declared.machine.Machine.{Machine}
use Rattle.agent_model.specs.declared.output.Output.{Output}
use Rattle.agent_model.specs.declared.output.Output.TheVariants as outputs
use Rattle.agent_model.specs.declared.output.Feeding.TheVariants as feedings
use Rattle.agent_model.specs.declared.output.Outgoing.TheVariants as outgoing
use Rattle.agent_model.specs.declared.output.Telling.TheVariants as tellings
use Rattle.agent_model.specs.Agents.{AgentFacts, Outcome, outcome_from}
use Rattle.agent_model.specs.Outputs.{with_output}
use Rattle.agent_model.specs.Reconciling.{reconciled}
use Rattle.agent_model.specs.StayingPrimary.{awaits_lease, is_staying, span_after}
use Rattle.agent_model.specs.Views.{shown}
use Rattle.failsafe.specs.Holding.{may_hold}
use Rattle.agent_model.specs.Table.{step}
use Rattle.agent_cases.proofs.FailsafeRows.{failsafe-asked-by}
use Rattle.agent_roles.proofs.GoingOn.{IsAlone, alone-of}
use Rattle.agent_roles.proofs.Knowing.{step-onward}
use Rattle.agent_roles.proofs.Living.{no-way}
use Rattle.agent_roles.proofs.Staying.{input-ends}
use Rattle.agent_roles.proofs.Unfed.{FeedsAlone, actions-feed-none, wakes-feed-none}
use Rattle.agent_outputs.specs.Orders.{IsOfTable}
use Rattle.agent_outputs.proofs.Orders.{step-carried-out}
use Rattle.agent_questions.specs.Questions.{SendsBetween}
use Rattle.agent_questions.proofs.Questions.{step-asks-anew}
use Rattle.agent_sending.specs.Asking.{awaits_stay}
use Rattle.agent_sending.proofs.Checking.{answered-step-goes, asked-step-goes, failsafe-answered-goes, failsafe-asked-step-goes, operated-step-goes, refused-step-goes}
use Rattle.agent_sending.proofs.MaySend.{Fronts, IsSilent, before-fronts}
use Rattle.lease_inputs.proofs.InputHolds.{fronts-hold}
use Rattle.cluster_model.specs.declared.heard_message.HeardMessage.{HeardMessage}
use Rattle.cluster_model.specs.Cluster.{agent_after, agent_facts_after, cluster_after, cluster_over}
use Rattle.cluster_model.specs.Commands.{kinds_of}
use Rattle.cluster_model.specs.Inputs.{moment_of}
use Rattle.cluster_model.specs.Machines.{points_of}
use Rattle.cluster_model.specs.Messages.{agent_message, output_events, replying_events}
use Rattle.cluster_model.specs.Orders.{hold_taken}
use Rattle.cluster_model.specs.Parts.{each, event_of, events_of}
use Rattle.cluster_model.specs.State.{Cluster}
use Rattle.lease_model.proofs.Tools.{none-some}
use Rattle.lease_book.specs.Flights.{Rises}
use Rattle.lease_book.specs.Groups.{AreNumberedAbove}
use Rattle.lease_book.proofs.Entries.{in-without}
use Rattle.summary_model.specs.Telling.{AreMeasured, IsEarliest}
use Rattle.cluster_model.proofs.Lists.{all-more}
use Rattle.lease_inputs.specs.InputEvents.{IsOfInput, RunsAmong}
use Rattle.lease_inputs.proofs.InputKinds.{IsOpening}
use Rattle.lease_inputs.proofs.InputStays.{each-mine, item-here, stays-over}
use Rattle.run_promise.proofs.Members.{members-over}
use Rattle.lease_runs.proofs.AskedMore.{IsUnasked, counts-none, counts-one, fed-alone, fed-earliest, given-opened, hold-taken, opened, yes-sent}
use Rattle.lease_runs.proofs.AskedOnce.{IsCounted, IsGiven, IsOther, KnowsAsked, Request, gone-sub, request_of, taking}
use Rattle.lease_runs.proofs.Fencing.{AreDecided}
use Rattle.lease_runs.proofs.Measuring.{Knows, Measures, knows-over, tells-none, told-send, told-then}
use Rattle.lease_runs.proofs.Moments.{moments_over}
use Rattle.lease_runs.proofs.MeasuredInputs.{AddsOnly, Feeds, IsHeardAt, Mid, Moved, each-append, each-told, moved-over, quiet-adds}
use Rattle.lease_runs.proofs.Staying.{BeginsTo, FeedsOnNone, FeedsSo, FitsFrom, IsQuiet, PutsQuietly, StaysSo, WakesTo, all-quiet-fit, answered-puts, asked-puts, begins-fit, counted-feeds, counted-quiet, fronts-quiet, grant-puts, grant-stays, heard-members, operated-puts, read-puts, read-stays, refused-puts, wake-quiet, wake-stays}

-- ---- an event with which an input begins tells nothing that is measured, numbered or granted
pub record Plainly (moments : Moments) (cluster : Cluster) (opening : EventKind) : Type 0 where
  pub measured : (since : Ticks) → AreMeasured moments since (event_of cluster opening)
  pub numbered : AreNumberedAbove cluster.facts.sent (event_of cluster opening)
  pub decided : AreDecided cluster (event_of cluster opening)

-- what it leaves
record Kept (moments : Moments) (cluster : Cluster) (opening : EventKind) : Type 0 where
  taken : (moments_after moments opening).taken ≡ moments.taken
  runs : (moments_after moments opening).runs ≡ moments.runs
  clock : (moments_after moments opening).clock ≡ moments.clock
  flight : (i : ℕ) (c : InFlightFacts) → in_flight (cluster_after cluster opening).facts.flight i ≡ Some c
      → in_flight cluster.facts.flight i ≡ Some c

opening-kept : (moments : Moments) (cluster : Cluster) (hn : Option ℕ) (opening : EventKind)
    → IsOpening hn opening → Rises 0 cluster.facts.flight → Kept moments cluster opening
opening-kept moments cluster hn (kinds.Agent (agents.Woken by)) is order =
    record { taken = refl; runs = refl; clock = refl; flight = λ i c at. at }
opening-kept moments cluster hn (kinds.Agent (agents.Operated by action)) is order =
    record { taken = refl; runs = refl; clock = refl; flight = λ i c at. at }
opening-kept moments cluster hn (kinds.Message (messages.Delivered number)) is order = record {
  taken = refl;
  runs = refl;
  clock = refl;
  flight = λ i c at.
      gone-sub cluster.facts.flight number order i c (sym (in-without 0 cluster.facts.flight number i order) ∙ at);
}
opening-kept moments cluster hn _ is order = absurd is

-- what holds of each output holds of those in front
front-all : (P : Output → Type 0) (xs ys : List Output) → All P (xs ++ ys) → All P xs
front-all P [] ys all = All-nil P
front-all P (x ∷ xs) ys all =
    All-cons P x xs (All-head P x (xs ++ ys) all) (front-all P xs ys (All-tail P x (xs ++ ys) all))

taken-there : (clock by from run sequence : ℕ) (taken : List Taking) → 0 < sequence
    → IsTaken (taken_with clock taken by from run sequence)
    (record { by = by; from = from; incarnation = run; sequence = sequence; moment = clock })
taken-there clock by from run zero taken counted = absurd (omega (arith, counted))
taken-there clock by from run (suc before) taken counted = inl refl

-- one list of outputs behind another
told-append : (member : Member) (message : HeardMessage) (moments : Moments) (cluster : Cluster) (xs ys : List Output)
    → Knows moments cluster → (let first : List Event = each (output_events member message) cluster xs in
    Measures moments cluster first
    → (Knows (moments_over moments first) (cluster_over cluster first) → Measures (moments_over moments first)
    (cluster_over cluster first) (each (output_events member message) (cluster_over cluster first) ys))
    → Measures moments cluster (each (output_events member message) cluster (xs ++ ys)))
told-append member message moments cluster xs ys knows first second =
    subst (Measures moments cluster) (sym (each-append (output_events member message) cluster xs ys))
    (told-then moments cluster (each (output_events member message) cluster xs) _ knows first second)

one-told : (member : Member) (message : HeardMessage) (moments : Moments) (cluster : Cluster) (output : Output)
    → Knows moments cluster → Measures moments cluster (output_events member message cluster output)
    → Measures moments cluster (each (output_events member message) cluster (output ∷ []))
one-told member message moments cluster output knows tells = told-then moments cluster
    (output_events member message cluster output) [] knows tells (λ later. tells-none _ _ later)

outs-assoc : (xs : List Output) (h y : Output) → (xs ++ h ∷ []) ++ y ∷ [] ≡ xs ++ h ∷ y ∷ []
outs-assoc [] h y = refl
outs-assoc (x ∷ xs) h y = ap (λ (l : List Output). x ∷ l) (outs-assoc xs h y)

-- a message that is heard is this failsafe request
pub record IsAskedBy (cluster : Cluster) (hn : Option ℕ) (message : HeardMessage) (m from run sequence : ℕ) : Type
    0 where
  pub number : ℕ
  pub is : hn ≡ Some number
  pub carried : InFlightFacts
  pub there : in_flight cluster.facts.flight number ≡ Some carried
  pub asks : request_of carried.message ≡ Some (record { by = m; from = from; incarnation = run; sequence = sequence })
  pub incarnation : message.incarnation ≡ run

-- ---- an agent that is there
module _ (H : Type 0) (moments : Moments) (cluster : Cluster) (member : Member) (knows : Knows moments cluster)
    (hn : Option ℕ) (message : HeardMessage) (opening : EventKind) (opens : IsOpening hn opening)
    (plainly : Plainly moments cluster opening) (agent : AgentFacts) (machine : Machine)
    (here : slice_get cluster.agents member.id.number ≡ Some (Some agent))
    (hears : H → IsHeardAt (moments_after moments opening) (cluster_after cluster opening) message) where
  abbrev M : ℕ
  M = member.id.number

  abbrev Now : Ticks
  Now = moment_of cluster

  abbrev Points : List HistoryPoint
  Points = points_of cluster member

  abbrev Before : Outcome
  Before = outcome_from agent.role agent.knows machine []

  abbrev First : Cluster
  First = cluster_after cluster opening

  abbrev Then : Moments
  Then = moments_after moments opening

  abbrev Acts : Heard → Type 0
  Acts heard = agent_facts_after cluster opening
      ≡ with_changed cluster.agents M (agent_after (Some (step Now Points heard Before)))

  abbrev Outs : Heard → List Output
  Outs heard = (step Now Points heard Before).outputs

  abbrev Tells : Heard → Type 0
  Tells heard =
      Measures moments cluster (event_of cluster opening ++ each (output_events member message) First (Outs heard))

  old : KnowsAsked moments.taken M (moments.runs M) agent
  old = knows.asks.agents M agent here

  alone : IsAlone Before
  alone = alone-of Before old.ends

  silent : All IsSilent Before.outputs
  silent = All-nil IsSilent

  abbrev StaysCounted : Heard → Type 0
  StaysCounted heard = (waited : PendingQuestion) → (step Now Points heard Before).knows.waited ≡ Some waited
      → is_staying waited.question ≡ true
      → IsCounted moments.taken M (moments.runs M) waited.sequence (step Now Points heard Before).knows.failsafe

  -- who waits for what it waited for, or for nobody
  so-counted : (heard : Heard) → StaysSo Before (step Now Points heard Before) → StaysCounted heard
  so-counted heard (inl none) waited is staying = absurd (no-way (sym none ∙ ap awaits_stay is ∙ staying))
  so-counted heard (inr same) waited is staying = subst (IsCounted moments.taken M (moments.runs M) waited.sequence)
      (sym same.1) (old.stays waited (sym same.0 ∙ is) staying)

  module _ (heard : Heard) (acts : Acts heard) (stays : StaysCounted heard) where
    abbrev After : Outcome
    After = step Now Points heard Before

    same-run : After.knows.incarnation ≡ agent.knows.incarnation
    same-run = (step-onward Now Points heard Before).incarnation

    later : agent.knows.sequence ≤ After.knows.sequence
    later = (step-onward Now Points heard Before).last

    one : AgentFacts
    one = record { role = After.role; knows = After.knows }

    new : KnowsAsked moments.taken M (moments.runs M) (record { role = After.role; knows = After.knows })
    new = record {
      run_is = same-run ∙ old.run_is;
      ends = input-ends Now Points heard Before old.ends;
      counted = (step-onward Now Points heard Before).counts old.counted;
      stays = stays;
    }

    first : Measures moments cluster (event_of cluster opening)
    first = record {
      measured = plainly.measured;
      numbered = plainly.numbered;
      decided = plainly.decided;
      asks = opened moments cluster M agent After here same-run later hn opening opens acts new
          knows.sending.order knows.asks;
    }

    behind : Knows Then First
    behind = knows-over moments cluster (event_of cluster opening) knows first

    kept : Kept moments cluster opening
    kept = opening-kept moments cluster hn opening opens knows.sending.order

    agent-is : slice_get First.agents M ≡ Some (Some (record { role = After.role; knows = After.knows }))
    agent-is = ap (λ (l : List (Option AgentFacts)). slice_get l M) acts
        ∙ item-here cluster.agents M (agent_after (Some After)) (Some agent) here

    runs : RunsAmong member agent.knows.incarnation First.facts
    runs = record {
      process = λ process is. behind.asks.runs M process is ∙ sym (behind.asks.agents M _ agent-is).run_is ∙ same-run;
      numbered = behind.members;
    }

    no-more : (r : Request) → IsGiven moments.runs cluster.agents r → r.from ≡ M
        → r.incarnation ≡ agent.knows.incarnation → agent.knows.sequence < r.sequence → ⊥
    no-more r given from run over =
        let few : r.sequence ≤ agent.knows.sequence =
        given.given agent (subst (λ (n : ℕ). slice_get cluster.agents n ≡ Some (Some agent)) (sym from) here) run in
        omega (arith, few, over)

    mid : Mid member agent.knows.incarnation message H Then.taken Then.runs Then.clock agent.knows.sequence
        (record { role = After.role; knows = After.knows }) Then First 0
    mid = record {
      knows = behind;
      runs = runs;
      heard = hears;
      taken = refl;
      runs_are = refl;
      clock = refl;
      agent = agent-is;
      below = record {
        flying = λ i c r is rc from run over.
            absurd (no-more r (knows.asks.asks.asked i c r (kept.flight i c is) rc) from run over);
        held = λ r moment is from run over.
            absurd (no-more r
            (knows.asks.asks.held r moment (subst (λ (l : List Taking). IsTaken l (taking r moment)) kept.taken is))
            from run over);
      };
    }

    table : All IsOfTable After.outputs
    table = (step-carried-out Now Points heard agent.role agent.knows machine).kinds

    sends : All (SendsBetween agent.knows.sequence After.knows.sequence) After.outputs
    sends = (step-asks-anew Now Points heard agent.role agent.knows machine).sends

    abbrev FeedsIt : Output → Type 0
    FeedsIt output = Feeds member agent.knows.incarnation message H Then.taken Then.runs Then.clock agent.knows.sequence
        (record { role = After.role; knows = After.knows }) output

    each-it : (outs : List Output) → FitsFrom 0 outs → All IsOfTable outs
        → All (SendsBetween agent.knows.sequence After.knows.sequence) outs → All FeedsIt outs
        → Measures Then First (each (output_events member message) First outs)
    each-it outs fits tables numbers feeds =
        each-told member agent.knows.incarnation message H Then.taken Then.runs Then.clock agent.knows.sequence
        (record { role = After.role; knows = After.knows }) Then First 0 outs mid fits tables numbers feeds

    told-fits : FitsFrom 0 After.outputs → All FeedsIt After.outputs → Tells heard
    told-fits fits feeds = told-then moments cluster (event_of cluster opening)
        (each (output_events member message) First After.outputs) knows first
        (λ _. each-it After.outputs fits table sends feeds)

    -- by the word of nobody
    alone-feeds : (output : Output) → FeedsAlone Now output → FeedsIt output
    alone-feeds (outputs.Watchdog (feedings.Armed until)) feeds = absurd feeds
    alone-feeds (outputs.Watchdog (feedings.Fed until)) feeds = absurd feeds
    alone-feeds (outputs.Watchdog (feedings.FedByFailsafe until members sequence since)) feeds =
        λ m taken runs_are clock.
        subst (IsEarliest m M (bases.Acknowledgements members sequence))
        (clock ∙ kept.clock ∙ knows.sending.clock ∙ ap (λ (t : Ticks). t.0) (sym feeds.1))
        (fed-alone m M members sequence feeds.0)
    alone-feeds _ feeds = tt

    -- on a message alone
    heard-feeds : H → (output : Output) → FeedsOnNone output → FeedsIt output
    heard-feeds h (outputs.Watchdog (feedings.Armed until)) feeds = h
    heard-feeds h (outputs.Watchdog (feedings.Fed until)) feeds = h
    heard-feeds h (outputs.Watchdog (feedings.FedByFailsafe until members sequence since)) feeds = absurd feeds
    heard-feeds h _ feeds = tt

    told-quietly : H → PutsQuietly After → Tells heard
    told-quietly h puts = told-fits (all-quiet-fit 0 After.outputs puts.quiet)
        (All-weaker FeedsOnNone FeedsIt (heard-feeds h) After.outputs puts.unfed)

  -- ---- a wake, and an operator
  pub told-woken : Acts heards.Wake → Tells heards.Wake
  told-woken acts = by (wake-stays Now Points Before alone silent)
    where
      feeds : (stays : StaysCounted heards.Wake) → All (FeedsIt heards.Wake acts stays) (Outs heards.Wake)
      feeds stays = All-weaker (FeedsAlone Now) (FeedsIt heards.Wake acts stays) (alone-feeds heards.Wake acts stays)
          (Outs heards.Wake) (wakes-feed-none Now Points agent.role agent.knows machine)

      begun : BeginsTo Now (step Now Points heards.Wake Before) → StaysCounted heards.Wake
      begun begins waited is staying =
          subst (IsCounted moments.taken M (moments.runs M) waited.sequence) (sym begins.asks)
          (counts-none moments.taken M (moments.runs M) waited.sequence begins.members Now begins.some)

      by : WakesTo Now Before (step Now Points heards.Wake Before) → Tells heards.Wake
      by (inl begins) = told-fits heards.Wake acts (begun begins)
          (begins-fit Now (step Now Points heards.Wake Before) begins) (feeds (begun begins))
      by (inr so) = let stays : StaysCounted heards.Wake = so-counted heards.Wake so in
          told-fits heards.Wake acts stays
          (all-quiet-fit 0 (Outs heards.Wake) (wake-quiet Now Points Before alone silent old.counted so)) (feeds stays)

  -- what is waited for by the rows of an input
  checked : (heard : Heard)
      → ((waited : PendingQuestion) → (step Now Points heard Before).knows.waited ≡ Some waited →
      is_staying waited.question ≡ true →
      (agent.knows.waited ≡ Some waited) × ((step Now Points heard Before).knows.failsafe ≡ agent.knows.failsafe))
      → StaysCounted heard
  checked heard check waited is staying = let was = check waited is staying in
      subst (IsCounted moments.taken M (moments.runs M) waited.sequence) (sym was.1) (old.stays waited was.0 staying)

  pub told-asked : (action : OperatorAction) → Acts (heards.Operated action) → Tells (heards.Operated action)
  told-asked action acts =
      let heard : Heard = heards.Operated action in
      let stays : StaysCounted heard =
      checked heard (λ waited is staying. (operated-step-goes true Now action Before).check waited is staying) in
      told-fits heard acts stays
      (all-quiet-fit 0 (Outs heard) (operated-puts Now Points Before alone silent action).quiet)
      (All-weaker (FeedsAlone Now) (FeedsIt heard acts stays) (alone-feeds heard acts stays) (Outs heard)
      (actions-feed-none Now Points action agent.role agent.knows machine))

  -- ---- a failsafe request
  module _ (h : H) (from : MemberId) (run sequence : ℕ) (ttl : Ticks)
      (acts : Acts (heards.FailsafeAsked from run sequence ttl))
      (asked : IsAskedBy cluster hn message M from.number run sequence)
      (gone : (number : ℕ) (c : InFlightFacts) → hn ≡ Some number →
      in_flight First.facts.flight number ≡ Some c → ⊥) where
    abbrev It : Heard
    It = heards.FailsafeAsked from run sequence ttl

    abbrev R : Request
    R = record { by = M; from = from.number; incarnation = run; sequence = sequence }

    it-stays : StaysCounted It
    it-stays = checked It
        (λ waited is staying. (failsafe-asked-step-goes true Now from run sequence ttl Before).check waited is staying)

    given : IsGiven moments.runs cluster.agents R
    given = knows.asks.asks.asked asked.number asked.carried R asked.there asked.asks

    given-first : IsGiven Then.runs First.agents R
    given-first = subst (λ (f : ℕ → ℕ). IsGiven f First.agents R) (sym (kept It acts it-stays).runs)
        (subst (λ (l : List (Option AgentFacts)). IsGiven moments.runs l R) (sym acts)
        (given-opened moments cluster M agent (step Now Points It Before) here (same-run It acts it-stays)
        (later It acts it-stays) R given))

    unasked-first : IsUnasked Then.taken First.facts.flight R
    unasked-first = record {
      flying = λ i c is rc.
          let same : i ≡ asked.number = knows.asks.asks.once i asked.number c asked.carried R
          ((kept It acts it-stays).flight i c is) asked.there rc asked.asks in
          gone asked.number c asked.is (subst (λ (n : ℕ). in_flight First.facts.flight n ≡ Some c) same is);
      held = λ moment is. knows.asks.asks.fresh asked.number asked.carried R moment asked.there asked.asks
          (subst (λ (l : List Taking). IsTaken l (taking R moment)) (kept It acts it-stays).taken is);
    }

    abbrev b : Outcome
    b = reconciled Now Before

    fronts : Fronts Before b
    fronts = before-fronts Now Before alone silent

    b-quiet : All IsQuiet b.outputs
    b-quiet = fronts-quiet Before b fronts

    silent-feeds : (output : Output) → IsSilent output → FeedsIt It acts it-stays output
    silent-feeds (outputs.Watchdog (feedings.FedByFailsafe until members number since)) is = absurd is
    silent-feeds (outputs.Watchdog (feedings.Armed until)) is = h
    silent-feeds (outputs.Watchdog (feedings.Fed until)) is = h
    silent-feeds _ is = tt

    front-feeds : All (FeedsIt It acts it-stays) b.outputs
    front-feeds = fronts-hold (FeedsIt It acts it-stays) silent-feeds (λ number body. tt) Before b fronts

    abbrev Front : List Event
    Front = each (output_events member message) First b.outputs

    abbrev Then2 : Moments
    Then2 = moments_over Then Front

    abbrev First2 : Cluster
    First2 = cluster_over First Front

    abbrev Numbers : List Output → Type 0
    Numbers outs =
        All IsOfTable outs × All (SendsBetween agent.knows.sequence (step Now Points It Before).knows.sequence) outs

    front-told : Numbers b.outputs → Measures Then First Front
    front-told numbers =
        each-it It acts it-stays b.outputs (all-quiet-fit 0 b.outputs b-quiet) numbers.0 numbers.1 front-feeds

    module _ (tables : All IsOfTable b.outputs) (tells : Measures Then First Front) where
      adds : AllAre (AddsOnly IsOther) Front
      adds = all-more (IsOfInput member agent.knows.incarnation message.number IsQuiet)
          (AddsOnly IsOther) Front (quiet-adds member agent.knows.incarnation message)
          (each-mine member agent.knows.incarnation message.number IsQuiet First message refl
          (runs It acts it-stays) b.outputs tables b-quiet)

      moved : Moved IsOther Then Then2 First First2
      moved = moved-over IsOther Then First Front adds tells.numbered (behind It acts it-stays).sending

      behind2 : Knows Then2 First2
      behind2 = knows-over Then First Front (behind It acts it-stays) tells

      same-agents : First2.agents ≡ First.agents
      same-agents =
          (stays-over member agent.knows.incarnation message.number IsQuiet First Front
          (each-mine member agent.knows.incarnation message.number IsQuiet First message refl
          (runs It acts it-stays) b.outputs tables b-quiet)).agents

      unasked2 : IsUnasked Then2.taken First2.facts.flight R
      unasked2 = record {
        flying = λ i c is rc. elim (moved.flight i c is) [
          | inl was ↦ unasked-first.flying i c was rc
          | inr other ↦ none-some R (sym other.0 ∙ rc)
        ];
        held = λ moment is.
            unasked-first.held moment (subst (λ (l : List Taking). IsTaken l (taking R moment)) moved.taken is);
      }

      given2 : IsGiven Then2.runs First2.agents R
      given2 = subst (λ (f : ℕ → ℕ). IsGiven f First2.agents R) (sym moved.runs)
          (subst (λ (l : List (Option AgentFacts)). IsGiven Then.runs l R) (sym same-agents) given-first)

      abbrev Hold : Output
      Hold = outputs.Tell (tellings.HoldTaken (span_after Now ttl) from sequence)

      abbrev Holds : Option Member → List Event
      Holds found = events_of First2
          (kinds_of (option_map (hold_taken member (span_after Now ttl) message.incarnation sequence) found))

      hold-told : (found : Option Member) → slice_get First2.facts.members from.number ≡ found
          → Measures Then2 First2 (Holds found)
      hold-told None is = tells-none Then2 First2 behind2
      hold-told (Some peer) is = let at : peer.id.number ≡ from.number = behind2.members from.number peer is in record {
        measured = λ since. (tt, tt);
        numbered = (tt, tt);
        decided = (tt, tt);
        asks = hold-taken Then2 First2 member peer (span_after Now ttl) message.incarnation sequence given.counted
            (subst (λ (n : ℕ). let r : Request = record {
              by = M;
              from = n;
              incarnation = message.incarnation;
              sequence = sequence;
            } in IsUnasked Then2.taken First2.facts.flight r × IsGiven Then2.runs First2.agents r) (sym at)
            (subst (λ (n : ℕ). let r : Request = record {
              by = M;
              from = from.number;
              incarnation = n;
              sequence = sequence;
            } in IsUnasked Then2.taken First2.facts.flight r × IsGiven Then2.runs First2.agents r)
            (sym asked.incarnation) (unasked2, given2)))
            behind2.asks;
      }

      abbrev Then3 : Moments
      Then3 = moments_over Then2 (each (output_events member message) First2 (Hold ∷ []))

      abbrev First3 : Cluster
      First3 = cluster_over First2 (each (output_events member message) First2 (Hold ∷ []))

      held-there : (peer : Member) → slice_get First2.facts.members from.number ≡ Some peer
          → IsTaken Then3.taken (record {
            by = M;
            from = peer.id.number;
            incarnation = run;
            sequence = sequence;
            moment = First3.facts.clock;
          })
      held-there peer is =
          subst (λ (n : ℕ). IsTaken Then3.taken
          (record { by = M; from = peer.id.number; incarnation = n; sequence = sequence; moment = First3.facts.clock }))
          asked.incarnation
          (subst (λ (found : Option Member). IsTaken (moments_over Then2 (Holds found ++ [])).taken (record {
            by = M;
            from = peer.id.number;
            incarnation = message.incarnation;
            sequence = sequence;
            moment = (cluster_over First2 (Holds found ++ [])).facts.clock;
          })) (sym is)
          (subst (λ (n : ℕ).
          IsTaken (taken_with Then2.clock Then2.taken M peer.id.number message.incarnation sequence) (record {
            by = M;
            from = peer.id.number;
            incarnation = message.incarnation;
            sequence = sequence;
            moment = n;
          })) behind2.sending.clock
          (taken-there Then2.clock M peer.id.number message.incarnation sequence Then2.taken given.counted)))

      yes-told : Knows Then3 First3 → (found : Option Member) → slice_get First3.facts.members from.number ≡ found
          → Measures Then3 First3
          (replying_events First3 member (option_map (λ (m : Member). ends.Member m) found) run sequence
          (bodies.FailsafeAnswer true))
      yes-told third None is = tells-none Then3 First3 third
      yes-told third (Some peer) is =
          told-send (agent_message member (ends.Member peer) run sequence (bodies.FailsafeAnswer true)) Then3 First3
          (yes-sent Then3 First3 (First3.facts.sent + 1)
          (agent_message member (ends.Member peer) run sequence (bodies.FailsafeAnswer true))
          (record { by = M; from = peer.id.number; incarnation = run; sequence = sequence }) refl refl
          (held-there peer
          (ap (λ (l : List Member). slice_get l from.number)
          (sym (members-over First2 (each (output_events member message) First2 (Hold ∷ [])))) ∙ is))
          third.asks)
          third

    abbrev ToldBy : Outcome → Type 0
    ToldBy x = Numbers x.outputs → Measures Then First (each (output_events member message) First x.outputs)

    pub told-requested : Tells It
    told-requested =
        told-then moments cluster (event_of cluster opening)
        (each (output_events member message) First (Outs It)) knows (first It acts it-stays)
        (λ _. failsafe-asked-by ToldBy Now from run sequence ttl b accepts refuses
        (table It acts it-stays, sends It acts it-stays))
      where
        yes : Output
        yes = outputs.Message (outgoing.FailsafeAnswer from run sequence true)

        hold : Output
        hold = outputs.Tell (tellings.HoldTaken (span_after Now ttl) from sequence)

        accepts : may_hold (shown Now b) (awaits_lease b.knows.waited) ≡ true
            → Numbers (with_output (outputs.Message (outgoing.FailsafeAnswer from run sequence true))
            (with_output (outputs.Tell (tellings.HoldTaken (span_after Now ttl) from sequence)) b.outputs))
            → Measures Then First
            (each (output_events member message) First
            (with_output (outputs.Message (outgoing.FailsafeAnswer from run sequence true))
            (with_output (outputs.Tell (tellings.HoldTaken (span_after Now ttl) from sequence)) b.outputs)))
        accepts may numbers =
            let inner : List Output = b.outputs ++ hold ∷ [] in
            let tables : All IsOfTable b.outputs =
            front-all IsOfTable b.outputs (hold ∷ []) (front-all IsOfTable inner (yes ∷ []) numbers.0) in
            let S : Output → Type 0 = SendsBetween agent.knows.sequence (step Now Points It Before).knows.sequence in
            let tells : Measures Then First Front =
            front-told (tables, front-all S b.outputs (hold ∷ []) (front-all S inner (yes ∷ []) numbers.1)) in
            subst (Measures Then First)
            (ap (each (output_events member message) First) (sym (outs-assoc b.outputs hold yes)))
            (told-append member message Then First b.outputs (hold ∷ yes ∷ []) (behind It acts it-stays) tells
            (λ second. told-append member message Then2 First2 (hold ∷ []) (yes ∷ []) second
            (one-told member message Then2 First2 hold second
            (hold-told tables tells (slice_get First2.facts.members from.number) refl))
            (λ third. one-told member message _ _ yes third
            (yes-told tables tells third (slice_get (First3 tables tells).facts.members from.number) refl))))

        refuses : Numbers (with_output (outputs.Message (outgoing.FailsafeAnswer from run sequence false)) b.outputs)
            → Measures Then First
            (each (output_events member message) First
            (with_output (outputs.Message (outgoing.FailsafeAnswer from run sequence false)) b.outputs))
        refuses numbers =
            each-it It acts it-stays
            (with_output (outputs.Message (outgoing.FailsafeAnswer from run sequence false)) b.outputs)
            (all-quiet-fit 0 (with_output (outputs.Message (outgoing.FailsafeAnswer from run sequence false)) b.outputs)
            (All-push IsQuiet b.outputs
            (outputs.Message (outgoing.FailsafeAnswer from run sequence false)) b-quiet refl))
            numbers.0 numbers.1
            (All-push (FeedsIt It acts it-stays) b.outputs
            (outputs.Message (outgoing.FailsafeAnswer from run sequence false)) front-feeds tt)

  -- ---- an answer to a failsafe request
  pub told-answered : (from : MemberId) (sequence : ℕ) (accepted : Bool) (sent : Ticks) → H
      → Acts (heards.FailsafeAnswered from sequence accepted sent)
      → (accepted ≡ true → IsTaken moments.taken (record {
        by = from.number;
        from = M;
        incarnation = agent.knows.incarnation;
        sequence = sequence;
        moment = sent.0;
      }))
      → Tells (heards.FailsafeAnswered from sequence accepted sent)
  told-answered from sequence accepted sent h acts said =
      told-fits It acts stays
      (all-quiet-fit 0 (Outs It) (counted-quiet Now Points Before alone silent from sequence accepted sent))
      (All-weaker (FeedsSo Before from sequence accepted sent) (FeedsIt It acts stays) feeds (Outs It)
      (counted-feeds Now Points Before alone silent from sequence accepted sent))
    where
      It : Heard
      It = heards.FailsafeAnswered from sequence accepted sent

      holds : accepted ≡ true
          → IsTaken moments.taken
          (record { by = from.number; from = M; incarnation = moments.runs M; sequence = sequence; moment = sent.0 })
      holds so =
          subst (λ (n : ℕ). IsTaken moments.taken
          (record { by = from.number; from = M; incarnation = n; sequence = sequence; moment = sent.0 }))
          old.run_is (said so)

      counted : (waited : PendingQuestion) → agent.knows.waited ≡ Some waited
          → is_staying waited.question ≡ true → waited.sequence ≡ sequence → accepted ≡ true
          → IsCounted moments.taken M (moments.runs M) sequence (ask_heard agent.knows.failsafe from true sent)
      counted waited is staying number so =
          counts-one moments.taken M (moments.runs M) sequence agent.knows.failsafe from sent (holds so)
          (subst (λ (n : ℕ). IsCounted moments.taken M (moments.runs M) n agent.knows.failsafe) number
          (old.stays waited is staying))

      stays : StaysCounted (heards.FailsafeAnswered from sequence accepted sent)
      stays waited is staying = elim (failsafe-answered-goes Now from sequence accepted sent true Before) [
        | inl goes ↦
            let was = goes.check waited is staying in subst (IsCounted moments.taken M (moments.runs M) waited.sequence)
            (sym was.1) (old.stays waited was.0 staying)
        | inr counts ↦
            let was : agent.knows.waited ≡ Some waited = sym counts.1.waits ∙ is in
            let number : waited.sequence ≡ sequence = counts.1.awaited waited was in
            subst (λ (n : ℕ). IsCounted moments.taken M (moments.runs M) n (step Now Points It Before).knows.failsafe)
            (sym number)
            (subst (IsCounted moments.taken M (moments.runs M) sequence) (sym counts.1.ask)
            (counted waited was staying number counts.0))
      ]

      feeds : (output : Output) → FeedsSo Before from sequence accepted sent output
          → FeedsIt (heards.FailsafeAnswered from sequence accepted sent) acts stays output
      feeds (outputs.Watchdog (feedings.FedByFailsafe until members fed since)) all = λ m taken runs_are clock.
          let ask : Ask = ask_heard agent.knows.failsafe from true sent in
          let same : moments.taken ≡ m.taken =
          sym (taken ∙ (kept (heards.FailsafeAnswered from sequence accepted sent) acts stays).taken) in
          let runs_same : moments.runs M ≡ m.runs M =
          sym (ap (λ (f : ℕ → ℕ). f M)
          (runs_are ∙ (kept (heards.FailsafeAnswered from sequence accepted sent) acts stays).runs)) in
          subst (λ (x : MemberSet). IsEarliest m M (bases.Acknowledgements x fed) since.0)
          (heard-members agent.knows.failsafe from sent ∙ sym all.members_are)
          (subst (λ (n : ℕ). IsEarliest m M (bases.Acknowledgements ask.members n) since.0) (sym all.fed_is)
          (fed-earliest m M sequence ask since
          (subst (λ (l : List Taking). (r : Request) (a b : ℕ) → IsTaken l (taking r a) →
          IsTaken l (taking r b) → a ≡ b)
          same knows.asks.asks.unique)
          (subst (λ (n : ℕ). IsCounted m.taken M n sequence ask) runs_same
          (subst (λ (l : List Taking). IsCounted l M (moments.runs M) sequence ask) same
          (counted all.waited all.is all.staying all.sequence_is all.accepts)))
          all.all))
      feeds (outputs.Watchdog (feedings.Armed until)) all = h
      feeds (outputs.Watchdog (feedings.Fed until)) all = h
      feeds _ all = tt

  -- ---- any other message
  pub told-read : (sequence : ℕ) (snapshot : SnapshotFacts) → H → Acts (heards.ReadAnswered sequence snapshot)
      → Tells (heards.ReadAnswered sequence snapshot)
  told-read sequence snapshot h acts = let heard : Heard = heards.ReadAnswered sequence snapshot in
      told-quietly heard acts (so-counted heard (read-stays Now Points sequence snapshot Before)) h
      (read-puts Now Points Before alone silent sequence snapshot)

  pub told-granted : (sequence : ℕ) (grant : Granted) (snapshot : SnapshotFacts) → H
      → Acts (heards.Granted sequence grant snapshot) → Tells (heards.Granted sequence grant snapshot)
  told-granted sequence grant snapshot h acts = let heard : Heard = heards.Granted sequence grant snapshot in
      told-quietly heard acts (so-counted heard (grant-stays Now Points sequence grant snapshot Before)) h
      (grant-puts Now Points Before alone silent sequence grant snapshot)

  pub told-refused : (sequence : ℕ) (key : Key) (found : Expected) → H
      → Acts (heards.Mismatch sequence key found) → Tells (heards.Mismatch sequence key found)
  told-refused sequence key found h acts = let heard : Heard = heards.Mismatch sequence key found in
      told-quietly heard acts
      (checked heard (λ waited is staying. (refused-step-goes true Now sequence Before).check waited is staying)) h
      (refused-puts Now Points Before alone silent sequence key found)

  pub told-peer : (from : MemberId) (run sequence : ℕ) → H → Acts (heards.Asked from run sequence)
      → Tells (heards.Asked from run sequence)
  told-peer from run sequence h acts = let heard : Heard = heards.Asked from run sequence in
      told-quietly heard acts
      (checked heard (λ waited is staying. (asked-step-goes true Now from run sequence Before).check waited is staying))
      h (asked-puts Now Points Before alone silent from run sequence)

  pub told-position : (sequence : ℕ) (answer : PeerAnswer) → H → Acts (heards.Answered sequence answer)
      → Tells (heards.Answered sequence answer)
  told-position sequence answer h acts = let heard : Heard = heards.Answered sequence answer in
      told-quietly heard acts
      (checked heard
      (λ waited is staying. (answered-step-goes true Now sequence answer Before).check waited is staying))
      h (answered-puts Now Points Before alone silent sequence answer)
