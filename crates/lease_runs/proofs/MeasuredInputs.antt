-- Each input of an agent tells before each feed from when it is measured, and grants nothing.
use Rattle.std.proofs.Common.{ℕ, ◌≡◌, ◌≢◌, ◌⊎◌, ◌+◌, ◌++◌, ◌≤◌, ◌<◌, nat_le, Bool, true, false, List, [], ◌∷◌, length, slice_get, Option, Some, None, All, option_map, refl, ◌∙◌, ap, sym, subst, arith, inl, inr}
use Rattle.std.proofs.lemmas.List.Elements.{All-head, All-tail}
use Rattle.pat_base.specs.declared.member_id.MemberId.{MemberId}
use Rattle.pat_base.specs.declared.ticks.Ticks.{Ticks}
use Rattle.event_book.specs.declared.agent_process.AgentProcess.{AgentProcess}
use Rattle.event_book.specs.declared.event.AgentEvent.TheVariants as agents
use Rattle.event_book.specs.declared.event.Event.{Event}
use Rattle.event_book.specs.declared.event.EventKind.{EventKind}
use Rattle.event_book.specs.declared.event.EventKind.TheVariants as kinds
use Rattle.event_book.specs.declared.event.MessageEvent.TheVariants as messages
use Rattle.event_book.specs.declared.event.WatchdogEvent.TheVariants as watchdogs
use Rattle.event_book.specs.declared.link.LinkEnd.TheVariants as ends
use Rattle.event_book.specs.declared.member.Member.{Member}
use Rattle.event_book.specs.declared.message.Body.{Body}
use Rattle.event_book.specs.declared.message.Body.TheVariants as bodies
use Rattle.event_book.specs.declared.message.Message.{Message}
use Rattle.event_book.specs.declared.reason.Basis.TheVariants as bases
use Rattle.event_book.specs.Flight.{Flight, InFlightFacts, in_flight, launched}
use Rattle.event_book.specs.Kinds.{AllAre}
use Rattle.event_book.specs.Premises.{IsTaken, Moments, Taking, moments_after, taken_with}
use Rattle.agent_model.specs.declared.output.Output.{Output}
use Rattle.agent_model.specs.declared.output.Output.TheVariants as outputs
use Rattle.agent_model.specs.declared.output.Feeding.TheVariants as feedings
use Rattle.agent_model.specs.declared.output.Outgoing.TheVariants as outgoing
use Rattle.agent_model.specs.declared.output.Telling.TheVariants as tellings
use Rattle.agent_model.specs.declared.output.Target.TheVariants as targets
use Rattle.agent_model.specs.Agents.{AgentFacts}
use Rattle.agent_outputs.specs.Orders.{IsOfTable}
use Rattle.agent_questions.specs.Questions.{SendsBetween}
use Rattle.cluster_model.specs.declared.heard_message.HeardMessage.{HeardMessage}
use Rattle.cluster_model.specs.Cluster.{cluster_after, cluster_over}
use Rattle.cluster_model.specs.Limits.{most_in_flight}
use Rattle.cluster_model.specs.Messages.{agent_message, lost_at_once, output_events, sending_events}
use Rattle.cluster_model.specs.Parts.{each, events_of}
use Rattle.cluster_model.specs.State.{Cluster}
use Rattle.cluster_model.proofs.Lists.{all-more}
use Rattle.lease_law.proofs.Runs.{assoc}
use Rattle.lease_model.proofs.Tools.{none-some, put-there, some-is}
use Rattle.run_promise.proofs.Upholding.{over-append}
use Rattle.agent_roles.specs.Asks.{IsAsk}
use Rattle.lease_book.specs.Flights.{Rises}
use Rattle.lease_book.specs.Groups.{AreNumberedAbove, IsNumberedAbove}
use Rattle.lease_book.proofs.Entries.{in-with, in-without}
use Rattle.summary_model.specs.Telling.{AreMeasured, IsEarliest}
use Rattle.lease_inputs.specs.InputEvents.{AnswersPeer, AnswersRequest, Asks, AsksPeer, ByFailsafe, ByGrant, IsFeedOf, IsMessageOf, IsOfInput, RunsAmong}
use Rattle.lease_inputs.proofs.InputEvents.{output-mine}
use Rattle.lease_inputs.proofs.InputOutputs.{output-numbered, runs-later, stays-output}
use Rattle.lease_runs.proofs.AskedMore.{request-sent}
use Rattle.lease_runs.proofs.AskedOnce.{IsNeutral, IsOther, Request, gone-sub, neutral-over, request_of, sent-then, taking}
use Rattle.lease_runs.proofs.Fencing.{AreDecided, IsUngranted, ungranted-decided}
use Rattle.lease_runs.proofs.Measuring.{IsUnfed, Knows, Measures, knows-over, tells-none, told-send, told-then, unfed-measured}
use Rattle.lease_runs.proofs.Moments.{KnowsSending, moments_over, sending-by}
use Rattle.lease_runs.proofs.Staying.{AsksNobody, FitsFrom, FitsOne, FitsSend, IsQuiet, next, next_send}

-- the moment at which this message was sent is known, and its number is none of those to come
pub record IsHeardAt (moments : Moments) (cluster : Cluster) (message : HeardMessage) : Type 0 where
  pub known : moments.sent message.number ≡ Some message.sent.0
  pub old : message.number ≤ cluster.facts.sent

later-old : (n last number : ℕ) → n ≤ last → last < number → n ≤ number
later-old n last number low above = omega (arith, low, above)

not-it : (n last number : ℕ) → n ≤ last → last < number → n ≢ number
not-it n last number low above = omega (arith, low, above)

heard-one : (moments : Moments) (cluster : Cluster) (message : HeardMessage) (kind : EventKind)
    → IsNumberedAbove cluster.facts.sent kind → IsHeardAt moments cluster message
    → IsHeardAt (moments_after moments kind) (cluster_after cluster kind) message
heard-one moments cluster message (kinds.Message (messages.Sent number sent)) above old = record {
  known = put-there moments.sent number _ message.number (not-it message.number cluster.facts.sent number old.old above)
      ∙ old.known;
  old = later-old message.number cluster.facts.sent number old.old above;
}
heard-one moments cluster message (kinds.Message (messages.Delivered number)) above old =
    record { known = old.known; old = old.old }
heard-one moments cluster message (kinds.Message (messages.Lost number)) above old =
    record { known = old.known; old = old.old }
heard-one moments cluster message _ above old = record { known = old.known; old = old.old }

heard-over : (moments : Moments) (cluster : Cluster) (message : HeardMessage) (events : List Event)
    → AreNumberedAbove cluster.facts.sent events → IsHeardAt moments cluster message
    → IsHeardAt (moments_over moments events) (cluster_over cluster events) message
heard-over moments cluster message [] above old = old
heard-over moments cluster message (event ∷ events) above old =
    heard-over (moments_after moments event.kind) (cluster_after cluster event.kind) message events above.1
    (heard-one moments cluster message event.kind above.0 old)

-- ---- events that add nothing to what is asked but such messages
pub record Moved (P : Message → Type 0) (moments later : Moments) (cluster then : Cluster) : Type 0 where
  pub taken : later.taken ≡ moments.taken
  pub runs : later.runs ≡ moments.runs
  pub clock : later.clock ≡ moments.clock
  pub flight : (i : ℕ) (c : InFlightFacts) → in_flight then.facts.flight i ≡ Some c
      → (in_flight cluster.facts.flight i ≡ Some c) ⊎ P c.message

abbrev pub AddsOnly : (Message → Type 0) → EventKind → Type 0
AddsOnly P kinds.Tick = ⊥
AddsOnly P (kinds.Message (messages.Sent number message)) = P message
AddsOnly P (kinds.Message (messages.Delivered number)) = ⊥
AddsOnly P (kinds.Watchdog (watchdogs.HoldTaken by until from run sequence)) = sequence ≡ 0
AddsOnly P (kinds.Agent (agents.Passed by)) = Unit {0}
AddsOnly P (kinds.Agent _) = ⊥
AddsOnly P _ = Unit {0}

moved-one : (P : Message → Type 0) (moments : Moments) (cluster : Cluster) (kind : EventKind) → AddsOnly P kind
    → Rises 0 cluster.facts.flight → Moved P moments (moments_after moments kind) cluster (cluster_after cluster kind)
moved-one P moments cluster kinds.Tick adds order = absurd adds
moved-one P moments cluster (kinds.Message (messages.Sent number message)) adds order =
    let one : InFlightFacts = launched cluster.facts.clock cluster.facts.keys message in record {
      taken = refl;
      runs = refl;
      clock = refl;
      flight = λ i c at.
          elim (sent-then cluster.facts.flight number one i c (sym (in-with cluster.facts.flight number one i) ∙ at)) [
            | inl was ↦ inl was.1
            | inr here ↦ inr (subst (λ (x : InFlightFacts). P x.message) here.1 adds)
          ];
    }
moved-one P moments cluster (kinds.Message (messages.Delivered number)) adds order = absurd adds
moved-one P moments cluster (kinds.Message (messages.Lost number)) adds order = record {
  taken = refl;
  runs = refl;
  clock = refl;
  flight = λ i c at. inl
      (gone-sub cluster.facts.flight number order i c (sym (in-without 0 cluster.facts.flight number i order) ∙ at));
}
moved-one P moments cluster (kinds.Watchdog (watchdogs.HoldTaken by until from run sequence)) adds order =
    record {
      taken = ap (taken_with moments.clock moments.taken by.id.number from.id.number run) adds;
      runs = refl;
      clock = refl;
      flight = λ i c at. inl at;
    }
moved-one P moments cluster (kinds.Agent (agents.Passed by)) adds order =
    record { taken = refl; runs = refl; clock = refl; flight = λ i c at. inl at }
moved-one P moments cluster (kinds.Agent _) adds order = absurd adds
moved-one P moments cluster _ adds order = record { taken = refl; runs = refl; clock = refl; flight = λ i c at. inl at }

moved-then : (P : Message → Type 0) (a b c : Moments) (x y z : Cluster) → Moved P a b x y → Moved P b c y z
    → Moved P a c x z
moved-then P a b c x y z first second = record {
  taken = second.taken ∙ first.taken;
  runs = second.runs ∙ first.runs;
  clock = second.clock ∙ first.clock;
  flight = λ i m at. elim (second.flight i m at) [ inl was ↦ first.flight i m was | inr new ↦ inr new ];
}

pub moved-over : (P : Message → Type 0) (moments : Moments) (cluster : Cluster) (events : List Event)
    → AllAre (AddsOnly P) events → AreNumberedAbove cluster.facts.sent events → KnowsSending moments cluster.facts
    → Moved P moments (moments_over moments events) cluster (cluster_over cluster events)
moved-over P moments cluster [] all above knows =
    record { taken = refl; runs = refl; clock = refl; flight = λ i c at. inl at }
moved-over P moments cluster (event ∷ events) all above knows =
    moved-then P moments (moments_after moments event.kind) _ cluster (cluster_after cluster event.kind) _
    (moved-one P moments cluster event.kind all.0 knows.order)
    (moved-over P (moments_after moments event.kind) (cluster_after cluster event.kind) events all.1 above.1
    (sending-by moments cluster.facts event.kind above.0 knows))

adds-neutral : (kind : EventKind) → AddsOnly IsOther kind → IsNeutral kind
adds-neutral (kinds.Message (messages.Sent number message)) adds = adds
adds-neutral (kinds.Message (messages.Delivered number)) adds = absurd adds
adds-neutral (kinds.Watchdog (watchdogs.HoldTaken by until from run sequence)) adds = adds
adds-neutral (kinds.Agent (agents.Woken by)) adds = absurd adds
adds-neutral (kinds.Agent (agents.Operated by action)) adds = absurd adds
adds-neutral (kinds.Agent (agents.Started by incarnation)) adds = absurd adds
adds-neutral _ adds = tt

-- ---- an output is quiet, or a failsafe request
record Requests (at : ℕ) (output : Output) : Type 0 where
  id : MemberId
  sequence : ℕ
  ttl : Ticks
  is : output ≡ outputs.Message (outgoing.Send (targets.Member id) sequence (bodies.FailsafeRequest ttl))
  low : at ≤ id.number

fits-kind : (at : ℕ) (output : Output) → FitsOne at output
    → (IsQuiet output × (next at output ≡ at)) ⊎ Requests at output
fits-kind at (outputs.Message (outgoing.Send targets.Store sequence body)) fits = inl (tt, refl)
fits-kind at (outputs.Message (outgoing.Send (targets.Member id) sequence body)) fits = by body fits
  where
    by : (body : Body) → FitsSend at (targets.Member id) body
        → (AsksNobody (targets.Member id) body × (next_send at (targets.Member id) body ≡ at))
        ⊎ Requests at (outputs.Message (outgoing.Send (targets.Member id) sequence body))
    by (bodies.FailsafeRequest ttl) fits =
        inr (record { id = id; sequence = sequence; ttl = ttl; is = refl; low = fits })
    by _ fits = inl (tt, refl)
fits-kind at (outputs.Tell (tellings.HoldTaken until from sequence)) fits = inl (fits, refl)
fits-kind at (outputs.Message (outgoing.FailsafeAnswer to run sequence accepted)) fits = inl (fits, refl)
fits-kind at _ fits = inl (tt, refl)

some-some : (x y : AgentFacts) → ◌≡◌ {A = Option (Option AgentFacts)} (Some (Some x)) (Some (Some y)) → x ≡ y
some-some x y e = some-is x y (some-is (Some x) (Some y) e)

-- ---- the outputs of an input
pub each-append : (f : Cluster → Output → List Event) (cluster : Cluster) (xs ys : List Output)
    → each f cluster (xs ++ ys) ≡ each f cluster xs ++ each f (cluster_over cluster (each f cluster xs)) ys
each-append f cluster [] ys = refl
each-append f cluster (x ∷ xs) ys =
    let next : Cluster = cluster_over cluster (f cluster x) in
    ap (λ (l : List Event). f cluster x ++ l) (each-append f next xs ys)
    ∙ sym (assoc (f cluster x) (each f next xs) (each f (cluster_over next (each f next xs)) ys))
    ∙ ap (λ (c : Cluster). (f cluster x ++ each f next xs) ++ each f c ys)
    (sym (over-append cluster (f cluster x) (each f next xs)))

-- an output by which no watchdog is fed
abbrev FeedsNone : Output → Type 0
FeedsNone (outputs.Watchdog (feedings.Armed until)) = ⊥
FeedsNone (outputs.Watchdog (feedings.Fed until)) = ⊥
FeedsNone (outputs.Watchdog (feedings.FedByFailsafe until members sequence since)) = ⊥
FeedsNone _ = Unit {0}

abbrev pub IsAny : Output → Type 0
IsAny output = Unit {0}

module _ (member : Member) (incarnation : ℕ) (message : HeardMessage) where
  abbrev M : ℕ
  M = member.id.number

  abbrev Brings : Cluster → Output → List Event
  Brings cluster output = output_events member message cluster output

  mine-unfed : (kind : EventKind) → IsOfInput member incarnation message.number FeedsNone kind → IsUnfed kind
  mine-unfed (kinds.Watchdog (watchdogs.Armed by until answer)) is = absurd is.2
  mine-unfed (kinds.Watchdog (watchdogs.Fed by until basis)) is = absurd (fed-none is.1)
    where
      fed-none : IsFeedOf message.number FeedsNone until basis → ⊥
      fed-none (ByGrant same from) = from
      fed-none (ByFailsafe acknowledging sequence since same from) = from
  mine-unfed _ is = tt

  mine-ungranted : (kind : EventKind) → IsOfInput member incarnation message.number IsAny kind → IsUngranted kind
  mine-ungranted (kinds.Store happening) is = absurd is
  mine-ungranted _ is = tt

  quiet-message : (sent : Message) → IsMessageOf member incarnation IsQuiet sent → IsOther sent
  quiet-message sent (Asks question) = subst IsOther (sym question.is) (refl, refl)
  quiet-message sent (AsksPeer peer id sequence body asks is from) = subst IsOther (sym is) (by body asks from)
    where
      by : (body : Body) → IsAsk body → AsksNobody (targets.Member id) body
          → IsOther (agent_message member (ends.Member peer) incarnation sequence body)
      by (bodies.FailsafeRequest ttl) asks from = absurd from
      by bodies.Ask asks from = (refl, refl)
      by _ asks from = absurd asks
  quiet-message sent (AnswersPeer peer id asked sequence answer is from) = subst IsOther (sym is) (refl, refl)
  quiet-message sent (AnswersRequest peer id asked sequence accepted at is from) =
      subst IsOther
      (sym (is
      ∙ ap (λ (b : Bool). agent_message member (ends.Member peer) asked sequence (bodies.FailsafeAnswer b)) from))
      (refl, refl)

  pub quiet-adds : (kind : EventKind) → IsOfInput member incarnation message.number IsQuiet kind → AddsOnly IsOther kind
  quiet-adds kinds.Tick is = absurd is
  quiet-adds (kinds.Message (messages.Sent number sent)) is = quiet-message sent is
  quiet-adds (kinds.Message (messages.Delivered number)) is = absurd is
  quiet-adds (kinds.Watchdog (watchdogs.HoldTaken by until from run sequence)) is = is.1.by
  quiet-adds (kinds.Agent (agents.Passed by)) is = tt
  quiet-adds (kinds.Agent _) is = absurd is
  quiet-adds _ is = tt

  pub output-adds : (cluster : Cluster) (output : Output) → RunsAmong member incarnation cluster.facts
      → IsOfTable output → IsQuiet output → AllAre (AddsOnly IsOther) (Brings cluster output)
  output-adds cluster output runs table quiet = all-more (IsOfInput member incarnation message.number IsQuiet)
      (AddsOnly IsOther) (Brings cluster output) quiet-adds
      (output-mine member incarnation message.number IsQuiet cluster message refl runs output table quiet)

  output-decided : (cluster : Cluster) (output : Output) → RunsAmong member incarnation cluster.facts
      → IsOfTable output → AreDecided cluster (Brings cluster output)
  output-decided cluster output runs table = ungranted-decided cluster (Brings cluster output)
      (all-more (IsOfInput member incarnation message.number IsAny) IsUngranted (Brings cluster output) mine-ungranted
      (output-mine member incarnation message.number IsAny cluster message refl runs output table tt))

  -- ---- from when feeds are measured
  silent : (moments : Moments) (since : Ticks) (cluster : Cluster) (output : Output)
      → RunsAmong member incarnation cluster.facts → IsOfTable output → FeedsNone output
      → AreMeasured moments since (Brings cluster output)
  silent moments since cluster output runs table none =
      unfed-measured moments since (Brings cluster output)
      (all-more (IsOfInput member incarnation message.number FeedsNone) IsUnfed (Brings cluster output) mine-unfed
      (output-mine member incarnation message.number FeedsNone cluster message refl runs output table none))

  abbrev FeedsAt : Moments → Cluster → Output → Type 0
  FeedsAt moments cluster (outputs.Watchdog (feedings.Armed until)) = IsHeardAt moments cluster message
  FeedsAt moments cluster (outputs.Watchdog (feedings.Fed until)) = IsHeardAt moments cluster message
  FeedsAt moments cluster (outputs.Watchdog (feedings.FedByFailsafe until members sequence since)) =
      IsEarliest moments M (bases.Acknowledgements members sequence) since.0
  FeedsAt moments cluster _ = Unit {0}

  output-measured : (moments : Moments) (since : Ticks) (cluster : Cluster) (output : Output)
      → RunsAmong member incarnation cluster.facts → IsOfTable output → FeedsAt moments cluster output
      → AreMeasured moments since (Brings cluster output)
  output-measured moments since cluster (outputs.Watchdog (feedings.Armed until)) runs table feeds =
      (tt, (feeds.known, tt))
  output-measured moments since cluster (outputs.Watchdog (feedings.Fed until)) runs table feeds =
      (tt, (feeds.known, tt))
  output-measured moments since cluster (outputs.Watchdog (feedings.FedByFailsafe until members sequence from)) runs
      table feeds =
      (tt, (record { none_earlier = feeds.none_earlier; one = feeds.one }, tt))
  output-measured moments since cluster output runs table feeds = silent moments since cluster output runs table tt

  told-quiet : (moments : Moments) (cluster : Cluster) (output : Output) → Knows moments cluster
      → RunsAmong member incarnation cluster.facts → IsOfTable output → IsQuiet output
      → FeedsAt moments cluster output → Measures moments cluster (Brings cluster output)
  told-quiet moments cluster output knows runs table quiet feeds =
      let above : AreNumberedAbove cluster.facts.sent (Brings cluster output) =
      output-numbered member incarnation message cluster output runs table in
      record {
        measured = λ since. output-measured moments since cluster output runs table feeds;
        numbered = above;
        decided = output-decided cluster output runs table;
        asks = neutral-over moments cluster (Brings cluster output)
            (all-more (AddsOnly IsOther) IsNeutral (Brings cluster output) adds-neutral
            (output-adds cluster output runs table quiet))
            above knows.sending knows.asks;
      }

  -- ---- one output after another
  module _ (H : Type 0) (T : List Taking) (R : ℕ → ℕ) (C low : ℕ) (after : AgentFacts) where
    -- those whom the member has asked in this input have lower numbers
    pub record Below (at : ℕ) (taken : List Taking) (flight : Flight) : Type 0 where
      pub flying : (i : ℕ) (c : InFlightFacts) (r : Request) → in_flight flight i ≡ Some c
          → request_of c.message ≡ Some r → r.from ≡ M → r.incarnation ≡ incarnation → low < r.sequence → r.by < at
      pub held : (r : Request) (moment : ℕ) → IsTaken taken (taking r moment) → r.from ≡ M
          → r.incarnation ≡ incarnation → low < r.sequence → r.by < at

    pub record Mid (moments : Moments) (cluster : Cluster) (at : ℕ) : Type 0 where
      pub knows : Knows moments cluster
      pub runs : RunsAmong member incarnation cluster.facts
      pub heard : H → IsHeardAt moments cluster message
      pub taken : moments.taken ≡ T
      pub runs_are : moments.runs ≡ R
      pub clock : moments.clock ≡ C
      pub agent : slice_get cluster.agents M ≡ Some (Some after)
      pub below : Below at moments.taken cluster.facts.flight

    -- an output that feeds does so on what is heard, or from when the first acknowledged
    abbrev pub Feeds : Output → Type 0
    Feeds (outputs.Watchdog (feedings.Armed until)) = H
    Feeds (outputs.Watchdog (feedings.Fed until)) = H
    Feeds (outputs.Watchdog (feedings.FedByFailsafe until members sequence since)) =
        (moments : Moments) → moments.taken ≡ T
        → moments.runs ≡ R → moments.clock ≡ C → IsEarliest moments M (bases.Acknowledgements members sequence) since.0
    Feeds _ = Unit {0}

    feeds-at : (moments : Moments) (cluster : Cluster) (at : ℕ) (output : Output) → Mid moments cluster at
        → Feeds output → FeedsAt moments cluster output
    feeds-at moments cluster at (outputs.Watchdog (feedings.Armed until)) mid feeds = mid.heard feeds
    feeds-at moments cluster at (outputs.Watchdog (feedings.Fed until)) mid feeds = mid.heard feeds
    feeds-at moments cluster at (outputs.Watchdog (feedings.FedByFailsafe until members sequence since)) mid feeds =
        feeds moments mid.taken mid.runs_are mid.clock
    feeds-at moments cluster at _ mid feeds = tt

    -- behind events that add only such messages
    mid-over : (P : Message → Type 0) (moments : Moments) (cluster : Cluster) (at then : ℕ) (output : Output)
        → IsOfTable output → Mid moments cluster at → Measures moments cluster (Brings cluster output)
        → AllAre (AddsOnly P) (Brings cluster output) → at ≤ then
        → ((sent : Message) (r : Request) → P sent → request_of sent ≡ Some r → r.by < then)
        → Mid (moments_over moments (Brings cluster output)) (cluster_over cluster (Brings cluster output)) then
    mid-over P moments cluster at then output table mid tells adds rises new =
        let events : List Event = Brings cluster output in
        let moved : Moved P moments (moments_over moments events) cluster (cluster_over cluster events) =
        moved-over P moments cluster events adds tells.numbered mid.knows.sending in
        record {
          knows = knows-over moments cluster events mid.knows tells;
          runs = runs-later member incarnation message cluster output mid.runs table;
          heard = λ h. heard-over moments cluster message events tells.numbered (mid.heard h);
          taken = moved.taken ∙ mid.taken;
          runs_are = moved.runs ∙ mid.runs_are;
          clock = moved.clock ∙ mid.clock;
          agent =
              ap (λ (l : List (Option AgentFacts)). slice_get l M)
              (stays-output member incarnation message cluster output mid.runs table).agents
              ∙ mid.agent;
          below = record {
            flying = λ i c r is rc a b d. elim (moved.flight i c is) [
              | inl was ↦ let e : r.by < at = mid.below.flying i c r was rc a b d in omega (arith, e, rises)
              | inr now ↦ new c.message r now rc
            ];
            held = λ r moment is a b d. let e : r.by < at =
                mid.below.held r moment
                (subst (λ (l : List Taking). IsTaken l (taking r moment)) moved.taken is) a b d in
                omega (arith, e, rises);
          };
        }

    -- a failsafe request is sent
    told-request : (moments : Moments) (cluster : Cluster) (at : ℕ) (id : MemberId) (sequence : ℕ) (ttl : Ticks)
        → Mid moments cluster at → low < sequence → sequence ≤ after.knows.sequence → at ≤ id.number
        → Measures moments cluster
        (Brings cluster (outputs.Message (outgoing.Send (targets.Member id) sequence (bodies.FailsafeRequest ttl))))
    told-request moments cluster at id sequence ttl mid later counted least =
        by (slice_get cluster.facts.processes M) (slice_get cluster.facts.members id.number) refl refl
      where
        by : (process : Option AgentProcess) (peer : Option Member)
            → slice_get cluster.facts.processes M ≡ process → slice_get cluster.facts.members id.number ≡ peer
            → Measures moments cluster
            (sending_events cluster member process (option_map (λ (m : Member). ends.Member m) peer) sequence
            (bodies.FailsafeRequest ttl))
        by None peer a b = tells-none moments cluster mid.knows
        by (Some process) None a b = tells-none moments cluster mid.knows
        by (Some process) (Some peer) a b =
            let sent : Message =
            agent_message member (ends.Member peer) process.incarnation sequence (bodies.FailsafeRequest ttl) in
            let r : Request =
            record { by = peer.id.number; from = M; incarnation = process.incarnation; sequence = sequence } in
            let at_number : peer.id.number ≡ id.number = mid.knows.members id.number peer b in
            let run : process.incarnation ≡ incarnation = mid.runs.process process a in
            let runs_is : process.incarnation ≡ moments.runs M = mid.knows.asks.runs M process a in
            told-send sent moments cluster (request-sent moments cluster (cluster.facts.sent + 1) sent r refl refl
            (record {
              flying = λ i c is rc. let e : peer.id.number < at = mid.below.flying i c r is rc refl run later in
                  absurd (omega (arith, e, at_number, least));
              held = λ moment is. let e : peer.id.number < at = mid.below.held r moment is refl run later in
                  absurd (omega (arith, e, at_number, least));
            })
            (record {
              counted = omega (arith, later);
              run = omega (arith, runs_is);
              given = λ agent is _. let same : after ≡ agent = some-some after agent (sym mid.agent ∙ is) in
                  subst (λ (x : AgentFacts). sequence ≤ x.knows.sequence) same counted;
            }) mid.knows.asks) mid.knows

    abbrev AsksAt : ℕ → Message → Type 0
    AsksAt n sent = (r : Request) → request_of sent ≡ Some r → r.by ≡ n

    request-adds : (cluster : Cluster) (id : MemberId) (sequence : ℕ) (ttl : Ticks)
        → ((n : ℕ) (peer : Member) → slice_get cluster.facts.members n ≡ Some peer → peer.id.number ≡ n)
        → AllAre (AddsOnly (AsksAt id.number))
        (Brings cluster (outputs.Message (outgoing.Send (targets.Member id) sequence (bodies.FailsafeRequest ttl))))
    request-adds cluster id sequence ttl members =
        by (slice_get cluster.facts.processes M) (slice_get cluster.facts.members id.number) refl
      where
        lost-adds : (later : Cluster) (test : Bool) (number : ℕ)
            → AllAre (AddsOnly (AsksAt id.number)) (events_of later (lost_at_once test number))
        lost-adds later true number = (tt, tt)
        lost-adds later false number = tt

        by : (process : Option AgentProcess) (peer : Option Member) → slice_get cluster.facts.members id.number ≡ peer
            → AllAre (AddsOnly (AsksAt id.number))
            (sending_events cluster member process (option_map (λ (m : Member). ends.Member m) peer) sequence
            (bodies.FailsafeRequest ttl))
        by None peer b = tt
        by (Some process) None b = tt
        by (Some process) (Some peer) b = (
          λ r is. ap (λ (x : Request). x.by) (sym (some-is _ r is)) ∙ members id.number peer b,
          lost-adds _ (nat_le most_in_flight (length cluster.facts.flight)) (cluster.facts.sent + 1),
        )

    pub each-told : (moments : Moments) (cluster : Cluster) (at : ℕ) (outs : List Output) → Mid moments cluster at
        → FitsFrom at outs → All IsOfTable outs → All (SendsBetween low after.knows.sequence) outs → All Feeds outs
        → Measures moments cluster (each (output_events member message) cluster outs)
    each-told moments cluster at [] mid fits table sends feeds = tells-none moments cluster mid.knows
    each-told moments cluster at (output ∷ more) mid fits table sends feeds =
        let one = All-head IsOfTable output more table in
        let next_cluster : Cluster = cluster_over cluster (Brings cluster output) in
        let feeds_one = feeds-at moments cluster at output mid (All-head Feeds output more feeds) in
        elim (fits-kind at output fits.0) [
          | inl quiet ↦
              let tells = told-quiet moments cluster output mid.knows mid.runs one quiet.0 feeds_one in
              told-then moments cluster (Brings cluster output)
              (each (output_events member message) next_cluster more) mid.knows tells
              (λ later. each-told (moments_over moments (Brings cluster output)) next_cluster (next at output) more
              (subst (Mid (moments_over moments (Brings cluster output)) next_cluster) (sym quiet.1)
              (mid-over IsOther moments cluster at at output one mid tells
              (output-adds cluster output mid.runs one quiet.0) (omega arith)
              (λ sent r other is. absurd (none-some r (sym other.0 ∙ is)))))
              fits.1 (All-tail IsOfTable output more table)
              (All-tail (SendsBetween low after.knows.sequence) output more sends) (All-tail Feeds output more feeds))
          | inr asks ↦
              let send : Output =
              outputs.Message (outgoing.Send (targets.Member asks.id) asks.sequence
              (bodies.FailsafeRequest asks.ttl)) in
              let number = subst (SendsBetween low after.knows.sequence) asks.is
              (All-head (SendsBetween low after.knows.sequence) output more sends) in
              let tells : Measures moments cluster (Brings cluster send) =
              told-request moments cluster at asks.id asks.sequence asks.ttl mid number.0 number.1 asks.low in
              let least : at ≤ asks.id.number = asks.low in
              subst (λ (x : Output). Measures moments cluster (each (output_events member message) cluster (x ∷ more)))
              (sym asks.is)
              (told-then moments cluster (Brings cluster send)
              (each (output_events member message) (cluster_over cluster (Brings cluster send)) more) mid.knows tells
              (λ later. each-told (moments_over moments (Brings cluster send))
              (cluster_over cluster (Brings cluster send)) (asks.id.number + 1) more
              (mid-over (AsksAt asks.id.number) moments cluster at (asks.id.number + 1) send
              (subst IsOfTable asks.is one) mid tells
              (request-adds cluster asks.id asks.sequence asks.ttl mid.knows.members) (omega (arith, least))
              (λ sent r asks_it is. let e : r.by ≡ asks.id.number = asks_it r is in omega (arith, e)))
              (subst (λ (x : Output). FitsFrom (next at x) more) asks.is fits.1) (All-tail IsOfTable output more table)
              (All-tail (SendsBetween low after.knows.sequence) output more sends) (All-tail Feeds output more feeds)))
        ]
