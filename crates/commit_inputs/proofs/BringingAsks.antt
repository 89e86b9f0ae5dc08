-- An input whose last output asks the key store: the law's input
-- covers all up to that question, which may be lost at once.
use Rattle.std.proofs.Common.{ℕ, ◌≡◌, ◌≤◌, ◌<◌, ◌+◌, ◌&&◌, ◌||◌, nat_le, Bool, true, false, List, [], ◌∷◌, ◌++◌, append_assoc, length, Option, Some, None, option_map, slice_get, All, refl, sym, ap, ◌∙◌, subst, arith}
use Rattle.std.proofs.Math.Bool.{or-false}
use Rattle.std.proofs.lemmas.List.Elements.{All-head, All-push, All-tail, All-weaker}
use Rattle.std.specs.List.{cons_option}
use Rattle.pat_base.specs.declared.lsn.Lsn.{Lsn}
use Rattle.pat_base.specs.declared.member_set.MemberSet.{MemberSet}
use Rattle.pat_base.specs.declared.ticks.Ticks.{Ticks}
use Rattle.store_keys.specs.declared.txn.Expected.{Expected}
use Rattle.store_keys.specs.declared.txn.Txn.{Txn}
use Rattle.pat_base.specs.declared.server_state.Required.{Required}
use Rattle.store_keys.specs.declared.txn.Txn.TheVariants as txns
use Rattle.store_keys.specs.declared.txn.LeaseTxn.TheVariants as lease_txns
use Rattle.store_keys.specs.declared.txn.SyncTxn.TheVariants as sync_txns
use Rattle.store_keys.specs.declared.value.HistoryRow.{HistoryRow}
use Rattle.store_keys.specs.declared.value.MemberInfo.{MemberInfo}
use Rattle.event_book.specs.declared.agent_process.AgentProcess.{AgentProcess}
use Rattle.event_book.specs.declared.event.Event.{Event}
use Rattle.event_book.specs.declared.event.EventKind.{EventKind}
use Rattle.event_book.specs.declared.event.EventKind.TheVariants as kinds
use Rattle.event_book.specs.declared.event.MessageEvent.TheVariants.{Sent}
use Rattle.event_book.specs.declared.link.LinkEnd.TheVariants as ends
use Rattle.event_book.specs.declared.member.Member.{Member}
use Rattle.event_book.specs.declared.message.Body.{Body}
use Rattle.event_book.specs.declared.message.Body.TheVariants as bodies
use Rattle.event_book.specs.declared.message.Message.{Message}
use Rattle.event_book.specs.Functions.{put_at, set_members}
use Rattle.script_model.specs.Script.{HeadText}
use Rattle.agent_model.specs.declared.output.Output.{Output}
use Rattle.agent_model.specs.declared.output.Output.TheVariants as outputs
use Rattle.agent_model.specs.declared.output.Outgoing.TheVariants as outgoing
use Rattle.agent_model.specs.declared.output.Target.TheVariants as targets
use Rattle.agent_commit_law.specs.Committing.{IsSent, IsSynchronousBody, IsSynchronousOutput, IsSynchronousTxn, KnowsBelow, is_carrying, is_claim_outside_sync, request_in, request_of_body, requests_of}
use Rattle.agent_model.specs.Agents.{AgentFacts}
use Rattle.agent_outputs.specs.Orders.{IsOfTable}
use Rattle.agent_commit_law.proofs.CommitQuiet.{asks-last, IsUnasking, uncarried}
use Rattle.agent_model.specs.Outputs.{has_one}
use Rattle.cluster_model.specs.Cluster.{agent_after, cluster_after, cluster_over}
use Rattle.cluster_model.proofs.Places.{get-here}
use Rattle.cluster_model.specs.Limits.{most_in_flight}
use Rattle.cluster_model.specs.Messages.{agent_message, lost_at_once, send_events, sending_events}
use Rattle.cluster_model.specs.Parts.{each, event_of, events_of}
use Rattle.cluster_model.specs.State.{Cluster}
use Rattle.lease_model.specs.Leases.{LeaderKey}
use Rattle.lease_model.proofs.Tools.{put-all, put-here, put-there}
use Rattle.commit_actions.proofs.Counting.{none-less}
use Rattle.commit_actions.specs.Stored.{quorum_written}
use Rattle.commit_actions.specs.Keys.{strict_quorum}
use Rattle.commit_actions.specs.Actions.{send}
use Rattle.commit_showing.specs.Books.{AllLeaveCommits}
use Rattle.commit_actions.specs.Flights.{Flying, Requested, SyncRequest}
use Rattle.commit_actions.specs.Functions.{forget}
use Rattle.commit_actions.specs.Inputs.{IsGivenByLease, Sending}
use Rattle.commit_actions.specs.States.{Reaches}
use Rattle.commit_actions.specs.Past.{position_of, publish_request, LeaseQuery, CarryQuery, OtherQuery, Past, Query, Setup, SyncQuery, confirmers_of, is_holder, past_after, past_over, query_in_flight_of, query_of, request_in_flight_of, was_live_by_message, was_live_by_txn}
use Rattle.commit_showing.proofs.Fronts.{past-append}
use Rattle.commit_servers.specs.Acting.{Fits}
use Rattle.commit_servers.specs.Matching.{live_in}
use Rattle.commit_servers.proofs.Beginning.{fits-aside}
use Rattle.lease_parts.specs.Bridged.{KnowsItself}
use Rattle.lease_parts.specs.Declaring.{declared_of}
use Rattle.run_promise.specs.Members.{member_count}
use Rattle.run_promise.proofs.Upholding.{over-append}
use Rattle.commit_showing.specs.Changes.{AllLeaveOrder}
use Rattle.commit_showing.specs.Order.{IsConfirmer}
use Rattle.commit_showing.specs.Requests.{MayBePublished, PublishesAwaited}
use Rattle.commit_showing.proofs.Asides.{leave-then, once-none}
use Rattle.commit_showing.proofs.Inside.{Seen, all-aside, seen_of}
use Rattle.commit_showing.proofs.Publishing.{publication, strict-publication}
use Rattle.sync_state.specs.Standbys.{noted_position}
use Rattle.commit_parts.specs.Ordered.{AllInOrder, AsksInOrder, noted_by}
use Rattle.commit_parts.proofs.Ordering.{order-then}
use Rattle.commit_parts.specs.Bridged.{CommitsBridged}
use Rattle.commit_parts.specs.Reading.{past_of, setup_of, state_of_run, volatile_of}
use Rattle.commit_inputs.proofs.Bringing.{Lawful, all-front, carried-unasking, each-last}
use Rattle.commit_inputs.proofs.Connected.{connected-member}
use Rattle.commit_outputs.proofs.Covering.{IsCarried, NoneAbove, Told, leave-both, none-later, own-both, put-none}
use Rattle.commit_inputs.proofs.Inputs.{Acting, After, Events, First, Open, Page, PageOf, Part, Theirs, first-none, front-acted, front-aside, front-fits, front-flight, front-leads, front-leaves, front-live, front-lives, front-needs, front-ordered, front-own, front-processes, front-told, fronts, page-moves, stays-on, table}
use Rattle.commit_parts.proofs.Moving.{moves-then}
use Rattle.commit_parts.specs.Moving.{Moves}
use Rattle.commit_outputs.proofs.Page.{BeginsNone, RequiresNone, carried-begins, carried-requires, none-begins}
use Rattle.commit_outputs.proofs.Sending.{lost-moves}
use Rattle.pat_base.specs.declared.member_id.TheConstants.{MOST_MEMBERS}

-- ---- what the law knows of a question
query-flying : (query : Query) → query_in_flight_of query ≡ option_map Requested (request_in query)
query-flying (SyncQuery request) = refl
query-flying LeaseQuery = refl
query-flying (CarryQuery member revision) = refl
query-flying OtherQuery = refl

body-flying : (member incarnation sequence : ℕ) (body : Body)
    → request_in_flight_of member incarnation sequence body
    ≡ option_map Requested (request_of_body member incarnation sequence body)
body-flying member incarnation sequence (bodies.Request txn) = query-flying (query_of member incarnation sequence txn)
body-flying member incarnation sequence _ = refl

-- whether it asks that the renewal carry a set for the failsafe key
abbrev carries_in : Body → Bool
carries_in body = is_carrying (outputs.Message (outgoing.Send targets.Store 0 body))

live-renew : (was : Bool) (leader : Option LeaderKey) (m revision : ℕ) (info : MemberInfo) (ttl : Ticks)
    (status : Option Lsn) (row : Option HistoryRow) (failsafe : Option MemberSet)
    → was_live_by_txn was leader m (txns.Lease (lease_txns.Renew revision info ttl status row failsafe))
    ≡ (was
    || (carries_in (bodies.Request (txns.Lease (lease_txns.Renew revision info ttl status row failsafe)))
    && is_holder leader m))
live-renew was leader m revision info ttl status row None = sym (or-false was)
live-renew was leader m revision info ttl status row (Some members) = refl

live-txn : (was : Bool) (leader : Option LeaderKey) (m : ℕ) (txn : Txn)
    → was_live_by_txn was leader m txn ≡ (was || (carries_in (bodies.Request txn) && is_holder leader m))
live-txn was leader m (txns.Lease (lease_txns.Renew revision info ttl status row failsafe)) =
    live-renew was leader m revision info ttl status row failsafe
live-txn was leader m _ = sym (or-false was)

live-body : (was : Bool) (leader : Option LeaderKey) (by : Member) (body : Body)
    → was_live_by_message was leader (ends.Member by) body ≡ (was || (carries_in body && is_holder leader by.id.number))
live-body was leader by (bodies.Request txn) = live-txn was leader by.id.number txn
live-body was leader by _ = sym (or-false was)

-- under whatever number, behind outputs that ask for none
carries-last : (front : List Output) (sequence : ℕ) (body : Body) → All (IsUnasking false) front
    → has_one is_carrying (front ++ outputs.Message (outgoing.Send targets.Store sequence body) ∷ []) ≡ carries_in body
carries-last [] sequence (bodies.Request (txns.Lease (lease_txns.Renew revision info ttl status row None))) all = refl
carries-last [] sequence (bodies.Request (txns.Lease (lease_txns.Renew revision info ttl status row (Some members))))
    all =
    refl
carries-last [] sequence _ all = refl
carries-last (output ∷ front) sequence body all =
    ap (λ (b : Bool).
    b || has_one is_carrying (front ++ outputs.Message (outgoing.Send targets.Store sequence body) ∷ []))
    (uncarried output (All-head (IsUnasking false) output front all))
    ∙ carries-last front sequence body (All-tail (IsUnasking false) output front all)

-- what is sent under a number, if it is a request that the law knows
abbrev sending_under : ℕ → Option SyncRequest → Option Sending
sending_under number request =
    option_map (λ (r : SyncRequest). let sending : Sending = record { number = number; request = r } in sending) request

sent-under : (number : ℕ) (request : Option SyncRequest)
    → IsSent (cons_option request []) (sending_under number request)
sent-under number None = refl
sent-under number (Some request) = (number, refl)

flight-under : (request : Option SyncRequest) (f g : ℕ → Option Flying) (number i : ℕ) → f number ≡ None
    → ((n : ℕ) → f n ≡ g n) → put_at f number (option_map Requested request) i ≡ send (sending_under number request) g i
flight-under None f g number i none same = put-none f number i none ∙ same i
flight-under (Some request) f g number i none same =
    put-all f number (Some (Requested request)) (λ n found. found ≡ put_at g number (Some (Requested request)) n)
    (sym (put-here g number (Some (Requested request))))
    (λ n other. same n ∙ sym (put-there g number (Some (Requested request)) n other)) i

pub last-of : (P : Output → Type 0) (front : List Output) (last : Output) → All P (front ++ last ∷ []) → P last
last-of P [] last all = All-head P last [] all
last-of P (output ∷ front) last all = last-of P front last (All-tail P output (front ++ last ∷ []) all)

lost-aside : (cluster : Cluster) (test : Bool) (number : ℕ)
    → AllLeaveOrder (events_of cluster (lost_at_once test number))
lost-aside cluster true number = (tt, tt)
lost-aside cluster false number = tt

lost-ordered : (past : Past) (cluster : Cluster) (test : Bool) (number : ℕ)
    → AllInOrder past cluster (events_of cluster (lost_at_once test number))
lost-ordered past cluster true number = (tt, tt)
lost-ordered past cluster false number = tt

lost-leave : (cluster : Cluster) (test : Bool) (number : ℕ)
    → AllLeaveCommits (events_of cluster (lost_at_once test number))
lost-leave cluster true number = (tt, tt)
lost-leave cluster false number = tt

module _ (head : HeadText) (book : List Event) (cluster : Cluster) (good : CommitsBridged head book cluster)
    (few : member_count head ≤ MOST_MEMBERS) (a : Acting head book cluster)
    (front : List Output) (sequence : ℕ) (body : Body) (all : All IsCarried front)
    (whole : front ++ outputs.Message (outgoing.Send targets.Store sequence body) ∷ []
    ≡ (After head book cluster good a).outputs) where
  abbrev M : ℕ
  M = a.member.id.number

  abbrev Law : Setup
  Law = setup_of head

  abbrev P : Past
  P = past_of head book

  abbrev Outs : List Output
  Outs = (After head book cluster good a).outputs

  abbrev Question : Output
  Question = outputs.Message (outgoing.Send targets.Store sequence body)

  abbrev of_table : All IsOfTable front
  of_table = all-front IsOfTable front (Question ∷ []) Outs whole (table head book cluster good a)

  abbrev Upto : List Event
  Upto = Page head book cluster good a front all of_table

  abbrev Reached : Cluster
  Reached = cluster_over cluster Upto

  abbrev Number : ℕ
  Number = Reached.facts.sent + 1

  abbrev Says : Message
  Says = agent_message a.member ends.Store a.agent.knows.incarnation sequence body

  abbrev Kind : EventKind
  Kind = kinds.Message (Sent Number Says)

  abbrev Asked : List Event
  Asked = event_of Reached Kind

  abbrev Lost : List Event
  Lost =
      events_of (cluster_after Reached Kind) (lost_at_once (nat_le most_in_flight (length Reached.facts.flight)) Number)

  abbrev Covered : List Event
  Covered = Upto ++ Asked

  -- ---- its events
  knows : KnowsItself (declared_of head).failsafe M (slice_get cluster.facts.processes M) a.agent
  knows = good.lease.matched.agents M a.agent a.here

  asks-is : Part head book cluster good a Reached Question ≡ Asked ++ Lost
  asks-is =
      ap (λ (o : Option AgentProcess). sending_events Reached a.member o (Some ends.Store) sequence body)
      (ap (λ (l : List AgentProcess). slice_get l M) (front-processes head book cluster good a front all of_table)
      ∙ knows.is)
      ∙ ap (λ (incarnation : ℕ). send_events Reached (agent_message a.member ends.Store incarnation sequence body))
      (sym knows.incarnation)

  whole-events : Events head book cluster good a ≡ Covered ++ Lost
  whole-events =
      ap (λ (l : List Output).
      Open head book cluster good a ∷ each (Part head book cluster good a) (First head book cluster good a) l)
      (sym whole)
      ∙ ap (λ (l : List Event). Open head book cluster good a ∷ l)
      (each-last (Part head book cluster good a) (First head book cluster good a) front Question)
      ∙ ap (λ (l : List Event). Upto ++ l) asks-is
      ∙ sym (append_assoc Upto Asked Lost)

  -- ---- what the law knows of it
  below : KnowsBelow (member_count head) a.heard
      (record { role = a.agent.role; knows = a.agent.knows; machine = a.machine; outputs = [] })
  below = record {
    published = a.below;
    connected = connected-member head book cluster good few a.member a.machine a.machine_is;
  }

  synchronous : IsSynchronousBody (member_count head) strict_quorum body
  synchronous = last-of (IsSynchronousOutput (member_count head) strict_quorum) front Question
      (subst (λ (l : List Output). All (IsSynchronousOutput (member_count head) strict_quorum) l) (sym whole)
      ((stays-on head book cluster good a).sends (member_count head) below))

  abbrev Request : Option SyncRequest
  Request = request_of_body M a.agent.knows.incarnation sequence body

  abbrev pub Sends : Option Sending
  Sends = sending_under Number Request

  still : All (IsUnasking false) front
  still = All-weaker IsCarried (IsUnasking false) carried-unasking front all

  sent : IsSent (requests_of M a.agent.knows.incarnation Outs) Sends
  sent = subst (λ (l : List Output). IsSent (requests_of M a.agent.knows.incarnation l) Sends) whole
      (subst (λ (l : List SyncRequest). IsSent l Sends)
      (sym (asks-last false M a.agent.knows.incarnation front Question still)) (sent-under Number Request))

  none-reached : NoneAbove (past_over P Upto) Reached
  none-reached = none-later M _ (First head book cluster good a) _
      (fronts head book cluster good a front all of_table) (first-none head book cluster good a front all of_table)

  past-both : past_over P Covered ≡ past_after (past_over P Upto) Kind
  past-both = past-append P Upto Asked

  reached-both : cluster_over cluster Covered ≡ cluster_after Reached Kind
  reached-both = over-append cluster Upto Asked

  requires-none : All RequiresNone Outs
  requires-none = subst (λ (l : List Output). All RequiresNone l) whole
      (All-push RequiresNone front Question (All-weaker IsCarried RequiresNone carried-requires front all) tt)

  begins-none : All BeginsNone Outs
  begins-none = subst (λ (l : List Output). All BeginsNone l) whole
      (All-push BeginsNone front Question (All-weaker IsCarried BeginsNone carried-begins front all) tt)

  flight-now : (i : ℕ) → (past_after (past_over P Upto) Kind).flight i ≡ send Sends (forget a.number P.flight) i
  flight-now i =
      ap (λ (o : Option Flying). put_at (past_over P Upto).flight Number o i)
      (body-flying M a.agent.knows.incarnation sequence body)
      ∙ flight-under Request (past_over P Upto).flight (forget a.number P.flight) Number i
      (none-reached Number (next Reached.facts.sent)) (front-flight head book cluster good a front all of_table)
    where
      next : (n : ℕ) → n < n + 1
      next n = omega arith

  asked-aside : AllLeaveOrder Covered
  asked-aside = leave-then Upto Asked (front-aside head book cluster good a front all of_table) (tt, tt)

  asked-leaves : AllLeaveCommits Covered
  asked-leaves = leave-both Upto Asked (front-leaves head book cluster good a front all of_table) (tt, tt)

  -- it is one page of the law, where its member takes no leader key past the sync key
  pub page : has_one is_claim_outside_sync Outs ≡ false → PageOf head book cluster good a Covered Sends
  page inside = record {
    own = own-both M Upto Asked (front-own head book cluster good a front all of_table) (tt, tt);
    leaves = asked-leaves;
    once = once-none Covered asked-aside;
    flight = λ i. ap (λ (p : Past). p.flight i) past-both ∙ flight-now i;
    live = ap (λ (p : Past). p.holder_was_live) past-both
        ∙ live-body (past_over P Upto).holder_was_live (past_over P Upto).lease.leader a.member body
        ∙ ap (λ (was : Bool). was || (carries_in body && is_holder (past_over P Upto).lease.leader M))
        (front-live head book cluster good a front all of_table)
        ∙ ap (λ (leader : Option LeaderKey). P.holder_was_live || (carries_in body && is_holder leader M))
        (front-leads head book cluster good a front all of_table)
        ∙ ap (λ (carries : Bool). P.holder_was_live || (carries && is_holder P.lease.leader M))
        (sym (carries-last front sequence body still) ∙ ap (has_one is_carrying) whole);
    needs = ap (λ (p : Past). confirmers_of (slice_get p.required M)) past-both
        ∙ front-needs head book cluster good a front all of_table requires-none;
    acted = ap (λ (c : Cluster). c.agents) reached-both ∙ front-acted head book cluster good a front all of_table;
    lives = λ n. ap (λ (c : Cluster). live_in c.facts.servers n) reached-both
        ∙ front-lives head book cluster good a front all of_table n;
    fits = λ states lives.
        subst (λ (p : Past). Fits p (cluster_over cluster Covered).facts states) (sym past-both)
        (subst (λ (c : Cluster). Fits (past_after (past_over P Upto) Kind) c.facts states) (sym reached-both)
        (fits-aside (past_over P Upto) Reached.facts states Kind tt
        (front-fits head book cluster good a front all of_table states lives)));
    sent = record { sent = sent; inside = inside };
  }

  -- what it brings changes nothing of which commits being kept speaks
  pub asks-leave : AllLeaveCommits (Events head book cluster good a)
  asks-leave = subst (λ (l : List Event). AllLeaveCommits l) (sym whole-events)
      (leave-both Covered Lost asked-leaves
      (lost-leave (cluster_after Reached Kind) (nat_le most_in_flight (length Reached.facts.flight)) Number))

  -- nor of which their order speaks
  pub asks-aside : AllLeaveOrder (Events head book cluster good a)
  asks-aside = subst (λ (l : List Event). AllLeaveOrder l) (sym whole-events)
      (leave-then Covered Lost asked-aside
      (lost-aside (cluster_after Reached Kind) (nat_le most_in_flight (length Reached.facts.flight)) Number))

  -- ---- who asks to publish does so in order
  here-behind : slice_get Reached.agents M ≡ Some (agent_after (Some (After head book cluster good a)) (Some a.agent))
  here-behind =
      ap (λ (known : List (Option AgentFacts)). slice_get known M)
      (front-acted head book cluster good a front all of_table)
      ∙ get-here cluster.agents M (agent_after (Some (After head book cluster good a)))
      ∙ ap (option_map (agent_after (Some (After head book cluster good a)))) a.here

  seen-same : seen_of (past_over P Upto) ≡ seen_of P
  seen-same = all-aside P Upto (front-aside head book cluster good a front all of_table)

  publishes-as : has_one is_claim_outside_sync Outs ≡ false → (revision : ℕ) (sync : Expected) (standbys : MemberSet)
      (may_lack : Option ℕ) → bodies.Request (txns.Sync (sync_txns.SetSync revision sync standbys may_lack)) ≡ body
      → PublishesAwaited P M (noted_position (After head book cluster good a).knows.noted)
      (publish_request M a.agent.knows.incarnation sequence revision sync standbys may_lack) (set_members standbys)
  publishes-as inside revision sync standbys may_lack is =
      let written : ℕ = quorum_written (txns.Sync (sync_txns.SetSync revision sync standbys may_lack)) in
      let noted : ℕ = noted_position (After head book cluster good a).knows.noted in
      let request : SyncRequest =
      publish_request M a.agent.knows.incarnation sequence revision sync standbys may_lack in
      let on : IsSynchronousTxn (member_count head) strict_quorum
      (txns.Sync (sync_txns.SetSync revision sync standbys may_lack)) =
      subst (λ (b : Body). IsSynchronousBody (member_count head) strict_quorum b) (sym is) synchronous in
      strict-publication (member_count head) P M noted request (set_members standbys)
      (subst (λ (quorum : ℕ). MayBePublished (member_count head) P M noted request (set_members standbys) quorum)
      (none-less written on.1)
      (publication (setup_of head) P (volatile_of cluster) M (Theirs head book cluster good a Sends)
      (record { number = Number; request = request }) (set_members standbys) written
      good.sound good.noted (Lawful head book cluster good few a Sends (page inside).sent).lawful
      (ap (λ (b : Body). sending_under Number (request_of_body M a.agent.knows.incarnation sequence b)) (sym is)) refl))
      on.0

  asked-ordered : has_one is_claim_outside_sync Outs ≡ false → (b : Body) → b ≡ body
      → AsksInOrder (past_over P Upto) Reached (ends.Member a.member) a.agent.knows.incarnation sequence b
  asked-ordered inside (bodies.Request (txns.Sync (sync_txns.SetSync revision sync standbys may_lack))) is =
      let at-first = publishes-as inside revision sync standbys may_lack is in
      record {
        key = at-first.key;
        is = ap (λ (seen : Seen). seen.sync) seen-same ∙ at-first.is;
        compares = at-first.compares;
        awaited = λ standby named.
            subst (λ (required : List Required). IsConfirmer (confirmers_of (slice_get required M)) standby)
            (sym (ap (λ (seen : Seen). seen.required) seen-same)) (at-first.awaited standby named);
        confirmed = λ standby named added.
            subst (λ (noted : ℕ). Reaches noted (position_of (slice_get (past_over P Upto).confirmed M) standby))
            (sym (ap noted_by here-behind))
            (subst (λ (told : Told). Reaches (noted_position (After head book cluster good a).knows.noted)
            (position_of (slice_get told.confirmed M) standby))
            (sym (front-told head book cluster good a front all of_table))
            (at-first.confirmed standby named added));
        since = λ standby named added.
            subst (λ (grown : ℕ → ℕ).
            Reaches (grown M) (position_of (slice_get (past_over P Upto).confirmed M) standby))
            (sym (ap (λ (seen : Seen). seen.grown) seen-same))
            (subst (λ (told : Told). Reaches (P.grown M) (position_of (slice_get told.confirmed M) standby))
            (sym (front-told head book cluster good a front all of_table))
            (at-first.since standby named added));
      }
  asked-ordered inside _ is = tt

  pub inside-ordered : has_one is_claim_outside_sync Outs ≡ false
      → AsksInOrder (past_over P Upto) Reached (ends.Member a.member) a.agent.knows.incarnation sequence body
  inside-ordered inside = asked-ordered inside body refl

  pub asks-ordered : AsksInOrder (past_over P Upto) Reached
      (ends.Member a.member) a.agent.knows.incarnation sequence body
      → AllInOrder P cluster (Events head book cluster good a)
  asks-ordered asked = subst (λ (l : List Event). AllInOrder P cluster l) (sym whole-events)
      (order-then P cluster Covered Lost
      (order-then P cluster Upto Asked (front-ordered head book cluster good a front all of_table) (asked, tt))
      (subst (λ (c : Cluster). AllInOrder (past_over P Covered) c Lost) (sym reached-both)
      (lost-ordered (past_over P Covered) (cluster_after Reached Kind)
      (nat_le most_in_flight (length Reached.facts.flight)) Number)))

  -- it is allowed actions, where the timed lease gives what it is to
  pub asks-moves : (inside : has_one is_claim_outside_sync Outs ≡ false)
      → IsGivenByLease (state_of_run head book cluster) M (Theirs head book cluster good a Sends)
      (Lawful head book cluster good few a Sends (page inside).sent).lawful.was
      (Lawful head book cluster good few a Sends (page inside).sent).lawful.does
      → Moves Law P cluster (Events head book cluster good a)
  asks-moves inside given = subst (λ (l : List Event). Moves Law P cluster l) (sym whole-events)
      (moves-then Law P cluster Covered Lost
      (page-moves head book cluster good a Covered Sends (page inside) (none-begins Outs begins-none) given)
      (λ fits. subst (λ (c : Cluster). Moves Law (past_over P Covered) c Lost) (sym reached-both)
      (lost-moves Law (past_over P Covered) (cluster_after Reached Kind)
      (nat_le most_in_flight (length Reached.facts.flight)) Number
      (subst (λ (c : Cluster). Fits (past_over P Covered) c.facts (volatile_of c)) reached-both fits))))
