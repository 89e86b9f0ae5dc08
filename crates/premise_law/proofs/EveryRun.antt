-- Each run keeps what is owed of each of its events.
use Rattle.std.proofs.Common.{ℕ, ◌≡◌, ◌≤◌, ◌==◌, ◌&&◌, ◌++◌, Bool, true, false, List, [], ◌∷◌, length, slice_get, Option, Some, None, option_map, refl, ◌∙◌, ap, sym, subst, append_assoc}
use Rattle.std.proofs.lemmas.Option.{slice_get-map}
use Rattle.pat_base.specs.declared.member_id.MemberId.{MemberId}
use Rattle.pat_base.specs.declared.member_id.TheConstants.{MOST_MEMBERS}
use Rattle.pat_base.specs.declared.ticks.Ticks.{Ticks}
use Rattle.lease_store.specs.declared.granted.Granted.{Granted}
use Rattle.cluster_view.specs.Snapshots.{SnapshotFacts}
use Rattle.script_model.specs.Script.{HeadText, IsHead, names_of}
use Rattle.event_book.specs.declared.event.AgentEvent.TheVariants as agents
use Rattle.event_book.specs.declared.event.Event.{Event}
use Rattle.event_book.specs.declared.event.EventKind.{EventKind}
use Rattle.event_book.specs.declared.event.EventKind.TheVariants as kinds
use Rattle.event_book.specs.declared.event.MessageEvent.TheVariants as messages
use Rattle.event_book.specs.declared.event.StoreEvent.TheVariants as stores
use Rattle.event_book.specs.declared.link.LinkEnd.{LinkEnd}
use Rattle.event_book.specs.declared.link.LinkEnd.TheVariants as ends
use Rattle.event_book.specs.declared.member.Member.{Member}
use Rattle.event_book.specs.declared.message.Body.{Body}
use Rattle.event_book.specs.declared.message.Body.TheVariants as bodies
use Rattle.event_book.specs.declared.message.Message.{Message}
use Rattle.event_book.specs.Facts.{Facts, facts_over}
use Rattle.event_book.specs.Flight.{InFlightFacts, grant_for, in_flight}
use Rattle.event_book.specs.Kinds.{AllAre}
use Rattle.agent_model.specs.declared.heard.Heard.{Heard}
use Rattle.agent_model.specs.declared.heard.Heard.TheVariants as heards
use Rattle.agent_model.specs.declared.machine.Machine.{Machine}
use Rattle.agent_model.specs.Agents.{AgentFacts, Outcome, outcome_from}
use Rattle.agent_model.specs.Decisions.{is_lease_of}
use Rattle.agent_model.specs.Table.{step}
use Rattle.agent_outputs.proofs.Orders.{step-carried-out}
use Rattle.cluster_model.specs.declared.heard_message.HeardMessage.{HeardMessage}
use Rattle.cluster_model.specs.declared.step.Step.{Step}
use Rattle.cluster_model.specs.Cluster.{agent_after, agent_facts_after, agent_facts_reached, agent_facts_reached_at, agent_facts_with, cluster_after, cluster_over}
use Rattle.cluster_model.specs.Hearing.{heard_from, heard_in, member_at_end, snapshot_in}
use Rattle.cluster_model.specs.Inputs.{agent_at, moment_of, outcome_at, outcome_of, outcome_of_heard}
use Rattle.cluster_model.specs.Machines.{machine_of, points_of}
use Rattle.cluster_model.specs.Messages.{hear_events, heard_message, input_events, no_message, operate_events, output_events, wake_events_of}
use Rattle.cluster_model.specs.Next.{declared, run_events}
use Rattle.cluster_model.specs.Parts.{each, event_of}
use Rattle.cluster_model.specs.Requests.{action_of}
use Rattle.cluster_model.specs.Starting.{cluster_of, first_agent}
use Rattle.cluster_model.specs.State.{Cluster}
use Rattle.cluster_model.proofs.Places.{get-here}
use Rattle.run_promise.specs.Members.{declared_members}
use Rattle.run_promise.specs.Parts.{PartsUphold}
use Rattle.run_promise.proofs.Members.{few-names, members-over, numbered}
use Rattle.run_promise.proofs.Upholding.{over-append}
use Rattle.run_promise.proofs.Walking.{upholds-run}
use Rattle.lease_parts.specs.Machines.{run_in, run_now}
use Rattle.lease_inputs.proofs.InputStays.{each-mine}
use Rattle.commit_runs.specs.Runs.{start_in}
use Rattle.premise_law.specs.Feeding.{ActsOnItsGrant, BeginsNoInput, FeedOnTheirGrants, lease_answer}
use Rattle.premise_law.specs.Passing.{PassOutside}
use Rattle.premise_law.proofs.Inputs.{input-said, outside-read}
use Rattle.premise_law.proofs.ReadKeys.{KnowRead, Knowing, KnowsRead, knowing-over}
use Rattle.premise_law.proofs.Readings.{WasSent}
use Rattle.premise_law.proofs.Runs.{AllSaid, AreSaid, IsOfGrant, SaidSoFar, Says, TellsGrant, answer-said, composable, no-more, said, said-both, upheld-said, upheld-untold}
use Rattle.premise_law.proofs.TakeOvers.{at-place, none-some, some-same}
use Rattle.premise_law.proofs.Telling.{HearsLease, IsOutside, TellsOnly, step-told}
use Rattle.premise_law.proofs.Untold.{acknowledge-untold, command-untold, promote-untold, received-untold, restart-untold, tick-untold}

-- ---- a grant that is heard
granted_if : Option Heard → Option Granted
granted_if (Some (heards.Granted sequence grant snapshot)) = Some grant
granted_if _ = None

no-grant : {X : Type 0} (grant : Granted) (f : X → Heard) → ((x : X) → granted_if (Some (f x)) ≡ None)
    → (found : Option X) → granted_if (option_map f found) ≡ Some grant → ⊥
unfolding granted_if
no-grant grant f none None e = none-some grant e
no-grant grant f none (Some x) e = none-some grant (sym (none x) ∙ e)

same-grant : (sequence : ℕ) (snapshot : SnapshotFacts) (grant : Granted) (found : Option Granted)
    → granted_if (option_map (λ (given : Granted). heards.Granted sequence given snapshot) found) ≡ Some grant
    → found ≡ Some grant
unfolding granted_if
same-grant sequence snapshot grant None e = absurd (none-some grant e)
same-grant sequence snapshot grant (Some given) e = e

record TellsIt (carried : InFlightFacts) (grant : Granted) : Type 0 where
  request : ℕ
  leased : Bool
  body : carried.message.body ≡ bodies.Granted request leased
  is : carried.grant ≡ Some grant

granted-in : (cluster : Cluster) (carried : InFlightFacts) (grant : Granted) (body : Body)
    → carried.message.body ≡ body → granted_if (heard_in cluster carried body) ≡ Some grant → TellsIt carried grant
unfolding granted_if
granted-in cluster carried grant (bodies.Granted request leased) is e = record {
  request = request;
  leased = leased;
  body = is;
  is = same-grant carried.message.sequence (snapshot_in cluster carried) grant carried.grant e;
}
granted-in cluster carried grant bodies.Snapshot is e = absurd (none-some grant e)
granted-in cluster carried grant (bodies.Refused request key found) is e = absurd (none-some grant e)
granted-in cluster carried grant bodies.Ask is e = absurd
    (no-grant grant (λ (from : MemberId).
    heards.Asked from carried.message.incarnation carried.message.sequence) (λ from. refl)
    (member_at_end carried.message.from) e)
granted-in cluster carried grant (bodies.Answer answer) is e = absurd (none-some grant e)
granted-in cluster carried grant (bodies.FailsafeRequest ttl) is e = absurd
    (no-grant grant (λ (from : MemberId).
    heards.FailsafeAsked from carried.message.incarnation carried.message.sequence ttl) (λ from. refl)
    (member_at_end carried.message.from) e)
granted-in cluster carried grant (bodies.FailsafeAnswer accepted) is e = absurd
    (no-grant grant (λ (from : MemberId).
    heards.FailsafeAnswered from carried.message.sequence accepted carried.sent) (λ from. refl)
    (member_at_end carried.message.from) e)
granted-in cluster carried grant bodies.Read is e = absurd (none-some grant e)
granted-in cluster carried grant (bodies.Request txn) is e = absurd (none-some grant e)

and-first : (a b : Bool) → a && b ≡ true → a ≡ true
and-first true b e = refl
and-first false b e = e

member-same : (one other : Member) → ends.Member one ≡ ends.Member other → one ≡ other
member-same one other e = cc

message-is : (m : Message) (from to : LinkEnd) (body : Body) → m.from ≡ from → m.to ≡ to → m.body ≡ body
    → m ≡ record { from = from; to = to; incarnation = m.incarnation; sequence = m.sequence; body = body }
message-is m from to body one two three =
    ap (λ (end : LinkEnd). record {
      from = end;
      to = m.to;
      incarnation = m.incarnation;
      sequence = m.sequence;
      body = m.body;
    }) one
    ∙ ap (λ (end : LinkEnd). record {
      from = from;
      to = end;
      incarnation = m.incarnation;
      sequence = m.sequence;
      body = m.body;
    }) two
    ∙ ap (λ (b : Body). record {
      from = from;
      to = to;
      incarnation = m.incarnation;
      sequence = m.sequence;
      body = b;
    }) three

-- the answer to a member tells what it was given
tells-lease : (start : Facts) (book : List Event) (number : ℕ) (carried : InFlightFacts)
    (was : WasSent start book number carried) (member : Member) → carried.message.to ≡ ends.Member member
    → (request : ℕ) (leased : Bool) → carried.message.body ≡ bodies.Granted request leased → (grant : Granted)
    → carried.grant ≡ Some grant → grant.leased ≡ true → leased ≡ true
tells-lease start book number carried was member to request leased body grant is mine =
    let revision : ℕ = (facts_over start was.earlier).keys.revision in
    let given : Granted = record { revision = revision; by = member.id; leased = leased } in
    let one : grant_for (bodies.Granted request leased) (ends.Member member) revision
    ≡ grant_for (bodies.Granted request leased) carried.message.to revision =
    ap (λ (end : LinkEnd). grant_for (bodies.Granted request leased) end revision) (sym to) in
    let two : grant_for (bodies.Granted request leased) carried.message.to revision
    ≡ grant_for carried.message.body carried.message.to revision =
    ap (λ (b : Body). grant_for b carried.message.to revision) (sym body) in
    let three : grant_for carried.message.body carried.message.to revision ≡ carried.grant =
    sym (ap (λ (c : InFlightFacts). c.grant) was.carries) in
    ap (λ (g : Granted). g.leased) (some-same given grant (one ∙ two ∙ three ∙ is)) ∙ mine

-- the events that tell of a grant stand behind one another
tells-behind : (earlier front later book done : List Event) (grant sent came : Event)
    → front ≡ earlier ++ grant ∷ [] → book ≡ front ++ sent ∷ later
    → (book ++ came ∷ []) ++ done ≡ earlier ++ grant ∷ sent ∷ (later ++ came ∷ done)
tells-behind earlier front later book done grant sent came is parts =
    append_assoc book (came ∷ []) done
    ∙ ap (λ (l : List Event). l ++ came ∷ done)
    (parts ∙ ap (λ (l : List Event). l ++ sent ∷ later) is ∙ append_assoc earlier (grant ∷ []) (sent ∷ later))
    ∙ append_assoc earlier (grant ∷ sent ∷ later) (came ∷ done)

acts-on : (front later book done : List Event) (member : Member) (number : ℕ) (message : Message) (request : ℕ)
    {leased : Bool} (of_grant : IsOfGrant front message request leased) → leased ≡ true → of_grant.by ≡ member
    → message ≡ lease_answer member message.incarnation message.sequence request → (sent came : Ticks)
    → book ≡ front ++ record { tick = sent; kind = kinds.Message (messages.Sent number message) } ∷ later
    → AllAre BeginsNoInput done
    → ActsOnItsGrant ((book ++ record { tick = came; kind = kinds.Message (messages.Delivered number) } ∷ []) ++ done)
    member number
acts-on front later book done member number message request of_grant leased its answers sent came parts within =
    let end : List Event = later ++ record { tick = came; kind = kinds.Message (messages.Delivered number) } ∷ done in
    let grant_by : Member → Event = λ by. record {
      tick = of_grant.tick;
      kind = kinds.Store (stores.Granted request by of_grant.txn of_grant.standbys);
    } in
    let sent_as : Message → Event = λ m. record { tick = sent; kind = kinds.Message (messages.Sent number m) } in
    record {
      earlier = of_grant.earlier;
      between = later;
      within = done;
      granted = of_grant.tick;
      sent = sent;
      came = came;
      request = request;
      txn = of_grant.txn;
      standbys = of_grant.standbys;
      incarnation = message.incarnation;
      sequence = message.sequence;
      is = tells-behind of_grant.earlier front later book done (grant_by of_grant.by) (sent_as message)
          (record { tick = came; kind = kinds.Message (messages.Delivered number) }) of_grant.is parts
          ∙ ap (λ (by : Member). of_grant.earlier ++ grant_by by ∷ sent_as message ∷ end) its
          ∙ ap (λ (m : Message). of_grant.earlier ++ grant_by member ∷ sent_as m ∷ end) answers;
      leases = of_grant.leases ∙ leased;
      input = within;
    }

the-outcome : (cluster : Cluster) (member : Member) (heard : Heard) (agent : Option AgentFacts)
    (machine : Option Machine) → agent_at cluster.agents member.id.number ≡ agent → machine_of cluster member ≡ machine
    → outcome_of cluster member heard ≡ outcome_at (moment_of cluster) (points_of cluster member) heard agent machine
the-outcome cluster member heard agent machine a m =
    ap (λ (x : Option AgentFacts).
    outcome_at (moment_of cluster) (points_of cluster member) heard x (machine_of cluster member)) a
    ∙ ap (λ (y : Option Machine). outcome_at (moment_of cluster) (points_of cluster member) heard agent y) m

module _ (head : HeadText) (few : length (names_of head) ≤ MOST_MEMBERS) where
  abbrev Start : Facts
  Start = start_in head

  -- ---- before the first event
  first-by : (m : ℕ) (agent : AgentFacts) (found : Option Member) → slice_get (declared_members head) m ≡ found
      → option_map (first_agent head.cluster (cluster_of head).options (declared_members head)) found
      ≡ Some (Some agent)
      → KnowsRead Start [] m agent
  first-by m agent None is e = absurd (none-some (Some agent) e)
  first-by m agent (Some one) is e =
      subst (KnowsRead Start [] m) (some-same _ agent (some-same _ (Some agent) e))
      (record { me = numbered head few m one is; read = λ read turn. absurd (none-some read turn) })

  first-known : KnowRead Start [] (cluster_of head).agents
  first-known m agent is = first-by m agent (slice_get (declared_members head) m) refl
      (sym (slice_get-map (first_agent head.cluster (cluster_of head).options (declared_members head))
      (declared_members head) m) ∙ is)

  first-knowing : Knowing Start [] (cluster_of head)
  first-knowing = record {
    left = refl;
    flown = record { order = tt; sent = λ i carried e. absurd (none-some carried e) };
    known = first-known;
  }

  module _ (book : List Event) (cluster : Cluster) (good : SaidSoFar head book cluster) where
    knowing : Knowing Start book cluster
    knowing = subst (Knowing Start book) (sym good.left) (knowing-over Start [] (cluster_of head) book first-knowing)

    stands : (n : ℕ) (peer : Member) → slice_get cluster.facts.members n ≡ Some peer → peer.id.number ≡ n
    stands n peer is = numbered head few n peer
        (sym (ap (λ (l : List Member). slice_get l n)
        (ap (λ (c : Cluster). c.facts.members) good.left ∙ members-over (cluster_of head) book)) ∙ is)

    -- ---- an input of an agent
    module _ (member : Member) (opening : EventKind) (message : HeardMessage) (opens : Says head book opening) where
      abbrev Opened : List Event
      Opened = event_of cluster opening

      abbrev First : Cluster
      First = cluster_after cluster opening

      abbrev Owed : Option Outcome → Type 0
      Owed outcome = AreSaid head book (Opened ++ input_events First member message outcome)

      idle : Owed None
      idle = (opens, tt)

      acts : (heard : Heard) (agent : AgentFacts) (machine : Machine)
          → agent_facts_after cluster opening
          ≡ agent_facts_with cluster.agents member (outcome_of cluster member heard)
          → agent_at cluster.agents member.id.number ≡ Some agent → machine_of cluster member ≡ Some machine
          → ((me : MemberId) → HearsLease me heard → (done : List Event) → AllAre BeginsNoInput done
          → ActsOnItsGrant ((book ++ Opened) ++ done) member message.number)
          → Owed (Some (step (moment_of cluster) (points_of cluster member) heard
          (outcome_from agent.role agent.knows machine [])))
      acts heard agent machine acted a m lease =
          let x : Outcome = step (moment_of cluster) (points_of cluster member) heard
          (outcome_from agent.role agent.knows machine []) in
          let after : AgentFacts = record { role = x.role; knows = x.knows } in
          let incarnation : ℕ = run_in First.facts.processes member.id.number in
          let U : Type 0 = IsOutside x in
          let F : Type 0 = HearsLease agent.knows.who.me heard in
          let front : List Event = book ++ Opened in
          let knows : Knowing Start front First = knowing-over Start book cluster Opened knowing in
          let left : First ≡ cluster_over (cluster_of head) front =
          ap (λ (c : Cluster). cluster_over c Opened) good.left ∙ sym (over-append (cluster_of head) book Opened) in
          let there : slice_get First.agents member.id.number ≡ Some (Some after) =
          ap (λ (l : List (Option AgentFacts)). slice_get l member.id.number)
          (acted ∙ ap (agent_facts_with cluster.agents member)
          (the-outcome cluster member heard (Some agent) (Some machine) a m))
          ∙ get-here cluster.agents member.id.number (agent_after (Some x))
          ∙ ap (option_map (agent_after (Some x))) (at-place (slice_get cluster.agents member.id.number) agent a) in
          said-both head book Opened (each (output_events member message) First x.outputs) (opens, tt)
          (input-said member incarnation message.number U F head front First knows
          (λ done all is. lease agent.knows.who.me is done all)
          (outside-read member incarnation message.number U F head front First knows left after there)
          (each (output_events member message) First x.outputs)
          (each-mine member incarnation message.number (λ output. TellsOnly U F output) First message refl (record {
            process = λ process found. sym (ap run_now found);
            numbered = stands;
          }) x.outputs
          (step-carried-out (moment_of cluster) (points_of cluster member) heard agent.role agent.knows machine).kinds
          (step-told (moment_of cluster) (points_of cluster member) agent machine heard).outs))

      hears-by : (heard : Heard) (agent : Option AgentFacts) (machine : Option Machine)
          → agent_facts_after cluster opening
          ≡ agent_facts_with cluster.agents member (outcome_of cluster member heard)
          → agent_at cluster.agents member.id.number ≡ agent → machine_of cluster member ≡ machine
          → ((me : MemberId) → HearsLease me heard → (done : List Event) → AllAre BeginsNoInput done
          → ActsOnItsGrant ((book ++ Opened) ++ done) member message.number)
          → Owed (outcome_at (moment_of cluster) (points_of cluster member) heard agent machine)
      hears-by heard None machine acted a m lease = idle
      hears-by heard (Some agent) None acted a m lease = idle
      hears-by heard (Some agent) (Some machine) acted a m lease = acts heard agent machine acted a m lease

      hears-it : (heard : Heard)
          → agent_facts_after cluster opening
          ≡ agent_facts_with cluster.agents member (outcome_of cluster member heard)
          → ((me : MemberId) → HearsLease me heard → (done : List Event) → AllAre BeginsNoInput done
          → ActsOnItsGrant ((book ++ Opened) ++ done) member message.number)
          → Owed (outcome_of cluster member heard)
      hears-it heard acted lease = hears-by heard (agent_at cluster.agents member.id.number)
          (machine_of cluster member) acted refl refl lease

    -- ---- a message that comes
    module _ (number : ℕ) (carried : InFlightFacts) (member : Member)
        (found : in_flight cluster.facts.flight number ≡ Some carried)
        (to : carried.message.to ≡ ends.Member member) where
      abbrev Arrived : EventKind
      Arrived = kinds.Message (messages.Delivered number)

      lease-of : (me : MemberId) (sequence : ℕ) (grant : Granted) (snapshot : SnapshotFacts)
          → heard_from cluster carried ≡ Some (heards.Granted sequence grant snapshot) → is_lease_of me grant ≡ true
          → (done : List Event) → AllAre BeginsNoInput done
          → ActsOnItsGrant ((book ++ event_of cluster Arrived) ++ done) member number
      unfolding granted_if
      lease-of me sequence grant snapshot says mine done within =
          let it : TellsIt carried grant =
          granted-in cluster carried grant carried.message.body refl (ap granted_if says) in
          let was : WasSent Start book number carried = knowing.flown.sent number carried found in
          let leased : it.leased ≡ true =
          tells-lease Start book number carried was member to it.request it.leased it.body grant it.is
          (and-first grant.leased (grant.by.number == me.number) mine) in
          let sent : Event = record { tick = was.tick; kind = kinds.Message (messages.Sent number carried.message) } in
          let of_grant : IsOfGrant was.earlier carried.message it.request it.leased =
          subst (TellsGrant was.earlier carried.message) it.body
          (good.all was.earlier was.later sent (sym was.is)).sends in
          let its : of_grant.by ≡ member = member-same of_grant.by member (sym of_grant.to ∙ to) in
          let answers : carried.message
          ≡ lease_answer member carried.message.incarnation carried.message.sequence it.request =
          message-is carried.message ends.Store (ends.Member member) (bodies.Granted it.request true)
          of_grant.from to (it.body ∙ ap (bodies.Granted it.request) leased) in
          acts-on was.earlier was.later book done member number carried.message it.request of_grant leased its answers
          was.tick (record { 0 = (cluster_after cluster Arrived).facts.clock }) was.is within

      lease-by : (heard : Heard) → heard_from cluster carried ≡ Some heard → (me : MemberId) → HearsLease me heard
          → (done : List Event) → AllAre BeginsNoInput done
          → ActsOnItsGrant ((book ++ event_of cluster Arrived) ++ done) member number
      lease-by (heards.Granted sequence grant snapshot) says me mine done within =
          lease-of me sequence grant snapshot says mine done within
      lease-by _ says me mine done within = absurd mine

      acted : (heard : Option Heard) → heard_from cluster carried ≡ heard
          → agent_facts_after cluster Arrived
          ≡ agent_facts_with cluster.agents member (outcome_of_heard cluster member heard)
      acted heard h = ap (agent_facts_reached cluster) found
          ∙ ap (λ (end : LinkEnd). agent_facts_reached_at cluster carried end) to
          ∙ ap (λ (x : Option Heard). agent_facts_with cluster.agents member (outcome_of_heard cluster member x)) h

      heard-said : (heard : Option Heard) → heard_from cluster carried ≡ heard
          → AreSaid head book
          (event_of cluster Arrived ++ input_events (cluster_after cluster Arrived) member
          (heard_message number carried) (outcome_of_heard cluster member heard))
      heard-said None h = (record { feeds = tt; passes = tt; sends = tt }, tt)
      heard-said (Some heard) h = hears-it member Arrived (heard_message number carried)
          (record { feeds = tt; passes = tt; sends = tt }) heard (acted (Some heard) h) (lease-by heard h)

      hearing-said : AreSaid head book (hear_events cluster number carried member)
      hearing-said = heard-said (heard_from cluster carried) refl

    wake-said : (member : Member) → AreSaid head book (wake_events_of cluster member)
    wake-said member = hears-it member (kinds.Agent (agents.Woken member)) no_message
        (record { feeds = tt; passes = tt; sends = tt }) heards.Wake refl (λ me mine. absurd mine)

    operated-said : (member : Member) (action : _) → AreSaid head book (operate_events cluster member action)
    operated-said member action = hears-it member (kinds.Agent (agents.Operated member action)) no_message
        (record { feeds = tt; passes = tt; sends = tt }) (heards.Operated action) refl (λ me mine. absurd mine)

  -- ---- every run
  abbrev IsAny : Member → Type 0
  IsAny member = Unit {0}

  parts : PartsUphold IsAny (said head)
  parts = record {
    members = λ book cluster good i member is. tt;
    inputs = record {
      wakes = λ book cluster member process good is found acts.
          upheld-said head book cluster _ good (wake-said book cluster good member);
      hears = λ book cluster number message member good found to through.
          upheld-said head book cluster _ good (hearing-said book cluster good number message member found to);
      operates = λ book cluster member process o request asked good is found acts stands answers.
          upheld-said head book cluster _ good (operated-said book cluster good member (action_of o asked));
    };
    arrivals = λ book cluster number message good found to. upheld-said head book cluster _ good (
      record { feeds = tt; passes = tt; sends = tt },
      answer-said head _ _ number message.message message.message.body,
    );
    losses = λ number book cluster good. upheld-untold head book cluster _ good (tt, tt);
    notes = λ note book cluster good. upheld-untold head book cluster _ good (tt, tt);
    ticks = λ book cluster good. upheld-untold head book cluster _ good (tick-untold cluster);
    receipts = λ most member book cluster good.
        upheld-untold head book cluster _ good (received-untold cluster most member);
    acknowledgements = λ member book cluster good.
        upheld-untold head book cluster _ good (acknowledge-untold cluster member);
    restarts = λ id book cluster good.
        upheld-untold head book cluster _ good (restart-untold cluster (declared cluster id));
    promotions = λ member is book cluster good.
        upheld-untold head book cluster _ good (promote-untold cluster member);
    commands = λ command book cluster good.
        upheld-untold head book cluster _ good (command-untold cluster command);
  }

  first-said : SaidSoFar head [] (cluster_of head)
  first-said = record { all = λ front rest event e. absurd (no-more front event rest e); left = refl }

  all-said : (steps : List Step) → AllSaid head (run_events (cluster_of head) steps)
  all-said steps = ((upholds-run IsAny (said head) (composable head) parts steps [] (cluster_of head) first-said).behind
      tt).all

pub runs-feed : (head : HeadText) → IsHead head → (steps : List Step)
    → FeedOnTheirGrants (run_events (cluster_of head) steps)
runs-feed head is steps front rest event e = (all-said head (few-names head is) steps front rest event e).feeds

pub runs-pass : (head : HeadText) → IsHead head → (steps : List Step)
    → PassOutside head (run_events (cluster_of head) steps)
runs-pass head is steps front rest event e = (all-said head (few-names head is) steps front rest event e).passes
