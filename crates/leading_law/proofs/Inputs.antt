-- The inputs of a leader, as what they leave of the cluster.
use Rattle.std.proofs.Common.{ℕ, ◌≡◌, ◌+◌, ◌≤◌, ◌<◌, ◌==◌, nat_le, true, false, List, [], length, Option, Some, None, option_map, option_and_then, slice_get, refl, sym, ap, subst, ◌∙◌, arith, inl, inr}
use Rattle.pat_base.specs.declared.member_id.MemberId.{MemberId}
use Rattle.pat_base.specs.declared.ticks.Ticks.{Ticks}
use Rattle.store_keys.specs.declared.config.Config.{Config}
use Rattle.store_keys.specs.declared.txn.Txn.TheVariants as txns
use Rattle.store_keys.specs.declared.txn.LeaseTxn.TheVariants as lease_txns
use Rattle.lease_store.specs.declared.granted.Granted.{Granted}
use Rattle.cluster_view.specs.declared.snapshot.LeaderEntry.{LeaderEntry}
use Rattle.cluster_view.specs.Snapshots.{SnapshotFacts, leader_in, settings_in}
use Rattle.event_book.specs.declared.agent_process.AgentProcess.{AgentProcess}
use Rattle.event_book.specs.declared.event.AgentEvent.TheVariants as agents
use Rattle.event_book.specs.declared.event.EventKind.TheVariants as kinds
use Rattle.event_book.specs.declared.event.MessageEvent.TheVariants.{Delivered}
use Rattle.event_book.specs.declared.link.LinkEnd.{LinkEnd}
use Rattle.event_book.specs.declared.link.LinkEnd.TheVariants as ends
use Rattle.event_book.specs.declared.member.Member.{Member}
use Rattle.event_book.specs.declared.message.Body.{Body}
use Rattle.event_book.specs.declared.message.Body.TheVariants as bodies
use Rattle.event_book.specs.declared.message.Message.{Message}
use Rattle.event_book.specs.Flight.{Flight, InFlightFacts, in_flight}
use Rattle.cluster_model.specs.Limits.{most_in_flight}
use Rattle.agent_model.specs.declared.heard.Heard.{Heard}
use Rattle.agent_model.specs.declared.heard.Heard.TheVariants as heards
use Rattle.agent_model.specs.declared.knowledge.PendingQuestion.{PendingQuestion}
use Rattle.agent_model.specs.declared.knowledge.Question.TheVariants.{Renewing, Syncing}
use Rattle.agent_model.specs.declared.knowledge.Settling.{Settling}
use Rattle.agent_model.specs.Decisions.{is_write_of}
use Rattle.agent_model.specs.Operators.{awaits_number}
use Rattle.store_keys.specs.declared.key.Key.{Key}
use Rattle.store_keys.specs.declared.txn.Expected.{Expected}
use Rattle.agent_model.specs.declared.machine.Machine.{Machine}
use Rattle.agent_model.specs.declared.output.Output.{Output}
use Rattle.agent_model.specs.declared.output.Output.TheVariants as outputs
use Rattle.agent_model.specs.declared.output.Outgoing.TheVariants as outgoing
use Rattle.agent_model.specs.declared.output.Target.TheVariants as targets
use Rattle.agent_model.specs.Acting.{comes_late, deadline_after, fed_until}
use Rattle.agent_model.specs.declared.knowledge.Knowledge.{Knowledge}
use Rattle.agent_model.specs.Agents.{AgentFacts, Outcome, RoleFacts}
use Rattle.agent_model.specs.Outputs.{with_output}
use Rattle.agent_model.specs.Pausing.{is_paused}
use Rattle.agent_model.specs.Snapshots.{awaits_read, informed}
use Rattle.agent_model.specs.Table.{step}
use Rattle.agent_roles.specs.Powers.{IsAwaitedLease}
use Rattle.cluster_model.specs.declared.heard_message.HeardMessage.{HeardMessage}
use Rattle.cluster_model.specs.Cluster.{agent_after, agent_facts_reached, agent_facts_reached_at, agent_facts_with, cluster_after, cluster_over}
use Rattle.cluster_model.specs.Hearing.{heard_from}
use Rattle.cluster_model.specs.Inputs.{agent_at, moment_of, outcome_of, outcome_of_heard, outputs_of, standing, standing_of}
use Rattle.cluster_model.specs.Machines.{machine_of, points_of}
use Rattle.cluster_model.specs.Messages.{agent_message, hear_events, heard_message, input_events, no_message, output_events, wake_events_of}
use Rattle.cluster_model.specs.Parts.{each}
use Rattle.cluster_model.specs.State.{Cluster}
use Rattle.cluster_model.proofs.Places.{get-here}
use Rattle.lease_model.proofs.Tools.{dropped, none-some, some-is}
use Rattle.lease_book.specs.Flights.{Rises}
use Rattle.lease_book.proofs.Entries.{in-without, rises-without}
use Rattle.leading_law.specs.Leading.{AnswersAlone, AnswersNumber, AwaitsNoPeer, IsPeerAnswer, AreTold, HasSynced, IsLeading, IsRenewed, Requires, Stays, StepsOnce, Writes}
use Rattle.leading_law.proofs.Turns.{answers-asked, begins, refuses, renewed, renews, sleeps, waits}
use Rattle.leading_law.proofs.Dropping.{drops, drops-peer, synced, unsynced}
use Rattle.leading_law.proofs.Outputs.{Required_at, required-same, FedAt, IsFed, fed-at, over-fed, untouched-then, sent-untouched, one-behind, answering}
use Rattle.leading_law.specs.OwnInputs.{AnswersOnly, GoesOn, HasRoom, HasSettled, LeadsOnAt, NumbersRise, Rests, SendsOne, SleepsOn, StandsSo, Syncs, TakesTurn}
use Rattle.leading_law.proofs.Sending.{Next, Over, asks-store, over-one, over-with, sends-one, told-then}

-- ---- an agent that stands has done nothing yet
record IsStanding (agent : Option AgentFacts) (machine : Option Machine) (o : Outcome) : Type 0 where
  found : AgentFacts
  there : agent ≡ Some found
  role : o.role ≡ found.role
  knows : o.knows ≡ found.knows
  nothing : o.outputs ≡ []

standing-is : (agent : Option AgentFacts) (machine : Option Machine) (o : Outcome)
    → standing agent machine ≡ Some o → IsStanding agent machine o
standing-is None None o e = absurd (none-some o e)
standing-is None (Some machine) o e = absurd (none-some o e)
standing-is (Some agent) None o e = absurd (none-some o e)
standing-is (Some agent) (Some machine) o e =
    let same = sym (some-is _ o e) in
    record {
      found = agent;
      there = refl;
      role = ap (λ (x : Outcome). x.role) same;
      knows = ap (λ (x : Outcome). x.knows) same;
      nothing = ap (λ (x : Outcome). x.outputs) same;
    }

found-at : (found : Option (Option AgentFacts)) (agent : AgentFacts)
    → option_and_then (λ (a : Option AgentFacts). a) found ≡ Some agent → found ≡ Some (Some agent)
found-at None agent e = absurd (none-some agent e)
found-at (Some found) agent e = ap Some e

-- ---- one input, at a cluster that differs from this one in its agents and in a message that came
module _ (member : Member) (cluster later : Cluster) (heard : Heard) (said : HeardMessage) (o : Outcome)
    (stands : standing_of cluster member ≡ Some o)
    (acted : later.agents ≡ agent_facts_with cluster.agents member (outcome_of cluster member heard)) where
  abbrev Out : Outcome
  Out = step (moment_of cluster) (points_of cluster member) heard o

  abbrev After : Cluster
  After = cluster_over later (input_events later member said (outcome_of cluster member heard))

  outcome-is : outcome_of cluster member heard ≡ Some Out
  outcome-is = ap (option_map (step (moment_of cluster) (points_of cluster member) heard)) stands

  is-standing : IsStanding (agent_at cluster.agents member.id.number) (machine_of cluster member) o
  is-standing = standing-is (agent_at cluster.agents member.id.number) (machine_of cluster member) o stands

  told-before : AreTold o.outputs
  told-before = subst AreTold (sym is-standing.nothing) tt

  -- its agent stands as the input left it
  stands-later : StandsSo member Out later
  stands-later =
      ap (λ (xs : List (Option AgentFacts)). agent_at xs member.id.number)
      (acted ∙ ap (agent_facts_with cluster.agents member) outcome-is)
      ∙ ap (λ (x : Option (Option AgentFacts)). option_and_then (λ (a : Option AgentFacts). a) x)
      (get-here cluster.agents member.id.number (agent_after (Some Out))
      ∙ ap (option_map (agent_after (Some Out)))
      (found-at (slice_get cluster.agents member.id.number) is-standing.found is-standing.there))

  stands-then : (c : Cluster) → c.agents ≡ later.agents → StandsSo member Out c
  stands-then c same = ap (λ (xs : List (Option AgentFacts)). agent_at xs member.id.number) same ∙ stands-later

  after-over : After ≡ Over member said later Out.outputs
  after-over =
      ap (λ (x : Option Outcome). cluster_over later (each (output_events member said) later (outputs_of x))) outcome-is

  -- it asks the key store, and an operator may be told something before
  after-asks : (process : AgentProcess) (sequence : ℕ) (body : Body) (before : List Output)
      → Out.outputs ≡ with_output (outputs.Message (outgoing.Send targets.Store sequence body)) before → AreTold before
      → slice_get later.facts.processes member.id.number ≡ Some process → HasRoom later
      → After ≡ Next later (agent_message member ends.Store process.incarnation sequence body)
  after-asks process sequence body before is told found room =
      after-over ∙ ap (Over member said later) is
      ∙ told-then member said later (outputs.Message (outgoing.Send targets.Store sequence body)) before told
      ∙ asks-store member said later process sequence body found room

-- a message that is sent behind a wake
sends-behind : (member : Member) (cluster : Cluster) (message : Message)
    → SendsOne message cluster (Next (cluster_after cluster (kinds.Agent (agents.Woken member))) message)
sends-behind member cluster message =
    let one = sends-one (cluster_after cluster (kinds.Agent (agents.Woken member))) message in
    record {
      carried = one.carried;
      is = one.is;
      message_is = one.message_is;
      at = one.at;
      others = one.others;
      sent = one.sent;
    }

-- ---- a wake
module _ (member : Member) (cluster : Cluster) (process : AgentProcess) (o : Outcome)
    (found : slice_get cluster.facts.processes member.id.number ≡ Some process)
    (stands : standing_of cluster member ≡ Some o) (leads : IsLeading o) where
  abbrev Later : Cluster
  Later = cluster_after cluster (kinds.Agent (agents.Woken member))

  pub takes-turn : o.knows.waited ≡ None → nat_le o.knows.next_turn.0 cluster.facts.clock ≡ true → HasRoom cluster
      → TakesTurn member process o cluster (cluster_over cluster (wake_events_of cluster member))
  takes-turn none due room =
      let out : Outcome = Out member cluster Later heards.Wake no_message o stands refl in
      let turn = begins (moment_of cluster) (points_of cluster member) o leads none due in
      let message : Message = agent_message member ends.Store process.incarnation turn.waited.sequence bodies.Read in
      let whole =
      after-asks member cluster Later heards.Wake no_message o stands refl process turn.waited.sequence bodies.Read _
      turn.outputs_are (turn.told (told-before member cluster Later heards.Wake no_message o stands refl)) found room in
      subst (TakesTurn member process o cluster) (sym whole) (record {
        outcome = out;
        begins = turn;
        agent = stands-then member cluster Later heards.Wake no_message o stands refl (Next Later message) refl;
        asks = sends-behind member cluster message;
        untouched = record {
          clock = refl;
          keys = refl;
          members = refl;
          cuts = refl;
          processes = refl;
          hold = refl;
          state = refl;
        };
        guards = record { deadline = refl; basis = refl };
      })

  idles : step (moment_of cluster) (points_of cluster member) heards.Wake o ≡ o
      → SleepsOn member o cluster (cluster_over cluster (wake_events_of cluster member))
  idles same =
      let standing = is-standing member cluster Later heards.Wake no_message o stands refl in
      let whole = after-over member cluster Later heards.Wake no_message o stands refl
      ∙ ap (λ (x : Outcome). Over member no_message Later x.outputs) same
      ∙ ap (Over member no_message Later) standing.nothing in
      subst (SleepsOn member o cluster) (sym whole) (record {
        agent = subst (λ (x : Outcome). StandsSo member x Later) same
            (stands-later member cluster Later heards.Wake no_message o stands refl);
        silent = record { flight = refl; sent = refl };
        untouched = record {
          clock = refl;
          keys = refl;
          members = refl;
          cuts = refl;
          processes = refl;
          hold = refl;
          state = refl;
        };
        guards = record { deadline = refl; basis = refl };
      })

  pub sleeps-on : o.knows.waited ≡ None → nat_le o.knows.next_turn.0 cluster.facts.clock ≡ false
      → SleepsOn member o cluster (cluster_over cluster (wake_events_of cluster member))
  sleeps-on none early = idles (sleeps (moment_of cluster) (points_of cluster member) o leads none early)

  pub waits-on : (waited : PendingQuestion) → o.knows.waited ≡ Some waited
      → nat_le waited.until.0 cluster.facts.clock ≡ false
      → SleepsOn member o cluster (cluster_over cluster (wake_events_of cluster member))
  waits-on waited some early = idles (waits (moment_of cluster) (points_of cluster member) waited o leads some early)

-- ---- a message
module _ (member : Member) (cluster : Cluster) (process : AgentProcess) (o : Outcome) (number : ℕ)
    (carried : InFlightFacts) (found : slice_get cluster.facts.processes member.id.number ≡ Some process)
    (stands : standing_of cluster member ≡ Some o) (leads : IsLeading o)
    (flies : in_flight cluster.facts.flight number ≡ Some carried) (to : carried.message.to ≡ ends.Member member) where
  abbrev Arrived : Cluster
  Arrived = cluster_after cluster (kinds.Message (Delivered number))

  abbrev Behind : Cluster
  Behind = cluster_over cluster (hear_events cluster number carried member)

  abbrev Said : HeardMessage
  Said = heard_message number carried

  acted-by : (heard : Heard) → heard_from cluster carried ≡ Some heard
      → Arrived.agents ≡ agent_facts_with cluster.agents member (outcome_of cluster member heard)
  acted-by heard says =
      ap (agent_facts_reached cluster) flies ∙ ap (λ (end : LinkEnd). agent_facts_reached_at cluster carried end) to
      ∙ ap (λ (h : Option Heard). agent_facts_with cluster.agents member (outcome_of_heard cluster member h)) says

  behind-is : (heard : Heard) (says : heard_from cluster carried ≡ Some heard)
      → Behind ≡ After member cluster Arrived heard Said o stands (acted-by heard says)
  behind-is heard says =
      ap (λ (h : Option Heard).
      cluster_over Arrived (input_events Arrived member Said (outcome_of_heard cluster member h)))
      says

  pub goes-on : (sequence : ℕ) (snapshot : SnapshotFacts) (leader : LeaderEntry)
      → heard_from cluster carried ≡ Some (heards.ReadAnswered sequence snapshot)
      → awaits_read o.knows.waited sequence ≡ true → leader_in snapshot ≡ Some leader
      → leader.holder.number == o.knows.who.me.number ≡ true → HasRoom Arrived
      → GoesOn member process snapshot leader.revision o Arrived Behind
  goes-on sequence snapshot leader says waiting there mine room =
      let heard : Heard = heards.ReadAnswered sequence snapshot in
      let acted = acted-by heard says in
      let out : Outcome = Out member cluster Arrived heard Said o stands acted in
      let turn =
      renews (moment_of cluster) (points_of cluster member) sequence snapshot leader o leads waiting there mine in
      let body : Body =
      bodies.Request
      (txns.Lease (lease_txns.Renew leader.revision turn.info turn.waited.ttl turn.status turn.row turn.listed)) in
      let message : Message = agent_message member ends.Store process.incarnation turn.waited.sequence body in
      let whole = behind-is heard says
      ∙ after-asks member cluster Arrived heard Said o stands acted process turn.waited.sequence body _ turn.outputs_are
      (turn.told (told-before member cluster Arrived heard Said o stands acted)) found room in
      subst (GoesOn member process snapshot leader.revision o Arrived) (sym whole) (record {
        outcome = out;
        renews = turn;
        agent = stands-then member cluster Arrived heard Said o stands acted (Next Arrived message) refl;
        asks = sends-one Arrived message;
        untouched = record {
          clock = refl;
          keys = refl;
          members = refl;
          cuts = refl;
          processes = refl;
          hold = refl;
          state = refl;
        };
        guards = record { deadline = refl; basis = refl };
      })

  -- its renewal is granted
  module _ (sequence : ℕ) (grant : Granted) (snapshot : SnapshotFacts)
      (says : heard_from cluster carried ≡ Some (heards.Granted sequence grant snapshot))
      (awaited : IsAwaitedLease sequence grant o.knows) (asks : awaited.waited.question ≡ Renewing)
      (unpaused : is_paused (informed snapshot o.knows) ≡ false)
      (in_time : comes_late (moment_of cluster) awaited.waited o.machine ≡ false)
      (none : o.knows.turn_failover ≡ None) where
    abbrev Heard_it : Heard
    Heard_it = heards.Granted sequence grant snapshot

    acted-it : Arrived.agents ≡ agent_facts_with cluster.agents member (outcome_of cluster member Heard_it)
    acted-it = acted-by Heard_it says

    abbrev Now : Ticks
    Now = moment_of cluster

    abbrev Result : Outcome
    Result = step Now (points_of cluster member) Heard_it o

    abbrev Until : Option Ticks
    Until = deadline_after Now awaited.waited.ttl o.machine.watchdog

    renewal : IsRenewed Now awaited.waited.ttl grant.revision snapshot o Result
    renewal = renewed Now (points_of cluster member) sequence grant snapshot o leads awaited asks unpaused in_time none

    abbrev Fed : Cluster
    Fed = FedAt member Said Arrived Until

    fed : IsFed member.id.number Until Arrived Fed
    fed = fed-at member Said Arrived Until

    fed-over : Over member Said Arrived (fed_until Until o.outputs) ≡ Fed
    fed-over =
        ap (λ (xs : List Output). Over member Said Arrived (fed_until Until xs))
        (is-standing member cluster Arrived Heard_it Said o stands acted-it).nothing
        ∙ over-fed member Said Arrived Until

    behind-over : Behind ≡ Over member Said Arrived Result.outputs
    behind-over = behind-is Heard_it says ∙ after-over member cluster Arrived Heard_it Said o stands acted-it

    stands-at : (c : Cluster) → c.agents ≡ Arrived.agents → StandsSo member Result c
    stands-at = stands-then member cluster Arrived Heard_it Said o stands acted-it

    abbrev Leads : Cluster → Type 0
    Leads after = LeadsOnAt member process awaited.waited.ttl grant.revision snapshot o Arrived after

    -- one more output behind the feed
    step-over : (output : Output) → Result.outputs ≡ with_output output (fed_until Until o.outputs)
        → Behind ≡ cluster_over Fed (output_events member Said Fed output)
    step-over output is =
        behind-over ∙ ap (Over member Said Arrived) is
        ∙ over-with member Said Arrived output (fed_until Until o.outputs)
        ∙ ap (λ (c : Cluster). cluster_over c (output_events member Said c output)) fed-over

    by-step : ((waited : PendingQuestion) → Result.knows.waited ≡ Some waited → HasRoom Arrived)
        → StepsOnce Now o.knows.sequence (fed_until Until o.outputs) Result → Leads Behind
    by-step room (Stays rests counted is) =
        subst Leads (sym (behind-over ∙ ap (Over member Said Arrived) is ∙ fed-over)) (record {
          outcome = Result;
          renewed = renewal;
          agent = stands-at Fed fed.agents;
          syncs = Rests rests counted fed.silent;
          untouched = fed.untouched;
          deadline = fed.deadline;
        })
    by-step room (Requires required rests counted is) =
        let same = required-same member.id.number Fed member required in
        subst Leads (sym (step-over (outputs.Require required) is)) (record {
          outcome = Result;
          renewed = renewal;
          agent = stands-at (Required_at Fed member required) (same.agents ∙ fed.agents);
          syncs = Rests rests counted
              (record { flight = same.silent.flight ∙ fed.silent.flight; sent = same.silent.sent ∙ fed.silent.sent });
          untouched = untouched-then member.id.number Arrived Fed
              (Required_at Fed member required) fed.untouched same.untouched;
          deadline = same.guards.deadline ∙ fed.deadline;
        })
    by-step room (Writes waited settling txn some asks_it until numbered counted writes is) =
        let body : Body = bodies.Request txn in
        let message : Message = agent_message member ends.Store process.incarnation waited.sequence body in
        let whole = step-over (outputs.Message (outgoing.Send targets.Store waited.sequence body)) is
        ∙ asks-store member Said Fed process waited.sequence body
        (ap (λ (xs : List AgentProcess). slice_get xs member.id.number) fed.untouched.processes ∙ found)
        (subst (λ (f : Flight). length f < most_in_flight) (sym fed.silent.flight) (room waited some)) in
        subst Leads (sym whole) (record {
          outcome = Result;
          renewed = renewal;
          agent = stands-at (Next Fed message) fed.agents;
          syncs = Syncs waited settling txn some asks_it until numbered counted writes
              (one-behind message Arrived Fed (Next Fed message) fed.silent fed.untouched.clock
              (sends-one Fed message));
          untouched = untouched-then member.id.number Arrived Fed (Next Fed message) fed.untouched
              (sent-untouched member.id.number Fed message);
          deadline = fed.deadline;
        })

    pub leads-on-at : ((waited : PendingQuestion) → Result.knows.waited ≡ Some waited → HasRoom Arrived)
        → Leads Behind
    leads-on-at room = by-step room renewal.steps

  -- another member asks
  same-stands : (x : Outcome) (c : Cluster) → x.role ≡ o.role → x.knows ≡ o.knows → StandsSo member x c
      → StandsSo member o c
  same-stands x c role knows is =
      is ∙ ap (λ (r : RoleFacts). let one : AgentFacts = record { role = r; knows = x.knows } in Some one) role
      ∙ ap (λ (k : Knowledge). let one : AgentFacts = record { role = o.role; knows = k } in Some one) knows

  answers-heard : (heard : Heard) (says : heard_from cluster carried ≡ Some heard)
      → AnswersAlone o (step (moment_of cluster) (points_of cluster member) heard o) → Rises 0 Arrived.facts.flight
      → ((one : InFlightFacts) → in_flight Arrived.facts.flight (cluster.facts.sent + 1) ≡ Some one → ⊥)
      → AnswersOnly member o Arrived Behind
  answers-heard heard says alone rises fresh =
      let acted = acted-by heard says in
      let standing = is-standing member cluster Arrived heard Said o stands acted in
      let out : Outcome = Out member cluster Arrived heard Said o stands acted in
      let said = answering member.id.number member Said Arrived alone.answer alone.answers rises fresh in
      let after : Cluster = cluster_over Arrived (output_events member Said Arrived alone.answer) in
      let whole = behind-is heard says ∙ after-over member cluster Arrived heard Said o stands acted
      ∙ ap (Over member Said Arrived) (alone.outputs_are ∙ ap (with_output alone.answer) standing.nothing)
      ∙ over-one member Said Arrived alone.answer in
      subst (AnswersOnly member o Arrived) (sym whole) (record {
        agent = same-stands out after alone.role alone.knows
            (stands-then member cluster Arrived heard Said o stands acted after said.agents);
        silent = said.silent;
        untouched = said.untouched;
        guards = said.guards;
      })

  -- the answer to a question that it doesn't wait for
  drops-so : (heard : Heard) → heard_from cluster carried ≡ Some heard
      → step (moment_of cluster) (points_of cluster member) heard o ≡ o → SleepsOn member o Arrived Behind
  drops-so heard says same =
      let acted = acted-by heard says in
      let standing = is-standing member cluster Arrived heard Said o stands acted in
      let whole = behind-is heard says ∙ after-over member cluster Arrived heard Said o stands acted
      ∙ ap (λ (x : Outcome). Over member Said Arrived x.outputs) same
      ∙ ap (Over member Said Arrived) standing.nothing in
      subst (SleepsOn member o Arrived) (sym whole) (record {
        agent = subst (λ (x : Outcome). StandsSo member x Arrived) same
            (stands-later member cluster Arrived heard Said o stands acted);
        silent = record { flight = refl; sent = refl };
        untouched = record {
          clock = refl;
          keys = refl;
          members = refl;
          cuts = refl;
          processes = refl;
          hold = refl;
          state = refl;
        };
        guards = record { deadline = refl; basis = refl };
      })

  pub drops-it : (sequence : ℕ) (heard : Heard) → heard_from cluster carried ≡ Some heard → AnswersNumber sequence heard
      → o.knows.operating ≡ None → awaits_number o.knows.waited sequence ≡ false → SleepsOn member o Arrived Behind
  drops-it sequence heard says answers nobody other = drops-so heard says
      (drops (moment_of cluster) (points_of cluster member) o leads nobody sequence heard answers other)

  pub drops-peers : (heard : Heard) → heard_from cluster carried ≡ Some heard → IsPeerAnswer heard
      → o.knows.operating ≡ None → AwaitsNoPeer o.knows.waited → SleepsOn member o Arrived Behind
  drops-peers heard says answers nobody none = drops-so heard says
      (drops-peer (moment_of cluster) (points_of cluster member) o leads nobody heard answers none)

  -- the decision on its write of the sync key: it waits for nothing, and sends nothing
  syncs-it : (settings : Config) (heard : Heard) → heard_from cluster carried ≡ Some heard
      → HasSynced settings o (step (moment_of cluster) (points_of cluster member) heard o)
      → HasSettled member settings o Arrived Behind
  syncs-it settings heard says settles =
      let acted = acted-by heard says in
      let standing = is-standing member cluster Arrived heard Said o stands acted in
      let out : Outcome = Out member cluster Arrived heard Said o stands acted in
      let over = behind-is heard says ∙ after-over member cluster Arrived heard Said o stands acted in
      elim settles.outputs_are [
        | inl same ↦ subst (HasSettled member settings o Arrived)
            (sym (over ∙ ap (Over member Said Arrived) (same ∙ standing.nothing))) (record {
              outcome = out;
              settles = settles;
              agent = stands-later member cluster Arrived heard Said o stands acted;
              silent = record { flight = refl; sent = refl };
              untouched = record {
                clock = refl;
                keys = refl;
                members = refl;
                cuts = refl;
                processes = refl;
                hold = refl;
                state = refl;
              };
              guards = record { deadline = refl; basis = refl };
            })
        | inr more ↦
            let requires = required-same member.id.number Arrived member more.0 in
            subst (HasSettled member settings o Arrived)
            (sym (over
            ∙ ap (Over member Said Arrived) (more.1 ∙ ap (with_output (outputs.Require more.0)) standing.nothing)
            ∙ over-one member Said Arrived (outputs.Require more.0)))
            (record {
              outcome = out;
              settles = settles;
              agent = stands-then member cluster Arrived heard Said o stands acted
                  (Required_at Arrived member more.0) requires.agents;
              silent = requires.silent;
              untouched = requires.untouched;
              guards = requires.guards;
            })
      ]

  pub settles-granted : (waited : PendingQuestion) (settling : Settling) (grant : Granted) (snapshot : SnapshotFacts)
      → heard_from cluster carried ≡ Some (heards.Granted waited.sequence grant snapshot)
      → o.knows.operating ≡ None → o.knows.waited ≡ Some waited
      → waited.question ≡ Syncing settling → is_write_of o.knows.who.me grant ≡ true
      → HasSettled member (settings_in o.knows.settings snapshot) o Arrived Behind
  settles-granted waited settling grant snapshot says nobody some asks mine =
      syncs-it (settings_in o.knows.settings snapshot) (heards.Granted waited.sequence grant snapshot) says
      (synced (moment_of cluster)
      (points_of cluster member) o leads nobody waited settling grant snapshot some asks mine)

  pub settles-refused : (waited : PendingQuestion) (settling : Settling) (key : Key) (there : Expected)
      → heard_from cluster carried ≡ Some (heards.Mismatch waited.sequence key there)
      → o.knows.operating ≡ None → o.knows.waited ≡ Some waited
      → waited.question ≡ Syncing settling → HasSettled member o.knows.settings o Arrived Behind
  settles-refused waited settling key there says nobody some asks =
      syncs-it o.knows.settings (heards.Mismatch waited.sequence key there)
      says (unsynced (moment_of cluster) (points_of cluster member) o leads nobody waited settling key there some asks)

  pub answers-ask : (from : MemberId) (incarnation sequence : ℕ)
      → heard_from cluster carried ≡ Some (heards.Asked from incarnation sequence) → Rises 0 Arrived.facts.flight
      → ((one : InFlightFacts) → in_flight Arrived.facts.flight (cluster.facts.sent + 1) ≡ Some one → ⊥)
      → AnswersOnly member o Arrived Behind
  answers-ask from incarnation sequence says = answers-heard (heards.Asked from incarnation sequence) says
      (answers-asked (moment_of cluster) (points_of cluster member) from incarnation sequence o leads)

  pub refuses-failsafe : (from : MemberId) (incarnation sequence : ℕ) (ttl : Ticks)
      → heard_from cluster carried ≡ Some (heards.FailsafeAsked from incarnation sequence ttl)
      → Rises 0 Arrived.facts.flight
      → ((one : InFlightFacts) → in_flight Arrived.facts.flight (cluster.facts.sent + 1) ≡ Some one → ⊥)
      → AnswersOnly member o Arrived Behind
  refuses-failsafe from incarnation sequence ttl says =
      answers-heard (heards.FailsafeAsked from incarnation sequence ttl) says
      (refuses (moment_of cluster) (points_of cluster member) from incarnation sequence ttl o leads)

-- ---- in a cluster whose messages are numbered
module _ (member : Member) (cluster : Cluster) (process : AgentProcess)
    (o : Outcome) (number : ℕ) (carried : InFlightFacts) (numbers : NumbersRise cluster)
    (found : slice_get cluster.facts.processes member.id.number ≡ Some process)
    (stands : standing_of cluster member ≡ Some o) (leads : IsLeading o)
    (flies : in_flight cluster.facts.flight number ≡ Some carried) (to : carried.message.to ≡ ends.Member member) where
  abbrev Came : Cluster
  Came = cluster_after cluster (kinds.Message (Delivered number))

  came-rises : Rises 0 Came.facts.flight
  came-rises = rises-without 0 cluster.facts.flight number numbers.order

  too-many : (n : ℕ) → n + 1 ≤ n → ⊥
  too-many n e = omega (arith, e)

  came-fresh : (one : InFlightFacts) → in_flight Came.facts.flight (cluster.facts.sent + 1) ≡ Some one → ⊥
  came-fresh one is =
      too-many cluster.facts.sent (numbers.flown (cluster.facts.sent + 1) one
      (dropped (in_flight cluster.facts.flight) number (cluster.facts.sent + 1) one
      (sym (in-without 0 cluster.facts.flight number (cluster.facts.sent + 1) numbers.order) ∙ is)))

  pub numbered-ask : (from : MemberId) (incarnation sequence : ℕ)
      → heard_from cluster carried ≡ Some (heards.Asked from incarnation sequence)
      → AnswersOnly member o Came (cluster_over cluster (hear_events cluster number carried member))
  numbered-ask from incarnation sequence says = answers-ask member cluster process o number carried found
      stands leads flies to from incarnation sequence says came-rises came-fresh

  pub numbered-failsafe : (from : MemberId) (incarnation sequence : ℕ) (ttl : Ticks)
      → heard_from cluster carried ≡ Some (heards.FailsafeAsked from incarnation sequence ttl)
      → AnswersOnly member o Came (cluster_over cluster (hear_events cluster number carried member))
  numbered-failsafe from incarnation sequence ttl says = refuses-failsafe member cluster process o number
      carried found stands leads flies to from incarnation sequence ttl says came-rises came-fresh
