-- A leader's own steps in its turn: each takes it further.
use Rattle.std.proofs.Common.{ℕ, ◌≡◌, ◌+◌, ◌*◌, ◌≤◌, ◌<◌, ◌==◌, ◌&&◌, nat_le, true, false, List, length, Option, Some, None, slice_get, refl, sym, ap, subst, ◌∙◌, arith}
use Rattle.std.specs.FinMap.{find}
use Rattle.std.proofs.lemmas.Bool.Decides.{nat_tests}
use Rattle.pat_base.specs.declared.ticks.Ticks.{Ticks}
use Rattle.pat_base.specs.declared.ticks.TheConstants.{TICKS_OF_SECOND}
use Rattle.store_keys.specs.declared.config.Config.{Config}
use Rattle.store_keys.specs.declared.key.Key.TheVariants as keys
use Rattle.store_keys.specs.declared.txn.Txn.TheVariants as txns
use Rattle.store_keys.specs.declared.txn.LeaseTxn.TheVariants as lease_txns
use Rattle.lease_store.specs.KeyOrder.{key_cmp}
use Rattle.cluster_view.specs.KeyValues.{failover_by}
use Rattle.cluster_view.specs.Snapshots.{SnapshotFacts, value_by}
use Rattle.script_model.specs.Script.{HeadText}
use Rattle.event_book.specs.declared.event.EventKind.TheVariants as kinds
use Rattle.event_book.specs.declared.event.AgentEvent.TheVariants as agents
use Rattle.event_book.specs.declared.event.MessageEvent.TheVariants.{Delivered}
use Rattle.event_book.specs.declared.member.Member.{Member}
use Rattle.event_book.specs.declared.message.Body.{Body}
use Rattle.event_book.specs.declared.message.Body.TheVariants as bodies
use Rattle.event_book.specs.Flight.{InFlightFacts, in_flight, without_message}
use Rattle.event_book.specs.Kinds.{AllAre}
use Rattle.agent_model.specs.declared.heard.Heard.{Heard}
use Rattle.agent_model.specs.declared.heard.Heard.TheVariants as heards
use Rattle.agent_model.specs.declared.knowledge.Knowledge.{Knowledge}
use Rattle.agent_model.specs.declared.knowledge.PendingQuestion.{PendingQuestion}
use Rattle.agent_model.specs.declared.knowledge.Question.{Question}
use Rattle.agent_model.specs.declared.knowledge.Question.TheVariants.{Reading}
use Rattle.agent_model.specs.declared.output.Output.{Output}
use Rattle.agent_model.specs.declared.output.Output.TheVariants as outputs
use Rattle.agent_model.specs.declared.output.Outgoing.TheVariants as outgoing
use Rattle.agent_model.specs.declared.output.Target.TheVariants as targets
use Rattle.agent_model.specs.Acting.{seconds_after}
use Rattle.agent_model.specs.Agents.{AgentFacts, Outcome}
use Rattle.agent_model.specs.Outputs.{with_output}
use Rattle.agent_model.specs.Snapshots.{awaits_read, is_read, turn_start}
use Rattle.agent_model.specs.Table.{prepared, step}
use Rattle.cluster_model.specs.declared.heard_message.HeardMessage.{HeardMessage}
use Rattle.cluster_model.specs.Cluster.{cluster_after, cluster_over}
use Rattle.cluster_model.specs.Hearing.{snapshot_in}
use Rattle.cluster_model.specs.Inputs.{moment_of, outcome_of, outcome_of_heard, standing_of}
use Rattle.cluster_model.specs.Limits.{most_in_flight}
use Rattle.cluster_model.specs.Machines.{points_of}
use Rattle.cluster_model.specs.Messages.{answer_message, hear_events, heard_message, input_events, no_message, wake_events_of}
use Rattle.cluster_model.specs.State.{Cluster}
use Rattle.cluster_model.proofs.Places.{eq-self}
use Rattle.lease_owners.specs.Kept.{IsOwned}
use Rattle.leading_law.specs.Leading.{AreTold, AsksRenewal, BeginsTurn}
use Rattle.leading_law.specs.OwnInputs.{GoesOn, HasRoom, TakesTurn}
use Rattle.leading_law.proofs.Inputs.{goes-on, takes-turn}
use Rattle.leading_law.proofs.Sending.{told-same}
use Rattle.leading_law.proofs.Turns.{begins, renews}
use Rattle.leading_parts.specs.Alone.{LeaveAlone}
use Rattle.leading_parts.specs.Aside.{ServesOn}
use Rattle.leading_runs.specs.Joining.{HearsOwnKey, StandsLeading}
use Rattle.leading_runs.specs.Steady.{SetsConfig}
use Rattle.leading_runs.proofs.Keeping.{options-over}
use Rattle.leading_runs.proofs.Own.{AreMild, input-outputs, input-serves, mild-with, question-room, told-mild}
use Rattle.leading_runs.proofs.Stages.{Asked, InTurn, Mail, Phase, Reads, Renews, Seen, Stage, Stands, Turns, next_seen, settings_seen}
use Rattle.leading_runs.proofs.Standing.{IsAlone, acting, knows-itself, not-before, older-asked, only-asked, sets-config, stands-acting, standing, untouched-before}

-- ---- moments
pub at-least : (a b : ℕ) → b ≡ a → a ≤ b
at-least a b same = omega (arith, same)

le-self : (n : ℕ) → nat_le n n ≡ true
le-self n = grind (arith, nat_tests)

pub some-retry : (config : Config) → 1 ≤ config.retry_timeout
some-retry config = omega (arith, config.retry_timeout_range.0)

pub some-wait : (config : Config) → 1 ≤ config.loop_wait
some-wait config = omega (arith, config.loop_wait_range.0)

-- an answer that is waited for until then isn't overdue now
pub not-over : (until : Ticks) (clock now retry : ℕ) → until ≡ seconds_after (record { 0 = clock }) retry → clock ≡ now
    → 1 ≤ retry → nat_le until.0 now ≡ false
not-over until clock now retry is same more =
    ap (λ (t : Ticks). nat_le t.0 now) is ∙ ap (λ (k : ℕ). nat_le (k + TICKS_OF_SECOND * retry) now) same
    ∙ not-before now retry more

pub turn-start : (now : Ticks) (last : Option Ticks) (clock : ℕ) → last ≡ Some (record { 0 = clock })
    → turn_start now last ≡ record { 0 = clock }
turn-start now last clock is = ap (turn_start now) is

-- what is sent behind what an operator is told, there was room for
told-room : (member : Member) (said : HeardMessage) (cluster later : Cluster) (heard : Heard) (o : Outcome)
    (process : _) (sequence : ℕ) (body : Body) (before : List Output)
    → standing_of cluster member ≡ Some o
    → (step (moment_of cluster) (points_of cluster member) heard o).outputs
    ≡ with_output (outputs.Message (outgoing.Send targets.Store sequence body)) before → AreTold before
    → slice_get later.facts.processes member.id.number ≡ Some process
    → LeaveAlone member.id.number later (input_events later member said (outcome_of cluster member heard))
    → length later.facts.flight < most_in_flight
told-room member said cluster later heard o process sequence body before stands outs told found alone =
    let same = told-same member said later before told in
    subst (λ (c : Cluster). length c.facts.flight < most_in_flight) same
    (question-room member said later process before sequence body
    (ap (λ (c : Cluster). slice_get c.facts.processes member.id.number) same ∙ found)
    (input-outputs member said cluster later heard o
    (with_output (outputs.Message (outgoing.Send targets.Store sequence body)) before)
    stands outs alone))

-- ---- its turn is due: it asks to read
module _ (head : HeadText) (member : Member) (cluster : Cluster) (seen : Seen)
    (good : IsOwned head cluster) (stands : Stands member seen cluster)
    (waits : seen.agent.knows.waited ≡ None) (due : seen.clock ≡ next_seen seen)
    (alone : IsAlone member seen (seen.agent.knows.sequence + 1) cluster.facts.flight)
    (left : LeaveAlone member.id.number cluster (wake_events_of cluster member)) where
  abbrev Here : StandsLeading member seen.agent seen.options cluster
  Here = standing head cluster member seen good stands

  abbrev O : Outcome
  O = Here.o

  abbrev Woken : Cluster
  Woken = cluster_after cluster (kinds.Agent (agents.Woken member))

  abbrev Woke : Cluster
  Woke = cluster_over cluster (wake_events_of cluster member)

  none-waited : O.knows.waited ≡ None
  none-waited = ap (λ (k : Knowledge). k.waited) Here.knows ∙ waits

  is-due : nat_le O.knows.next_turn.0 cluster.facts.clock ≡ true
  is-due = ap (λ (k : Knowledge). nat_le k.next_turn.0 cluster.facts.clock) Here.knows
      ∙ ap (λ (k : ℕ). nat_le k cluster.facts.clock) (sym due ∙ sym stands.clock_is) ∙ le-self cluster.facts.clock

  begun : BeginsTurn (moment_of cluster) O (step (moment_of cluster) (points_of cluster member) heards.Wake O)
  begun = begins (moment_of cluster) (points_of cluster member) O Here.leads none-waited is-due

  nothing-told : AreTold O.outputs
  nothing-told = subst AreTold (sym Here.nothing) tt

  room : HasRoom cluster
  room = told-room member no_message cluster Woken heards.Wake O seen.process begun.waited.sequence bodies.Read
      (prepared (moment_of cluster) heards.Wake O).outputs Here.stands begun.outputs_are (begun.told nothing-told)
      stands.process_is left.1

  took : TakesTurn member seen.process O cluster Woke
  took = takes-turn member cluster seen.process O stands.process_is Here.stands Here.leads none-waited is-due room

  pub begins-serving : AllAre (ServesOn member.id.number) (wake_events_of cluster member)
  begins-serving = (
    tt,
    input-serves member.id.number member no_message cluster Woken heards.Wake O Here.stands
        (subst AreMild (sym begun.outputs_are)
        (mild-with (outputs.Message (outgoing.Send targets.Store begun.waited.sequence bodies.Read))
        (prepared (moment_of cluster) heards.Wake O).outputs tt
        (told-mild (prepared (moment_of cluster) heards.Wake O).outputs (begun.told nothing-told)))),
  )

  abbrev Agent : AgentFacts
  Agent = record { role = took.outcome.role; knows = took.outcome.knows }

  abbrev Then : Seen
  Then = acting seen Agent seen.deadline

  abbrev begun-turn : InTurn Then
  begun-turn = record {
    waited = took.begins.waited;
    waits = took.begins.waits;
    numbered = took.begins.numbered ∙ sym took.begins.counted;
    until = not-over took.begins.waited.until cluster.facts.clock seen.clock O.knows.settings.retry_timeout
        took.begins.until stands.clock_is (some-retry O.knows.settings);
    next = took.begins.next
        ∙ ap (λ (k : ℕ). seconds_after (record { 0 = k }) O.knows.settings.loop_wait) stands.clock_is
        ∙ ap (λ (c : Config). seconds_after (record { 0 = seen.clock }) c.loop_wait) (sym took.begins.settings);
  }

  abbrev begun-mail : Mail member Then took.begins.waited took.asks.carried
  begun-mail = Reads took.begins.asks
      (took.begins.last ∙ ap (λ (k : ℕ). let one : Ticks = record { 0 = k } in Some one) stands.clock_is)
      took.asks.message_is

  abbrev Begun : Stage member Then
  Begun = Turns (cluster.facts.sent + 1) took.asks.carried begun-turn begun-mail

  counted : seen.agent.knows.sequence + 1 ≤ took.outcome.knows.sequence
  counted = at-least (seen.agent.knows.sequence + 1) took.outcome.knows.sequence
      (took.begins.counted ∙ ap (λ (k : Knowledge). k.sequence + 1) Here.knows)

  pub turn-begins : Phase member 6 (cluster.facts.sent + 1) Woke
  turn-begins = record {
    seen = Then;
    stands = stands-acting member seen cluster Woke took.outcome seen.deadline stands took.agent took.begins.on.leads
        (took.begins.operating (ap (λ (k : Knowledge). k.operating) Here.knows ∙ stands.unasked))
        (took.begins.settings ∙ ap (λ (k : Knowledge). k.settings) Here.knows) took.untouched
        (options-over cluster (wake_events_of cluster member)) (took.guards.deadline ∙ stands.deadline_is);
    stage = Begun;
    numbered = refl;
    ranked = omega arith;
    flying = took.asks.is;
    only = only-asked member seen Agent seen.deadline (seen.agent.knows.sequence + 1) _ cluster Woke alone took.asks
        Begun (λ i same. same) counted;
    older = older-asked member seen Agent seen.deadline (seen.agent.knows.sequence + 1) _ cluster Woke alone
        took.asks Begun (λ i same. same) counted;
  }

-- ---- what it read comes: it asks for the renewal
module _ (head : HeadText) (member : Member) (cluster : Cluster) (seen : Seen) (number : ℕ)
    (carried : InFlightFacts) (turn : InTurn seen) (good : IsOwned head cluster)
    (stands : Stands member seen cluster) (flies : in_flight cluster.facts.flight number ≡ Some carried)
    (asks : turn.waited.question ≡ Reading) (last : seen.agent.knows.last_turn ≡ Some (record { 0 = seen.clock }))
    (is : carried.message ≡ answer_message (Asked member seen turn.waited.sequence bodies.Read) bodies.Snapshot)
    (hears : HearsOwnKey member turn.waited.sequence seen.key cluster carried)
    (sets : SetsConfig (settings_seen seen) (find key_cmp keys.Config carried.snapshot))
    (failover : find key_cmp keys.Failover carried.snapshot ≡ None)
    (alone : IsAlone member seen seen.agent.knows.sequence (without_message cluster.facts.flight number))
    (left : LeaveAlone member.id.number cluster (hear_events cluster number carried member)) where
  abbrev HereR : StandsLeading member seen.agent seen.options cluster
  HereR = standing head cluster member seen good stands

  abbrev R : Outcome
  R = HereR.o

  abbrev ArrivedR : Cluster
  ArrivedR = cluster_after cluster (kinds.Message (Delivered number))

  abbrev HeardR : Cluster
  HeardR = cluster_over cluster (hear_events cluster number carried member)

  abbrev Snapshot : SnapshotFacts
  Snapshot = snapshot_in cluster carried

  abbrev SaidR : HeardMessage
  SaidR = heard_message number carried

  reads-waited : awaits_read R.knows.waited turn.waited.sequence ≡ true
  reads-waited = ap (λ (k : Knowledge). awaits_read k.waited turn.waited.sequence) HereR.knows
      ∙ ap (λ (w : Option PendingQuestion). awaits_read w turn.waited.sequence) turn.waits
      ∙ ap (λ (q : Question). is_read q && (turn.waited.sequence == turn.waited.sequence)) asks
      ∙ eq-self turn.waited.sequence

  is-mine : hears.leader.holder.number == R.knows.who.me.number ≡ true
  is-mine = ap (λ (k : Knowledge). hears.leader.holder.number == k.who.me.number) HereR.knows
      ∙ ap (λ (n : ℕ). hears.leader.holder.number == n) (knows-itself head cluster member seen good stands).me
      ∙ hears.mine

  asked : AsksRenewal (moment_of cluster) Snapshot hears.leader.revision R
      (step (moment_of cluster) (points_of cluster member)
      (heards.ReadAnswered turn.waited.sequence Snapshot) R)
  asked = renews (moment_of cluster) (points_of cluster member) turn.waited.sequence Snapshot hears.leader R
      HereR.leads reads-waited hears.there is-mine

  nothing-toldR : AreTold R.outputs
  nothing-toldR = subst AreTold (sym HereR.nothing) tt

  left-heard : LeaveAlone member.id.number ArrivedR
      (input_events ArrivedR member SaidR
      (outcome_of cluster member (heards.ReadAnswered turn.waited.sequence Snapshot)))
  left-heard = subst (λ (h : Option Heard). LeaveAlone member.id.number ArrivedR
      (input_events ArrivedR member SaidR (outcome_of_heard cluster member h))) hears.heard left.1

  roomR : HasRoom ArrivedR
  roomR = told-room member SaidR cluster ArrivedR (heards.ReadAnswered turn.waited.sequence Snapshot) R seen.process
      asked.waited.sequence _ asked.before.outputs HereR.stands asked.outputs_are (asked.told nothing-toldR)
      stands.process_is left-heard

  went : GoesOn member seen.process Snapshot hears.leader.revision R ArrivedR HeardR
  went = goes-on member cluster seen.process R number carried stands.process_is HereR.stands HereR.leads flies
      hears.to turn.waited.sequence Snapshot hears.leader hears.heard reads-waited hears.there is-mine roomR

  pub renews-serving : AllAre (ServesOn member.id.number) (hear_events cluster number carried member)
  renews-serving = (
    tt,
    subst (λ (h : Option Heard). AllAre (ServesOn member.id.number)
        (input_events ArrivedR member SaidR (outcome_of_heard cluster member h))) (sym hears.heard)
        (input-serves member.id.number member SaidR cluster ArrivedR
        (heards.ReadAnswered turn.waited.sequence Snapshot) R HereR.stands
        (subst AreMild (sym asked.outputs_are)
        (mild-with (outputs.Message (outgoing.Send targets.Store asked.waited.sequence _)) asked.before.outputs tt
        (told-mild asked.before.outputs (asked.told nothing-toldR))))),
  )

  abbrev AgentR : AgentFacts
  AgentR = record { role = went.outcome.role; knows = went.outcome.knows }

  abbrev ThenR : Seen
  ThenR = acting seen AgentR seen.deadline

  same-settings : went.outcome.knows.settings ≡ settings_seen seen
  same-settings = went.renews.settings
      ∙ sets-config (settings_seen seen) R.knows.settings (find key_cmp keys.Config carried.snapshot) sets

  abbrev renews-turn : InTurn ThenR
  renews-turn = record {
    waited = went.renews.waited;
    waits = went.renews.waits;
    numbered = went.renews.numbered ∙ sym went.renews.counted;
    until = not-over went.renews.waited.until seen.clock seen.clock went.outcome.knows.settings.retry_timeout
        (went.renews.until
        ∙ ap (λ (t : Ticks). seconds_after t went.outcome.knows.settings.retry_timeout)
        (turn-start (moment_of ArrivedR) R.knows.last_turn seen.clock
        (ap (λ (k : Knowledge). k.last_turn) HereR.knows ∙ last)))
        refl (some-retry went.outcome.knows.settings);
    next = went.renews.next ∙ ap (λ (k : Knowledge). k.next_turn) HereR.knows ∙ turn.next
        ∙ ap (λ (c : Config). seconds_after (record { 0 = seen.clock }) c.loop_wait) (sym same-settings);
  }

  abbrev renews-mail : Mail member ThenR went.renews.waited went.asks.carried
  renews-mail = Renews went.renews.asks
      (went.renews.sent ∙ ap (λ (k : ℕ). let one : Ticks = record { 0 = k } in one) stands.clock_is)
      went.renews.span (went.renews.failover ∙ ap (value_by failover_by) failover) went.renews.info went.renews.status
      went.renews.row went.renews.listed
      (went.asks.message_is
      ∙ ap (λ (r : ℕ). Asked member seen went.renews.waited.sequence
      (bodies.Request
      (txns.Lease (lease_txns.Renew r went.renews.info went.renews.waited.ttl went.renews.status went.renews.row
      went.renews.listed))))
      hears.revision)

  abbrev RenewsAt : Stage member ThenR
  RenewsAt = Turns (cluster.facts.sent + 1) went.asks.carried renews-turn renews-mail

  countedR : seen.agent.knows.sequence ≤ went.outcome.knows.sequence
  countedR = omega (
    arith,
    at-least (seen.agent.knows.sequence + 1) went.outcome.knows.sequence
        (went.renews.counted ∙ ap (λ (k : Knowledge). k.sequence + 1) HereR.knows),
  )

  pub turn-renews : Phase member 4 (cluster.facts.sent + 1) HeardR
  turn-renews = record {
    seen = ThenR;
    stands = stands-acting member seen cluster HeardR went.outcome seen.deadline stands went.agent
        went.renews.on.leads
        (went.renews.operating (ap (λ (k : Knowledge). k.operating) HereR.knows ∙ stands.unasked)) same-settings
        (untouched-before member.id.number number cluster HeardR went.untouched)
        (options-over cluster (hear_events cluster number carried member))
        (went.guards.deadline ∙ stands.deadline_is);
    stage = RenewsAt;
    numbered = refl;
    ranked = omega arith;
    flying = went.asks.is;
    only = only-asked member seen AgentR seen.deadline seen.agent.knows.sequence _ ArrivedR HeardR alone went.asks
        RenewsAt (λ i same. same) countedR;
    older = older-asked member seen AgentR seen.deadline seen.agent.knows.sequence _ ArrivedR HeardR alone went.asks
        RenewsAt (λ i same. same) countedR;
  }
