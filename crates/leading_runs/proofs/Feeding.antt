-- A leader hears that its lease is renewed, and that its write of the sync key is decided.
use Rattle.std.proofs.Common.{ℕ, ◌≡◌, ◌+◌, ◌*◌, ◌≤◌, ◌<◌, ◌==◌, ◌&&◌, not, Bool, true, false, cond, List, [], length, Option, Some, None, option_map, slice_get, refl, sym, ap, subst, ◌∙◌, inl, inr, arith}
use Rattle.std.specs.FinMap.{find}
use Rattle.pat_base.specs.declared.member_id.MemberId.{MemberId}
use Rattle.pat_base.specs.declared.ticks.Ticks.{Ticks}
use Rattle.store_keys.specs.declared.config.Config.{Config}
use Rattle.store_keys.specs.declared.key.Key.{Key}
use Rattle.store_keys.specs.declared.key.Key.TheVariants as keys
use Rattle.store_keys.specs.declared.txn.Expected.{Expected}
use Rattle.store_keys.specs.declared.txn.Txn.{Txn}
use Rattle.store_keys.specs.declared.txn.Txn.TheVariants as txns
use Rattle.store_keys.specs.declared.txn.SyncTxn.TheVariants as sync_txns
use Rattle.lease_store.specs.declared.granted.Granted.{Granted}
use Rattle.lease_store.specs.Decision.{Decision, Grant, Refusal}
use Rattle.lease_store.specs.KeyOrder.{key_cmp}
use Rattle.lease_store.specs.Writes.{is_lease}
use Rattle.leader_key.specs.Watchdog.{is_armable, timeout_of}
use Rattle.member_options.specs.Options.{margin_span}
use Rattle.cluster_view.specs.Snapshots.{SnapshotFacts, settings_in}
use Rattle.script_model.specs.Script.{HeadText}
use Rattle.event_book.specs.declared.event.EventKind.TheVariants as kinds
use Rattle.event_book.specs.declared.event.MessageEvent.TheVariants.{Delivered}
use Rattle.event_book.specs.declared.link.LinkEnd.TheVariants as ends
use Rattle.event_book.specs.declared.member.Member.{Member}
use Rattle.event_book.specs.declared.message.Body.TheVariants as bodies
use Rattle.event_book.specs.declared.message.Message.{Message}
use Rattle.event_book.specs.Flight.{Flight, InFlightFacts, grant_for, in_flight, without_message}
use Rattle.event_book.specs.Kinds.{AllAre}
use Rattle.agent_model.specs.declared.heard.Heard.{Heard}
use Rattle.agent_model.specs.declared.heard.Heard.TheVariants as heards
use Rattle.agent_model.specs.declared.knowledge.Knowledge.{Knowledge}
use Rattle.agent_model.specs.declared.knowledge.PendingQuestion.{PendingQuestion}
use Rattle.agent_model.specs.declared.knowledge.Question.TheVariants.{Renewing, Syncing}
use Rattle.agent_model.specs.declared.knowledge.Settling.{Settling}
use Rattle.agent_model.specs.declared.output.Output.{Output}
use Rattle.agent_model.specs.declared.output.Output.TheVariants as outputs
use Rattle.agent_model.specs.declared.output.Outgoing.TheVariants as outgoing
use Rattle.agent_model.specs.declared.output.Target.TheVariants as targets
use Rattle.agent_model.specs.Acting.{comes_late, deadline_after, fed_until, lease_span, seconds_after}
use Rattle.agent_model.specs.Decisions.{is_write_of}
use Rattle.agent_model.specs.Agents.{AgentFacts, Outcome, is_leader}
use Rattle.agent_model.specs.Outputs.{with_output}
use Rattle.agent_model.specs.Pausing.{is_paused}
use Rattle.agent_model.specs.Snapshots.{informed}
use Rattle.agent_model.specs.Table.{step}
use Rattle.cluster_model.specs.declared.heard_message.HeardMessage.{HeardMessage}
use Rattle.cluster_model.specs.Cluster.{cluster_after, cluster_over}
use Rattle.cluster_model.specs.Hearing.{heard_from, heard_in, snapshot_in}
use Rattle.cluster_model.specs.Inputs.{moment_of, outcome_of, outcome_of_heard}
use Rattle.cluster_model.specs.Limits.{most_in_flight}
use Rattle.cluster_model.specs.Machines.{points_of}
use Rattle.cluster_model.specs.Messages.{answer_message, decision_body, hear_events, heard_message, input_events}
use Rattle.cluster_model.specs.State.{Cluster}
use Rattle.cluster_model.proofs.Places.{eq-self}
use Rattle.lease_model.proofs.Tools.{none-some}
use Rattle.lease_owners.specs.Kept.{IsOwned}
use Rattle.leading_law.specs.Leading.{HasSynced, IsRenewed, Requires, Stays, StepsOnce, Writes, WritesSync}
use Rattle.leading_law.specs.OwnInputs.{HasRoom, HasSettled, LeadsOnAt, Rests, Syncs as AsksSync, SyncsAtMost, deadline_fed}
use Rattle.leading_law.proofs.Inputs.{leads-on-at, settles-granted, settles-refused}
use Rattle.leading_law.proofs.Sending.{Over}
use Rattle.leading_law.proofs.Dropping.{synced, unsynced}
use Rattle.leading_law.proofs.Turns.{renewed}
use Rattle.leading_parts.specs.Alone.{LeaveAlone}
use Rattle.leading_parts.specs.Aside.{ServesOn}
use Rattle.leading_parts.specs.Ticked.{FiresPast}
use Rattle.leading_runs.specs.Joining.{HearsRenewal, StandsLeading}
use Rattle.leading_runs.specs.Steady.{SetsConfig}
use Rattle.leading_runs.proofs.Joins.{hears-renewal, in-time}
use Rattle.leading_runs.proofs.Keeping.{options-over}
use Rattle.leading_runs.proofs.Own.{AreMild, fed-mild, input-outputs, input-serves, mild-with, question-room}
use Rattle.leading_runs.proofs.Stages.{Asked, InTurn, LastsOn, Mail, Phase, Seen, Sleeps, Stage, Stands, Syncs, Turns, settings_seen}
use Rattle.leading_runs.proofs.Standing.{IsAlone, acting, knows-itself, older-asked, only-asked, sets-config, stands-acting, standing, untouched-before}
use Rattle.leading_runs.proofs.Turning.{not-over, some-retry, some-wait}

-- ---- moments
fires-past : (moment : ℕ) (until : Ticks) (found : Option (Option Ticks)) → moment < until.0
    → FiresPast moment (deadline_fed (Some until) found)
fires-past moment until None less = tt
fires-past moment until (Some before) less = less

guard-later : (next until clock wait span : ℕ) → next ≡ clock + 10 * wait → until ≡ clock + span → 10 * wait < span
    → next < until
guard-later next until clock wait span is ends less = omega (arith, is, ends, less)

key-later : (next clock wait ttl span expiry : ℕ) → next ≡ clock + 10 * wait → span ≡ 10 * ttl → wait < ttl
    → clock + span ≤ expiry → next < expiry
key-later next clock wait ttl span expiry is spans less lasts = omega (arith, is, spans, less, lasts)

clock-later : (next clock wait : ℕ) → next ≡ clock + 10 * wait → 1 ≤ wait → clock < next
clock-later next clock wait is more = omega (arith, is, more)

-- ---- what a feed leaves in flight
fed-flight : (member : Member) (said : HeardMessage) (cluster : Cluster) (until : Option Ticks)
    → (Over member said cluster (fed_until until [])).facts.flight ≡ cluster.facts.flight
fed-flight member said cluster None = refl
fed-flight member said cluster (Some until) = refl

fed-processes : (member : Member) (said : HeardMessage) (cluster : Cluster) (until : Option Ticks)
    → (Over member said cluster (fed_until until [])).facts.processes ≡ cluster.facts.processes
fed-processes member said cluster None = refl
fed-processes member said cluster (Some until) = refl

-- ---- its renewal is granted
module _ (head : HeadText) (member : Member) (cluster : Cluster) (seen : Seen) (number : ℕ)
    (carried : InFlightFacts) (turn : InTurn seen) (good : IsOwned head cluster)
    (stands : Stands member seen cluster) (flies : in_flight cluster.facts.flight number ≡ Some carried)
    (asks : turn.waited.question ≡ Renewing) (sent : turn.waited.sent ≡ record { 0 = seen.clock })
    (span : turn.waited.ttl ≡ lease_span (settings_seen seen)) (none : seen.agent.knows.turn_failover ≡ None)
    (txn : Txn) (request : ℕ)
    (is : carried.message
    ≡ answer_message (Asked member seen turn.waited.sequence (bodies.Request txn)) (bodies.Granted request true))
    (grant_is : carried.grant ≡ grant_for (bodies.Granted request true) (ends.Member member) seen.key.revision)
    (sets : SetsConfig (settings_seen seen) (find key_cmp keys.Config carried.snapshot))
    (lasts : seen.clock + turn.waited.ttl.0 ≤ seen.key.expiry)
    (alone : IsAlone member seen seen.agent.knows.sequence (without_message cluster.facts.flight number))
    (left : LeaveAlone member.id.number cluster (hear_events cluster number carried member)) where
  abbrev Here : StandsLeading member seen.agent seen.options cluster
  Here = standing head cluster member seen good stands

  abbrev O : Outcome
  O = Here.o

  abbrev Arrived : Cluster
  Arrived = cluster_after cluster (kinds.Message (Delivered number))

  abbrev Heard_all : Cluster
  Heard_all = cluster_over cluster (hear_events cluster number carried member)

  abbrev Snapshot : SnapshotFacts
  Snapshot = snapshot_in cluster carried

  abbrev Said : HeardMessage
  Said = heard_message number carried

  hears : HearsRenewal member turn.waited.sequence seen.key.revision turn.waited O.knows cluster carried
  hears = hears-renewal member seen.process.incarnation turn.waited.sequence request seen.key.revision txn turn.waited
      O.knows cluster carried is grant_is (ap (λ (k : Knowledge). k.waited) Here.knows ∙ turn.waits) asks refl
      (ap (λ (k : Knowledge). k.who.me.number) Here.knows ∙ (knows-itself head cluster member seen good stands).me)

  abbrev Heard_it : Heard
  Heard_it = heards.Granted turn.waited.sequence hears.grant Snapshot

  abbrev Ttl : Ticks
  Ttl = hears.awaited.waited.ttl

  abbrev Until : Option Ticks
  Until = deadline_after (moment_of cluster) Ttl O.machine.watchdog

  abbrev Out : Outcome
  Out = step (moment_of cluster) (points_of cluster member) Heard_it O

  asks-it : hears.awaited.waited.question ≡ Renewing
  asks-it = ap (λ (w : PendingQuestion). w.question) hears.same ∙ asks

  now-settings : settings_in O.knows.settings Snapshot ≡ settings_seen seen
  now-settings = sets-config (settings_seen seen) O.knows.settings (find key_cmp keys.Config carried.snapshot) sets

  unpaused : is_paused (informed Snapshot O.knows) ≡ false
  unpaused = ap (λ (c : Config). c.pause) now-settings ∙ stands.settings.unpaused

  now-sent : hears.awaited.waited.sent ≡ moment_of cluster
  now-sent = ap (λ (w : PendingQuestion). w.sent) hears.same ∙ sent
      ∙ ap (λ (k : ℕ). let one : Ticks = record { 0 = k } in one) (sym stands.clock_is)

  timely : comes_late (moment_of cluster) hears.awaited.waited O.machine ≡ false
  timely = in-time (moment_of cluster) hears.awaited.waited O.machine now-sent

  no-failover : O.knows.turn_failover ≡ None
  no-failover = ap (λ (k : Knowledge). k.turn_failover) Here.knows ∙ none

  granted-so : IsRenewed (moment_of cluster) Ttl hears.grant.revision Snapshot O Out
  granted-so = renewed (moment_of cluster) (points_of cluster member) turn.waited.sequence hears.grant Snapshot O
      Here.leads hears.awaited asks-it unpaused timely no-failover

  abbrev Fed_out : List Output
  Fed_out = fed_until Until O.outputs

  fed-is : Fed_out ≡ fed_until Until []
  fed-is = ap (fed_until Until) Here.nothing

  mild-by : StepsOnce (moment_of cluster) O.knows.sequence Fed_out Out → AreMild Out.outputs
  mild-by (Stays waits counted same) = subst AreMild (sym (same ∙ fed-is)) (fed-mild Until [] tt)
  mild-by (Requires required waits counted same) =
      subst AreMild (sym (same ∙ ap (with_output (outputs.Require required)) fed-is))
      (mild-with (outputs.Require required) (fed_until Until []) tt (fed-mild Until [] tt))
  mild-by (Writes waited settling write waits asked until numbered counted writes same) =
      subst AreMild
      (sym (same
      ∙ ap (with_output (outputs.Message (outgoing.Send targets.Store waited.sequence (bodies.Request write)))) fed-is))
      (mild-with (outputs.Message (outgoing.Send targets.Store waited.sequence (bodies.Request write)))
      (fed_until Until []) tt
      (fed-mild Until [] tt))

  left-heard : LeaveAlone member.id.number Arrived
      (input_events Arrived member Said (outcome_of cluster member Heard_it))
  left-heard = subst (λ (h : Option Heard). LeaveAlone member.id.number Arrived
      (input_events Arrived member Said (outcome_of_heard cluster member h))) hears.heard left.1

  pub feeds-serving : AllAre (ServesOn member.id.number) (hear_events cluster number carried member)
  feeds-serving = (
    tt,
    subst (λ (h : Option Heard). AllAre (ServesOn member.id.number)
        (input_events Arrived member Said (outcome_of_heard cluster member h))) (sym hears.heard)
        (input-serves member.id.number member Said cluster Arrived Heard_it O Here.stands (mild-by granted-so.steps)),
  )

  room-by : StepsOnce (moment_of cluster) O.knows.sequence Fed_out Out → (w : PendingQuestion)
      → Out.knows.waited ≡ Some w → HasRoom Arrived
  room-by (Stays waits counted same) w some = absurd (none-some w (sym waits ∙ some))
  room-by (Requires required waits counted same) w some = absurd (none-some w (sym waits ∙ some))
  room-by (Writes waited settling write waits asked until numbered counted writes same) w some =
      subst (λ (f : Flight). length f < most_in_flight) (fed-flight member Said Arrived Until)
      (question-room member Said Arrived seen.process (fed_until Until []) waited.sequence (bodies.Request write)
      (ap (λ xs. slice_get xs member.id.number) (fed-processes member Said Arrived Until) ∙ stands.process_is)
      (input-outputs member Said cluster Arrived Heard_it O
      (with_output (outputs.Message (outgoing.Send targets.Store waited.sequence (bodies.Request write)))
      (fed_until Until []))
      Here.stands (same
      ∙ ap (with_output (outputs.Message (outgoing.Send targets.Store waited.sequence (bodies.Request write)))) fed-is)
      left-heard))

  fed : LeadsOnAt member seen.process Ttl hears.grant.revision Snapshot O Arrived Heard_all
  fed = leads-on-at member cluster seen.process O number carried stands.process_is Here.stands Here.leads flies hears.to
      turn.waited.sequence hears.grant Snapshot hears.heard hears.awaited asks-it unpaused timely no-failover
      (room-by granted-so.steps)

  abbrev Agent : AgentFacts
  Agent = record { role = fed.outcome.role; knows = fed.outcome.knows }

  abbrev Then : Seen
  Then = acting seen Agent (slice_get Heard_all.facts.deadlines member.id.number)

  same-settings : fed.outcome.knows.settings ≡ settings_seen seen
  same-settings = fed.renewed.settings ∙ now-settings

  next-is : fed.outcome.knows.next_turn
      ≡ seconds_after (record { 0 = seen.clock }) (settings_seen seen).loop_wait
  next-is = fed.renewed.next ∙ ap (λ (k : Knowledge). k.next_turn) Here.knows ∙ turn.next

  next-ticks : fed.outcome.knows.next_turn.0 ≡ seen.clock + 10 * (settings_seen seen).loop_wait
  next-ticks = ap (λ (t : Ticks). t.0) next-is

  armable : is_armable O.machine.watchdog.mode O.machine.watchdog.works ≡ true
  armable = ap (λ m. is_armable m O.machine.watchdog.works) Here.mode
      ∙ ap (is_armable seen.options.watchdog) Here.works ∙ stands.times.watched

  abbrev Fires : Ticks
  Fires = record { 0 = (moment_of cluster).0 + timeout_of O.machine.watchdog.margin Ttl.0 }

  until-is : Until ≡ Some Fires
  until-is = ap (λ (b : Bool). cond b (Some Fires) None) armable

  ttl-is : Ttl ≡ lease_span (settings_seen seen)
  ttl-is = ap (λ (w : PendingQuestion). w.ttl) hears.same ∙ span

  fires-is : Fires.0
      ≡ seen.clock + timeout_of (margin_span seen.options.margin) (10 * (settings_seen seen).ttl)
  fires-is = ap (λ (k : ℕ). k + timeout_of O.machine.watchdog.margin Ttl.0) stands.clock_is
      ∙ ap (λ m. seen.clock + timeout_of m Ttl.0) Here.margin
      ∙ ap (λ (t : Ticks). seen.clock + timeout_of (margin_span seen.options.margin) t.0) ttl-is

  lasts-on : LastsOn Then
  lasts-on = record {
    key = key-later fed.outcome.knows.next_turn.0 seen.clock (settings_seen seen).loop_wait (settings_seen seen).ttl
        turn.waited.ttl.0 seen.key.expiry next-ticks (ap (λ (t : Ticks). t.0) span) stands.times.lease lasts;
    guard = subst (FiresPast fed.outcome.knows.next_turn.0)
        (sym (fed.deadline
        ∙ ap (λ (u : Option Ticks). deadline_fed u (slice_get Arrived.facts.deadlines member.id.number)) until-is))
        (fires-past fed.outcome.knows.next_turn.0 Fires (slice_get Arrived.facts.deadlines member.id.number)
        (guard-later fed.outcome.knows.next_turn.0 Fires.0 seen.clock (settings_seen seen).loop_wait
        (timeout_of (margin_span seen.options.margin) (10 * (settings_seen seen).ttl)) next-ticks fires-is
        stands.times.watchdog));
  }

  now-stands : Stands member Then Heard_all
  now-stands = stands-acting member seen cluster Heard_all fed.outcome
      (slice_get Heard_all.facts.deadlines member.id.number) stands fed.agent (ap is_leader fed.renewed.role)
      (fed.renewed.operating ∙ ap (λ (k : Knowledge). k.operating) Here.knows ∙ stands.unasked) same-settings
      (untouched-before member.id.number number cluster Heard_all fed.untouched)
      (options-over cluster (hear_events cluster number carried member)) refl

  same-sequence : O.knows.sequence ≡ seen.agent.knows.sequence
  same-sequence = ap (λ (k : Knowledge). k.sequence) Here.knows

  below-next : (sequence last now : ℕ) → sequence < last → now ≡ last → sequence < now + 1
  below-next sequence last now small same = omega (arith, small, same)

  up-to : (last now : ℕ) → now ≡ last + 1 → last ≤ now
  up-to last now same = omega (arith, same)

  fed-phase : SyncsAtMost member seen.process O.knows.sequence fed.outcome Arrived Heard_all
      → (number_now : ℕ) × Phase member 2 number_now Heard_all
  fed-phase (Rests waits counted silent) = (
    0,
    record {
      seen = Then;
      stands = now-stands;
      stage = Sleeps waits
          (clock-later fed.outcome.knows.next_turn.0 seen.clock (settings_seen seen).loop_wait next-ticks
          (some-wait (settings_seen seen))) lasts-on;
      numbered = refl;
      ranked = omega arith;
      flying = tt;
      only = λ i one found renewing.
          absurd (alone.none i one (ap (λ (f : Flight). in_flight f i) (sym silent.flight) ∙ found) renewing);
      older = λ i one found other own.
          below-next one.message.sequence seen.agent.knows.sequence fed.outcome.knows.sequence
          (alone.older i one (ap (λ (f : Flight). in_flight f i) (sym silent.flight) ∙ found) own)
          (counted ∙ same-sequence);
    },
  )
  fed-phase (AsksSync waited settling write waits asked until numbered counted writes asking) =
      let turn_now : InTurn Then = record {
        waited = waited;
        waits = waits;
        numbered = numbered ∙ sym counted;
        until = not-over waited.until cluster.facts.clock seen.clock fed.outcome.knows.settings.retry_timeout until
            stands.clock_is (some-retry fed.outcome.knows.settings);
        next = next-is
            ∙ ap (λ (c : Config). seconds_after (record { 0 = seen.clock }) c.loop_wait) (sym same-settings);
      } in
      let mail : Mail member Then waited asking.carried =
      Syncs settling asked lasts-on write writes asking.message_is in
      let stage : Stage member Then = Turns (cluster.facts.sent + 1) asking.carried turn_now mail in
      let less = up-to seen.agent.knows.sequence fed.outcome.knows.sequence
      (counted ∙ ap (λ (k : ℕ). k + 1) same-sequence) in (
        cluster.facts.sent + 1,
        record {
          seen = Then;
          stands = now-stands;
          stage = stage;
          numbered = refl;
          ranked = omega arith;
          flying = asking.is;
          only = only-asked member seen Agent (slice_get Heard_all.facts.deadlines member.id.number)
              seen.agent.knows.sequence _ Arrived Heard_all alone asking stage (λ i same. same) less;
          older = older-asked member seen Agent (slice_get Heard_all.facts.deadlines member.id.number)
              seen.agent.knows.sequence _ Arrived Heard_all alone asking stage (λ i same. same) less;
        },
      )

  pub turn-feeds : (number_now : ℕ) × Phase member 2 number_now Heard_all
  turn-feeds = fed-phase fed.syncs

-- ---- its write of the sync key is decided
not-lease : (txn : Txn) → WritesSync txn → is_lease txn ≡ false
not-lease (txns.Sync (sync_txns.SetSync revision sync standbys quorum)) writes = refl
not-lease (txns.Sync (sync_txns.DropSync revision sync)) writes = refl
not-lease _ writes = absurd writes

module _ (head : HeadText) (member : Member) (cluster : Cluster) (seen : Seen) (number : ℕ)
    (carried : InFlightFacts) (turn : InTurn seen) (good : IsOwned head cluster)
    (stands : Stands member seen cluster) (flies : in_flight cluster.facts.flight number ≡ Some carried)
    (to : carried.message.to ≡ ends.Member member) (settling : Settling)
    (asks : turn.waited.question ≡ Syncing settling) (past : LastsOn seen)
    (alone : IsAlone member seen seen.agent.knows.sequence (without_message cluster.facts.flight number)) where
  abbrev HereS : StandsLeading member seen.agent seen.options cluster
  HereS = standing head cluster member seen good stands

  abbrev S : Outcome
  S = HereS.o

  abbrev ArrivedS : Cluster
  ArrivedS = cluster_after cluster (kinds.Message (Delivered number))

  abbrev HeardS : Cluster
  HeardS = cluster_over cluster (hear_events cluster number carried member)

  nobody : S.knows.operating ≡ None
  nobody = ap (λ (k : Knowledge). k.operating) HereS.knows ∙ stands.unasked

  waits-so : S.knows.waited ≡ Some turn.waited
  waits-so = ap (λ (k : Knowledge). k.waited) HereS.knows ∙ turn.waits

  below-last : (sequence last now : ℕ) → sequence < last → now ≡ last → sequence < now + 1
  below-last sequence last now small same = omega (arith, small, same)

  settled-phase : (settings : Config) → settings ≡ settings_seen seen → HasSettled member settings S ArrivedS HeardS
      → Phase member 0 0 HeardS
  settled-phase settings same settled =
      let agent : AgentFacts = record { role = settled.outcome.role; knows = settled.outcome.knows } in
      let next = settled.settles.next ∙ ap (λ (k : Knowledge). k.next_turn) HereS.knows in
      record {
        seen = acting seen agent seen.deadline;
        stands = stands-acting member seen cluster HeardS settled.outcome seen.deadline stands settled.agent
            (ap is_leader (settled.settles.role ∙ HereS.role ∙ stands.role))
            (settled.settles.operating ∙ nobody) (settled.settles.settings_are ∙ same)
            (untouched-before member.id.number number cluster HeardS settled.untouched)
            (options-over cluster (hear_events cluster number carried member))
            (settled.guards.deadline ∙ stands.deadline_is);
        stage = Sleeps settled.settles.waits
            (clock-later settled.outcome.knows.next_turn.0 seen.clock (settings_seen seen).loop_wait
            (ap (λ (t : Ticks). t.0) (next ∙ turn.next)) (some-wait (settings_seen seen)))
            (record {
              key = subst (λ (t : Ticks). t.0 < seen.key.expiry) (sym next) past.key;
              guard = subst (λ (t : Ticks). FiresPast t.0 seen.deadline) (sym next) past.guard;
            });
        numbered = refl;
        ranked = omega arith;
        flying = tt;
        only = λ i one found renewing.
            absurd (alone.none i one
            (ap (λ (f : Flight). in_flight f i) (sym settled.silent.flight) ∙ found) renewing);
        older = λ i one found other own.
            below-last one.message.sequence seen.agent.knows.sequence settled.outcome.knows.sequence
            (alone.older i one (ap (λ (f : Flight). in_flight f i) (sym settled.silent.flight) ∙ found) own)
            (settled.settles.counted ∙ ap (λ (k : Knowledge). k.sequence) HereS.knows);
      }

  serving-by : (heard : Heard) → heard_from cluster carried ≡ Some heard → (settings : Config)
      → HasSynced settings S (step (moment_of cluster) (points_of cluster member) heard S)
      → AllAre (ServesOn member.id.number) (hear_events cluster number carried member)
  serving-by heard says settings synced_so = (
    tt,
    subst (λ (h : Option Heard). AllAre (ServesOn member.id.number)
        (input_events ArrivedS member (heard_message number carried) (outcome_of_heard cluster member h))) (sym says)
        (input-serves member.id.number member (heard_message number carried) cluster ArrivedS heard S HereS.stands
        (elim synced_so.outputs_are [
          | inl same ↦ subst AreMild (sym (same ∙ HereS.nothing)) tt
          | inr more ↦ subst AreMild (sym (more.1 ∙ ap (with_output (outputs.Require more.0)) HereS.nothing)) (tt, tt)
        ])),
  )

  pub record IsSettled : Type 0 where
    pub phase : Phase member 0 0 HeardS
    pub serves : AllAre (ServesOn member.id.number) (hear_events cluster number carried member)

  -- it is granted
  settles-as-granted : (grant : Granted)
      → heard_from cluster carried ≡ Some (heards.Granted turn.waited.sequence grant (snapshot_in cluster carried))
      → grant.leased ≡ false → grant.by ≡ member.id
      → SetsConfig (settings_seen seen) (find key_cmp keys.Config carried.snapshot) → IsSettled
  settles-as-granted grant says leased by sets =
      let snapshot : SnapshotFacts = snapshot_in cluster carried in
      let mine : is_write_of S.knows.who.me grant ≡ true =
      ap (λ (b : Bool). not b && (grant.by.number == S.knows.who.me.number)) leased
      ∙ ap (λ (n : ℕ). grant.by.number == n)
      (ap (λ (k : Knowledge). k.who.me.number) HereS.knows
      ∙ (knows-itself head cluster member seen good stands).me)
      ∙ ap (λ (m : MemberId). m.number == member.id.number) by ∙ eq-self member.id.number in
      record {
        phase = settled-phase (settings_in S.knows.settings snapshot)
            (sets-config (settings_seen seen) S.knows.settings (find key_cmp keys.Config carried.snapshot) sets)
            (settles-granted member cluster seen.process S number carried stands.process_is HereS.stands HereS.leads
            flies to turn.waited settling grant snapshot says nobody waits-so asks mine);
        serves = serving-by (heards.Granted turn.waited.sequence grant snapshot) says
            (settings_in S.knows.settings snapshot)
            (synced (moment_of cluster) (points_of cluster member) S HereS.leads nobody turn.waited settling grant
            snapshot waits-so asks mine);
      }

  -- it is refused
  settles-as-refused : (key : Key) (there : Expected)
      → heard_from cluster carried ≡ Some (heards.Mismatch turn.waited.sequence key there) → IsSettled
  settles-as-refused key there says = record {
    phase = settled-phase S.knows.settings (ap (λ (k : Knowledge). k.settings) HereS.knows)
        (settles-refused member cluster seen.process S number carried stands.process_is HereS.stands
        HereS.leads flies to
        turn.waited settling key there says nobody waits-so asks);
    serves = serving-by (heards.Mismatch turn.waited.sequence key there) says S.knows.settings
        (unsynced (moment_of cluster) (points_of cluster member) S HereS.leads nobody turn.waited settling key there
        waits-so asks);
  }

  pub turn-settles : (txn : Txn) → WritesSync txn → (request : ℕ) (decision : Decision)
      → carried.message
      ≡ answer_message (Asked member seen turn.waited.sequence (bodies.Request txn))
      (decision_body request txn decision)
      → (granted : ℕ)
      → carried.grant ≡ grant_for (decision_body request txn decision) (ends.Member member) granted
      → (decision ≡ Grant → SetsConfig (settings_seen seen) (find key_cmp keys.Config carried.snapshot)) → IsSettled
  turn-settles txn writes request Grant is granted grant sets =
      let one : Granted = record { revision = granted; by = member.id; leased = is_lease txn } in
      settles-as-granted one
      (ap (λ (m : Message). heard_in cluster carried m.body) is
      ∙ ap (λ (g : Option Granted).
      option_map (λ (g : Granted). let one : Heard =
      heards.Granted carried.message.sequence g (snapshot_in cluster carried) in one) g) grant
      ∙ ap (λ (n : ℕ). let told : Heard = heards.Granted n one (snapshot_in cluster carried) in Some told)
      (ap (λ (m : Message). m.sequence) is))
      (not-lease txn writes) refl (sets refl)
  turn-settles txn writes request (Refusal key there) is granted grant sets =
      settles-as-refused key there
      (ap (λ (m : Message). heard_in cluster carried m.body) is
      ∙ ap (λ (n : ℕ). let told : Heard = heards.Mismatch n key there in Some told)
      (ap (λ (m : Message). m.sequence) is))
