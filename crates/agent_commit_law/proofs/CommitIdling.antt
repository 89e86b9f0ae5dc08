-- Inputs that leave all that kept commits depend on.
use Rattle.std.proofs.Common.{Bool, is_some, not, ◌&&◌, ◌≡◌, ◌⊎◌, ℕ, ◌+◌, ◌≤◌, ◌<◌, true, false, List, Option, Some, None, All, refl, sym, subst, ◌∙◌, arith, inl, inr}
use Rattle.pat_base.specs.declared.member_id.MemberId.{MemberId}
use Rattle.pat_base.specs.declared.member_set.MemberSet.{MemberSet}
use Rattle.pat_base.specs.declared.peer_answer.PeerAnswer.{PeerAnswer}
use Rattle.pat_base.specs.declared.ticks.Ticks.{Ticks}
use Rattle.pg_model.specs.Running.{is_primary}
use Rattle.wal_model.specs.declared.entry.HistoryPoint.{HistoryPoint}
use Rattle.cluster_view.specs.Snapshots.{SnapshotFacts}
use Rattle.event_book.specs.declared.agent_note.AgentNote.TheVariants as agent_notes
use Rattle.event_book.specs.declared.message.Body.TheVariants as bodies
use Rattle.event_book.specs.declared.reason.Reason.TheVariants.{StoreOutOfReach, LeaderKeyLost, FailsafeNotAcknowledged}
use Rattle.store_keys.specs.declared.action.OperatorRequest.{OperatorRequest}
use Rattle.store_keys.specs.declared.txn.Txn.{Txn}
use Rattle.store_keys.specs.declared.txn.Txn.TheVariants as txns
use Rattle.store_keys.specs.declared.txn.LeaseTxn.TheVariants as lease_txns
use Rattle.store_keys.specs.declared.txn.OperatorTxn.TheVariants as operator_txns
use Rattle.lease_model.proofs.Tools.{some-is, none-some}
use Rattle.agent_model.specs.declared.knowledge.PendingQuestion.{PendingQuestion}
use Rattle.agent_model.specs.declared.operating.Operating.{Operating}
use Rattle.agent_model.specs.declared.operating.Told.{Told}
use Rattle.agent_model.specs.declared.output.Output.TheVariants as outputs
use Rattle.agent_model.specs.declared.output.Noting.TheVariants as notings
use Rattle.agent_model.specs.declared.output.Outgoing.TheVariants as outgoing
use Rattle.agent_model.specs.declared.output.ServerOrder.TheVariants as orders
use Rattle.agent_model.specs.declared.output.Telling.TheVariants as tellings
use Rattle.agent_model.specs.declared.output.Target.TheVariants as targets
use Rattle.agent_model.specs.declared.why.Why.{Why}
use Rattle.agent_model.specs.declared.why.Why.TheVariants.{HandOver, Lost}
use Rattle.agent_model.specs.Acting.{deadline_after, lease_span, disarming, disarmed, ending_server, shutting_down, touching, starting_replica, following_server, waiting_no_more}
use Rattle.agent_model.specs.Agents.{RoleFacts, Follower, Outcome, is_ready, is_leader}
use Rattle.pat_base.specs.declared.member_id.TheConstants.{MOST_MEMBERS}
use Rattle.agent_model.specs.Reconciling.{leader_finds_ended, has_ended, finds_live, unleased_finds_ended, reconciled}
use Rattle.agent_model.specs.Claiming.{postpones}
use Rattle.agent_model.specs.Decisions.{refused}
use Rattle.agent_model.specs.HandingOver.{checking, hands_over}
use Rattle.agent_model.specs.Operators.{telling, answering, operating, restarting, wiping, operated, looked, given_up, learned, operator_granted, unnumbered}
use Rattle.agent_model.specs.Outputs.{with_output}
use Rattle.agent_model.specs.Peers.{asked, keeping, answered}
use Rattle.agent_model.specs.Racing.{creating, barred, finds_free, judged, asking_others, unheard}
use Rattle.agent_model.specs.Repairs.{repair_of}
use Rattle.agent_model.specs.Snapshots.{renewing, follow_row, follows, leader_loses_key, unleased_loses_key, read_noted, read_answered, asks_as_unleased, led_by_another}
use Rattle.agent_model.specs.FailsafeKeys.{is_fed_by_failsafe, set_carried, set_in}
use Rattle.agent_model.specs.StayingPrimary.{answering_failsafe, asking_to_stay, counting, failsafe_answered, failsafe_asked, holding_for, leader_unacknowledged, others_known, span_after, stays as stays_primary, stays_alone}
use Rattle.agent_model.specs.Synchronous.{sync_read_in}
use Rattle.agent_model.specs.Table.{refused_any}
use Rattle.agent_model.specs.Wake.{reading, turn_noted, leader_out_of_reach, unleased_out_of_reach, overdue, turned, woken}
use Rattle.agent_commit_law.proofs.CommitQuiet.{MayCarrySet, QuietTxn, Stands, quietly, quiet-disarmed, asks-quiet, whom-quiet, requests-quiet, staying-quiet}
use Rattle.agent_roles.proofs.Knowing.{overdue-onward}
use Rattle.agent_roles.proofs.Living.{no-way}
use Rattle.agent_cases.proofs.Rows.{if-cases, HandoverRows, ReplyRows, IsOperatorTxn, dropping, before-by, overdue-by, turn-by, wake-by, got-by, refused-by, follow-by, repaired-by, free-by, judged-by, answered-by, looked-by, given-up-by, operator-granted-by, refused-any-by, operated-by}
use Rattle.agent_cases.proofs.FailsafeRows.{failsafe-answered-by, failsafe-asked-by}
use Rattle.agent_cases.proofs.Grants.{FailoverRows}
use Rattle.agent_model.specs.Pausing.{may_start_behind, running_without_key}

-- what is waited for was waited for before, or has a new number
abbrev pub WaitsOn : Outcome → Outcome → Type 0
WaitsOn o after = (waited : PendingQuestion) → after.knows.waited ≡ Some waited
    → (o.knows.waited ≡ Some waited) ⊎ (o.knows.sequence < waited.sequence)

pub waits-nothing : (o after : Outcome) → after.knows.waited ≡ None → WaitsOn o after
waits-nothing o after none waited is = absurd (none-some waited (sym none ∙ is))

pub waits-same : (o after : Outcome) → after.knows.waited ≡ o.knows.waited → WaitsOn o after
waits-same o after same waited is = inl (sym same ∙ is)

pub waits-new : (o after : Outcome) (asked : PendingQuestion) → after.knows.waited ≡ Some asked
    → o.knows.sequence < asked.sequence → WaitsOn o after
waits-new o after asked is later waited waits =
    inr (subst (λ (w : PendingQuestion). o.knows.sequence < w.sequence) (some-is asked waited (sym is ∙ waits)) later)

-- its turn's sync key stays, or is that of the snapshot that was told
abbrev pub TurnsOn : Option SnapshotFacts → Outcome → Outcome → Type 0
TurnsOn told o after = (after.knows.turn_sync ≡ o.knows.turn_sync)
    ⊎ ((snapshot : SnapshotFacts) × (told ≡ Some snapshot) × (after.knows.turn_sync ≡ sync_read_in snapshot))

-- outputs that may be actions of their own, and nothing else: on a snapshot
-- that was told, a leader may have its renewal carry a set for the failsafe key
abbrev pub KeepsAlone : Option SnapshotFacts → Outcome → Outcome → Type 0
KeepsAlone told o after = (leads : Bool) → (is_some told ≡ true → is_leader o.role ≡ true → leads ≡ true)
    → All (Stands leads) o.outputs → All (Stands leads) after.outputs

-- nothing that commits depend on, but that the snapshot that was told may be that of its turn
pub record Idle (told : Option SnapshotFacts) (o after : Outcome) : Type 0 where
  pub required : after.machine.replication.required ≡ o.machine.replication.required
  pub ready : is_ready after.role ≡ true → is_ready o.role ≡ true
  pub leads : is_leader after.role ≡ true → is_leader o.role ≡ true
  pub noted : after.knows.noted ≡ o.knows.noted
  pub turn : TurnsOn told o after
  pub waits : WaitsOn o after
  pub quiet : KeepsAlone told o after

at-most-below : (a b c : ℕ) → a ≤ b → b < c → a < c
at-most-below a b c first second = omega (arith, first, second)

waits-then : (a b c : Outcome) → WaitsOn a b → WaitsOn b c → a.knows.sequence ≤ b.knows.sequence → WaitsOn a c
waits-then a b c first second last waited is = elim (second waited is) [
  | inl before-it ↦ first waited before-it
  | inr new ↦ inr (at-most-below a.knows.sequence b.knows.sequence waited.sequence last new)
]

turns-then : (told : Option SnapshotFacts) (a b c : Outcome) → TurnsOn told a b → TurnsOn told b c → TurnsOn told a c
turns-then told a b c first (inr read) = inr read
turns-then told a b c first (inl same) =
    elim first [ inl before-it ↦ inl (same ∙ before-it) | inr read ↦ inr (read.0, read.1, same ∙ read.2) ]

pub idle-then : (told : Option SnapshotFacts) (a b c : Outcome) → Idle told a b → Idle told b c
    → a.knows.sequence ≤ b.knows.sequence → Idle told a c
idle-then told a b c first second last = record {
  required = second.required ∙ first.required;
  ready = λ e. first.ready (second.ready e);
  leads = λ e. first.leads (second.leads e);
  noted = second.noted ∙ first.noted;
  turn = turns-then told a b c first.turn second.turn;
  waits = waits-then a b c first.waits second.waits last;
  quiet = λ leads h q. second.quiet leads (λ t e. h t (first.leads e)) (first.quiet leads h q);
}

-- the role stays
pub stays : (told : Option SnapshotFacts) (o after : Outcome) → after.role ≡ o.role
    → after.machine.replication.required ≡ o.machine.replication.required → after.knows.noted ≡ o.knows.noted
    → after.knows.turn_sync ≡ o.knows.turn_sync
    → WaitsOn o after → KeepsAlone told o after → Idle told o after
stays told o after role required noted turn waits quiet = record {
  required = required;
  ready = λ e. subst (λ (r : RoleFacts). is_ready r ≡ true) role e;
  leads = λ e. subst (λ (r : RoleFacts). is_leader r ≡ true) role e;
  noted = noted;
  turn = inl turn;
  waits = waits;
  quiet = quiet;
}

-- the agent neither leads after it nor is about to
pub falls : (told : Option SnapshotFacts) (o after : Outcome) → is_ready after.role ≡ false
    → is_leader after.role ≡ false → after.machine.replication.required ≡ o.machine.replication.required
    → after.knows.noted ≡ o.knows.noted → after.knows.turn_sync ≡ o.knows.turn_sync
    → WaitsOn o after → KeepsAlone told o after → Idle told o after
falls told o after ready leads required noted turn waits quiet = record {
  required = required;
  ready = λ e. absurd (no-way (sym ready ∙ e));
  leads = λ e. absurd (no-way (sym leads ∙ e));
  noted = noted;
  turn = inl turn;
  waits = waits;
  quiet = quiet;
}

pub same-idle : (told : Option SnapshotFacts) (o : Outcome) → Idle told o o
same-idle told o = stays told o o refl refl refl refl (waits-same o o refl) (λ leads h q. q)

pub quiet-idle : (told : Option SnapshotFacts) (o : Outcome) → Idle told o (waiting_no_more o)
quiet-idle told o =
    stays told o (waiting_no_more o) refl refl refl refl (waits-nothing o (waiting_no_more o) refl) (λ leads h q. q)

ended-idle : (told : Option SnapshotFacts) (why : Why) (held : ℕ) (o : Outcome) → Idle told o (has_ended why held o)
ended-idle told HandOver held o =
    falls told o (has_ended HandOver held o) refl refl refl refl refl (waits-same o (has_ended HandOver held o) refl)
    (λ leads h q. quietly leads (disarmed o.machine.watchdog.deadline o.outputs)
    (outputs.Message (outgoing.Send targets.Store (o.knows.sequence + 1)
    (bodies.Request (txns.Lease (lease_txns.Release held)))))
    (quiet-disarmed leads o.machine.watchdog.deadline o.outputs q) tt)
ended-idle told Lost held o =
    falls told o (has_ended Lost held o) refl refl refl refl refl (waits-same o (has_ended Lost held o) refl)
    (λ leads h q. quiet-disarmed leads o.machine.watchdog.deadline o.outputs q)

pub before-idle : (told : Option SnapshotFacts) (now : Ticks) (o : Outcome) → Idle told o (reconciled now o)
before-idle told now o = before-by (Idle told o) now o (record {
  kept = λ _. same-idle told o;
  leader = λ held _ _. falls told o (leader_finds_ended now held o) refl refl refl refl refl
      (waits-same o (leader_finds_ended now held o) refl)
      (λ leads h q. quiet-disarmed leads o.machine.watchdog.deadline o.outputs q);
  ending = λ held why _ _. ended-idle told why held o;
  follower =
      λ _ _. falls told o (finds_live o) refl refl refl refl refl (waits-same o (finds_live o) refl) (λ leads h q. q);
  holder = λ held _ _.
      falls told o (finds_live o) refl refl refl refl refl (waits-same o (finds_live o) refl) (λ leads h q. q);
  ready = λ held _ _.
      falls told o (finds_live (disarming o)) refl refl refl refl refl (waits-same o (finds_live (disarming o)) refl)
      (λ leads h q. quiet-disarmed leads o.machine.watchdog.deadline o.outputs q);
  unleased =
      λ _ _. falls told o (unleased_finds_ended o) refl refl refl refl refl (waits-same o (unleased_finds_ended o) refl)
      (λ leads h q. quiet-disarmed leads o.machine.watchdog.deadline o.outputs q);
})

pub postpones-idle : (told : Option SnapshotFacts) (held : ℕ) (o : Outcome) → Idle told o (postpones held o)
postpones-idle told held o =
    falls told o (postpones held o) refl refl refl refl refl (waits-same o (postpones held o) refl)
    (λ leads h q. quietly leads (disarmed o.machine.watchdog.deadline o.outputs)
    (outputs.Note (notings.Agent agent_notes.PostponesPromotion))
    (quiet-disarmed leads o.machine.watchdog.deadline o.outputs q) tt)

touching-idle : (told : Option SnapshotFacts) (o : Outcome) → Idle told o (touching o)
touching-idle told o = stays told o (touching o) refl refl refl refl (waits-same o (touching o) refl)
    (λ leads h q. quietly leads o.outputs _ q tt)

barred-idle : (told : Option SnapshotFacts) (o : Outcome) → (bar : _) → Idle told o (barred bar o)
barred-idle told o bar = stays told o (barred bar o) refl refl refl refl (waits-same o (barred bar o) refl)
    (λ leads h q. quietly leads (with_output (outputs.Note (notings.Agent (agent_notes.DoesNotRace bar))) o.outputs) _
    (quietly leads o.outputs (outputs.Note (notings.Agent (agent_notes.DoesNotRace bar))) q tt) tt)

judged-idle : (told : Option SnapshotFacts) (now : Ticks) (o : Outcome) → Idle told o (judged now o)
judged-idle told now o = judged-by (Idle told o) now o
    (stays told o (creating now (waiting_no_more o)) refl refl refl refl
    (waits-new o (creating now (waiting_no_more o)) _ refl (omega arith))
    (λ leads h q. quietly leads o.outputs _ q refl))
    (λ bar. idle-then told o (waiting_no_more o) (barred bar (waiting_no_more o)) (quiet-idle told o)
    (barred-idle told (waiting_no_more o) bar) (omega arith))

stop-idle : (told : Option SnapshotFacts) (now : Ticks) (reason : _) (o : Outcome)
    → Idle told o (ending_server now reason o)
stop-idle told now reason o = stays told o (ending_server now reason o) refl refl refl refl
    (waits-same o (ending_server now reason o) refl)
    (λ leads h q. quietly leads o.outputs (outputs.Server (orders.Stop reason)) q tt)

dropping-idle : (told : Option SnapshotFacts) (compared : ℕ) (o : Outcome) → Idle told o (dropping compared o)
dropping-idle told compared o =
    stays told o (dropping compared o) refl refl refl refl (waits-same o (dropping compared o) refl)
    (λ leads h q. quietly leads o.outputs
    (outputs.Message (outgoing.Send targets.Store (o.knows.sequence + 1)
    (bodies.Request (txns.Operators (operator_txns.DropFailover compared)))))
    q tt)

hands-over-idle : (told : Option SnapshotFacts) (now : Ticks) (held : ℕ) (candidate : MemberId) (o : Outcome)
    → Idle told o (hands_over now held candidate o)
hands-over-idle told now held candidate o = falls told o (hands_over now held candidate o) refl refl refl refl refl
    (waits-same o (hands_over now held candidate o) refl)
    (λ leads h q. quietly leads (with_output (outputs.Note (notings.Agent (agent_notes.HandsOver candidate))) o.outputs)
    (outputs.Server orders.ShutDown)
    (quietly leads o.outputs (outputs.Note (notings.Agent (agent_notes.HandsOver candidate))) q tt) tt)

-- a handover is judged behind another step
handover-idle : (told : Option SnapshotFacts) (now : Ticks) (held : ℕ) (o x : Outcome) → Idle told o x
    → o.knows.sequence ≤ x.knows.sequence → HandoverRows (Idle told o) now held x
handover-idle told now held o x first last = let w : Outcome = waiting_no_more x in
    let there : Idle told o w = idle-then told o x w first (quiet-idle told x) last in record {
      kept = there;
      clears = λ compared. idle-then told o w (dropping compared w) there (dropping-idle told compared w) last;
      hands = λ candidate.
          idle-then told o w (hands_over now held candidate w) there (hands-over-idle told now held candidate w) last;
    }

checking-idle : (told : Option SnapshotFacts) (now : Ticks) (candidate : Option MemberId) (o : Outcome)
    → Idle told o (checking now candidate o)
checking-idle told now candidate o = stays told o (checking now candidate o) refl refl refl refl
    (waits-new o (checking now candidate o) _ refl (omega arith))
    (λ leads h q. whom-quiet leads o.knows.who candidate (o.knows.sequence + 1) o.outputs q)

-- so is what a leader does under a failover key
pub failover-idle : (told : Option SnapshotFacts) (now : Ticks) (held : ℕ) (o x : Outcome) → Idle told o x
    → o.knows.sequence ≤ x.knows.sequence → FailoverRows (Idle told o) now held x
failover-idle told now held o x first last = let u : Outcome = unheard x in
    let there : Idle told o u =
    idle-then told o x u first (stays told x u refl refl refl refl (waits-same x u refl) (λ leads h q. q)) last in
    record {
      kept = first;
      clears = λ compared. idle-then told o x (dropping compared x) first (dropping-idle told compared x) last;
      asks = λ candidate. idle-then told o u (checking now candidate u) there (checking-idle told now candidate u) last;
      judges = handover-idle told now held o u there last;
    }

pub overdue-idle : (told : Option SnapshotFacts) (now : Ticks) (o : Outcome) → Idle told o (overdue now o)
overdue-idle told now o = let w : Outcome = waiting_no_more o in overdue-by (Idle told o) now o (record {
  kept = same-idle told o;
  quiet = quiet-idle told o;
  leader = λ held _. falls told o (leader_out_of_reach now held w) refl refl refl refl refl
      (waits-nothing o (leader_out_of_reach now held w) refl)
      (λ leads h q. quietly leads o.outputs (outputs.Server (orders.Stop StoreOutOfReach)) q tt);
  seeks = λ held _. stays told o (asking_to_stay now (others_known o.knows) w) refl refl refl refl
      (waits-new o (asking_to_stay now (others_known o.knows) w) _ refl (omega arith))
      (λ leads h q. requests-quiet leads (others_known o.knows) (o.knows.sequence + 1)
      (lease_span o.knows.settings) MOST_MEMBERS o.outputs q);
  alone = λ held _. let x : Outcome = stays_alone now (others_known o.knows) w in
      stays told o x refl refl refl refl (waits-nothing o x refl)
      (λ leads h q. staying-quiet leads (deadline_after now (lease_span o.knows.settings) o.machine.watchdog)
      (others_known o.knows) o.knows.sequence now o.outputs q);
  silent = λ held _. falls told o (leader_unacknowledged now held w) refl refl refl refl refl
      (waits-nothing o (leader_unacknowledged now held w) refl)
      (λ leads h q. quietly leads o.outputs (outputs.Server (orders.Stop FailsafeNotAcknowledged)) q tt);
  unleased = λ _. idle-then told o w (unleased_out_of_reach now w) (quiet-idle told o)
      (stop-idle told now StoreOutOfReach w) (omega arith);
  judges = λ _. judged-idle told now o;
  ready =
      λ held _. idle-then told o w (postpones held w) (quiet-idle told o) (postpones-idle told held w) (omega arith);
  checks = λ held _. handover-idle told now held o o (same-idle told o) (omega arith);
})

pub turn-idle : (told : Option SnapshotFacts) (now : Ticks) (o : Outcome) → Idle told o (turned now o)
turn-idle told now o =
    let noted : Outcome = record o { knows = turn_noted now o.knows } in turn-by (Idle told o) now o (record {
      kept = same-idle told o;
      quiet = stays told o noted refl refl refl refl (waits-same o noted refl) (λ leads h q. q);
      reads =
          λ _.
          stays told o (reading now noted) refl refl refl refl (waits-new o (reading now noted) _ refl (omega arith))
          (λ leads h q. quietly leads o.outputs
          (outputs.Message (outgoing.Send targets.Store (o.knows.sequence + 1) bodies.Read)) q tt);
    })

-- operators are answered
answering-idle : (told : Option SnapshotFacts) (request : ℕ) (answer : Told) (o : Outcome)
    → Idle told o (answering request answer o)
answering-idle told request answer o =
    stays told o (answering request answer o) refl refl refl refl (waits-same o (answering request answer o) refl)
    (λ leads h q. quietly leads o.outputs (outputs.Tell (tellings.Told request answer)) q tt)

replies-idle : (told : Option SnapshotFacts) (o : Outcome) → ReplyRows (Idle told o) o
replies-idle told o =
    record { kept = same-idle told o; answers = λ request answer. answering-idle told request answer o }

pub looked-idle : (told : Option SnapshotFacts) (sequence : ℕ) (snapshot : SnapshotFacts) (o : Outcome)
    → Idle told o (looked sequence snapshot o)
looked-idle told sequence snapshot o = looked-by (Idle told o) sequence snapshot o (replies-idle told o)

given-up-idle : (told : Option SnapshotFacts) (now : Ticks) (o : Outcome) → Idle told o (given_up now o)
given-up-idle told now o = given-up-by (Idle told o) now o (replies-idle told o)

pub operator-granted-idle : (told : Option SnapshotFacts) (snapshot : SnapshotFacts)
    (waiting : Option Operating) (o : Outcome) → Idle told o (operator_granted snapshot waiting o)
operator-granted-idle told snapshot waiting o = let x : Outcome = learned snapshot o in
    let first : Idle told o x = stays told o x refl refl refl refl (waits-same o x refl) (λ leads h q. q) in
    operator-granted-by (Idle told o) snapshot waiting o (same-idle told o)
    (record {
      kept = first;
      answers = λ request answer.
          idle-then told o x (answering request answer x) first (answering-idle told request answer x) (omega arith);
    })

-- what an operator wants is quiet
operator-quiet : (leads : Bool) (txn : Txn) → IsOperatorTxn txn → QuietTxn leads txn
operator-quiet leads (txns.Operators (operator_txns.SetFailover failover ttl)) is = tt
operator-quiet leads (txns.Operators (operator_txns.SetConfig revision config)) is = tt
operator-quiet leads _ is = absurd is

pub operated-idle : (told : Option SnapshotFacts) (now : Ticks) (request : ℕ) (asked : OperatorRequest) (o : Outcome)
    → Idle told o (operated now request asked o)
operated-idle told now request asked o = operated-by (Idle told o) now request asked o (record {
  asks = λ operation txn is. let x : Outcome = operating now request operation (bodies.Request txn) o in
      stays told o x refl refl refl refl (waits-same o x refl)
      (λ leads h q. quietly leads o.outputs
      (outputs.Message (outgoing.Send targets.Store (o.knows.sequence + 1) (bodies.Request txn))) q
      (operator-quiet leads txn is));
  restarts = λ answer. let x : Outcome = telling request answer (restarting now o) in
      stays told o x refl refl refl refl (waits-same o x refl)
      (λ leads h q. quietly leads (restarting now o).outputs (outputs.Tell (tellings.Told request answer))
      (quietly leads o.outputs (outputs.Server (orders.Restart (is_primary o.machine.server.state))) q tt) tt);
  wipes = λ answer. let x : Outcome = telling request answer (wiping o) in
      stays told o x refl refl refl refl (waits-same o x refl)
      (λ leads h q.
      quietly leads (wiping o).outputs (outputs.Tell (tellings.Told request answer))
      (quietly leads o.outputs (outputs.Server orders.Wipe) q tt) tt);
  holds = λ ttl answer _. let held : Outcome = holding_for now o.knows.who.me unnumbered ttl o in
      let x : Outcome = telling request answer held in
      stays told o x refl refl refl refl (waits-same o x refl)
      (λ leads h q. quietly leads held.outputs (outputs.Tell (tellings.Told request answer))
      (quietly leads o.outputs (outputs.Tell (tellings.HoldTaken (span_after now ttl) o.knows.who.me unnumbered)) q tt)
      tt);
  refuses = λ answer. let x : Outcome = telling request answer o in stays told o x refl refl refl refl
      (waits-same o x refl) (λ leads h q. quietly leads o.outputs (outputs.Tell (tellings.Told request answer)) q tt);
})

-- behind what precedes it
pub wake-idle : (told : Option SnapshotFacts) (now : Ticks) (o : Outcome) → Idle told (reconciled now o) (woken now o)
wake-idle told now o =
    let b : Outcome = reconciled now o in let x : Outcome = given_up now b in let due : Outcome = overdue now x in
    let last : b.knows.sequence ≤ x.knows.sequence = given-up-by (λ (y : Outcome). b.knows.sequence ≤ y.knows.sequence)
    now b (record { kept = omega arith; answers = λ request answer. omega arith }) in
    let second : Idle told b due = idle-then told b x due (given-up-idle told now b) (overdue-idle told now x) last in
    wake-by (Idle told b) now o (same-idle told b)
    (idle-then told b due (turned now due) second (turn-idle told now due)
    (omega (arith, last, (overdue-onward None now x).last)))

pub follow-idle : (told : Option SnapshotFacts) (now : Ticks) (leader : MemberId) (o : Outcome)
    → Idle told o (follows now leader o)
follow-idle told now leader o = let x : Outcome = led_by_another o in
    let may : Bool = may_start_behind o.knows in
    let row : Outcome = follow_row may now leader o.machine.server.state x in
    let moved : Idle told o row = follow-by (Idle told o) may now leader o.machine.server.state x
    (falls told o x refl refl refl refl refl (waits-same o x refl) (λ leads h q. q))
    (falls told o (starting_replica now (Some leader) x) refl refl refl refl refl
    (waits-same o (starting_replica now (Some leader) x) refl)
    (λ leads h q. quietly leads o.outputs (outputs.Server (orders.StartReplica (Some leader))) q tt))
    (falls told o (following_server leader x) refl refl refl refl refl (waits-same o (following_server leader x) refl)
    (λ leads h q. quietly leads o.outputs (outputs.Server (orders.Follow leader)) q tt))
    (falls told o (shutting_down now x) refl refl refl refl refl (waits-same o (shutting_down now x) refl)
    (λ leads h q. quietly leads o.outputs (outputs.Server orders.ShutDown) q tt)) in
    let counted : o.knows.sequence ≤ row.knows.sequence =
    follow-by (λ (y : Outcome). o.knows.sequence ≤ y.knows.sequence) may now leader o.machine.server.state x
    (omega arith) (omega arith) (omega arith) (omega arith) in
    let told-it : Idle told o (touching row) =
    idle-then told o row (touching row) moved (touching-idle told row) counted in
    repaired-by (Idle told o) leader (repair_of o.knows.settings leader o.machine.server) (touching row) told-it
    (λ r. record {
      required = told-it.required;
      ready = told-it.ready;
      leads = told-it.leads;
      noted = told-it.noted;
      turn = told-it.turn;
      waits = told-it.waits;
      quiet = λ leads h q.
          quietly leads (touching row).outputs (outputs.Server (orders.Repair leader r)) (told-it.quiet leads h q) tt;
    })

pub free-idle : (told : Option SnapshotFacts) (now : Ticks) (o : Outcome) → Idle told o (finds_free now o)
free-idle told now o =
    let x : Outcome = record o { role = Follower } in let starts : Outcome = starting_replica now None x in
    let fell : Idle told o x = falls told o x refl refl refl refl refl (waits-same o x refl) (λ leads h q. q) in
    free-by (Idle told o) now x (record {
      starts = idle-then told o starts (touching starts)
          (falls told o starts refl refl refl refl refl (waits-same o starts refl)
          (λ leads h q. quietly leads o.outputs (outputs.Server (orders.StartReplica None)) q tt))
          (touching-idle told starts) (omega arith);
      touches = idle-then told o x (touching x) fell (touching-idle told x) (omega arith);
      bars = λ bar. idle-then told o x (barred bar x) fell (barred-idle told x bar) (omega arith);
      judges = idle-then told o (unheard x) (judged now (unheard x))
          (falls told o (unheard x) refl refl refl refl refl (waits-same o (unheard x) refl) (λ leads h q. q))
          (judged-idle told now (unheard x)) (omega arith);
      asks = falls told o (asking_others now (unheard x)) refl refl refl refl refl
          (waits-new o (asking_others now (unheard x)) _ refl (omega arith))
          (λ leads h q. asks-quiet leads o.knows.who (o.knows.sequence + 1) MOST_MEMBERS o.outputs q);
    })

read-idle : (now : Ticks) (snapshot : SnapshotFacts) (o : Outcome)
    → Idle (Some snapshot) o (record o { knows = read_noted now snapshot o.knows })
read-idle now snapshot o = record {
  required = refl;
  ready = λ e. e;
  leads = λ e. e;
  noted = refl;
  turn = inr (snapshot, refl, refl);
  waits = waits-nothing o (record o { knows = read_noted now snapshot o.knows }) refl;
  quiet = λ leads h q. q;
}

-- a renewal, which carries a set only for a leader
may-carry : (leads : Bool) (set : Option MemberSet) → leads ≡ true → MayCarrySet leads set
may-carry leads None is = tt
may-carry leads (Some members) is = is

both-first : (a b : Bool) → a && b ≡ true → a ≡ true
both-first true b e = refl
both-first false b e = e

carries-leading : (leads : Bool) (o : Outcome) → (is_leader o.role ≡ true → leads ≡ true)
    → MayCarrySet leads (set_carried o)
carries-leading leads o is = if-cases (MayCarrySet leads) (is_leader o.role && not (is_fed_by_failsafe o.machine))
    (set_in o.knows.settings.failsafe_mode o.knows.seen) None
    (λ both. may-carry leads (set_in o.knows.settings.failsafe_mode o.knows.seen)
    (is (both-first (is_leader o.role) (not (is_fed_by_failsafe o.machine)) both)))
    (λ _. tt)

renewing-idle : (snapshot : SnapshotFacts) (now : Ticks) (points : List HistoryPoint) (revision : ℕ) (o : Outcome)
    → Idle (Some snapshot) o (renewing now points revision o)
renewing-idle snapshot now points revision o =
    stays (Some snapshot) o (renewing now points revision o) refl refl refl refl
    (waits-new o (renewing now points revision o) _ refl (omega arith))
    (λ leads h q. quietly leads o.outputs _ q (carries-leading leads o (h refl)))

-- a primary runs on without the leader key
runs-idle : (told : Option SnapshotFacts) (o : Outcome) → Idle told o (running_without_key o)
runs-idle told o =
    falls told o (running_without_key o) refl refl refl refl refl (waits-same o (running_without_key o) refl)
    (λ leads h q. quietly leads o.outputs (outputs.Note (notings.Agent agent_notes.RunsWithoutKey)) q tt)

pub got-idle : (now : Ticks) (points : List HistoryPoint) (sequence : ℕ) (snapshot : SnapshotFacts) (o : Outcome)
    → Idle (Some snapshot) o (read_answered now points sequence snapshot o)
got-idle now points sequence snapshot o = let read : Outcome = record o { knows = read_noted now snapshot o.knows } in
    let told : Option SnapshotFacts = Some snapshot in
    let first : Idle told o read = read-idle now snapshot o in
    let behind : (after : Outcome) → Idle told read after → Idle told o after =
    λ after second. idle-then told o read after first second (omega arith) in
    got-by (Idle told o) now points sequence snapshot o (record {
      kept = same-idle told o;
      quiet = quiet-idle told o;
      other = first;
      leader = λ held _. let lost : Outcome = leader_loses_key now held read in behind lost
          (falls told read lost refl refl refl refl refl (waits-same read lost refl)
          (λ leads h q. quietly leads o.outputs (outputs.Server (orders.Stop LeaderKeyLost)) q tt));
      unleased = λ _. behind (unleased_loses_key now read) (stop-idle told now LeaderKeyLost read);
      renews = λ _ leader _ _.
          behind (renewing now points leader.revision read) (renewing-idle snapshot now points leader.revision read);
      touches = behind (touching read) (touching-idle told read);
      follows = λ leader _ _. behind (follows now leader.holder read) (follow-idle told now leader.holder read);
      free = λ _ _. behind (finds_free now read) (free-idle told now read);
      runs_on = λ _. behind (running_without_key read) (runs-idle told read);
      asks_on = λ _. let asks : Outcome = asks_as_unleased now read in
          behind asks
          (falls told read asks refl refl refl refl refl (waits-new read asks _ refl (omega arith))
          (λ leads h q.
          quietly leads (with_output (outputs.Note (notings.Agent agent_notes.RunsWithoutKey)) o.outputs) _
          (quietly leads o.outputs (outputs.Note (notings.Agent agent_notes.RunsWithoutKey)) q tt) refl));
    })

refused-idle : (told : Option SnapshotFacts) (now : Ticks) (sequence : ℕ) (o : Outcome)
    → Idle told o (refused now sequence o)
refused-idle told now sequence o =
    let w : Outcome = waiting_no_more o in refused-by (Idle told o) now sequence o (record {
      kept = same-idle told o;
      quiet = quiet-idle told o;
      leader = λ held _. falls told o (leader_loses_key now held w) refl refl refl refl refl
          (waits-nothing o (leader_loses_key now held w) refl)
          (λ leads h q. quietly leads o.outputs (outputs.Server (orders.Stop LeaderKeyLost)) q tt);
      unleased = λ _. idle-then told o w (unleased_loses_key now w) (quiet-idle told o)
          (stop-idle told now LeaderKeyLost w) (omega arith);
      follower = λ held _. falls told o (record w { role = Follower }) refl refl refl refl refl
          (waits-nothing o (record w { role = Follower }) refl) (λ leads h q. q);
      ready =
          λ held _.
          idle-then told o w (postpones held w) (quiet-idle told o) (postpones-idle told held w) (omega arith);
      runs_on = λ _. idle-then told o w (running_without_key w) (quiet-idle told o) (runs-idle told w) (omega arith);
    })

pub any-refused-idle : (told : Option SnapshotFacts) (now : Ticks) (sequence : ℕ) (o : Outcome)
    → Idle told o (refused_any now sequence o)
any-refused-idle told now sequence o =
    refused-any-by (Idle told o) now sequence o (replies-idle told o) (refused-idle told now sequence o)

pub answered-idle : (told : Option SnapshotFacts) (now : Ticks) (sequence : ℕ) (answer : PeerAnswer) (o : Outcome)
    → Idle told o (answered now sequence answer o)
answered-idle told now sequence answer o =
    let kept : Idle told o (keeping answer o) =
    stays told o (keeping answer o) refl refl refl refl (waits-same o (keeping answer o) refl) (λ leads h q. q) in
    answered-by (Idle told o) now sequence answer o (record {
      kept = same-idle told o;
      quiet = quiet-idle told o;
      keeps = kept;
      judges = λ _. idle-then told o (keeping answer o) (judged now (keeping answer o)) kept
          (judged-idle told now (keeping answer o)) (omega arith);
      checks = λ held _. handover-idle told now held o (keeping answer o) kept (omega arith);
    })

pub asked-idle : (told : Option SnapshotFacts) (from : MemberId) (incarnation sequence : ℕ) (o : Outcome)
    → Idle told o (asked from incarnation sequence o)
asked-idle told from incarnation sequence o = stays told o (asked from incarnation sequence o) refl refl refl refl
    (waits-same o (asked from incarnation sequence o) refl) (λ leads h q. quietly leads o.outputs _ q tt)

-- an answer to whether the leader may stay primary
pub stay-answered-idle : (told : Option SnapshotFacts) (now : Ticks) (from : MemberId) (sequence : ℕ)
    (accepted : Bool) (sent : Ticks) (o : Outcome) → Idle told o (failsafe_answered now from sequence accepted sent o)
stay-answered-idle told now from sequence accepted sent o =
    let w : Outcome = waiting_no_more o in let c : Outcome = counting from sent o in
    failsafe-answered-by (Idle told o) now from sequence accepted sent o (record {
      kept = same-idle told o;
      quiet = quiet-idle told o;
      counts = λ _ _. stays told o c refl refl refl refl (waits-same o c refl) (λ leads h q. q);
      counts_late = λ _ _ _. let x : Outcome = waiting_no_more c in
          stays told o x refl refl refl refl (waits-nothing o x refl) (λ leads h q. q);
      stays = λ _ _ waited _ _ since _ _. let x : Outcome = stays_primary now waited.ttl waited.sequence since c in
          stays told o x refl refl refl refl (waits-nothing o x refl)
          (λ leads h q. staying-quiet leads (deadline_after now waited.ttl o.machine.watchdog)
          c.knows.failsafe.members waited.sequence since o.outputs q);
      fails = λ held _ _. falls told o (leader_unacknowledged now held w) refl refl refl refl refl
          (waits-nothing o (leader_unacknowledged now held w) refl)
          (λ leads h q. quietly leads o.outputs (outputs.Server (orders.Stop FailsafeNotAcknowledged)) q tt);
    })

-- another member asks to stay primary
pub stay-asked-idle : (told : Option SnapshotFacts) (now : Ticks) (from : MemberId) (incarnation sequence : ℕ)
    (ttl : Ticks) (o : Outcome) → Idle told o (failsafe_asked now from incarnation sequence ttl o)
stay-asked-idle told now from incarnation sequence ttl o =
    failsafe-asked-by (Idle told o) now from incarnation sequence ttl o
    (λ _. let x : Outcome = answering_failsafe from incarnation sequence true (holding_for now from sequence ttl o) in
    stays told o x refl refl refl refl (waits-same o x refl)
    (λ leads h q. quietly leads _ (outputs.Message (outgoing.FailsafeAnswer from incarnation sequence true))
    (quietly leads o.outputs (outputs.Tell (tellings.HoldTaken (span_after now ttl) from sequence)) q tt) tt))
    (let x : Outcome = answering_failsafe from incarnation sequence false o in
    stays told o x refl refl refl refl (waits-same o x refl)
    (λ leads h q.
    quietly leads o.outputs (outputs.Message (outgoing.FailsafeAnswer from incarnation sequence false)) q tt))

-- without a snapshot, whatever renewals may carry
pub quiet-of : {o after : Outcome} (leads : Bool) → Idle None o after → All (Stands leads) o.outputs
    → All (Stands leads) after.outputs
quiet-of leads idle q = idle.quiet leads (λ e _. absurd (no-way e)) q
