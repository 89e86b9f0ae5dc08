-- The rows of the decision table, one by one: what holds of each row
-- that applies holds of the whole. Those of a grant stand in Grants.
use Rattle.std.proofs.Common.{◌≡◌, ◌⊎◌, ℕ, ◌==◌, ◌&&◌, nat_le, Bool, true, false, if◌then◌else◌, Option, Some, None, List, refl, subst, ap, ◌∙◌, not, [], inl, inr}
use Rattle.pat_base.specs.declared.ineligibility.Ineligibility.{Ineligibility}
use Rattle.wal_model.specs.declared.entry.HistoryPoint.{HistoryPoint}
use Rattle.cluster_view.specs.declared.snapshot.LeaderEntry.{LeaderEntry}
use Rattle.cluster_view.specs.Snapshots.{SnapshotFacts, leader_in}
use Rattle.pat_base.specs.declared.member_id.MemberId.{MemberId}
use Rattle.pat_base.specs.declared.peer_answer.PeerAnswer.{PeerAnswer}
use Rattle.pat_base.specs.declared.ticks.Ticks.{Ticks}
use Rattle.pat_base.specs.declared.server_state.State.{State}
use Rattle.pat_base.specs.declared.server_state.State.TheVariants as states
use Rattle.pat_base.specs.ServerState.{live}
use Rattle.agent_model.specs.declared.output.Repair.{Repair}
use Rattle.agent_model.specs.Repairs.{is_upstream, repairing, repaired_if}
use Rattle.agent_model.specs.declared.knowledge.Question.{Question}
use Rattle.agent_model.specs.declared.knowledge.Question.TheVariants.{Reading, ComparingPositions, Creating, Renewing, Claiming, Syncing, FindingCandidate, StayingPrimary}
use Rattle.agent_model.specs.declared.knowledge.PendingQuestion.{PendingQuestion}
use Rattle.store_keys.specs.declared.txn.Txn.{Txn}
use Rattle.store_keys.specs.declared.txn.Txn.TheVariants as txns
use Rattle.store_keys.specs.declared.txn.OperatorTxn.TheVariants as operator_txns
use Rattle.agent_model.specs.declared.why.Why.{Why}
use Rattle.agent_model.specs.Acting.{sending, lease_span, disarming, waiting_no_more, touching, starting_replica, following_server, is_hold_active, shutting_down}
use Rattle.agent_model.specs.Agents.{RoleFacts, Follower, Holder, Ready, Leader, Ending, Unleased, Outcome}
use Rattle.agent_model.specs.Reconciling.{leader_finds_ended, has_ended, finds_live, unleased_finds_ended, before_as, reconciled}
use Rattle.agent_model.specs.Pausing.{is_paused, ends_forks, running_without_key}
use Rattle.agent_model.specs.Decisions.{may_create, has_primary, awaits_decision, follower_for, renewal_refused, refused_as, refused_for, refused}
use Rattle.agent_model.specs.Claiming.{postpones, claim_fails_as, claim_fails}
use Rattle.agent_model.specs.Fits.{Fits}
use Rattle.agent_model.specs.HandingOver.{leader_revision, clearing_under, clearing, successor_by, hands_over, hands_over_to, handover_judged, judged_if_leading, whom_answered, checks, check_answered}
use Rattle.agent_model.specs.Operators.{telling, answering, answering_if, operating, config_revision, restarting, wiping, operated, result_as, looked_by, uses_read, looked, operator_until, late_answer, given_up_by, given_up, learned, granted_as, operates, operator_granted, refusal_of, operator_refused, unnumbered, asked_to_hold}
use Rattle.operator_answers.specs.Statuses.{ok, internal_server_error}
use Rattle.agent_model.specs.declared.operating.Operating.{Operating}
use Rattle.agent_model.specs.declared.operating.Operation.{Operation}
use Rattle.agent_model.specs.declared.operating.Operation.TheVariants.{FailingOver, Configuring}
use Rattle.agent_model.specs.declared.operating.Told.{Told}
use Rattle.agent_model.specs.declared.operating.Told.TheVariants as tolds
use Rattle.operator_answers.specs.declared.answer_text.Text.TheVariants as texts
use Rattle.store_keys.specs.declared.action.OperatorRequest.{OperatorRequest}
use Rattle.store_keys.specs.declared.action.OperatorRequest.TheVariants as requests
use Rattle.event_book.specs.declared.message.Body.TheVariants as bodies
use Rattle.cluster_view.specs.Naming.{candidate_of}
use Rattle.agent_model.specs.Snapshots.{leader_loses_key, unleased_loses_key, renewing, finds_own_key, own_key, asks_as_unleased, starts_behind, starts_if, follow_row, follows, others_key, no_key, led, is_active, awaits_read, read_noted, accepted, read_answered, ends_fork}
use Rattle.agent_model.specs.Racing.{can_start, starts_alone, bar_of, creating, barred, races_unless, free_key, finds_free, outcome_at, judged_as, judged, asking_others, unheard}
use Rattle.agent_model.specs.Answers.{all_answered}
use Rattle.agent_model.specs.Peers.{is_asking, awaits_others, awaits_answer, awaits_check, judged_if_all, keeping, accepted_answer, answered_for, answered}
use Rattle.agent_model.specs.StayingPrimary.{others_known, asking_to_stay, stays_alone, seeks_to_stay, may_stay, leader_unacknowledged, unacknowledged_as, unacknowledged, awaits_lease, holding_for}
use Rattle.failsafe.specs.Holding.{may_hold}
use Rattle.agent_model.specs.Views.{shown}
use Rattle.agent_model.specs.Table.{refused_any}
use Rattle.agent_model.specs.Wake.{roused, is_due, has_turn, leader_out_of_reach, unleased_out_of_reach, out_of_reach_as, out_of_reach, unanswered, overdue_for, overdue, is_stopping, reading, turn_noted, turn_as, turn_begins, turned, woken}
use Rattle.operator_answers.specs.declared.answer_text.Text.{Text}

pub and-left : (a b : Bool) → a && b ≡ true → a ≡ true
and-left true b e = refl
and-left false b e = e

pub if-cases : {A : Type 0} (P : A → Type 0) (test : Bool) (x y : A) → (test ≡ true → P x)
    → (test ≡ false → P y) → P (if test then x else y)
if-cases P true x y yes-case no-case = yes-case refl
if-cases P false x y yes-case no-case = no-case refl

-- what comes before an input
pub record BeforeRows (P : Outcome → Type 0) (now : Ticks) (o : Outcome) : Type 0 where
  pub kept : Fits o.role (live o.machine.server.state) → P o
  pub leader : (revision : ℕ) → o.role ≡ Leader revision → live o.machine.server.state ≡ false
      → P (leader_finds_ended now revision o)
  pub ending : (revision : ℕ) (why : Why) → o.role ≡ Ending revision why → live o.machine.server.state ≡ false
      → P (has_ended why revision o)
  pub follower : o.role ≡ Follower → live o.machine.server.state ≡ true → P (finds_live o)
  pub holder : (revision : ℕ) → o.role ≡ Holder revision → live o.machine.server.state ≡ true → P (finds_live o)
  pub ready : (revision : ℕ) → o.role ≡ Ready revision → live o.machine.server.state ≡ true
      → P (finds_live (disarming o))
  pub unleased : o.role ≡ Unleased → live o.machine.server.state ≡ false → P (unleased_finds_ended o)

fits-as : (role other : RoleFacts) (b : Bool) → role ≡ other → Fits other b → Fits role b
fits-as role other b e fits = rw e fits

before-as : (P : Outcome → Type 0) (now : Ticks) (role : RoleFacts) (o : Outcome) → o.role ≡ role
    → BeforeRows P now o → P (before_as now role o)
before-as P now (Leader r) o is rows = if-cases P (live o.machine.server.state) o (leader_finds_ended now r o)
    (λ l. rows.kept (fits-as o.role (Leader r) (live o.machine.server.state) is l)) (λ l. rows.leader r is l)
before-as P now (Ending r why) o is rows = if-cases P (live o.machine.server.state) o (has_ended why r o)
    (λ l. rows.kept (fits-as o.role (Ending r why) (live o.machine.server.state) is l)) (λ l. rows.ending r why is l)
before-as P now Follower o is rows = if-cases P (live o.machine.server.state) (finds_live o) o
    (λ l. rows.follower is l) (λ l. rows.kept (fits-as o.role Follower (live o.machine.server.state) is l))
before-as P now (Holder r) o is rows = if-cases P (live o.machine.server.state) (finds_live o) o
    (λ l. rows.holder r is l) (λ l. rows.kept (fits-as o.role (Holder r) (live o.machine.server.state) is l))
before-as P now (Ready r) o is rows = if-cases P (live o.machine.server.state) (finds_live (disarming o)) o
    (λ l. rows.ready r is l) (λ l. rows.kept (fits-as o.role (Ready r) (live o.machine.server.state) is l))
before-as P now Unleased o is rows = if-cases P (live o.machine.server.state) o (unleased_finds_ended o)
    (λ l. rows.kept (fits-as o.role Unleased (live o.machine.server.state) is l)) (λ l. rows.unleased is l)

pub before-by : (P : Outcome → Type 0) (now : Ticks) (o : Outcome) → BeforeRows P now o → P (reconciled now o)
before-by P now o rows = before-as P now o.role o refl rows

-- the race is judged
judged-as : (P : Outcome → Type 0) (now : Ticks) (bar : Option Ineligibility) (o : Outcome)
    → P (creating now o) → ((by : Ineligibility) → P (barred by o)) → P (judged_as now bar o)
judged-as P now None o wins loses = wins
judged-as P now (Some by) o wins loses = loses by

pub judged-by : (P : Outcome → Type 0) (now : Ticks) (o : Outcome) → P (creating now (waiting_no_more o))
    → ((by : Ineligibility) → P (barred by (waiting_no_more o))) → P (judged now o)
judged-by P now o wins loses = judged-as P now (outcome_at now o) (waiting_no_more o) wins loses

-- a claim of the sync key fails
claim-fails-as : (P : Outcome → Type 0) (role : RoleFacts) (o : Outcome) → o.role ≡ role → P o
    → ((revision : ℕ) → o.role ≡ Ready revision → P (postpones revision o)) → P (claim_fails_as role o)
claim-fails-as P (Ready revision) o is kept postponed = postponed revision is
claim-fails-as P _ o is kept postponed = kept

claim-fails-by : (P : Outcome → Type 0) (o : Outcome) → P o
    → ((revision : ℕ) → o.role ≡ Ready revision → P (postpones revision o)) → P (claim_fails o)
claim-fails-by P o kept postponed = claim-fails-as P o.role o refl kept postponed

-- the agent asks that the failover key be removed, under the leader key of this revision
abbrev pub dropping : ℕ → Outcome → Outcome
dropping revision o = sending (bodies.Request (txns.Operators (operator_txns.DropFailover revision))) o

clearing-under : (P : Outcome → Type 0) (revision : Option ℕ) (o : Outcome) → P o
    → ((compared : ℕ) → P (dropping compared o)) → P (clearing_under revision o)
clearing-under P None o kept drops = kept
clearing-under P (Some revision) o kept drops = drops revision

pub clearing-by : (P : Outcome → Type 0) (o : Outcome) → P o → ((compared : ℕ) → P (dropping compared o))
    → P (clearing o)
clearing-by P o kept drops = clearing-under P (leader_revision o.knows.seen) o kept drops

-- a handover is judged
pub record HandoverRows (P : Outcome → Type 0) (now : Ticks) (revision : ℕ) (o : Outcome) : Type 0 where
  pub kept : P (waiting_no_more o)
  pub clears : (compared : ℕ) → P (dropping compared (waiting_no_more o))
  pub hands : (candidate : MemberId) → P (hands_over now revision candidate (waiting_no_more o))

hands-over-to : (P : Outcome → Type 0) (now : Ticks) (revision : ℕ) (successor : Option MemberId) (o : Outcome)
    → HandoverRows P now revision o → P (hands_over_to now revision successor (waiting_no_more o))
hands-over-to P now revision None o rows = clearing-by P (waiting_no_more o) rows.kept rows.clears
hands-over-to P now revision (Some candidate) o rows = rows.hands candidate

pub handover-by : (P : Outcome → Type 0) (now : Ticks) (revision : ℕ) (o : Outcome)
    → HandoverRows P now revision o → P (handover_judged now revision o)
handover-by P now revision o rows =
    hands-over-to P now revision (successor_by o.knows.turn_failover o.knows o.machine.server) o rows

judged-if-leading : (P : Outcome → Type 0) (now : Ticks) (role : RoleFacts) (o : Outcome) → o.role ≡ role
    → P (waiting_no_more o) → ((revision : ℕ) → o.role ≡ Leader revision → HandoverRows P now revision o)
    → P (judged_if_leading now role o)
judged-if-leading P now (Leader revision) o is quiet rows = handover-by P now revision o (rows revision is)
judged-if-leading P now Follower o is quiet rows = quiet
judged-if-leading P now (Holder held) o is quiet rows = quiet
judged-if-leading P now (Ready held) o is quiet rows = quiet
judged-if-leading P now (Ending held why) o is quiet rows = quiet
judged-if-leading P now Unleased o is quiet rows = quiet

-- operators are answered
pub record ReplyRows (P : Outcome → Type 0) (o : Outcome) : Type 0 where
  pub kept : P o
  pub answers : (request : ℕ) (told : Told) → P (answering request told o)

answering-if : (P : Outcome → Type 0) (request : ℕ) (told : Option Told) (o : Outcome) → ReplyRows P o
    → P (answering_if request told o)
answering-if P request None o rows = rows.kept
answering-if P request (Some told) o rows = rows.answers request told

looked-as : (P : Outcome → Type 0) (waiting : Option Operating) (snapshot : SnapshotFacts) (o : Outcome)
    → ReplyRows P o → P (looked_by waiting snapshot o)
looked-as P None snapshot o rows = rows.kept
looked-as P (Some waiting) snapshot o rows =
    answering-if P waiting.request (result_as waiting.operation waiting.leader snapshot) o rows

-- a read is looked at for a request that waits
pub looked-by : (P : Outcome → Type 0) (sequence : ℕ) (snapshot : SnapshotFacts) (o : Outcome) → ReplyRows P o
    → P (looked sequence snapshot o)
looked-by P sequence snapshot o rows = if-cases P (uses_read sequence o) (looked_by o.knows.operating snapshot o) o
    (λ _. looked-as P o.knows.operating snapshot o rows) (λ _. rows.kept)

given-up-as : (P : Outcome → Type 0) (now : Ticks) (waiting : Option Operating) (o : Outcome) → ReplyRows P o
    → P (given_up_by now waiting o)
given-up-as P now None o rows = rows.kept
given-up-as P now (Some waiting) o rows =
    if-cases P (nat_le (operator_until o.knows.settings waiting.operation waiting.since).0 now.0)
    (answering waiting.request (late_answer waiting.operation) o) o
    (λ _. rows.answers waiting.request (late_answer waiting.operation)) (λ _. rows.kept)

-- a request whose time is over
pub given-up-by : (P : Outcome → Type 0) (now : Ticks) (o : Outcome) → ReplyRows P o → P (given_up now o)
given-up-by P now o rows = given-up-as P now o.knows.operating o rows

-- the key store refused what an operator wants
pub operator-refused-by : (P : Outcome → Type 0) (waiting : Option Operating) (o : Outcome) → ReplyRows P o
    → P (operator_refused waiting o)
operator-refused-by P None o rows = rows.kept
operator-refused-by P (Some waiting) o rows = rows.answers waiting.request (refusal_of waiting.operation)

granted-as : (P : Outcome → Type 0) (operation : Operation) (request : ℕ) (o : Outcome) → ReplyRows P o
    → P (granted_as operation request o)
granted-as P (FailingOver kind) request o rows = rows.kept
granted-as P Configuring request o rows = rows.answers request tolds.Written

-- the key store granted what an operator wants
pub operator-granted-by : (P : Outcome → Type 0) (snapshot : SnapshotFacts) (waiting : Option Operating) (o : Outcome)
    → P o → ReplyRows P (learned snapshot o) → P (operator_granted snapshot waiting o)
operator-granted-by P snapshot None o kept rows = kept
operator-granted-by P snapshot (Some waiting) o kept rows =
    granted-as P waiting.operation waiting.request (learned snapshot o) rows

-- a request that an operator has made of the key store
abbrev pub IsOperatorTxn : Txn → Type 0
IsOperatorTxn (txns.Operators (operator_txns.SetFailover failover ttl)) = Unit {0}
IsOperatorTxn (txns.Operators (operator_txns.SetConfig revision config)) = Unit {0}
IsOperatorTxn _ = ⊥

-- another member asks by the REST interface to stay primary, and is answered in words
pub asked-to-hold-by : (P : Outcome → Type 0) (now : Ticks) (request : ℕ) (ttl : Ticks) (o : Outcome)
    → ((text : Text) → may_hold (shown now o) (awaits_lease o.knows.waited) ≡ true →
    P (telling request (tolds.Text ok text) (holding_for now o.knows.who.me unnumbered ttl o)))
    → ((text : Text) → P (telling request (tolds.Text internal_server_error text) o))
    → P (asked_to_hold now request ttl o)
asked-to-hold-by P now request ttl o holds refuses =
    if-cases P (may_hold (shown now o) (awaits_lease o.knows.waited))
    (telling request (tolds.Text ok texts.Accepted) (holding_for now o.knows.who.me unnumbered ttl o))
    (telling request (tolds.Text internal_server_error texts.Refused) o)
    (holds texts.Accepted) (λ _. refuses texts.Refused)

-- what an operator asks is done
pub record ActRows (P : Outcome → Type 0) (now : Ticks) (request : ℕ) (o : Outcome) : Type 0 where
  pub asks : (operation : Operation) (txn : Txn) → IsOperatorTxn txn
      → P (operating now request operation (bodies.Request txn) o)
  pub restarts : (told : Told) → P (telling request told (restarting now o))
  pub wipes : (told : Told) → P (telling request told (wiping o))
  pub holds : (ttl : Ticks) (told : Told) → may_hold (shown now o) (awaits_lease o.knows.waited) ≡ true
      → P (telling request told (holding_for now o.knows.who.me unnumbered ttl o))
  pub refuses : (told : Told) → P (telling request told o)

pub operated-by : (P : Outcome → Type 0) (now : Ticks) (request : ℕ) (asked : OperatorRequest) (o : Outcome)
    → ActRows P now request o → P (operated now request asked o)
operated-by P now request (requests.Failover kind failover) o rows =
    rows.asks (FailingOver kind) (txns.Operators (operator_txns.SetFailover failover (lease_span o.knows.settings))) tt
operated-by P now request (requests.Configuration config) o rows =
    rows.asks Configuring (txns.Operators (operator_txns.SetConfig (config_revision o.knows.seen) config)) tt
operated-by P now request requests.Restart o rows = rows.restarts (tolds.Text ok texts.Restarted)
operated-by P now request requests.Reinit o rows = rows.wipes (tolds.Text ok texts.ReinitializeStarted)
operated-by P now request (requests.Hold from ttl) o rows =
    asked-to-hold-by P now request (record { 0 = ttl }) o
    (λ text may. rows.holds (record { 0 = ttl }) (tolds.Text ok text) may)
    (λ text. rows.refuses (tolds.Text internal_server_error text))

-- a deadline that has passed, by when each row applies
pub record OverdueWhen (P : Outcome → Type 0) (now : Ticks) (o : Outcome) : Type 0 where
  pub kept : P o
  pub quiet : P (waiting_no_more o)
  pub leader : (revision : ℕ) → o.role ≡ Leader revision → is_paused o.knows ≡ false
      → P (leader_out_of_reach now revision (waiting_no_more o))
  pub seeks : (revision : ℕ) → o.role ≡ Leader revision → is_paused o.knows ≡ false → may_stay o.knows ≡ true
      → P (asking_to_stay now (others_known o.knows) (waiting_no_more o))
  pub alone : (revision : ℕ) → o.role ≡ Leader revision → is_paused o.knows ≡ false → may_stay o.knows ≡ true
      → (others_known o.knows).bits == 0 ≡ true → P (stays_alone now (others_known o.knows) (waiting_no_more o))
  pub silent : (revision : ℕ) → o.role ≡ Leader revision → is_paused o.knows ≡ false
      → P (leader_unacknowledged now revision (waiting_no_more o))
  pub unleased : o.role ≡ Unleased → is_paused o.knows ≡ false → P (unleased_out_of_reach now (waiting_no_more o))
  pub judges : awaits_others o.knows.waited ≡ true → may_create o.role ≡ true → P (judged now o)
  pub ready : (revision : ℕ) → o.role ≡ Ready revision → P (postpones revision (waiting_no_more o))
  pub checks : (revision : ℕ) → o.role ≡ Leader revision → HandoverRows P now revision o

out-of-reach-as : (P : Outcome → Type 0) (now : Ticks) (role : RoleFacts) (o : Outcome) → o.role ≡ role
    → is_paused o.knows ≡ false → OverdueWhen P now o → P (out_of_reach_as now role (waiting_no_more o))
out-of-reach-as P now (Leader r) o is unpaused rows = let quiet : Outcome = waiting_no_more o in
    if-cases P (may_stay o.knows) (seeks_to_stay now (others_known o.knows) quiet) (leader_out_of_reach now r quiet)
    (λ may. if-cases P ((others_known o.knows).bits == 0) (stays_alone now (others_known o.knows) quiet)
    (asking_to_stay now (others_known o.knows) quiet) (rows.alone r is unpaused may)
    (λ _. rows.seeks r is unpaused may))
    (λ _. rows.leader r is unpaused)
out-of-reach-as P now Unleased o is unpaused rows = rows.unleased is unpaused
out-of-reach-as P now Follower o is unpaused rows = rows.quiet
out-of-reach-as P now (Holder r) o is unpaused rows = rows.quiet
out-of-reach-as P now (Ready r) o is unpaused rows = rows.quiet
out-of-reach-as P now (Ending r why) o is unpaused rows = rows.quiet

out-of-reach : (P : Outcome → Type 0) (now : Ticks) (o : Outcome) → OverdueWhen P now o → P (out_of_reach now o)
out-of-reach P now o rows =
    if-cases P (is_paused o.knows) (waiting_no_more o) (out_of_reach_as now o.role (waiting_no_more o))
    (λ _. rows.quiet) (λ unpaused. out-of-reach-as P now o.role o refl unpaused rows)

unacknowledged-as : (P : Outcome → Type 0) (now : Ticks) (role : RoleFacts) (o : Outcome) → o.role ≡ role
    → P (waiting_no_more o)
    → ((revision : ℕ) → o.role ≡ Leader revision → P (leader_unacknowledged now revision (waiting_no_more o)))
    → P (unacknowledged_as now role (waiting_no_more o))
unacknowledged-as P now (Leader r) o is quiet fails = fails r is
unacknowledged-as P now Unleased o is quiet fails = quiet
unacknowledged-as P now Follower o is quiet fails = quiet
unacknowledged-as P now (Holder r) o is quiet fails = quiet
unacknowledged-as P now (Ready r) o is quiet fails = quiet
unacknowledged-as P now (Ending r why) o is quiet fails = quiet

-- one that was asked to let the leader stay doesn't acknowledge
pub unacknowledged-by : (P : Outcome → Type 0) (now : Ticks) (o : Outcome) → P (waiting_no_more o)
    → ((revision : ℕ) → o.role ≡ Leader revision → is_paused o.knows ≡ false →
    P (leader_unacknowledged now revision (waiting_no_more o)))
    → P (unacknowledged now o)
unacknowledged-by P now o quiet fails =
    if-cases P (is_paused o.knows) (waiting_no_more o) (unacknowledged_as now o.role (waiting_no_more o))
    (λ _. quiet) (λ unpaused. unacknowledged-as P now o.role o refl quiet (λ r is. fails r is unpaused))

-- the rows of what a wait leaves that is over, but for those of a read or a renewal
pub record OverdueElse (P : Outcome → Type 0) (now : Ticks) (o : Outcome) : Type 0 where
  pub kept : P o
  pub quiet : P (waiting_no_more o)
  pub silent : (revision : ℕ) → o.role ≡ Leader revision → is_paused o.knows ≡ false
      → P (leader_unacknowledged now revision (waiting_no_more o))
  pub judges : awaits_others o.knows.waited ≡ true → may_create o.role ≡ true → P (judged now o)
  pub ready : (revision : ℕ) → o.role ≡ Ready revision → P (postpones revision (waiting_no_more o))
  pub checks : (revision : ℕ) → o.role ≡ Leader revision → HandoverRows P now revision o

-- the question is a read or a renewal
abbrev pub AsksToLead : Question → Type 0
AsksToLead question = (question ≡ Reading) ⊎ (question ≡ Renewing)

unanswered-by : (P : Outcome → Type 0) (now : Ticks) (question : Question) (o : Outcome)
    → (is_asking question ≡ true → awaits_others o.knows.waited ≡ true) → OverdueElse P now o
    → (AsksToLead question → OverdueWhen P now o) → P (unanswered now question o)
unanswered-by P now Reading o asked rows reach = out-of-reach P now o (reach (inl refl))
unanswered-by P now Renewing o asked rows reach = out-of-reach P now o (reach (inr refl))
unanswered-by P now Creating o asked rows reach = rows.quiet
unanswered-by P now Claiming o asked rows reach = claim-fails-by P (waiting_no_more o) rows.quiet rows.ready
unanswered-by P now (Syncing settling) o asked rows reach = rows.quiet
unanswered-by P now FindingCandidate o asked rows reach =
    judged-if-leading P now o.role o refl rows.quiet rows.checks
unanswered-by P now StayingPrimary o asked rows reach = unacknowledged-by P now o rows.quiet rows.silent
unanswered-by P now ComparingPositions o asked rows reach =
    if-cases P (may_create o.role) (judged now o) (waiting_no_more o) (rows.judges (asked refl)) (λ _. rows.quiet)

-- what is waited for is this read or renewal, and the time for its answer is over
pub record OutlastsToLead (now : Ticks) (o : Outcome) : Type 0 where
  pub waited : PendingQuestion
  pub waits : o.knows.waited ≡ Some waited
  pub asks : AsksToLead waited.question
  pub over : nat_le waited.until.0 now.0 ≡ true

overdue-for : (P : Outcome → Type 0) (now : Ticks) (waited : Option PendingQuestion) (o : Outcome)
    → o.knows.waited ≡ waited → OverdueElse P now o → (OutlastsToLead now o → OverdueWhen P now o)
    → P (overdue_for now waited o)
overdue-for P now None o is rows reach = rows.kept
overdue-for P now (Some waited) o is rows reach =
    if-cases P (nat_le waited.until.0 now.0) (unanswered now waited.question o) o
    (λ over. unanswered-by P now waited.question o (λ asked. ap awaits_others is ∙ asked) rows
    (λ asks. reach (record { waited = waited; waits = is; asks = asks; over = over }))) (λ _. rows.kept)

-- those of a read or a renewal by what is over
pub overdue-told : (P : Outcome → Type 0) (now : Ticks) (o : Outcome) → OverdueElse P now o
    → (OutlastsToLead now o → OverdueWhen P now o) → P (overdue now o)
overdue-told P now o rows reach = overdue-for P now o.knows.waited o refl rows reach

pub overdue-when : (P : Outcome → Type 0) (now : Ticks) (o : Outcome) → OverdueWhen P now o → P (overdue now o)
overdue-when P now o rows = overdue-told P now o (record {
  kept = rows.kept;
  quiet = rows.quiet;
  silent = rows.silent;
  judges = rows.judges;
  ready = rows.ready;
  checks = rows.checks;
})
    (λ _. rows)

-- the same, whenever they apply
pub record OverdueRows (P : Outcome → Type 0) (now : Ticks) (o : Outcome) : Type 0 where
  pub kept : P o
  pub quiet : P (waiting_no_more o)
  pub leader : (revision : ℕ) → o.role ≡ Leader revision → P (leader_out_of_reach now revision (waiting_no_more o))
  pub seeks : (revision : ℕ) → o.role ≡ Leader revision
      → P (asking_to_stay now (others_known o.knows) (waiting_no_more o))
  pub alone : (revision : ℕ) → o.role ≡ Leader revision → P (stays_alone now (others_known o.knows) (waiting_no_more o))
  pub silent : (revision : ℕ) → o.role ≡ Leader revision → P (leader_unacknowledged now revision (waiting_no_more o))
  pub unleased : o.role ≡ Unleased → P (unleased_out_of_reach now (waiting_no_more o))
  pub judges : may_create o.role ≡ true → P (judged now o)
  pub ready : (revision : ℕ) → o.role ≡ Ready revision → P (postpones revision (waiting_no_more o))
  pub checks : (revision : ℕ) → o.role ≡ Leader revision → HandoverRows P now revision o

pub overdue-by : (P : Outcome → Type 0) (now : Ticks) (o : Outcome) → OverdueRows P now o → P (overdue now o)
overdue-by P now o rows = overdue-when P now o (record {
  kept = rows.kept;
  quiet = rows.quiet;
  leader = λ revision is _. rows.leader revision is;
  seeks = λ revision is _ _. rows.seeks revision is;
  alone = λ revision is _ _ _. rows.alone revision is;
  silent = λ revision is _. rows.silent revision is;
  unleased = λ is _. rows.unleased is;
  judges = λ _ may. rows.judges may;
  ready = rows.ready;
  checks = rows.checks;
})

-- a turn
pub record TurnRows (P : Outcome → Type 0) (now : Ticks) (o : Outcome) : Type 0 where
  pub kept : P o
  pub quiet : P (record o { knows = turn_noted now o.knows })
  pub reads : is_active o.role ≡ true → P (reading now (record o { knows = turn_noted now o.knows }))

turn-as : (P : Outcome → Type 0) (now : Ticks) (role : RoleFacts) (o : Outcome) → o.role ≡ role
    → TurnRows P now o → P (turn_as now role (record o { knows = turn_noted now o.knows }))
turn-as P now (Ending r why) o is rows = rows.quiet
turn-as P now Unleased o is rows =
    if-cases P (is_stopping o.machine.server.state) (record o { knows = turn_noted now o.knows })
    (reading now (record o { knows = turn_noted now o.knows })) (λ _. rows.quiet) (λ _. rows.reads (rw is refl))
turn-as P now Follower o is rows = rows.reads (rw is refl)
turn-as P now (Holder r) o is rows = rows.reads (rw is refl)
turn-as P now (Ready r) o is rows = rows.reads (rw is refl)
turn-as P now (Leader r) o is rows = rows.reads (rw is refl)

pub turn-by : (P : Outcome → Type 0) (now : Ticks) (o : Outcome) → TurnRows P now o → P (turned now o)
turn-by P now o rows =
    if-cases P (has_turn now o.knows) (turn_begins now o) o (λ _. turn-as P now o.role o refl rows) (λ _. rows.kept)

-- a wake: what comes before it alone, or with an operator whose time is over, a deadline that has passed and a turn
pub wake-by : (P : Outcome → Type 0) (now : Ticks) (o : Outcome) → P (reconciled now o) → P (roused now o)
    → P (woken now o)
wake-by P now o idle due =
    if-cases P (is_due now o.role o.knows o.machine) (roused now o) (reconciled now o) (λ _. due) (λ _. idle)

-- the answer to a read, by when each row applies
pub record GotWhen (P : Outcome → Type 0) (now : Ticks) (points : List HistoryPoint)
    (snapshot : SnapshotFacts) (o : Outcome) : Type 0 where
  pub kept : P o
  pub quiet : P (waiting_no_more o)
  pub other : P (record o { knows = read_noted now snapshot o.knows })
  pub leader : (held : ℕ) → o.role ≡ Leader held → is_paused (read_noted now snapshot o.knows) ≡ false
      → P (leader_loses_key now held (record o { knows = read_noted now snapshot o.knows }))
  pub unleased : o.role ≡ Unleased → is_paused (read_noted now snapshot o.knows) ≡ false
      → P (unleased_loses_key now (record o { knows = read_noted now snapshot o.knows }))
  pub renews : is_active o.role ≡ true → (leader : LeaderEntry) → leader_in snapshot ≡ Some leader
      → leader.holder.number == o.knows.who.me.number ≡ true
      → P (renewing now points leader.revision (record o { knows = read_noted now snapshot o.knows }))
  pub touches : P (touching (record o { knows = read_noted now snapshot o.knows }))
  pub follows : (leader : LeaderEntry) → leader_in snapshot ≡ Some leader → may_create o.role ≡ true
      → P (follows now leader.holder (record o { knows = read_noted now snapshot o.knows }))
  pub free : leader_in snapshot ≡ None → may_create o.role ≡ true
      → P (finds_free now (record o { knows = read_noted now snapshot o.knows }))
  -- in a pause
  pub runs_on : is_paused (read_noted now snapshot o.knows) ≡ true
      → P (running_without_key (record o { knows = read_noted now snapshot o.knows }))
  pub asks_on : leader_in snapshot ≡ None → has_primary o.role ≡ true
      → is_paused (read_noted now snapshot o.knows) ≡ true
      → P (asks_as_unleased now (record o { knows = read_noted now snapshot o.knows }))

-- a primary doesn't have the leader key, since another has it, or nobody
without-key : (P : Outcome → Type 0) (now : Ticks) (points : List HistoryPoint) (snapshot : SnapshotFacts)
    (o lost : Outcome) → (is_paused (read_noted now snapshot o.knows) ≡ false → P lost)
    → GotWhen P now points snapshot o
    → P (if is_paused (read_noted now snapshot o.knows)
    then running_without_key (record o { knows = read_noted now snapshot o.knows }) else lost)
without-key P now points snapshot o lost ends rows = if-cases P (is_paused (read_noted now snapshot o.knows))
    (running_without_key (record o { knows = read_noted now snapshot o.knows })) lost rows.runs_on ends

without-leader : (P : Outcome → Type 0) (now : Ticks) (points : List HistoryPoint) (snapshot : SnapshotFacts)
    (o lost : Outcome) → leader_in snapshot ≡ None → has_primary o.role ≡ true
    → (is_paused (read_noted now snapshot o.knows) ≡ false → P lost) → GotWhen P now points snapshot o
    → P (if is_paused (read_noted now snapshot o.knows)
    then asks_as_unleased now (record o { knows = read_noted now snapshot o.knows }) else lost)
without-leader P now points snapshot o lost none primary ends rows =
    if-cases P (is_paused (read_noted now snapshot o.knows))
    (asks_as_unleased now (record o { knows = read_noted now snapshot o.knows })) lost (rows.asks_on none primary) ends

got-none : (P : Outcome → Type 0) (now : Ticks) (points : List HistoryPoint) (snapshot : SnapshotFacts)
    (role : RoleFacts) (o : Outcome) → o.role ≡ role → leader_in snapshot ≡ None → GotWhen P now points snapshot o
    → P (no_key now role (record o { knows = read_noted now snapshot o.knows }))
got-none P now points snapshot (Leader held) o is none rows = without-leader P now points snapshot o
    (leader_loses_key now held (record o { knows = read_noted now snapshot o.knows })) none (rw is refl)
    (rows.leader held is) rows
got-none P now points snapshot Unleased o is none rows = without-leader P now points snapshot o
    (unleased_loses_key now (record o { knows = read_noted now snapshot o.knows })) none (rw is refl)
    (rows.unleased is) rows
got-none P now points snapshot Follower o is none rows = rows.free none (rw is refl)
got-none P now points snapshot (Holder held) o is none rows = rows.free none (rw is refl)
got-none P now points snapshot (Ready held) o is none rows = rows.other
got-none P now points snapshot (Ending held why) o is none rows = rows.other

got-others : (P : Outcome → Type 0) (now : Ticks) (points : List HistoryPoint) (snapshot : SnapshotFacts)
    (leader : LeaderEntry) (role : RoleFacts) (o : Outcome) → o.role ≡ role → leader_in snapshot ≡ Some leader
    → GotWhen P now points snapshot o
    → P (others_key now leader.holder role (record o { knows = read_noted now snapshot o.knows }))
got-others P now points snapshot leader (Leader held) o is some rows = without-key P now points snapshot o
    (leader_loses_key now held (record o { knows = read_noted now snapshot o.knows })) (rows.leader held is) rows
got-others P now points snapshot leader Unleased o is some rows = without-key P now points snapshot o
    (unleased_loses_key now (record o { knows = read_noted now snapshot o.knows })) (rows.unleased is) rows
got-others P now points snapshot leader Follower o is some rows = rows.follows leader some (rw is refl)
got-others P now points snapshot leader (Holder held) o is some rows = rows.follows leader some (rw is refl)
got-others P now points snapshot leader (Ready held) o is some rows = rows.other
got-others P now points snapshot leader (Ending held why) o is some rows = rows.other

own-found : (P : Outcome → Type 0) (now : Ticks) (points : List HistoryPoint) (snapshot : SnapshotFacts)
    (leader : LeaderEntry) (o : Outcome) → is_active o.role ≡ true → leader_in snapshot ≡ Some leader
    → leader.holder.number == o.knows.who.me.number ≡ true → GotWhen P now points snapshot o
    → P (finds_own_key now points leader.revision (record o { knows = read_noted now snapshot o.knows }))
own-found P now points snapshot leader o active some mine rows =
    if-cases P (is_hold_active now o.machine.hold && not (is_paused (read_noted now snapshot o.knows)))
    (touching (record o { knows = read_noted now snapshot o.knows }))
    (renewing now points leader.revision (record o { knows = read_noted now snapshot o.knows }))
    (λ _. rows.touches) (λ _. rows.renews active leader some mine)

got-own : (P : Outcome → Type 0) (now : Ticks) (points : List HistoryPoint) (snapshot : SnapshotFacts)
    (leader : LeaderEntry) (role : RoleFacts) (o : Outcome) → is_active o.role ≡ true → leader_in snapshot ≡ Some leader
    → leader.holder.number == o.knows.who.me.number ≡ true → GotWhen P now points snapshot o
    → P (own_key now points leader.revision role (record o { knows = read_noted now snapshot o.knows }))
got-own P now points snapshot leader (Leader held) o active some mine rows = rows.renews active leader some mine
got-own P now points snapshot leader Unleased o active some mine rows = rows.renews active leader some mine
got-own P now points snapshot leader Follower o active some mine rows =
    own-found P now points snapshot leader o active some mine rows
got-own P now points snapshot leader (Holder held) o active some mine rows =
    own-found P now points snapshot leader o active some mine rows
got-own P now points snapshot leader (Ready held) o active some mine rows = rows.other
got-own P now points snapshot leader (Ending held why) o active some mine rows = rows.other

got-led : (P : Outcome → Type 0) (now : Ticks) (points : List HistoryPoint) (snapshot : SnapshotFacts)
    (leader : Option LeaderEntry) (o : Outcome) → is_active o.role ≡ true → leader_in snapshot ≡ leader
    → GotWhen P now points snapshot o → P (led now points leader (record o { knows = read_noted now snapshot o.knows }))
got-led P now points snapshot None o active is rows = got-none P now points snapshot o.role o refl is rows
got-led P now points snapshot (Some leader) o active is rows =
    if-cases P (leader.holder.number == o.knows.who.me.number)
    (own_key now points leader.revision o.role (record o { knows = read_noted now snapshot o.knows }))
    (others_key now leader.holder o.role (record o { knows = read_noted now snapshot o.knows }))
    (λ mine. got-own P now points snapshot leader o.role o active is mine rows)
    (λ _. got-others P now points snapshot leader o.role o refl is rows)

pub got-when : (P : Outcome → Type 0) (now : Ticks) (points : List HistoryPoint) (sequence : ℕ)
    (snapshot : SnapshotFacts) (o : Outcome) → GotWhen P now points snapshot o
    → P (read_answered now points sequence snapshot o)
got-when P now points sequence snapshot o rows =
    if-cases P (awaits_read o.knows.waited sequence) (accepted now points snapshot o) o
    (λ _. if-cases P (is_active o.role)
    (led now points (leader_in snapshot) (record o { knows = read_noted now snapshot o.knows })) (waiting_no_more o)
    (λ active. got-led P now points snapshot (leader_in snapshot) o active refl rows) (λ _. rows.quiet))
    (λ _. rows.kept)

-- the same, whenever they apply
pub record GotRows (P : Outcome → Type 0) (now : Ticks) (points : List HistoryPoint)
    (snapshot : SnapshotFacts) (o : Outcome) : Type 0 where
  pub kept : P o
  pub quiet : P (waiting_no_more o)
  pub other : P (record o { knows = read_noted now snapshot o.knows })
  pub leader : (held : ℕ) → o.role ≡ Leader held
      → P (leader_loses_key now held (record o { knows = read_noted now snapshot o.knows }))
  pub unleased : o.role ≡ Unleased → P (unleased_loses_key now (record o { knows = read_noted now snapshot o.knows }))
  pub renews : is_active o.role ≡ true → (leader : LeaderEntry) → leader_in snapshot ≡ Some leader
      → leader.holder.number == o.knows.who.me.number ≡ true
      → P (renewing now points leader.revision (record o { knows = read_noted now snapshot o.knows }))
  pub touches : P (touching (record o { knows = read_noted now snapshot o.knows }))
  pub follows : (leader : LeaderEntry) → leader_in snapshot ≡ Some leader → may_create o.role ≡ true
      → P (follows now leader.holder (record o { knows = read_noted now snapshot o.knows }))
  pub free : leader_in snapshot ≡ None → may_create o.role ≡ true
      → P (finds_free now (record o { knows = read_noted now snapshot o.knows }))
  -- in a pause
  pub runs_on : is_paused (read_noted now snapshot o.knows) ≡ true
      → P (running_without_key (record o { knows = read_noted now snapshot o.knows }))
  pub asks_on : is_paused (read_noted now snapshot o.knows) ≡ true
      → P (asks_as_unleased now (record o { knows = read_noted now snapshot o.knows }))

pub got-by : (P : Outcome → Type 0) (now : Ticks) (points : List HistoryPoint) (sequence : ℕ) (snapshot : SnapshotFacts)
    (o : Outcome) → GotRows P now points snapshot o → P (read_answered now points sequence snapshot o)
got-by P now points sequence snapshot o rows = got-when P now points sequence snapshot o (record {
  kept = rows.kept;
  quiet = rows.quiet;
  other = rows.other;
  leader = λ held is _. rows.leader held is;
  unleased = λ is _. rows.unleased is;
  renews = rows.renews;
  touches = rows.touches;
  follows = rows.follows;
  free = rows.free;
  runs_on = rows.runs_on;
  asks_on = λ _ _ paused. rows.asks_on paused;
})

-- a request was refused, by when each row applies
pub record RefusedWhen (P : Outcome → Type 0) (now : Ticks) (o : Outcome) : Type 0 where
  pub kept : P o
  pub quiet : P (waiting_no_more o)
  pub leader : (held : ℕ) → o.role ≡ Leader held → is_paused o.knows ≡ false
      → P (leader_loses_key now held (waiting_no_more o))
  pub unleased : o.role ≡ Unleased → is_paused o.knows ≡ false → P (unleased_loses_key now (waiting_no_more o))
  pub follower : (held : ℕ) → o.role ≡ Holder held → P (record (waiting_no_more o) { role = Follower })
  pub ready : (held : ℕ) → o.role ≡ Ready held → P (postpones held (waiting_no_more o))
  -- in a pause
  pub runs_on : is_paused o.knows ≡ true → P (running_without_key (waiting_no_more o))

renewal-refused : (P : Outcome → Type 0) (now : Ticks) (role : RoleFacts) (o : Outcome) → o.role ≡ role
    → RefusedWhen P now o → P (renewal_refused now role (waiting_no_more o))
renewal-refused P now (Leader held) o is rows = if-cases P (is_paused o.knows) (running_without_key (waiting_no_more o))
    (leader_loses_key now held (waiting_no_more o)) rows.runs_on (rows.leader held is)
renewal-refused P now Unleased o is rows = if-cases P (is_paused o.knows) (running_without_key (waiting_no_more o))
    (unleased_loses_key now (waiting_no_more o)) rows.runs_on (rows.unleased is)
renewal-refused P now (Holder held) o is rows = rows.follower held is
renewal-refused P now Follower o is rows = rows.quiet
renewal-refused P now (Ready held) o is rows = rows.quiet
renewal-refused P now (Ending held why) o is rows = rows.quiet

create-refused : (P : Outcome → Type 0) (now : Ticks) (role : RoleFacts) (o : Outcome) → o.role ≡ role
    → RefusedWhen P now o → P (record (waiting_no_more o) { role = follower_for role })
create-refused P now (Holder held) o is rows = rows.follower held is
create-refused P now Follower o is rows =
    subst (λ (r : RoleFacts). P (record (waiting_no_more o) { role = r })) is rows.quiet
create-refused P now (Ready held) o is rows =
    subst (λ (r : RoleFacts). P (record (waiting_no_more o) { role = r })) is rows.quiet
create-refused P now (Leader held) o is rows =
    subst (λ (r : RoleFacts). P (record (waiting_no_more o) { role = r })) is rows.quiet
create-refused P now (Ending held why) o is rows =
    subst (λ (r : RoleFacts). P (record (waiting_no_more o) { role = r })) is rows.quiet
create-refused P now Unleased o is rows =
    subst (λ (r : RoleFacts). P (record (waiting_no_more o) { role = r })) is rows.quiet

refused-as : (P : Outcome → Type 0) (now : Ticks) (question : Question) (o : Outcome) → RefusedWhen P now o
    → P (refused_as now question (waiting_no_more o))
refused-as P now Creating o rows = create-refused P now o.role o refl rows
refused-as P now Renewing o rows = renewal-refused P now o.role o refl rows
refused-as P now Claiming o rows = claim-fails-by P (waiting_no_more o) rows.quiet rows.ready
refused-as P now Reading o rows = rows.quiet
refused-as P now ComparingPositions o rows = rows.quiet
refused-as P now (Syncing settling) o rows = rows.quiet
refused-as P now FindingCandidate o rows = rows.quiet
refused-as P now StayingPrimary o rows = rows.quiet

refused-for : (P : Outcome → Type 0) (now : Ticks) (sequence : ℕ) (waited : Option PendingQuestion) (o : Outcome)
    → RefusedWhen P now o → P (refused_for now sequence waited o)
refused-for P now sequence None o rows = rows.kept
refused-for P now sequence (Some waited) o rows =
    if-cases P (awaits_decision waited sequence) (refused_as now waited.question (waiting_no_more o)) o
    (λ _. refused-as P now waited.question o rows) (λ _. rows.kept)

pub refused-when : (P : Outcome → Type 0) (now : Ticks) (sequence : ℕ) (o : Outcome) → RefusedWhen P now o
    → P (refused now sequence o)
refused-when P now sequence o rows = refused-for P now sequence o.knows.waited o rows

-- the same, whenever they apply
pub record RefusedRows (P : Outcome → Type 0) (now : Ticks) (o : Outcome) : Type 0 where
  pub kept : P o
  pub quiet : P (waiting_no_more o)
  pub leader : (held : ℕ) → o.role ≡ Leader held → P (leader_loses_key now held (waiting_no_more o))
  pub unleased : o.role ≡ Unleased → P (unleased_loses_key now (waiting_no_more o))
  pub follower : (held : ℕ) → o.role ≡ Holder held → P (record (waiting_no_more o) { role = Follower })
  pub ready : (held : ℕ) → o.role ≡ Ready held → P (postpones held (waiting_no_more o))
  -- in a pause
  pub runs_on : is_paused o.knows ≡ true → P (running_without_key (waiting_no_more o))

pub refused-by : (P : Outcome → Type 0) (now : Ticks) (sequence : ℕ) (o : Outcome) → RefusedRows P now o
    → P (refused now sequence o)
refused-by P now sequence o rows = refused-when P now sequence o (record {
  kept = rows.kept;
  quiet = rows.quiet;
  leader = λ held is _. rows.leader held is;
  unleased = λ is _. rows.unleased is;
  follower = rows.follower;
  ready = rows.ready;
  runs_on = rows.runs_on;
})

-- what the server of a member does under another leader, or under none
starts-by : (P : Outcome → Type 0) (now : Ticks) (leader : Option MemberId) (o : Outcome) → P o
    → P (starting_replica now leader o) → P (starts_behind now leader o)
starts-by P now leader o kept starts =
    if-cases P o.machine.server.diverged o (starting_replica now leader o) (λ _. kept) (λ _. starts)

ends-by : (P : Outcome → Type 0) (now : Ticks) (o : Outcome) → P o → P (shutting_down now o) → P (ends_fork now o)
ends-by P now o kept shuts = if-cases P (o.machine.server.diverged && ends_forks o.knows.settings)
    (shutting_down now o) o (λ _. shuts) (λ _. kept)

starts-if : (P : Outcome → Type 0) (may_start : Bool) (now : Ticks) (leader : MemberId) (o : Outcome) → P o
    → P (starting_replica now (Some leader) o) → P (starts_if may_start now leader o)
starts-if P true now leader o kept starts = starts-by P now (Some leader) o kept starts
starts-if P false now leader o kept starts = kept

pub follow-by : (P : Outcome → Type 0) (may_start : Bool) (now : Ticks) (leader : MemberId) (state : State)
    (o : Outcome) → P o → P (starting_replica now (Some leader) o) → P (following_server leader o)
    → P (shutting_down now o) → P (follow_row may_start now leader state o)
follow-by P may_start now leader states.Stopped o kept starts follows-it shuts =
    starts-if P may_start now leader o kept starts
follow-by P may_start now leader states.Crashed o kept starts follows-it shuts =
    starts-if P may_start now leader o kept starts
follow-by P may_start now leader states.Replica o kept starts follows-it shuts =
    if-cases P (is_upstream leader o.machine.server.upstream) (ends_fork now o) (following_server leader o)
    (λ _. ends-by P now o kept shuts) (λ _. follows-it)
follow-by P may_start now leader states.Creating o kept starts follows-it shuts = kept
follow-by P may_start now leader (states.Starting as_primary at) o kept starts follows-it shuts = kept
follow-by P may_start now leader states.Primary o kept starts follows-it shuts = kept
follow-by P may_start now leader (states.Stopping was_primary at) o kept starts follows-it shuts = kept

-- and behind it the log may be repaired
pub repaired-by : (P : Outcome → Type 0) (leader : MemberId) (repair : Option Repair) (o : Outcome) → P o
    → ((r : Repair) → P (repairing leader r o)) → P (repaired_if leader repair o)
repaired-by P leader None o kept repaired = kept
repaired-by P leader (Some r) o kept repaired = repaired r

-- what it does about a free leader key
pub record FreeRows (P : Outcome → Type 0) (now : Ticks) (o : Outcome) : Type 0 where
  pub starts : P (touching (starting_replica now None o))
  pub touches : P (touching o)
  pub bars : (by : Ineligibility) → P (barred by o)
  pub judges : P (judged now (unheard o))
  pub asks : P (asking_others now (unheard o))

races-by : (P : Outcome → Type 0) (now : Ticks) (bar : Option Ineligibility) (o : Outcome) → FreeRows P now o
    → P (races_unless now bar o)
races-by P now None o rows = if-cases P (all_answered o.knows.who []) (judged now (unheard o))
    (asking_others now (unheard o)) (λ _. rows.judges) (λ _. rows.asks)
races-by P now (Some by) o rows = rows.bars by

pub free-by : (P : Outcome → Type 0) (now : Ticks) (o : Outcome) → FreeRows P now o → P (free_key now o)
free-by P now o rows =
    if-cases P (can_start o.machine.server) (touching (starts_alone now o))
    (races_unless now (bar_of now o.knows o.machine) o)
    (λ _. if-cases (λ (x : Outcome). P (touching x)) (is_paused o.knows) o (starting_replica now None o)
    (λ _. rows.touches) (λ _. rows.starts))
    (λ _. races-by P now (bar_of now o.knows o.machine) o rows)

-- the answer of another member, by when each row applies
pub record AnsweredWhen (P : Outcome → Type 0) (now : Ticks) (answer : PeerAnswer) (o : Outcome) : Type 0 where
  pub kept : P o
  pub quiet : P (waiting_no_more o)
  pub keeps : P (keeping answer o)
  pub judges : awaits_others o.knows.waited ≡ true → may_create o.role ≡ true → P (judged now (keeping answer o))
  pub checks : (revision : ℕ) → o.role ≡ Leader revision → HandoverRows P now revision (keeping answer o)

accepted-answer : (P : Outcome → Type 0) (now : Ticks) (answer : PeerAnswer) (o : Outcome)
    → awaits_others o.knows.waited ≡ true → AnsweredWhen P now answer o → P (accepted_answer now answer o)
accepted-answer P now answer o asked rows =
    if-cases P (may_create o.role) (judged_if_all now (keeping answer o)) (waiting_no_more o)
    (λ may. if-cases P (all_answered o.knows.who (keeping answer o).knows.answers)
    (judged now (keeping answer o)) (keeping answer o) (λ _. rows.judges asked may) (λ _. rows.keeps))
    (λ _. rows.quiet)

check-answered : (P : Outcome → Type 0) (now : Ticks) (answer : PeerAnswer) (role : RoleFacts) (o : Outcome)
    → o.role ≡ role → AnsweredWhen P now answer o → P (check_answered now answer role o)
check-answered P now answer (Leader revision) o is rows =
    if-cases P (whom_answered o.knows.who (candidate_of o.knows.turn_failover) (keeping answer o).knows.answers)
    (handover_judged now revision (keeping answer o)) (keeping answer o)
    (λ _. handover-by P now revision (keeping answer o) (rows.checks revision is)) (λ _. rows.keeps)
check-answered P now answer Follower o is rows = rows.quiet
check-answered P now answer (Holder held) o is rows = rows.quiet
check-answered P now answer (Ready held) o is rows = rows.quiet
check-answered P now answer (Ending held why) o is rows = rows.quiet
check-answered P now answer Unleased o is rows = rows.quiet

answered-for : (P : Outcome → Type 0) (now : Ticks) (sequence : ℕ) (answer : PeerAnswer)
    (waited : Option PendingQuestion) (o : Outcome) → o.knows.waited ≡ waited → AnsweredWhen P now answer o
    → P (answered_for now sequence answer waited o)
answered-for P now sequence answer None o is rows = rows.kept
answered-for P now sequence answer (Some waited) o is rows =
    if-cases P (awaits_answer waited sequence) (accepted_answer now answer o)
    (if awaits_check waited sequence then check_answered now answer o.role o else o)
    (λ awaits. accepted-answer P now answer o
    (ap awaits_others is ∙ and-left (is_asking waited.question) (waited.sequence == sequence) awaits) rows)
    (λ _. if-cases P (awaits_check waited sequence) (check_answered now answer o.role o) o
    (λ _. check-answered P now answer o.role o refl rows) (λ _. rows.kept))

pub answered-when : (P : Outcome → Type 0) (now : Ticks) (sequence : ℕ) (answer : PeerAnswer) (o : Outcome)
    → AnsweredWhen P now answer o → P (answered now sequence answer o)
answered-when P now sequence answer o rows = answered-for P now sequence answer o.knows.waited o refl rows

-- the same, whenever they apply
pub record AnsweredRows (P : Outcome → Type 0) (now : Ticks) (answer : PeerAnswer) (o : Outcome) : Type 0 where
  pub kept : P o
  pub quiet : P (waiting_no_more o)
  pub keeps : P (keeping answer o)
  pub judges : may_create o.role ≡ true → P (judged now (keeping answer o))
  pub checks : (revision : ℕ) → o.role ≡ Leader revision → HandoverRows P now revision (keeping answer o)

pub answered-by : (P : Outcome → Type 0) (now : Ticks) (sequence : ℕ) (answer : PeerAnswer) (o : Outcome)
    → AnsweredRows P now answer o → P (answered now sequence answer o)
answered-by P now sequence answer o rows = answered-when P now sequence answer o (record {
  kept = rows.kept;
  quiet = rows.quiet;
  keeps = rows.keeps;
  judges = λ _ may. rows.judges may;
  checks = rows.checks;
})

-- a request was refused: what an operator wants, or the agent by itself
pub refused-any-by : (P : Outcome → Type 0) (now : Ticks) (sequence : ℕ) (o : Outcome) → ReplyRows P o
    → P (refused now sequence o) → P (refused_any now sequence o)
refused-any-by P now sequence o rows own = if-cases P (operates o.knows sequence) (operator_refused o.knows.operating o)
    (refused now sequence o) (λ _. operator-refused-by P o.knows.operating o rows) (λ _. own)
