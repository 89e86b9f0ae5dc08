-- With the synchronous mode on in each snapshot, what an agent waits for it asked with the mode on.
use Rattle.std.proofs.Common.{◌≡◌, ℕ, ◌==◌, nat_le, Bool, true, if◌then◌else◌, List, Option, Some, None, refl, sym, subst, ◌∙◌}
use Rattle.store_keys.specs.Defaults.{default_config}
use Rattle.store_keys.specs.declared.action.OperatorRequest.{OperatorRequest}
use Rattle.store_keys.specs.declared.config.Config.{Config}
use Rattle.lease_store.specs.declared.granted.Granted.{Granted}
use Rattle.store_keys.specs.declared.key.Key.TheVariants as keys
use Rattle.store_keys.specs.declared.value.KeyEntry.{KeyEntry}
use Rattle.store_keys.specs.declared.value.Value.{Value}
use Rattle.store_keys.specs.declared.value.Value.TheVariants as values
use Rattle.pat_base.specs.declared.member_id.MemberId.{MemberId}
use Rattle.pat_base.specs.declared.peer_answer.PeerAnswer.{PeerAnswer}
use Rattle.pat_base.specs.declared.ticks.Ticks.{Ticks}
use Rattle.wal_model.specs.declared.entry.HistoryPoint.{HistoryPoint}
use Rattle.cluster_view.specs.Naming.{candidate_of}
use Rattle.cluster_view.specs.Snapshots.{SnapshotFacts, entry_in, settings_by, settings_of_entry, settings_in}
use Rattle.lease_model.proofs.Tools.{some-is, none-some}
use Rattle.agent_model.specs.declared.knowledge.Knowledge.{Knowledge}
use Rattle.agent_model.specs.declared.knowledge.Question.{Question}
use Rattle.agent_model.specs.declared.knowledge.Question.TheVariants.{Reading, ComparingPositions, Creating, Renewing, Claiming, Syncing, FindingCandidate, StayingPrimary}
use Rattle.agent_model.specs.declared.knowledge.PendingQuestion.{PendingQuestion}
use Rattle.agent_model.specs.declared.operating.Operating.{Operating}
use Rattle.agent_model.specs.declared.why.Why.{Why}
use Rattle.agent_model.specs.declared.why.Why.TheVariants.{HandOver, Lost}
use Rattle.agent_model.specs.Acting.{touching, waiting_no_more}
use Rattle.agent_model.specs.Agents.{RoleFacts, Follower, Holder, Ready, Leader, Ending, Unleased, Outcome}
use Rattle.agent_model.specs.Reconciling.{has_ended, reconciled}
use Rattle.agent_model.specs.Claiming.{claim_fails_as}
use Rattle.agent_commit_law.specs.Committing.{IsSynchronousSnapshot, FollowsSynchronousMode, AsksInSynchronousMode}
use Rattle.agent_model.specs.Decisions.{asks_lease, may_create, refused}
use Rattle.agent_model.specs.Answers.{all_answered}
use Rattle.agent_model.specs.HandingOver.{check_answered, handover_judged, judged_if_leading, whom_answered}
use Rattle.agent_model.specs.Operators.{operator_granted, looked, given_up, operated}
use Rattle.agent_model.specs.Peers.{is_asking, awaits_answer, awaits_check, judged_if_all, keeping, accepted_answer, answered_for, answered}
use Rattle.agent_roles.specs.Powers.{IsAwaitedLease}
use Rattle.agent_model.specs.Racing.{judged, finds_free, unheard}
use Rattle.agent_model.specs.Repairs.{repair_of, repairing}
use Rattle.agent_model.specs.Snapshots.{follow_row, follows, read_noted, read_answered, led_by_another}
use Rattle.agent_model.specs.StayingPrimary.{asking_to_stay, failsafe_answered, failsafe_asked, may_stay, others_known, seeks_to_stay, stays_alone, unacknowledged_as}
use Rattle.agent_model.specs.Table.{refused_any}
use Rattle.agent_model.specs.Wake.{leader_out_of_reach, out_of_reach_as, unanswered, overdue_for, overdue, turned, woken, out_of_reach}
use Rattle.agent_roles.proofs.Granting.{both-true}
use Rattle.agent_roles.proofs.Living.{no-way}
use Rattle.agent_cases.proofs.Rows.{ReplyRows, if-cases, before-by, turn-by, wake-by, got-by, refused-by, follow-by, repaired-by, free-by, judged-by, handover-by, looked-by, given-up-by, operator-granted-by, refused-any-by, operated-by}
use Rattle.agent_cases.proofs.FailsafeRows.{failsafe-answered-by, failsafe-asked-by}
use Rattle.agent_model.specs.Pausing.{is_paused, may_start_behind}

-- nothing is waited for
asks-nothing : (knows : Knowledge) → knows.waited ≡ None → AsksInSynchronousMode knows
asks-nothing knows none waited is = absurd (none-some waited (sym none ∙ is))

-- this question is waited for
pub asks-it : (on : Bool) (asked : PendingQuestion) → FollowsSynchronousMode on asked.question
    → (waited : PendingQuestion) → ◌≡◌ {A = Option PendingQuestion} (Some asked) (Some waited)
    → FollowsSynchronousMode on waited.question
asks-it on asked follows waited is =
    subst (λ (w : PendingQuestion). FollowsSynchronousMode on w.question) (some-is asked waited is) follows

ended-asks : (why : Why) (held : ℕ) (o : Outcome) → AsksInSynchronousMode o.knows
    → AsksInSynchronousMode (has_ended why held o).knows
ended-asks HandOver held o on = on
ended-asks Lost held o on = on

pub before-asks : (now : Ticks) (o : Outcome) → AsksInSynchronousMode o.knows
    → AsksInSynchronousMode (reconciled now o).knows
before-asks now o on = before-by (λ (x : Outcome). AsksInSynchronousMode x.knows) now o (record {
  kept = λ _. on;
  leader = λ held _ _. on;
  ending = λ held why _ _. ended-asks why held o on;
  follower = λ _ _. on;
  holder = λ held _ _. on;
  ready = λ held _ _. on;
  unleased = λ _ _. on;
})

-- a race that is judged with the mode on asks for the leader key, or for nothing
judged-asks : (now : Ticks) (o : Outcome) → o.knows.turn_settings.synchronous_mode ≡ true
    → AsksInSynchronousMode (judged now o).knows
judged-asks now o on = judged-by (λ (x : Outcome). AsksInSynchronousMode x.knows) now o
    (asks-it o.knows.turn_settings.synchronous_mode _ on) (λ bar. (λ waited is-it. absurd (none-some waited is-it)))

-- who asks to stay primary
seeks-asks : (now : Ticks) (o : Outcome)
    → AsksInSynchronousMode (seeks_to_stay now (others_known o.knows) (waiting_no_more o)).knows
seeks-asks now o = if-cases (λ (x : Outcome). AsksInSynchronousMode x.knows)
    ((others_known o.knows).bits == 0) (stays_alone now (others_known o.knows) (waiting_no_more o))
    (asking_to_stay now (others_known o.knows) (waiting_no_more o))
    (λ _. (λ waited is-it. absurd (none-some waited is-it))) (λ _. asks-it o.knows.turn_settings.synchronous_mode _ tt)

reach-asks : (now : Ticks) (role : RoleFacts) (o : Outcome)
    → AsksInSynchronousMode (out_of_reach_as now role (waiting_no_more o)).knows
reach-asks now (Leader held) o = if-cases (λ (x : Outcome). AsksInSynchronousMode x.knows) (may_stay o.knows)
    (seeks_to_stay now (others_known o.knows) (waiting_no_more o)) (leader_out_of_reach now held (waiting_no_more o))
    (λ _. seeks-asks now o) (λ _. (λ waited is-it. absurd (none-some waited is-it)))
reach-asks now Unleased o = (λ waited is-it. absurd (none-some waited is-it))
reach-asks now Follower o = (λ waited is-it. absurd (none-some waited is-it))
reach-asks now (Holder held) o = (λ waited is-it. absurd (none-some waited is-it))
reach-asks now (Ready held) o = (λ waited is-it. absurd (none-some waited is-it))
reach-asks now (Ending held why) o = (λ waited is-it. absurd (none-some waited is-it))

silent-asks : (now : Ticks) (role : RoleFacts) (o : Outcome)
    → AsksInSynchronousMode (unacknowledged_as now role (waiting_no_more o)).knows
silent-asks now (Leader held) o = (λ waited is-it. absurd (none-some waited is-it))
silent-asks now Unleased o = (λ waited is-it. absurd (none-some waited is-it))
silent-asks now Follower o = (λ waited is-it. absurd (none-some waited is-it))
silent-asks now (Holder held) o = (λ waited is-it. absurd (none-some waited is-it))
silent-asks now (Ready held) o = (λ waited is-it. absurd (none-some waited is-it))
silent-asks now (Ending held why) o = (λ waited is-it. absurd (none-some waited is-it))

unreached-asks : (now : Ticks) (o : Outcome) → AsksInSynchronousMode (out_of_reach now o).knows
unreached-asks now o = if-cases (λ (x : Outcome). AsksInSynchronousMode x.knows) (is_paused o.knows)
    (waiting_no_more o) (out_of_reach_as now o.role (waiting_no_more o))
    (λ _. (λ waited is-it. absurd (none-some waited is-it))) (λ _. reach-asks now o.role o)

claim-asks : (role : RoleFacts) (o : Outcome) → AsksInSynchronousMode (claim_fails_as role (waiting_no_more o)).knows
claim-asks (Ready held) o = (λ waited is-it. absurd (none-some waited is-it))
claim-asks Follower o = (λ waited is-it. absurd (none-some waited is-it))
claim-asks (Holder held) o = (λ waited is-it. absurd (none-some waited is-it))
claim-asks (Leader held) o = (λ waited is-it. absurd (none-some waited is-it))
claim-asks (Ending held why) o = (λ waited is-it. absurd (none-some waited is-it))
claim-asks Unleased o = (λ waited is-it. absurd (none-some waited is-it))

-- a handover that is judged asks for nothing that is waited for
handover-asks : (now : Ticks) (held : ℕ) (o : Outcome) → AsksInSynchronousMode (handover_judged now held o).knows
handover-asks now held o = handover-by (λ (x : Outcome). AsksInSynchronousMode x.knows) now held o
    (record {
      kept = (λ waited is-it. absurd (none-some waited is-it));
      clears = λ compared. (λ waited is-it. absurd (none-some waited is-it));
      hands = λ candidate. (λ waited is-it. absurd (none-some waited is-it));
    })

leading-asks : (now : Ticks) (role : RoleFacts) (o : Outcome)
    → AsksInSynchronousMode (judged_if_leading now role o).knows
leading-asks now (Leader held) o = handover-asks now held o
leading-asks now Follower o = (λ waited is-it. absurd (none-some waited is-it))
leading-asks now (Holder held) o = (λ waited is-it. absurd (none-some waited is-it))
leading-asks now (Ready held) o = (λ waited is-it. absurd (none-some waited is-it))
leading-asks now (Ending held why) o = (λ waited is-it. absurd (none-some waited is-it))
leading-asks now Unleased o = (λ waited is-it. absurd (none-some waited is-it))

unanswered-asks : (now : Ticks) (question : Question) (o : Outcome)
    → FollowsSynchronousMode o.knows.turn_settings.synchronous_mode question
    → AsksInSynchronousMode (unanswered now question o).knows
unanswered-asks now Reading o on = unreached-asks now o
unanswered-asks now Renewing o on = unreached-asks now o
unanswered-asks now Creating o on = (λ waited is-it. absurd (none-some waited is-it))
unanswered-asks now Claiming o on = claim-asks o.role o
unanswered-asks now (Syncing settling) o on = (λ waited is-it. absurd (none-some waited is-it))
unanswered-asks now FindingCandidate o on = leading-asks now o.role o
unanswered-asks now StayingPrimary o on =
    if-cases (λ (x : Outcome). AsksInSynchronousMode x.knows) (is_paused o.knows) (waiting_no_more o)
    (unacknowledged_as now o.role (waiting_no_more o))
    (λ _. (λ waited is-it. absurd (none-some waited is-it))) (λ _. silent-asks now o.role o)
unanswered-asks now ComparingPositions o on =
    if-cases (λ (x : Outcome). AsksInSynchronousMode x.knows) (may_create o.role) (judged now o)
    (waiting_no_more o) (λ _. judged-asks now o on) (λ _. (λ waited is-it. absurd (none-some waited is-it)))

overdue-asks : (now : Ticks) (waited : Option PendingQuestion) (o : Outcome) → o.knows.waited ≡ waited
    → AsksInSynchronousMode o.knows → AsksInSynchronousMode (overdue_for now waited o).knows
overdue-asks now None o is on = on
overdue-asks now (Some waited) o is on =
    if-cases (λ (x : Outcome). AsksInSynchronousMode x.knows) (nat_le waited.until.0 now.0)
    (unanswered now waited.question o) o (λ _. unanswered-asks now waited.question o (on waited is)) (λ _. on)

turn-asks : (now : Ticks) (o : Outcome) → AsksInSynchronousMode o.knows → AsksInSynchronousMode (turned now o).knows
turn-asks now o on = turn-by (λ (x : Outcome). AsksInSynchronousMode x.knows) now o
    (record { kept = on; quiet = on; reads = λ _. asks-it o.knows.turn_settings.synchronous_mode _ tt })

-- who answers operators waits for the same
replies-asks : (o : Outcome) → AsksInSynchronousMode o.knows
    → ReplyRows (λ (x : Outcome). AsksInSynchronousMode x.knows) o
replies-asks o on = record { kept = on; answers = λ request answer. on }

pub looked-asks : (sequence : ℕ) (snapshot : SnapshotFacts) (o : Outcome) → AsksInSynchronousMode o.knows
    → AsksInSynchronousMode (looked sequence snapshot o).knows
looked-asks sequence snapshot o on =
    looked-by (λ (x : Outcome). AsksInSynchronousMode x.knows) sequence snapshot o (replies-asks o on)

given-up-asks : (now : Ticks) (o : Outcome) → AsksInSynchronousMode o.knows
    → AsksInSynchronousMode (given_up now o).knows
given-up-asks now o on = given-up-by (λ (x : Outcome). AsksInSynchronousMode x.knows) now o (replies-asks o on)

pub operator-granted-asks : (snapshot : SnapshotFacts) (waiting : Option Operating) (o : Outcome)
    → AsksInSynchronousMode o.knows → AsksInSynchronousMode (operator_granted snapshot waiting o).knows
operator-granted-asks snapshot waiting o on = operator-granted-by (λ (x : Outcome). AsksInSynchronousMode x.knows)
    snapshot waiting o on (record { kept = on; answers = λ request answer. on })

pub operated-asks : (now : Ticks) (request : ℕ) (asked : OperatorRequest) (o : Outcome)
    → AsksInSynchronousMode o.knows → AsksInSynchronousMode (operated now request asked o).knows
operated-asks now request asked o on =
    operated-by (λ (x : Outcome). AsksInSynchronousMode x.knows) now request asked o (record {
      asks = λ operation txn is. on;
      restarts = λ answer. on;
      wipes = λ answer. on;
      holds = λ ttl answer _. on;
      refuses = λ answer. on;
    })

-- a wake, behind what precedes it
pub wake-asks-behind : (now : Ticks) (o : Outcome) → AsksInSynchronousMode (reconciled now o).knows
    → AsksInSynchronousMode (woken now o).knows
wake-asks-behind now o on = let x : Outcome = given_up now (reconciled now o) in
    wake-by (λ (y : Outcome). AsksInSynchronousMode y.knows) now o on
    (turn-asks now (overdue now x) (overdue-asks now x.knows.waited x refl (given-up-asks now (reconciled now o) on)))

-- the settings of a snapshot that has the mode on have it on
value-on : (settings : Config) (value : Value) → (settings_by default_config value).synchronous_mode ≡ true
    → (settings_by settings value).synchronous_mode ≡ true
value-on settings (values.Config config) on = on
value-on settings (values.Leader member) on = absurd (no-way on)
value-on settings (values.Member info) on = absurd (no-way on)
value-on settings (values.Failover failover) on = absurd (no-way on)
value-on settings (values.Sync sync) on = absurd (no-way on)
value-on settings (values.Status end) on = absurd (no-way on)
value-on settings (values.History row) on = absurd (no-way on)
value-on settings (values.Failsafe members) on = absurd (no-way on)
value-on settings (values.Scheduled planned) on = absurd (no-way on)

entry-on : (settings : Config) (found : Option KeyEntry)
    → (settings_of_entry default_config found).synchronous_mode ≡ true
    → (settings_of_entry settings found).synchronous_mode ≡ true
entry-on settings None on = absurd (no-way on)
entry-on settings (Some found) on = value-on settings found.value on

settings-on : (settings : Config) (snapshot : SnapshotFacts) → IsSynchronousSnapshot snapshot
    → (settings_in settings snapshot).synchronous_mode ≡ true
settings-on settings snapshot on = entry-on settings (entry_in keys.Config snapshot) on.synchronous

follow-asks : (now : Ticks) (leader : MemberId) (o : Outcome) → o.knows.waited ≡ None
    → AsksInSynchronousMode (follows now leader o).knows
follow-asks now leader o none = let x : Outcome = led_by_another o in let may : Bool = may_start_behind o.knows in
    let row : Outcome = touching (follow_row may now leader o.machine.server.state x) in
    let waits : row.knows.waited ≡ None = follow-by (λ (y : Outcome). (touching y).knows.waited ≡ None) may
    now leader o.machine.server.state x none none none none in
    repaired-by (λ (y : Outcome). AsksInSynchronousMode y.knows) leader
    (repair_of o.knows.settings leader o.machine.server) row (asks-nothing row.knows waits)
    (λ r. asks-nothing (repairing leader r row).knows waits)

free-asks : (now : Ticks) (o : Outcome) → o.knows.waited ≡ None
    → o.knows.turn_settings.synchronous_mode ≡ true → AsksInSynchronousMode (finds_free now o).knows
free-asks now o none on = let x : Outcome = record o { role = Follower } in
    free-by (λ (y : Outcome). AsksInSynchronousMode y.knows) now x (record {
      starts = (λ waited is-it. absurd (none-some waited (sym none ∙ is-it)));
      touches = (λ waited is-it. absurd (none-some waited (sym none ∙ is-it)));
      bars = λ bar. (λ waited is-it. absurd (none-some waited (sym none ∙ is-it)));
      judges = judged-asks now (unheard x) on;
      asks = asks-it o.knows.turn_settings.synchronous_mode _ on;
    })

pub got-asks : (now : Ticks) (points : List HistoryPoint) (sequence : ℕ) (snapshot : SnapshotFacts) (o : Outcome)
    → IsSynchronousSnapshot snapshot → AsksInSynchronousMode o.knows
    → AsksInSynchronousMode (read_answered now points sequence snapshot o).knows
got-asks now points sequence snapshot o is on =
    let read : Outcome = record o { knows = read_noted now snapshot o.knows } in
    let mode : read.knows.turn_settings.synchronous_mode ≡ true = settings-on o.knows.settings snapshot is in
    got-by (λ (x : Outcome). AsksInSynchronousMode x.knows) now points sequence snapshot o (record {
      kept = on;
      quiet = (λ waited is-it. absurd (none-some waited is-it));
      other = (λ waited is-it. absurd (none-some waited is-it));
      leader = λ held _. (λ waited is-it. absurd (none-some waited is-it));
      unleased = λ _. (λ waited is-it. absurd (none-some waited is-it));
      renews = λ _ leader _ _. asks-it read.knows.turn_settings.synchronous_mode _ mode;
      touches = (λ waited is-it. absurd (none-some waited is-it));
      follows = λ leader _ _. follow-asks now leader.holder read refl;
      free = λ _ _. free-asks now read refl mode;
      runs_on = λ _. (λ waited is-it. absurd (none-some waited is-it));
      asks_on = λ _. asks-it read.knows.turn_settings.synchronous_mode _ mode;
    })

refused-asks : (now : Ticks) (sequence : ℕ) (o : Outcome) → AsksInSynchronousMode o.knows
    → AsksInSynchronousMode (refused now sequence o).knows
refused-asks now sequence o on = refused-by (λ (x : Outcome). AsksInSynchronousMode x.knows) now sequence o (record {
  kept = on;
  quiet = (λ waited is-it. absurd (none-some waited is-it));
  leader = λ held _. (λ waited is-it. absurd (none-some waited is-it));
  unleased = λ _. (λ waited is-it. absurd (none-some waited is-it));
  follower = λ held _. (λ waited is-it. absurd (none-some waited is-it));
  ready = λ held _. (λ waited is-it. absurd (none-some waited is-it));
  runs_on = λ _. (λ waited is-it. absurd (none-some waited is-it));
})

pub any-refused-asks : (now : Ticks) (sequence : ℕ) (o : Outcome) → AsksInSynchronousMode o.knows
    → AsksInSynchronousMode (refused_any now sequence o).knows
any-refused-asks now sequence o on = refused-any-by (λ (x : Outcome). AsksInSynchronousMode x.knows) now sequence o
    (replies-asks o on) (refused-asks now sequence o on)

asking-on : (question : Question) (on : Bool) → is_asking question ≡ true → FollowsSynchronousMode on question
    → on ≡ true
asking-on ComparingPositions on asks follows = follows
asking-on Reading on asks follows = absurd (no-way asks)
asking-on Creating on asks follows = absurd (no-way asks)
asking-on Renewing on asks follows = absurd (no-way asks)
asking-on Claiming on asks follows = absurd (no-way asks)
asking-on (Syncing settling) on asks follows = absurd (no-way asks)
asking-on FindingCandidate on asks follows = absurd (no-way asks)
asking-on StayingPrimary on asks follows = absurd (no-way asks)

-- an answer in a race with the mode on
accepted-asks : (now : Ticks) (answer : PeerAnswer) (o : Outcome) → AsksInSynchronousMode o.knows
    → o.knows.turn_settings.synchronous_mode ≡ true → AsksInSynchronousMode (accepted_answer now answer o).knows
accepted-asks now answer o on mode = let P : Outcome → Type 0 = λ x. AsksInSynchronousMode x.knows in
    if-cases P (may_create o.role) (judged_if_all now (keeping answer o)) (waiting_no_more o)
    (λ _. if-cases P (all_answered o.knows.who (keeping answer o).knows.answers) (judged now (keeping answer o))
    (keeping answer o) (λ _. judged-asks now (keeping answer o) mode) (λ _. on))
    (λ _. (λ waited is-it. absurd (none-some waited is-it)))

-- an answer to a leader
check-asks : (now : Ticks) (answer : PeerAnswer) (role : RoleFacts) (o : Outcome)
    → AsksInSynchronousMode o.knows → AsksInSynchronousMode (check_answered now answer role o).knows
check-asks now answer (Leader held) o on =
    if-cases (λ (x : Outcome). AsksInSynchronousMode x.knows)
    (whom_answered o.knows.who (candidate_of o.knows.turn_failover) (keeping answer o).knows.answers)
    (handover_judged now held (keeping answer o)) (keeping answer o)
    (λ _. handover-asks now held (keeping answer o)) (λ _. on)
check-asks now answer Follower o on = (λ waited is-it. absurd (none-some waited is-it))
check-asks now answer (Holder held) o on = (λ waited is-it. absurd (none-some waited is-it))
check-asks now answer (Ready held) o on = (λ waited is-it. absurd (none-some waited is-it))
check-asks now answer (Ending held why) o on = (λ waited is-it. absurd (none-some waited is-it))
check-asks now answer Unleased o on = (λ waited is-it. absurd (none-some waited is-it))

answered-on : (now : Ticks) (sequence : ℕ) (answer : PeerAnswer) (waited : Option PendingQuestion) (o : Outcome)
    → o.knows.waited ≡ waited → AsksInSynchronousMode o.knows
    → AsksInSynchronousMode (answered_for now sequence answer waited o).knows
answered-on now sequence answer None o is on = on
answered-on now sequence answer (Some waited) o is on = let P : Outcome → Type 0 = λ x. AsksInSynchronousMode x.knows in
    if-cases P (awaits_answer waited sequence) (accepted_answer now answer o)
    (if awaits_check waited sequence then check_answered now answer o.role o else o)
    (λ awaits. accepted-asks now answer o on
    (asking-on waited.question o.knows.turn_settings.synchronous_mode
    (both-true (is_asking waited.question) (waited.sequence == sequence) awaits).0 (on waited is)))
    (λ _. if-cases P (awaits_check waited sequence) (check_answered now answer o.role o) o
    (λ _. check-asks now answer o.role o on) (λ _. on))

pub answered-asks : (now : Ticks) (sequence : ℕ) (answer : PeerAnswer) (o : Outcome)
    → AsksInSynchronousMode o.knows → AsksInSynchronousMode (answered now sequence answer o).knows
answered-asks now sequence answer o on = answered-on now sequence answer o.knows.waited o refl on

-- an answer to whether it may stay primary
pub stay-answered-asks : (now : Ticks) (from : MemberId) (sequence : ℕ) (accepted : Bool) (sent : Ticks) (o : Outcome)
    → AsksInSynchronousMode o.knows → AsksInSynchronousMode (failsafe_answered now from sequence accepted sent o).knows
stay-answered-asks now from sequence accepted sent o on =
    failsafe-answered-by (λ (x : Outcome). AsksInSynchronousMode x.knows) now from sequence accepted sent o (record {
      kept = on;
      quiet = (λ waited is-it. absurd (none-some waited is-it));
      counts = λ _ _. on;
      counts_late = λ _ _ _. (λ waited is-it. absurd (none-some waited is-it));
      stays = λ _ _ _ _ _ _ _ _. (λ waited is-it. absurd (none-some waited is-it));
      fails = λ _ _ _. (λ waited is-it. absurd (none-some waited is-it));
    })

pub stay-asked-asks : (now : Ticks) (from : MemberId) (incarnation sequence : ℕ) (ttl : Ticks) (o : Outcome)
    → AsksInSynchronousMode o.knows → AsksInSynchronousMode (failsafe_asked now from incarnation sequence ttl o).knows
stay-asked-asks now from incarnation sequence ttl o on =
    failsafe-asked-by (λ (x : Outcome). AsksInSynchronousMode x.knows) now from incarnation sequence ttl o (λ _. on) on

lease-on : (question : Question) (on : Bool) → asks_lease question ≡ true → FollowsSynchronousMode on question
    → on ≡ true
lease-on Creating on asks follows = follows
lease-on Renewing on asks follows = follows
lease-on ComparingPositions on asks follows = absurd (no-way asks)
lease-on Reading on asks follows = absurd (no-way asks)
lease-on Claiming on asks follows = absurd (no-way asks)
lease-on (Syncing settling) on asks follows = absurd (no-way asks)
lease-on FindingCandidate on asks follows = absurd (no-way asks)
lease-on StayingPrimary on asks follows = absurd (no-way asks)

-- whoever waits for a lease asked for it with the mode on
pub leases-on : (sequence : ℕ) (grant : Granted) (knows : Knowledge) → AsksInSynchronousMode knows
    → IsAwaitedLease sequence grant knows → knows.turn_settings.synchronous_mode ≡ true
leases-on sequence grant knows on awaited =
    lease-on awaited.waited.question knows.turn_settings.synchronous_mode
    (both-true (asks_lease awaited.waited.question) (awaited.waited.sequence == sequence) awaited.decision).0
    (on awaited.waited awaited.is)
