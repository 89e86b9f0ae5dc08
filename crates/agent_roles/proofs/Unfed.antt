-- An agent that is woken, or asked by an operator, feeds no watchdog,
-- but that of a leader which stays primary with nobody to ask.
use Rattle.std.proofs.Common.{◌≡◌, ◌==◌, ◌+◌, ℕ, zero, suc, Bool, true, false, cond, List, [], Option, Some, None, All, refl, arith}
use Rattle.std.proofs.lemmas.List.Elements.{All-nil, All-push}
use Rattle.std.proofs.lemmas.Bool.Decides.{nat_tests}
use Rattle.pat_base.specs.MemberId.{member_of}
use Rattle.pat_base.specs.declared.member_id.MemberId.{MemberId}
use Rattle.pat_base.specs.declared.member_id.TheConstants.{MOST_MEMBERS}
use Rattle.pat_base.specs.declared.member_set.MemberSet.{MemberSet}
use Rattle.event_book.specs.declared.message.Body.TheVariants as bodies
use Rattle.failsafe.specs.Asks.{has}
use Rattle.pat_base.specs.ServerState.{live}
use Rattle.pat_base.specs.declared.ticks.Ticks.{Ticks}
use Rattle.store_keys.specs.declared.action.OperatorAction.{OperatorAction}
use Rattle.wal_model.specs.declared.entry.HistoryPoint.{HistoryPoint}
use Rattle.agent_model.specs.declared.heard.Heard.TheVariants.{Operated, Wake}
use Rattle.agent_model.specs.declared.knowledge.Knowledge.{Knowledge}
use Rattle.agent_model.specs.declared.knowledge.Question.{Question}
use Rattle.agent_model.specs.declared.knowledge.Question.TheVariants.{ComparingPositions, FindingCandidate, Creating, Reading, Renewing, Claiming, Syncing, StayingPrimary}
use Rattle.agent_model.specs.declared.knowledge.PendingQuestion.{PendingQuestion}
use Rattle.agent_model.specs.declared.machine.Machine.{Machine}
use Rattle.agent_model.specs.declared.output.Output.{Output}
use Rattle.agent_model.specs.declared.output.Output.TheVariants as outputs
use Rattle.agent_model.specs.declared.output.Feeding.TheVariants as feedings
use Rattle.agent_model.specs.declared.output.Noting.TheVariants as notings
use Rattle.agent_model.specs.declared.output.Outgoing.TheVariants as outgoing
use Rattle.agent_model.specs.declared.output.Target.TheVariants as targets
use Rattle.agent_model.specs.declared.why.Why.{Why}
use Rattle.agent_model.specs.declared.why.Why.TheVariants.{HandOver, Lost}
use Rattle.agent_model.specs.Acting.{deadline_after, disarmed, lease_span, waiting_no_more}
use Rattle.agent_model.specs.Agents.{RoleFacts, Follower, Holder, Ready, Leader, Ending, Unleased, Outcome, outcome_from}
use Rattle.agent_cases.proofs.Rows.{HandoverRows, given-up-by, handover-by, judged-by, operated-by}
use Rattle.agent_model.specs.Reconciling.{reconciled, before_as, has_ended}
use Rattle.agent_model.specs.Claiming.{claim_fails_as}
use Rattle.agent_model.specs.Decisions.{may_create}
use Rattle.agent_model.specs.HandingOver.{judged_if_leading}
use Rattle.agent_model.specs.Operators.{given_up}
use Rattle.agent_model.specs.Racing.{judged}
use Rattle.agent_model.specs.Outputs.{with_output}
use Rattle.agent_model.specs.StayingPrimary.{asking_to_stay, fed_by_failsafe, may_stay, others_known, requesting_first, requesting_one, seeks_to_stay, stays_alone, unacknowledged_as}
use Rattle.agent_model.specs.Table.{step}
use Rattle.agent_model.specs.Wake.{has_turn, is_due, is_overdue, is_stopping, leader_out_of_reach, out_of_reach_as, overdue, overdue_for, roused, turn_as, turn_begins, turn_noted, turned, unanswered, woken}
use Rattle.agent_model.specs.Pausing.{is_paused}

-- an output of this moment that feeds no watchdog, or one by the word of nobody, measured from now
abbrev pub FeedsAlone : Ticks → Output → Type 0
FeedsAlone now (outputs.Watchdog (feedings.Armed until)) = ⊥
FeedsAlone now (outputs.Watchdog (feedings.Fed until)) = ⊥
FeedsAlone now (outputs.Watchdog (feedings.FedByFailsafe until members sequence since)) =
    (members.bits ≡ 0) × (since ≡ now)
FeedsAlone now _ = Unit {0}

abbrev NoneFed : Ticks → Outcome → Type 0
NoneFed now o = All (FeedsAlone now) o.outputs

none-disarmed : (now : Ticks) (deadline : Option Ticks) (outs : List Output) → All (FeedsAlone now) outs
    → All (FeedsAlone now) (disarmed deadline outs)
none-disarmed now None outs all = all
none-disarmed now (Some deadline) outs all = All-push (FeedsAlone now) outs (outputs.Watchdog feedings.Disarmed) all tt

none-if : (now : Ticks) (test : Bool) (x y : Outcome) → NoneFed now x → NoneFed now y → NoneFed now (cond test x y)
none-if now true x y first second = first
none-if now false x y first second = second

none-ended : (why : Why) (now : Ticks) (revision : _) (o : Outcome) → NoneFed now o
    → NoneFed now (has_ended why revision o)
none-ended HandOver now revision o all =
    All-push (FeedsAlone now) _ _ (none-disarmed now o.machine.watchdog.deadline o.outputs all) tt
none-ended Lost now revision o all = none-disarmed now o.machine.watchdog.deadline o.outputs all

none-before : (now : Ticks) (role : RoleFacts) (o : Outcome) → NoneFed now o → NoneFed now (before_as now role o)
none-before now (Leader revision) o all =
    none-if now (live o.machine.server.state) o _ all (none-disarmed now o.machine.watchdog.deadline o.outputs all)
none-before now (Ending revision why) o all =
    none-if now (live o.machine.server.state) o (has_ended why revision o) all (none-ended why now revision o all)
none-before now Follower o all = none-if now (live o.machine.server.state) _ o all all
none-before now (Holder revision) o all = none-if now (live o.machine.server.state) _ o all all
none-before now (Ready revision) o all =
    none-if now (live o.machine.server.state) _ o (none-disarmed now o.machine.watchdog.deadline o.outputs all) all
none-before now Unleased o all =
    none-if now (live o.machine.server.state) o _ all (none-disarmed now o.machine.watchdog.deadline o.outputs all)

none-requested : (now ttl : Ticks) (members : MemberSet) (sequence : ℕ) (member : Option MemberId) (outs : List Output)
    → All (FeedsAlone now) outs → All (FeedsAlone now) (requesting_one members sequence ttl member outs)
none-requested now ttl members sequence None outs all = all
none-requested now ttl members sequence (Some member) outs all = none-list (has members member.number)
  where
    none-list : (test : Bool)
        → All (FeedsAlone now)
        (cond test
        (with_output (outputs.Message (outgoing.Send (targets.Member member) sequence (bodies.FailsafeRequest ttl)))
        outs)
        outs)
    none-list true = All-push (FeedsAlone now) outs _ all tt
    none-list false = all

none-requests : (now ttl : Ticks) (members : MemberSet) (sequence count : ℕ) (outs : List Output)
    → All (FeedsAlone now) outs → All (FeedsAlone now) (requesting_first members sequence ttl count outs)
none-requests now ttl members sequence zero outs all = all
none-requests now ttl members sequence (suc count) outs all = none-requested now ttl members sequence (member_of count)
    (requesting_first members sequence ttl count outs) (none-requests now ttl members sequence count outs all)

-- a leader that has nobody to ask feeds by the word of nobody
none-alone : (now : Ticks) (deadline : Option Ticks) (members : MemberSet) (sequence : ℕ) (outs : List Output)
    → members.bits ≡ 0 → All (FeedsAlone now) outs
    → All (FeedsAlone now)
    (with_output (outputs.Note notings.StaysByFailsafe) (fed_by_failsafe deadline members sequence now outs))
none-alone now None members sequence outs nobody all =
    All-push (FeedsAlone now) outs (outputs.Note notings.StaysByFailsafe) all tt
none-alone now (Some until) members sequence outs nobody all = All-push (FeedsAlone now)
    (with_output (outputs.Watchdog (feedings.FedByFailsafe until members sequence now)) outs)
    (outputs.Note notings.StaysByFailsafe)
    (All-push (FeedsAlone now) outs (outputs.Watchdog (feedings.FedByFailsafe until members sequence now)) all
    (nobody, refl))
    tt

none-seeks : (now : Ticks) (o : Outcome) → NoneFed now o → NoneFed now (seeks_to_stay now (others_known o.knows) o)
none-seeks now o all = by ((others_known o.knows).bits == 0) refl
  where
    nobody-is : (n : ℕ) → n == 0 ≡ true → n ≡ 0
    nobody-is n e = grind (arith, nat_tests)

    by : (test : Bool) → (others_known o.knows).bits == 0 ≡ test
        → NoneFed now
        (cond test (stays_alone now (others_known o.knows) o) (asking_to_stay now (others_known o.knows) o))
    by true is = none-alone now (deadline_after now (lease_span o.knows.settings) o.machine.watchdog)
        (others_known o.knows) o.knows.sequence o.outputs (nobody-is (others_known o.knows).bits is) all
    by false is = none-requests now (lease_span o.knows.settings) (others_known o.knows)
        (o.knows.sequence + 1) MOST_MEMBERS o.outputs all

none-reach : (now : Ticks) (role : RoleFacts) (o : Outcome) → NoneFed now o → NoneFed now (out_of_reach_as now role o)
none-reach now (Leader revision) o all = none-if now (may_stay o.knows) (seeks_to_stay now (others_known o.knows) o)
    (leader_out_of_reach now revision o) (none-seeks now o all) (All-push (FeedsAlone now) _ _ all tt)
none-reach now Unleased o all = All-push (FeedsAlone now) _ _ all tt
none-reach now _ o all = all

none-judged : (now : Ticks) (o : Outcome) → NoneFed now o → NoneFed now (judged now o)
none-judged now o all = judged-by (NoneFed now) now o (All-push (FeedsAlone now) _ _ all tt)
    (λ bar. All-push (FeedsAlone now) _ _ (All-push (FeedsAlone now) _ _ all tt) tt)

none-failed : (now : Ticks) (role : RoleFacts) (o : Outcome) → NoneFed now o → NoneFed now (claim_fails_as role o)
none-failed now (Ready revision) o all =
    All-push (FeedsAlone now) _ _ (none-disarmed now o.machine.watchdog.deadline o.outputs all) tt
none-failed now _ o all = all

none-handover : (now : Ticks) (revision : ℕ) (o : Outcome) → NoneFed now o → HandoverRows (NoneFed now) now revision o
none-handover now revision o all = record {
  kept = all;
  clears = λ compared. All-push (FeedsAlone now) _ _ all tt;
  hands = λ candidate. All-push (FeedsAlone now) _ _ (All-push (FeedsAlone now) _ _ all tt) tt;
}

none-leading : (now : Ticks) (role : RoleFacts) (o : Outcome) → NoneFed now o
    → NoneFed now (judged_if_leading now role o)
none-leading now (Leader revision) o all = handover-by (NoneFed now) now revision o (none-handover now revision o all)
none-leading now _ o all = all

none-given : (now : Ticks) (o : Outcome) → NoneFed now o → NoneFed now (given_up now o)
none-given now o all = given-up-by (NoneFed now) now o
    (record { kept = all; answers = λ request told. All-push (FeedsAlone now) _ _ all tt })

none-unacknowledged : (now : Ticks) (role : RoleFacts) (o : Outcome) → NoneFed now o
    → NoneFed now (unacknowledged_as now role o)
none-unacknowledged now (Leader revision) o all = All-push (FeedsAlone now) _ _ all tt
none-unacknowledged now _ o all = all

none-unanswered : (now : Ticks) (question : Question) (o : Outcome) → NoneFed now o
    → NoneFed now (unanswered now question o)
none-unanswered now Reading o all = none-if now (is_paused o.knows) (waiting_no_more o)
    (out_of_reach_as now o.role (waiting_no_more o)) all (none-reach now o.role (waiting_no_more o) all)
none-unanswered now Renewing o all = none-if now (is_paused o.knows) (waiting_no_more o)
    (out_of_reach_as now o.role (waiting_no_more o)) all (none-reach now o.role (waiting_no_more o) all)
none-unanswered now Creating o all = all
none-unanswered now Claiming o all = none-failed now o.role (waiting_no_more o) all
none-unanswered now (Syncing settling) o all = all
none-unanswered now FindingCandidate o all = none-leading now o.role o all
none-unanswered now StayingPrimary o all = none-if now (is_paused o.knows) (waiting_no_more o)
    (unacknowledged_as now o.role (waiting_no_more o)) all (none-unacknowledged now o.role (waiting_no_more o) all)
none-unanswered now ComparingPositions o all =
    none-if now (may_create o.role) (judged now o) (waiting_no_more o) (none-judged now o all) all

none-overdue : (now : Ticks) (waited : Option PendingQuestion) (o : Outcome) → NoneFed now o
    → NoneFed now (overdue_for now waited o)
none-overdue now None o all = all
none-overdue now (Some waited) o all = none-if now (is_overdue now (Some waited))
    (unanswered now waited.question o) o (none-unanswered now waited.question o all) all

none-turn : (now : Ticks) (role : RoleFacts) (o : Outcome) → NoneFed now o → NoneFed now (turn_as now role o)
none-turn now (Ending revision why) o all = all
none-turn now Unleased o all =
    none-if now (is_stopping o.machine.server.state) o _ all (All-push (FeedsAlone now) _ _ all tt)
none-turn now _ o all = All-push (FeedsAlone now) _ _ all tt

none-turned : (now : Ticks) (o : Outcome) → NoneFed now o → NoneFed now (turned now o)
none-turned now o all = none-if now (has_turn now o.knows) (turn_begins now o) o
    (none-turn now o.role (record o { knows = turn_noted now o.knows }) all) all

none-woken : (now : Ticks) (o : Outcome) → NoneFed now o → NoneFed now (woken now o)
none-woken now o all =
    let first : NoneFed now (reconciled now o) = none-before now o.role o all in
    let told : Outcome = given_up now (reconciled now o) in
    none-if now (is_due now o.role o.knows o.machine) (roused now o) (reconciled now o)
    (none-turned now (overdue now told)
    (none-overdue now told.knows.waited told (none-given now (reconciled now o) first)))
    first

pub wakes-feed-none : (now : Ticks) (points : List HistoryPoint) (role : RoleFacts) (knows : Knowledge)
    (machine : Machine) → All (FeedsAlone now) (step now points Wake (outcome_from role knows machine [])).outputs
wakes-feed-none now points role knows machine =
    none-woken now (outcome_from role knows machine []) (All-nil (FeedsAlone now))

pub actions-feed-none : (now : Ticks) (points : List HistoryPoint) (action : OperatorAction)
    (role : RoleFacts) (knows : Knowledge) (machine : Machine)
    → All (FeedsAlone now) (step now points (Operated action) (outcome_from role knows machine [])).outputs
actions-feed-none now points action role knows machine =
    let o : Outcome = outcome_from role knows machine [] in
    let first : NoneFed now (reconciled now o) = none-before now role o (All-nil (FeedsAlone now)) in
    operated-by (NoneFed now) now action.request action.asked (reconciled now o) (record {
      asks = λ operation txn is. All-push (FeedsAlone now) _ _ first tt;
      restarts = λ told. All-push (FeedsAlone now) _ _ (All-push (FeedsAlone now) _ _ first tt) tt;
      wipes = λ told. All-push (FeedsAlone now) _ _ (All-push (FeedsAlone now) _ _ first tt) tt;
      holds = λ ttl told _. All-push (FeedsAlone now) _ _ (All-push (FeedsAlone now) _ _ first tt) tt;
      refuses = λ told. All-push (FeedsAlone now) _ _ first tt;
    })
