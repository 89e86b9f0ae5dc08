-- What an input leaves of the acknowledgements that its agent waits for,
-- what it asks of other members and promises them, and what it feeds on.
use Rattle.std.proofs.Common.{◌≡◌, ◌⊎◌, ◌==◌, ◌&&◌, not, ◌+◌, ◌≤◌, ◌<◌, nat_le, ℕ, zero, suc, Bool, true, false, cond, List, [], ◌∷◌, Option, Some, None, All, refl, sym, subst, ap, ◌∙◌, arith, inl, inr}
use Rattle.std.proofs.lemmas.List.Elements.{All-head, All-push, All-tail, All-weaker}
use Rattle.std.proofs.lemmas.Bool.Decides.{nat_tests}
use Rattle.pat_base.specs.MemberId.{member_of}
use Rattle.pat_base.specs.declared.member_id.MemberId.{MemberId}
use Rattle.pat_base.specs.declared.member_id.TheConstants.{MOST_MEMBERS}
use Rattle.pat_base.specs.declared.member_set.MemberSet.{MemberSet}
use Rattle.pat_base.specs.declared.peer_answer.PeerAnswer.{PeerAnswer}
use Rattle.pat_base.specs.declared.ticks.Ticks.{Ticks}
use Rattle.pat_base.proofs.Members.{number-member_of}
use Rattle.store_keys.specs.declared.action.OperatorAction.{OperatorAction}
use Rattle.lease_store.specs.declared.granted.Granted.{Granted}
use Rattle.wal_model.specs.declared.entry.HistoryPoint.{HistoryPoint}
use Rattle.cluster_view.specs.Snapshots.{SnapshotFacts}
use Rattle.event_book.specs.declared.agent_note.AgentNote.TheVariants as agent_notes
use Rattle.event_book.specs.declared.message.Body.{Body}
use Rattle.event_book.specs.declared.message.Body.TheVariants as bodies
use Rattle.event_book.specs.declared.reason.Reason.TheVariants.{FailsafeNotAcknowledged, WatchdogNotArmed}
use Rattle.failsafe.specs.declared.asks.Ask.{Ask}
use Rattle.failsafe.specs.Asks.{asked as ask_of, counts, has, heard as ask_heard, moment_of_all, with_acknowledgement}
use Rattle.agent_model.specs.declared.heard.Heard.TheVariants.{Wake, ReadAnswered, Granted as HeardGranted, Mismatch, Asked, Answered, FailsafeAnswered, Operated as HearsOperator}
use Rattle.agent_model.specs.declared.knowledge.PendingQuestion.{PendingQuestion}
use Rattle.agent_model.specs.declared.knowledge.Question.{Question}
use Rattle.agent_model.specs.declared.knowledge.Question.TheVariants.{ComparingPositions, FindingCandidate, Creating, Reading, Renewing, Claiming, Syncing, StayingPrimary}
use Rattle.agent_model.specs.declared.output.Output.{Output}
use Rattle.agent_model.specs.declared.output.Output.TheVariants as outputs
use Rattle.agent_model.specs.declared.output.Feeding.TheVariants as feedings
use Rattle.agent_model.specs.declared.output.Noting.TheVariants as notings
use Rattle.agent_model.specs.declared.output.Outgoing.TheVariants as outgoing
use Rattle.agent_model.specs.declared.output.ServerOrder.TheVariants as orders
use Rattle.agent_model.specs.declared.output.Telling.TheVariants as tellings
use Rattle.agent_model.specs.declared.output.Target.{Target}
use Rattle.agent_model.specs.declared.output.Target.TheVariants as targets
use Rattle.agent_model.specs.declared.why.Why.{Why}
use Rattle.agent_model.specs.declared.why.Why.TheVariants.{HandOver, Lost}
use Rattle.agent_model.specs.Acting.{arming, comes_late, deadline_after, ending_server, is_refusing, lease_span, touching, waiting_no_more}
use Rattle.agent_model.specs.Agents.{RoleFacts, Follower, Holder, Ready, Leader, Ending, Unleased, HasCounted, Outcome}
use Rattle.agent_model.specs.Claiming.{begins_or_claims, claim_fails_as, postpones}
use Rattle.agent_model.specs.Decisions.{arms, gives_back, granted, may_create, may_take, takes_key, takes_over}
use Rattle.agent_model.specs.HandingOver.{hands_over, judged_if_leading}
use Rattle.agent_model.specs.Operators.{answering, given_up, learned, looked}
use Rattle.agent_model.specs.Outputs.{with_output}
use Rattle.agent_model.specs.Pausing.{is_paused, may_start_behind}
use Rattle.agent_model.specs.Racing.{barred, creating, finds_free, judged, unheard}
use Rattle.agent_model.specs.Reconciling.{has_ended, reconciled}
use Rattle.agent_model.specs.Repairs.{repair_of}
use Rattle.agent_model.specs.Snapshots.{follow_row, follows, led_by_another, read_answered, read_noted}
use Rattle.agent_model.specs.StayingPrimary.{accepted_failsafe, asking_to_stay, awaits_failsafe, counting, failsafe_answered_for, fed_by_failsafe, is_staying, leader_unacknowledged, may_stay, others_known, requesting_all, requesting_first, requesting_one, seeks_to_stay, stays, stays_alone, stays_if, unacknowledged_as}
use Rattle.agent_model.specs.Table.{granted_any, step}
use Rattle.agent_model.specs.Wake.{leader_out_of_reach, out_of_reach, out_of_reach_as, overdue, overdue_for, turn_noted, turned, unanswered, unleased_out_of_reach, woken}
use Rattle.agent_cases.proofs.Rows.{HandoverRows, ReplyRows, before-by, dropping, follow-by, free-by, given-up-by, got-by, handover-by, if-cases, judged-by, looked-by, repaired-by, turn-by, wake-by}
use Rattle.agent_cases.proofs.Grants.{DutyRows, begins-or-claims-by, duties-of, granted-any-by, granted-by, judges-start-by, kept_on, leading_in_pause, led_on, renewed-by, takes-in-pause-by}
use Rattle.agent_roles.proofs.Fitting.{before-fits}
use Rattle.agent_roles.proofs.Granting.{Told, both-true}
use Rattle.agent_roles.proofs.GoingOn.{IsAlone}
use Rattle.agent_roles.proofs.Knowing.{before-onward}
use Rattle.agent_roles.proofs.Living.{no-way}
use Rattle.agent_roles.proofs.Staying.{before-leaves, before-waits}
use Rattle.agent_sending.specs.Asking.{awaits_stay}
use Rattle.agent_sending.proofs.MaySend.{AllMay, Fronts, Grounds, IsSilent, MayAskMember, MayPut, before-fronts}
use Rattle.agent_sending.proofs.Sending.{answered-may, asked-may, got-may, granted-may, operated-may, refused-may}
use Rattle.agent_sending.proofs.StayingSends.{AsksToStay, failsafe-answered-may, given-up-fronts, staying, wake-may}
use Rattle.lease_inputs.proofs.InputHolds.{fronts-hold}

-- ---- what is waited for
-- an input waits for the acknowledgements that it waited for, or for none
abbrev pub StaysSo : Outcome → Outcome → Type 0
StaysSo o x =
    (awaits_stay x.knows.waited ≡ false) ⊎ ((x.knows.waited ≡ o.knows.waited) × (x.knows.failsafe ≡ o.knows.failsafe))

same-so : (o : Outcome) → StaysSo o o
same-so o = inr (refl, refl)

so-then : (a b c : Outcome) → StaysSo a b → StaysSo b c → StaysSo a c
so-then a b c first (inl none) = inl none
so-then a b c (inl none) (inr same) = inl (ap awaits_stay same.0 ∙ none)
so-then a b c (inr was) (inr same) = inr (same.0 ∙ was.0, same.1 ∙ was.1)

ended-so : (why : Why) (held : ℕ) (o : Outcome) → StaysSo o (has_ended why held o)
ended-so HandOver held o = inr (refl, refl)
ended-so Lost held o = inr (refl, refl)

before-so : (now : Ticks) (o : Outcome) → StaysSo o (reconciled now o)
before-so now o = before-by (StaysSo o) now o (record {
  kept = λ _. inr (refl, refl);
  leader = λ held _ _. inr (refl, refl);
  ending = λ held why _ _. ended-so why held o;
  follower = λ _ _. inr (refl, refl);
  holder = λ held _ _. inr (refl, refl);
  ready = λ held _ _. inr (refl, refl);
  unleased = λ _ _. inr (refl, refl);
})

replies-so : (o b : Outcome) → StaysSo o b → ReplyRows (StaysSo o) b
replies-so o b so =
    record { kept = so; answers = λ request told. so-then o b (answering request told b) so (inr (refl, refl)) }

judged-so : (now : Ticks) (o b : Outcome) → StaysSo o (judged now b)
judged-so now o b = judged-by (StaysSo o) now b (inl refl) (λ bar. inl refl)

handover-so : (now : Ticks) (held : ℕ) (o b : Outcome) → HandoverRows (StaysSo o) now held b
handover-so now held o b = record { kept = inl refl; clears = λ compared. inl refl; hands = λ candidate. inl refl }

-- ---- a read
follow-so : (now : Ticks) (leader : MemberId) (o b : Outcome) → awaits_stay b.knows.waited ≡ false
    → StaysSo o (follows now leader b)
follow-so now leader o b none = let x : Outcome = led_by_another b in
    let may : Bool = may_start_behind b.knows in
    let row : StaysSo o (touching (follow_row may now leader b.machine.server.state x)) =
    follow-by (λ (y : Outcome). StaysSo o (touching y)) may now leader b.machine.server.state x (inl none)
    (inl none) (inl none) (inl none) in
    repaired-by (StaysSo o) leader (repair_of b.knows.settings leader b.machine.server)
    (touching (follow_row may now leader b.machine.server.state x)) row (λ r. row)

free-so : (now : Ticks) (o b : Outcome) → awaits_stay b.knows.waited ≡ false → StaysSo o (finds_free now b)
free-so now o b none = let x : Outcome = record b { role = Follower } in
    free-by (StaysSo o) now x (record {
      starts = inl none;
      touches = inl none;
      bars = λ bar. inl none;
      judges = judged-so now o (unheard x);
      asks = inl refl;
    })

got-so : (now : Ticks) (points : List HistoryPoint) (sequence : ℕ) (snapshot : SnapshotFacts) (o : Outcome)
    → StaysSo o (read_answered now points sequence snapshot o)
got-so now points sequence snapshot o = let read : Outcome = record o { knows = read_noted now snapshot o.knows } in
    got-by (StaysSo o) now points sequence snapshot o (record {
      kept = same-so o;
      quiet = inl refl;
      other = inl refl;
      leader = λ held _. inl refl;
      unleased = λ _. inl refl;
      renews = λ _ leader _ _. inl refl;
      touches = inl refl;
      follows = λ leader _ _. follow-so now leader.holder o read refl;
      free = λ _ _. free-so now o read refl;
      runs_on = λ _. inl refl;
      asks_on = λ _. inl refl;
    })

-- ---- a grant
duty-so : (now : Ticks) (revision : ℕ) (o led : Outcome) → awaits_stay led.knows.waited ≡ false
    → DutyRows (StaysSo o) now revision led
duty-so now revision o led none = record {
  plan = record {
    kept = inl none;
    writes = λ settling txn _. inl refl;
    adds = λ required. inl none;
    drops = λ required. inl none;
  };
  clears = λ compared. inl none;
  asks = λ candidate. inl refl;
  judges = handover-so now revision o (unheard led);
}

takes-so : (now ttl : Ticks) (revision : ℕ) (o b : Outcome) → awaits_stay b.knows.waited ≡ false
    → StaysSo o (takes_key now ttl revision b)
takes-so now ttl revision o b none =
    let back : Outcome =
    gives_back revision
    (record b { outputs = with_output (outputs.Note (notings.Agent agent_notes.CannotArm)) b.outputs }) in
    let arm : Outcome = arming now ttl b in
    if-cases (StaysSo o) (may_take now b.knows b.machine) (arms now ttl revision b) (gives_back revision b)
    (λ _. if-cases (StaysSo o) (is_refusing b.machine.watchdog.mode b.machine.watchdog.works) back
    (begins_or_claims now revision arm) (λ _. inl none)
    (λ _. begins-or-claims-by (StaysSo o) now revision arm (inl none) (inl refl)))
    (λ _. inl none)

granted-so : (now : Ticks) (sequence : ℕ) (grant : Granted) (snapshot : SnapshotFacts) (o : Outcome)
    → StaysSo o (granted now sequence grant snapshot o)
granted-so now sequence grant snapshot o = let told : Outcome = Told snapshot o in
    granted-by (StaysSo o) now sequence grant snapshot o (same-so o) (inl refl) (λ waited _ _. record {
      other = inl refl;
      leader = λ held _. let led : Outcome = led_on now waited.ttl grant.revision told in
          renewed-by (StaysSo o) now waited.ttl grant.revision told (inl refl) (duty-so now grant.revision o led refl);
      unleased = λ _. if-cases (StaysSo o) (is_refusing o.machine.watchdog.mode o.machine.watchdog.works)
          (ending_server now WatchdogNotArmed told)
          (takes_over now grant.revision (arming now waited.ttl told)) (λ _. inl refl) (λ _. inl refl);
      takes = λ _. takes-so now waited.ttl grant.revision o told refl;
      keeps_late = λ held _. let kept : Outcome = kept_on grant.revision told in
          judges-start-by (StaysSo o) now grant.revision kept (inl refl) (duty-so now grant.revision o kept refl);
      ends_late = λ _. inl refl;
      refuses_late = λ _. inl refl;
      returns_late = λ _. inl refl;
      leads_in_pause = λ renews _ held _. let led : Outcome = leading_in_pause renews grant.revision told in
          duties-of (StaysSo o) now grant.revision led (duty-so now grant.revision o led refl);
      unleased_in_pause = λ renews _ _. inl refl;
      takes_in_pause =
          λ renews _ _. takes-in-pause-by (StaysSo o) now renews grant.revision told (inl refl) (inl refl) (inl refl);
    }) (λ after first. first) (record {
      other = inl refl;
      begins = λ revision _. inl refl;
      postpones = λ revision _. inl refl;
      settles = λ required _. inl refl;
    })

any-granted-so : (now : Ticks) (sequence : ℕ) (grant : Granted) (snapshot : SnapshotFacts) (o : Outcome)
    → StaysSo o (granted_any now sequence grant snapshot o)
any-granted-so now sequence grant snapshot o =
    granted-any-by (StaysSo o) now sequence grant snapshot o (same-so o)
    (replies-so o (learned snapshot o) (inr (refl, refl))) (granted-so now sequence grant snapshot o)

-- whoever is read of or granted: an input that hears a snapshot begins to wait for no acknowledgements
pub read-stays : (now : Ticks) (points : List HistoryPoint) (sequence : ℕ) (snapshot : SnapshotFacts) (o : Outcome)
    → StaysSo o (step now points (ReadAnswered sequence snapshot) o)
read-stays now points sequence snapshot o =
    let b : Outcome = reconciled now o in let p : Outcome = looked sequence snapshot b in
    so-then o p (read_answered now points sequence snapshot p)
    (looked-by (StaysSo o) sequence snapshot b (replies-so o b (before-so now o)))
    (got-so now points sequence snapshot p)

pub grant-stays : (now : Ticks) (points : List HistoryPoint) (sequence : ℕ) (grant : Granted)
    (snapshot : SnapshotFacts) (o : Outcome) → StaysSo o (step now points (HeardGranted sequence grant snapshot) o)
grant-stays now points sequence grant snapshot o = let b : Outcome = reconciled now o in so-then o b
    (granted_any now sequence grant snapshot b) (before-so now o) (any-granted-so now sequence grant snapshot b)

-- ---- a wake
-- an output by which no failsafe request is sent or acknowledged, and no hold taken but under number 0
abbrev pub AsksNobody : Target → Body → Type 0
AsksNobody targets.Store body = Unit {0}
AsksNobody (targets.Member id) (bodies.FailsafeRequest ttl) = ⊥
AsksNobody (targets.Member id) _ = Unit {0}

abbrev pub IsQuiet : Output → Type 0
IsQuiet (outputs.Message (outgoing.Send to sequence body)) = AsksNobody to body
IsQuiet (outputs.Tell (tellings.HoldTaken until from sequence)) = sequence ≡ 0
IsQuiet (outputs.Message (outgoing.FailsafeAnswer to run sequence accepted)) = accepted ≡ false
IsQuiet _ = Unit {0}

silent-quiet : (output : Output) → IsSilent output → IsQuiet output
silent-quiet (outputs.Message (outgoing.Send to sequence body)) e = absurd e
silent-quiet (outputs.Tell (tellings.HoldTaken until from sequence)) e = absurd e
silent-quiet (outputs.Message (outgoing.FailsafeAnswer to run sequence accepted)) e = absurd e
silent-quiet _ e = tt

pub fronts-quiet : (o b : Outcome) → Fronts o b → All IsQuiet b.outputs
fronts-quiet o b fronts = fronts-hold IsQuiet silent-quiet (λ sequence body. tt) o b fronts

-- an input begins to wait for the acknowledgements of these members,
-- whom it asks under one number behind outputs that are quiet
pub record BeginsTo (now : Ticks) (x : Outcome) : Type 0 where
  pub members : MemberSet
  pub some : members.bits == 0 ≡ false
  pub asks : x.knows.failsafe ≡ ask_of members now
  pub before : List Output
  pub quiet : All IsQuiet before
  pub number : ℕ
  pub ttl : Ticks
  pub outs : x.outputs ≡ requesting_all members number ttl before

-- so it does, or it asks nobody
abbrev pub WakesTo : Ticks → Outcome → Outcome → Type 0
WakesTo now o x = BeginsTo now x ⊎ StaysSo o x

turn-so : (now : Ticks) (o x : Outcome) → StaysSo o x → StaysSo o (turned now x)
turn-so now o x so = let noted : Outcome = record x { knows = turn_noted now x.knows } in turn-by (StaysSo o) now x
    (record { kept = so; quiet = so-then o x noted so (inr (refl, refl)); reads = λ active. inl refl })

-- a deadline that has passed, and then a turn
abbrev Turns : Ticks → Outcome → Outcome → Type 0
Turns now o x = WakesTo now o (turned now x)

ends-so : (now : Ticks) (o x : Outcome) → awaits_stay x.knows.waited ≡ false → Turns now o x
ends-so now o x none = inr (turn-so now o x (inl none))

turns-if : (now : Ticks) (o : Outcome) (test : Bool) (x y : Outcome) → (test ≡ true → Turns now o x)
    → (test ≡ false → Turns now o y) → Turns now o (cond test x y)
turns-if now o test x y first second = if-cases (Turns now o) test x y first second

overdue-so : (now : Ticks) (o b : Outcome) → StaysSo o b → All IsQuiet b.outputs → Turns now o (overdue now b)
overdue-so now o b so quiet = by b.knows.waited
  where
    rests : Outcome
    rests = waiting_no_more b

    resting : Turns now o rests
    resting = ends-so now o rests refl

    seeks : Turns now o (seeks_to_stay now (others_known b.knows) rests)
    seeks = turns-if now o ((others_known b.knows).bits == 0) (stays_alone now (others_known b.knows) rests)
        (asking_to_stay now (others_known b.knows) rests)
        (λ nobody. ends-so now o (stays_alone now (others_known b.knows) rests) refl)
        (λ some. inl (record {
          members = others_known b.knows;
          some = some;
          asks = refl;
          before = b.outputs;
          quiet = quiet;
          number = b.knows.sequence + 1;
          ttl = lease_span b.knows.settings;
          outs = refl;
        }))

    reach : (role : RoleFacts) → Turns now o (out_of_reach_as now role rests)
    reach (Leader revision) = turns-if now o (may_stay b.knows)
        (seeks_to_stay now (others_known b.knows) rests) (leader_out_of_reach now revision rests)
        (λ may. seeks) (λ _. ends-so now o (leader_out_of_reach now revision rests) refl)
    reach Unleased = ends-so now o (unleased_out_of_reach now rests) refl
    reach Follower = resting
    reach (Holder revision) = resting
    reach (Ready revision) = resting
    reach (Ending revision why) = resting

    out : Turns now o (out_of_reach now b)
    out = turns-if now o (is_paused b.knows) rests (out_of_reach_as now b.role rests) (λ _. resting) (λ _. reach b.role)

    unsaid : (role : RoleFacts) → Turns now o (unacknowledged_as now role rests)
    unsaid (Leader revision) = ends-so now o (leader_unacknowledged now revision rests) refl
    unsaid Unleased = resting
    unsaid Follower = resting
    unsaid (Holder revision) = resting
    unsaid (Ready revision) = resting
    unsaid (Ending revision why) = resting

    claims : (role : RoleFacts) → Turns now o (claim_fails_as role rests)
    claims (Ready revision) = ends-so now o (postpones revision rests) refl
    claims (Leader revision) = resting
    claims Unleased = resting
    claims Follower = resting
    claims (Holder revision) = resting
    claims (Ending revision why) = resting

    checks : (role : RoleFacts) → Turns now o (judged_if_leading now role b)
    checks (Leader revision) =
        handover-by (Turns now o) now revision b (record {
          kept = resting;
          clears = λ compared. ends-so now o (dropping compared rests) refl;
          hands = λ candidate. ends-so now o (hands_over now revision candidate rests) refl;
        })
    checks Unleased = resting
    checks Follower = resting
    checks (Holder revision) = resting
    checks (Ready revision) = resting
    checks (Ending revision why) = resting

    late : (question : Question) → Turns now o (unanswered now question b)
    late Reading = out
    late Renewing = out
    late Creating = resting
    late Claiming = claims b.role
    late (Syncing settling) = resting
    late ComparingPositions =
        turns-if now o (may_create b.role) (judged now b) rests
        (λ _. judged-by (Turns now o) now b (ends-so now o (creating now rests) refl)
        (λ bar. ends-so now o (barred bar rests) refl))
        (λ _. resting)
    late FindingCandidate = checks b.role
    late StayingPrimary = turns-if now o (is_paused b.knows) rests (unacknowledged_as now b.role rests)
        (λ _. resting) (λ _. unsaid b.role)

    by : (waited : Option PendingQuestion) → Turns now o (overdue_for now waited b)
    by None = inr (turn-so now o b so)
    by (Some waited) = if-cases (Turns now o) (nat_le waited.until.0 now.0)
        (unanswered now waited.question b) b (λ _. late waited.question) (λ _. inr (turn-so now o b so))

pub wake-stays : (now : Ticks) (points : List HistoryPoint) (o : Outcome) → IsAlone o → All IsSilent o.outputs
    → WakesTo now o (step now points Wake o)
wake-stays now points o alone silent = let b : Outcome = given_up now (reconciled now o) in
    wake-by (WakesTo now o) now o (inr (before-so now o))
    (overdue-so now o b
    (given-up-by (StaysSo o) now (reconciled now o) (replies-so o (reconciled now o) (before-so now o)))
    (fronts-quiet o b (given-up-fronts now o alone silent)))

-- ---- what is put
-- on these grounds an input sends no failsafe request and acknowledges none; and feeds so
abbrev quiet_grounds : (MemberSet → ℕ → Type 0) → Grounds
quiet_grounds F = record {
  gives = λ revision. Unit {0};
  creates = λ expected. Unit {0};
  requests = λ sequence ttl. ⊥;
  acknowledges = λ from run sequence. ⊥;
  configures = λ config. Unit {0};
  feeds = F;
}

false-if : (b : Bool) → (b ≡ true → ⊥) → b ≡ false
false-if true none = absurd (none refl)
false-if false none = refl

put-quiet : (F : MemberSet → ℕ → Type 0) (o after : Outcome) (output : Output)
    → MayPut (quiet_grounds F) o after output → IsQuiet output
put-quiet F o after (outputs.Message (outgoing.Send targets.Store sequence body)) may = tt
put-quiet F o after (outputs.Message (outgoing.Send (targets.Member id) sequence body)) may = by body may.2
  where
    by : (body : Body) → MayAskMember (quiet_grounds F) sequence body → AsksNobody (targets.Member id) body
    by (bodies.FailsafeRequest ttl) asks = absurd asks
    by _ asks = tt
put-quiet F o after (outputs.Tell (tellings.HoldTaken until from sequence)) may =
    elim may [ inl mine ↦ mine.0 | inr asked ↦ absurd asked.1 ]
put-quiet F o after (outputs.Message (outgoing.FailsafeAnswer to run sequence accepted)) may = false-if accepted may
put-quiet F o after _ may = tt

-- who is woken and begins to wait for no acknowledgements sends no failsafe request
pub wake-quiet : (now : Ticks) (points : List HistoryPoint) (o : Outcome) → IsAlone o → All IsSilent o.outputs
    → HasCounted o.knows → StaysSo o (step now points Wake o) → All IsQuiet (step now points Wake o).outputs
wake-quiet now points o alone silent counted so =
    All-weaker (MayPut (staying now (woken now o) G) o (woken now o)) IsQuiet put (woken now o).outputs
    (wake-may G now o (λ _. tt) (λ _ members sequence _. tt) alone silent)
  where
    G : Grounds
    G = quiet_grounds (λ members sequence. Unit {0})

    asks-not : (sequence : ℕ) (ttl : Ticks) → o.knows.sequence < sequence
        → AsksToStay now (woken now o) sequence ttl → ⊥
    asks-not sequence ttl later asks = elim so [
      | inl none ↦ no-way (sym none ∙ ap awaits_stay asks.is ∙ asks.staying)
      | inr same ↦ let few : asks.waited.sequence ≤ o.knows.sequence = counted asks.waited (sym same.0 ∙ asks.is) in
          let number : asks.waited.sequence ≡ sequence = asks.sequence_is in omega (arith, later, few, number)
    ]

    put : (output : Output) → MayPut (staying now (woken now o) G) o (woken now o) output → IsQuiet output
    put (outputs.Message (outgoing.Send targets.Store sequence body)) may = tt
    put (outputs.Message (outgoing.Send (targets.Member id) sequence body)) may = by body may.2
      where
        by : (body : Body) → MayAskMember (staying now (woken now o) G) sequence body
            → AsksNobody (targets.Member id) body
        by (bodies.FailsafeRequest ttl) asks = absurd (asks-not sequence ttl may.0 asks)
        by _ asks = tt
    put (outputs.Tell (tellings.HoldTaken until from sequence)) may =
        elim may [ inl mine ↦ mine.0 | inr asked ↦ absurd asked.1 ]
    put (outputs.Message (outgoing.FailsafeAnswer to run sequence accepted)) may = false-if accepted may
    put _ may = tt

-- no watchdog is fed on acknowledgements by this output
abbrev pub FeedsOnNone : Output → Type 0
FeedsOnNone (outputs.Watchdog (feedings.FedByFailsafe until members sequence since)) = ⊥
FeedsOnNone _ = Unit {0}

put-none : (o after : Outcome) (output : Output)
    → MayPut (quiet_grounds (λ members sequence. ⊥)) o after output → FeedsOnNone output
put-none o after (outputs.Watchdog (feedings.FedByFailsafe until members sequence since)) may = absurd may
put-none o after _ may = tt

-- so are all outputs of an input that hears neither a failsafe request nor an answer to one, and isn't woken
pub record PutsQuietly (after : Outcome) : Type 0 where
  pub quiet : All IsQuiet after.outputs
  pub unfed : All FeedsOnNone after.outputs

quietly : (o after : Outcome) → AllMay (quiet_grounds (λ members sequence. ⊥)) o after → PutsQuietly after
quietly o after all = let G : Grounds = quiet_grounds (λ members sequence. ⊥) in record {
  quiet = All-weaker (MayPut G o after) IsQuiet (put-quiet (λ members sequence. ⊥) o after) after.outputs all;
  unfed = All-weaker (MayPut G o after) FeedsOnNone (put-none o after) after.outputs all;
}

module _ (now : Ticks) (points : List HistoryPoint) (o : Outcome) (alone : IsAlone o)
    (silent : All IsSilent o.outputs) where
  pub read-puts : (sequence : ℕ) (snapshot : SnapshotFacts)
      → PutsQuietly (step now points (ReadAnswered sequence snapshot) o)
  read-puts sequence snapshot = quietly o _
      (got-may (quiet_grounds (λ members sequence. ⊥)) now points sequence snapshot o
      (record { free = λ _. tt; paused = λ _. tt }) alone silent)

  pub grant-puts : (sequence : ℕ) (grant : Granted) (snapshot : SnapshotFacts)
      → PutsQuietly (step now points (HeardGranted sequence grant snapshot) o)
  grant-puts sequence grant snapshot = quietly o _
      (granted-may (quiet_grounds (λ members sequence. ⊥)) now sequence grant snapshot o alone
      (before-onward None now o).last (before-fits now o) (λ _. tt) (λ revision _. tt) silent)

  pub refused-puts : (sequence : ℕ) (key : _) (found : _)
      → PutsQuietly (step now points (Mismatch sequence key found) o)
  refused-puts sequence key found =
      quietly o _ (refused-may (quiet_grounds (λ members sequence. ⊥)) now sequence o alone silent)

  pub asked-puts : (from : MemberId) (run sequence : ℕ) → PutsQuietly (step now points (Asked from run sequence) o)
  asked-puts from run sequence =
      quietly o _ (asked-may (quiet_grounds (λ members sequence. ⊥)) now from run sequence o alone silent)

  pub answered-puts : (sequence : ℕ) (answer : PeerAnswer) → PutsQuietly (step now points (Answered sequence answer) o)
  answered-puts sequence answer = quietly o _
      (answered-may (quiet_grounds (λ members sequence. ⊥)) now sequence answer o (λ _. tt) alone
      (before-onward None now o).last silent)

  pub operated-puts : (action : OperatorAction) → PutsQuietly (step now points (HearsOperator action) o)
  operated-puts action =
      quietly o _ (operated-may (quiet_grounds (λ members sequence. ⊥)) now action o (λ config _. tt) alone silent)

  pub counted-quiet : (from : MemberId) (sequence : ℕ) (accepted : Bool) (sent : Ticks)
      → All IsQuiet (step now points (FailsafeAnswered from sequence accepted sent) o).outputs
  counted-quiet from sequence accepted sent = let F : MemberSet → ℕ → Type 0 = (λ members sequence. Unit {0}) in
      All-weaker (MayPut (quiet_grounds F) o (step now points (FailsafeAnswered from sequence accepted sent) o)) IsQuiet
      (put-quiet F o (step now points (FailsafeAnswered from sequence accepted sent) o))
      (step now points (FailsafeAnswered from sequence accepted sent) o).outputs
      (failsafe-answered-may (quiet_grounds F) now from sequence accepted sent o (λ waited _ _. tt) alone silent)

-- ---- what is fed on the last acknowledgement
-- an output feeds on the acknowledgements that were waited for, the last of which is heard
pub record FeedsOnAll (o : Outcome) (from : MemberId) (sequence : ℕ) (accepted : Bool) (sent : Ticks)
    (members : MemberSet) (fed : ℕ) (since : Ticks) : Type 0 where
  pub waited : PendingQuestion
  pub is : o.knows.waited ≡ Some waited
  pub staying : is_staying waited.question ≡ true
  pub sequence_is : waited.sequence ≡ sequence
  pub fed_is : fed ≡ sequence
  pub accepts : accepted ≡ true
  pub members_are : members ≡ o.knows.failsafe.members
  pub all : moment_of_all (ask_heard o.knows.failsafe from true sent) ≡ Some since

abbrev pub FeedsSo : Outcome → MemberId → ℕ → Bool → Ticks → Output → Type 0
FeedsSo o from sequence accepted sent (outputs.Watchdog (feedings.FedByFailsafe until members fed since)) =
    FeedsOnAll o from sequence accepted sent members fed since
FeedsSo o from sequence accepted sent _ = Unit {0}

same-number : (n sequence : ℕ) → n == sequence ≡ true → n ≡ sequence
same-number n sequence e = grind (arith, nat_tests)

pub heard-members : (ask : Ask) (from : MemberId) (sent : Ticks) → (ask_heard ask from true sent).members ≡ ask.members
heard-members ask from sent = if-cases (λ (x : Ask). x.members ≡ ask.members) (counts ask from true)
    (with_acknowledgement ask from sent) ask (λ _. refl) (λ _. refl)

pub counted-feeds : (now : Ticks) (points : List HistoryPoint) (o : Outcome) → IsAlone o
    → All IsSilent o.outputs → (from : MemberId) (sequence : ℕ) (accepted : Bool) (sent : Ticks)
    → All (FeedsSo o from sequence accepted sent)
    (step now points (FailsafeAnswered from sequence accepted sent) o).outputs
counted-feeds now points o alone silent from sequence accepted sent = by b.knows.waited refl
  where
    b : Outcome
    b = reconciled now o

    P : Outcome → Type 0
    P x = All (FeedsSo o from sequence accepted sent) x.outputs

    silent-so : (output : Output) → IsSilent output → FeedsSo o from sequence accepted sent output
    silent-so (outputs.Watchdog (feedings.FedByFailsafe until members fed since)) e = absurd e
    silent-so _ e = tt

    all : P b
    all = fronts-hold (FeedsSo o from sequence accepted sent) silent-so (λ number body. tt) o b
        (before-fronts now o alone silent)

    ends : (role : RoleFacts) → P (unacknowledged_as now role (waiting_no_more b))
    ends (Leader held) =
        All-push (FeedsSo o from sequence accepted sent) b.outputs
        (outputs.Server (orders.Stop FailsafeNotAcknowledged)) all tt
    ends Follower = all
    ends (Holder held) = all
    ends (Ready held) = all
    ends (Ending held why) = all
    ends Unleased = all

    fed : (deadline : Option Ticks) (members : MemberSet) (since : Ticks)
        → FeedsOnAll o from sequence accepted sent members sequence since
        → All (FeedsSo o from sequence accepted sent) (fed_by_failsafe deadline members sequence since b.outputs)
    fed None members since is = all
    fed (Some until) members since is = All-push (FeedsSo o from sequence accepted sent) b.outputs
        (outputs.Watchdog (feedings.FedByFailsafe until members sequence since)) all is

    counted-if : (waited : PendingQuestion) → b.knows.waited ≡ Some waited → is_staying waited.question ≡ true
        → waited.sequence ≡ sequence → accepted ≡ true → (moment : Option Ticks)
        → moment_of_all (ask_heard b.knows.failsafe from true sent) ≡ moment
        → P (stays_if now waited moment (counting from sent b))
    counted-if waited is staying number accepts None e = all
    counted-if waited is staying number accepts (Some since) e =
        let x : Outcome = counting from sent b in
        if-cases P (not (is_paused b.knows) && comes_late now waited b.machine) (waiting_no_more x)
        (stays now waited.ttl waited.sequence since x) (λ _. all)
        (λ _. All-push (FeedsSo o from sequence accepted sent)
        (fed_by_failsafe (deadline_after now waited.ttl x.machine.watchdog) x.knows.failsafe.members
        waited.sequence since b.outputs)
        (outputs.Note notings.StaysByFailsafe)
        (subst (λ (n : ℕ). All (FeedsSo o from sequence accepted sent)
        (fed_by_failsafe (deadline_after now waited.ttl x.machine.watchdog) x.knows.failsafe.members n since b.outputs))
        (sym number)
        (fed (deadline_after now waited.ttl x.machine.watchdog) x.knows.failsafe.members since (record {
          waited = waited;
          is = sym (before-waits now o) ∙ is;
          staying = staying;
          sequence_is = number;
          fed_is = refl;
          accepts = accepts;
          members_are =
              heard-members b.knows.failsafe from sent ∙ ap (λ (ask : Ask). ask.members) (before-leaves now o).asked;
          all = ap (λ (ask : Ask). moment_of_all (ask_heard ask from true sent)) (sym (before-leaves now o).asked) ∙ e;
        }))) tt)

    accepted-by : (waited : PendingQuestion) → b.knows.waited ≡ Some waited
        → is_staying waited.question ≡ true → waited.sequence ≡ sequence → (role : RoleFacts) (test : Bool)
        → accepted ≡ test → P (accepted_failsafe now waited from test sent role b)
    accepted-by waited is staying number (Leader held) true accepts =
        counted-if waited is staying number accepts (moment_of_all (ask_heard b.knows.failsafe from true sent)) refl
    accepted-by waited is staying number (Leader held) false accepts = if-cases P (is_paused b.knows)
        (waiting_no_more b) (unacknowledged_as now b.role (waiting_no_more b)) (λ _. all) (λ _. ends b.role)
    accepted-by waited is staying number Follower test accepts = all
    accepted-by waited is staying number (Holder held) test accepts = all
    accepted-by waited is staying number (Ready held) test accepts = all
    accepted-by waited is staying number (Ending held why) test accepts = all
    accepted-by waited is staying number Unleased test accepts = all

    by : (waited : Option PendingQuestion) → b.knows.waited ≡ waited
        → P (failsafe_answered_for now from sequence accepted sent waited b)
    by None is = all
    by (Some waited) is =
        if-cases P (awaits_failsafe waited sequence) (accepted_failsafe now waited from accepted sent b.role b) b
        (λ awaits. let both = both-true (is_staying waited.question) (waited.sequence == sequence) awaits in
        accepted-by waited is both.0 (same-number waited.sequence sequence both.1) b.role accepted refl)
        (λ _. all)

-- ---- requests to other members
-- the requests among these outputs go to members of ever higher numbers, from this one on
abbrev pub FitsSend : ℕ → Target → Body → Type 0
FitsSend at targets.Store body = Unit {0}
FitsSend at (targets.Member id) (bodies.FailsafeRequest ttl) = at ≤ id.number
FitsSend at (targets.Member id) _ = Unit {0}

abbrev pub FitsOne : ℕ → Output → Type 0
FitsOne at (outputs.Message (outgoing.Send to sequence body)) = FitsSend at to body
FitsOne at output = IsQuiet output

abbrev pub next_send : ℕ → Target → Body → ℕ
next_send at targets.Store body = at
next_send at (targets.Member id) (bodies.FailsafeRequest ttl) = id.number + 1
next_send at (targets.Member id) _ = at

abbrev pub next : ℕ → Output → ℕ
next at (outputs.Message (outgoing.Send to sequence body)) = next_send at to body
next at _ = at

abbrev pub FitsFrom : ℕ → List Output → Type 0
FitsFrom at [] = Unit {0}
FitsFrom at (output ∷ more) = FitsOne at output × FitsFrom (next at output) more

-- the number of the next, behind these
abbrev last_of : ℕ → List Output → ℕ
last_of at [] = at
last_of at (output ∷ more) = last_of (next at output) more

quiet-fits : (at : ℕ) (output : Output) → IsQuiet output → FitsOne at output × (next at output ≡ at)
quiet-fits at (outputs.Message (outgoing.Send targets.Store sequence body)) quiet = (tt, refl)
quiet-fits at (outputs.Message (outgoing.Send (targets.Member id) sequence body)) quiet = by body quiet
  where
    by : (body : Body) → AsksNobody (targets.Member id) body
        → FitsSend at (targets.Member id) body × (next_send at (targets.Member id) body ≡ at)
    by (bodies.FailsafeRequest ttl) asks = absurd asks
    by _ asks = (tt, refl)
quiet-fits at (outputs.Tell (tellings.HoldTaken until from sequence)) quiet = (quiet, refl)
quiet-fits at (outputs.Message (outgoing.FailsafeAnswer to run sequence accepted)) quiet = (quiet, refl)
quiet-fits at _ quiet = (tt, refl)

pub all-quiet-fit : (at : ℕ) (outs : List Output) → All IsQuiet outs → FitsFrom at outs
all-quiet-fit at [] all = tt
all-quiet-fit at (output ∷ more) all =
    let one = quiet-fits at output (All-head IsQuiet output more all) in
    (one.0, subst (λ (n : ℕ). FitsFrom n more) (sym one.1) (all-quiet-fit at more (All-tail IsQuiet output more all)))

last-quiet : (at : ℕ) (outs : List Output) → All IsQuiet outs → last_of at outs ≡ at
last-quiet at [] all = refl
last-quiet at (output ∷ more) all =
    let one = quiet-fits at output (All-head IsQuiet output more all) in
    ap (λ (n : ℕ). last_of n more) one.1 ∙ last-quiet at more (All-tail IsQuiet output more all)

push-fits : (at : ℕ) (outs : List Output) (output : Output) → FitsFrom at outs
    → FitsOne (last_of at outs) output → FitsFrom at (with_output output outs)
push-fits at [] output fits one = (one, tt)
push-fits at (first ∷ more) output fits one = (fits.0, push-fits (next at first) more output fits.1 one)

push-last : (at : ℕ) (outs : List Output) (output : Output)
    → last_of at (with_output output outs) ≡ next (last_of at outs) output
push-last at [] output = refl
push-last at (first ∷ more) output = push-last (next at first) more output

-- so do the failsafe requests to the members of a set
record Requested (count : ℕ) (outs : List Output) : Type 0 where
  fits : FitsFrom 0 outs
  low : last_of 0 outs ≤ count

requested-one : (members : MemberSet) (number : ℕ) (ttl : Ticks) (count : ℕ) (found : Option MemberId)
    (outs : List Output) → ((m : MemberId) → found ≡ Some m → m.number ≡ count) → Requested count outs
    → Requested (count + 1) (requesting_one members number ttl found outs)
requested-one members number ttl count None outs at old =
    record { fits = old.fits; low = let low : last_of 0 outs ≤ count = old.low in omega (arith, low) }
requested-one members number ttl count (Some m) outs at old =
    if-cases (Requested (count + 1)) (has members m.number) (with_output send outs) outs
    (λ _. record {
      fits = push-fits 0 outs send old.fits (subst (λ (n : ℕ). last_of 0 outs ≤ n) (sym (at m refl)) old.low);
      low = subst (λ (n : ℕ). n ≤ count + 1) (sym (push-last 0 outs send ∙ ap (λ (n : ℕ). n + 1) (at m refl)))
          (omega arith);
    })
    (λ _. record { fits = old.fits; low = let low : last_of 0 outs ≤ count = old.low in omega (arith, low) })
  where
    send : Output
    send = outputs.Message (outgoing.Send (targets.Member m) number (bodies.FailsafeRequest ttl))

requested-first : (members : MemberSet) (number : ℕ) (ttl : Ticks) (count : ℕ) (outs : List Output)
    → Requested 0 outs → Requested count (requesting_first members number ttl count outs)
requested-first members number ttl zero outs old = old
requested-first members number ttl (suc count) outs old =
    let one : Requested (count + 1)
    (requesting_one members number ttl (member_of count) (requesting_first members number ttl count outs)) =
    requested-one members number ttl count (member_of count) (requesting_first members number ttl count outs)
    (λ m is. number-member_of count m is) (requested-first members number ttl count outs old) in
    record { fits = one.fits; low = let low = one.low in omega (arith, low) }

pub begins-fit : (now : Ticks) (x : Outcome) → BeginsTo now x → FitsFrom 0 x.outputs
begins-fit now x begins = subst (FitsFrom 0) (sym begins.outs)
    (requested-first begins.members begins.number begins.ttl MOST_MEMBERS begins.before (record {
      fits = all-quiet-fit 0 begins.before begins.quiet;
      low = subst (λ (n : ℕ). n ≤ 0) (sym (last-quiet 0 begins.before begins.quiet)) (omega arith);
    })).fits
