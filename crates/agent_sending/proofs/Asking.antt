-- What an input asks is what its agent waits for after it.
use Rattle.std.proofs.Common.{Bool, ◌≡◌, ◌⊎◌, ℕ, ◌+◌, ◌≤◌, ◌<◌, ◌==◌, true, false, List, [], Option, Some, None, All, Contains, refl, sym, subst, ap, ◌∙◌, arith, inl, inr}
use Rattle.std.proofs.lemmas.List.Elements.{All-push, All-weaker, All-nil}
use Rattle.pat_base.specs.declared.member_id.MemberId.{MemberId}
use Rattle.pat_base.specs.declared.member_set.MemberSet.{MemberSet}
use Rattle.pat_base.specs.declared.peer_answer.PeerAnswer.{PeerAnswer}
use Rattle.pat_base.specs.declared.ticks.Ticks.{Ticks}
use Rattle.lease_store.specs.declared.granted.Granted.{Granted}
use Rattle.store_keys.specs.declared.txn.Txn.{Txn}
use Rattle.wal_model.specs.declared.entry.HistoryPoint.{HistoryPoint}
use Rattle.cluster_view.specs.Snapshots.{SnapshotFacts}
use Rattle.event_book.specs.declared.agent_note.AgentNote.TheVariants as agent_notes
use Rattle.event_book.specs.declared.message.Body.TheVariants as bodies
use Rattle.event_book.specs.declared.reason.Reason.TheVariants.{StartTooLong, WatchdogNotArmed}
use Rattle.lease_model.specs.Past.{query_of, lease_span as span_asked}
use Rattle.lease_model.proofs.Tools.{some-is, none-some}
use Rattle.agent_model.specs.declared.heard.Heard.{Heard}
use Rattle.agent_model.specs.declared.heard.Heard.TheVariants.{Wake, ReadAnswered, Granted as HeardGranted, Mismatch, Asked, Answered, FailsafeAsked, FailsafeAnswered, Operated as HearsOperator}
use Rattle.agent_model.specs.declared.knowledge.Knowledge.{Knowledge}
use Rattle.agent_model.specs.declared.knowledge.PendingQuestion.{PendingQuestion}
use Rattle.agent_model.specs.declared.machine.Machine.{Machine}
use Rattle.agent_model.specs.declared.output.Output.{Output}
use Rattle.agent_model.specs.declared.output.Output.TheVariants as outputs
use Rattle.agent_model.specs.declared.output.Feeding.TheVariants as feedings
use Rattle.agent_model.specs.declared.output.Noting.TheVariants as notings
use Rattle.agent_model.specs.declared.output.Outgoing.TheVariants as outgoing
use Rattle.agent_model.specs.declared.output.Telling.TheVariants as tellings
use Rattle.agent_model.specs.declared.output.Target.TheVariants as targets
use Rattle.agent_model.specs.Acting.{requiring, touching, starting_replica, arming, ending_server, is_refusing, waiting_no_more}
use Rattle.agent_model.specs.Agents.{EndsAlone, RoleFacts, Follower, Ending, IsSoundAgent, Outcome, outcome_from}
use Rattle.agent_sending.specs.Asking.{IsNumbered, IsAskedNow, AsksAsWaited, StandsOn, HearsFailsafe, FeedsAsAsked, awaits_stay}
use Rattle.agent_model.specs.Reconciling.{reconciled}
use Rattle.agent_model.specs.Claiming.{begins, claims, begins_or_claims, passing, postpones}
use Rattle.agent_model.specs.StayingPrimary.{answering_failsafe, asking_to_stay, counting, holding_for, is_staying, leader_unacknowledged, others_known, stays, stays_alone}
use Rattle.agent_model.specs.Decisions.{asks_lease, cannot_arm, confirming, leader_kept, leader_renewed, takes_over, unleased_renewed, may_take, gives_back, arms, takes_key, granted, refused}
use Rattle.agent_model.specs.Planning.{writing_sync, noting}
use Rattle.agent_model.specs.Outputs.{with_output}
use Rattle.agent_model.specs.Repairs.{repair_of}
use Rattle.agent_model.specs.Snapshots.{renewing, follow_row, follows, leader_loses_key, unleased_loses_key, read_noted, read_answered, asks_as_unleased, led_by_another}
use Rattle.agent_model.specs.Racing.{creating, barred, finds_free, judged, asking_others, unheard}
use Rattle.agent_model.specs.Peers.{asked, keeping, answered}
use Rattle.agent_model.specs.HandingOver.{checking, hands_over}
use Rattle.agent_model.specs.Operators.{answering, given_up, learned, looked, operating, restarting, telling, unnumbered, wiping}
use Rattle.agent_model.specs.Table.{step}
use Rattle.agent_model.specs.Wake.{reading, turn_noted, leader_out_of_reach, unleased_out_of_reach, overdue, turned, woken}
use Rattle.agent_model.specs.declared.why.Why.TheVariants.{HandOver}
use Rattle.agent_roles.proofs.Granting.{Told}
use Rattle.agent_roles.proofs.GoingOn.{IsAlone, alone-of}
use Rattle.agent_roles.proofs.Knowing.{before-onward, given-up-onward}
use Rattle.agent_roles.proofs.Staying.{before-waits}
use Rattle.agent_roles.proofs.Living.{no-way}
use Rattle.agent_cases.proofs.Rows.{if-cases, overdue-by, turn-by, wake-by, got-by, refused-by, follow-by, repaired-by, free-by, judged-by, answered-by, HandoverRows, ReplyRows, dropping, refused-any-by, given-up-by, looked-by, operated-by}
use Rattle.agent_cases.proofs.FailsafeRows.{failsafe-asked-by, failsafe-answered-by}
use Rattle.agent_cases.proofs.Grants.{kept_on, led_on, judges-start-by, renewed-by, begins-or-claims-by, granted-by, granted-any-by, DutyRows, duties-of, leading_in_pause, takes-in-pause-by}
use Rattle.store_keys.specs.declared.action.OperatorRequest.TheVariants as requests
use Rattle.store_keys.specs.declared.config_value.ConfigValue.{ConfigValue}
use Rattle.store_keys.specs.declared.txn.Txn.TheVariants as txns
use Rattle.store_keys.specs.declared.txn.OperatorTxn.TheVariants as operator_txns
use Rattle.event_book.specs.declared.message.Body.{Body}
use Rattle.lease_model.specs.Modes.{IsModeAsked, IsModeSet}
use Rattle.agent_sending.specs.Modes.{AsksMode, HearsMode, IsModeRequested}
use Rattle.agent_sending.proofs.MaySend.{MayAskMember, MayAskStore, MayTransact, Grounds, IsSilent, silently, MayPut, AllMay, Fronts, before-fronts, overdue-none}
use Rattle.agent_sending.proofs.StayingSends.{staying, failsafe-asked-may, failsafe-answered-may, wake-may, given-up-fronts}
use Rattle.agent_sending.proofs.Sending.{got-none, got-may, refused-may, granted-may, answered-none, answered-may, asked-may, operated-may, looked-fronts, looked-later}
use Rattle.agent_sending.proofs.MaySend.Fronts.{Silent, Released}
use Rattle.agent_roles.proofs.Fitting.{before-fits}
use Rattle.agent_model.specs.Pausing.{may_start_behind, disabling_watchdog, running_without_key}

-- the create or the renewal that is waited for was waited for before, or is asked
abbrev Holds : Ticks → Outcome → Outcome → Type 0
Holds now o after = (waited : PendingQuestion) → after.knows.waited ≡ Some waited
    → asks_lease waited.question ≡ true → (o.knows.waited ≡ Some waited) ⊎ IsAskedNow now o after waited

nothing : (now : Ticks) (o after : Outcome) → after.knows.waited ≡ None → Holds now o after
nothing now o after none waited is asks = absurd (none-some waited (sym none ∙ is))

as-before : (now : Ticks) (o after : Outcome) → after.knows.waited ≡ o.knows.waited → Holds now o after
as-before now o after same waited is asks = inl (sym same ∙ is)

-- a read, an ask of other members, and a write of the sync key is no request for a lease
only-reads : (now : Ticks) (o after : Outcome) (read : PendingQuestion) → after.knows.waited ≡ Some read
    → asks_lease read.question ≡ false → Holds now o after
only-reads now o after read is no-lease waited waits asks =
    let same : read ≡ waited = some-is read waited (sym is ∙ waits) in
    absurd (no-way (sym no-lease ∙ (ap (λ (w : PendingQuestion). asks_lease w.question) same ∙ asks)))

-- a request under this number asks for leases of this span
abbrev SpansAs : ℕ → ℕ → Output → Type 0
SpansAs number ttl (outputs.Message (outgoing.Send targets.Store sequence (bodies.Request txn))) =
    sequence ≡ number → span_asked (query_of txn) ≡ ttl
SpansAs number ttl _ = Unit {0}

silent-spans : (number ttl : ℕ) (output : Output) → IsSilent output → SpansAs number ttl output
silent-spans number ttl (outputs.Message (outgoing.Send to sequence body)) silent = absurd silent
silent-spans number ttl _ silent = tt

-- one more request behind silent outputs, that is waited for
asked-now : (now : Ticks) (o after : Outcome) (outs : List Output) (asked : PendingQuestion) (txn : Txn)
    → All IsSilent outs
    → after.outputs
    ≡ with_output (outputs.Message (outgoing.Send targets.Store asked.sequence (bodies.Request txn))) outs
    → after.knows.waited ≡ Some asked → asked.sent ≡ now
    → span_asked (query_of txn) ≡ asked.ttl.0 → o.knows.sequence < asked.sequence → Holds now o after
asked-now now o after outs asked txn silent is waits sent span later waited waits-now asks =
    let same : asked ≡ waited = some-is asked waited (sym waits ∙ waits-now) in
    let all : All (SpansAs asked.sequence asked.ttl.0) after.outputs =
    subst (λ (l : List Output). All (SpansAs asked.sequence asked.ttl.0) l) (sym is)
    (All-push (SpansAs asked.sequence asked.ttl.0) outs
    (outputs.Message (outgoing.Send targets.Store asked.sequence (bodies.Request txn)))
    (All-weaker IsSilent (SpansAs asked.sequence asked.ttl.0) (silent-spans asked.sequence asked.ttl.0) outs silent)
    (λ _. span)) in
    inr (subst (λ (w : PendingQuestion). IsAskedNow now o after w) same (record {
      later = later;
      sent = sent;
      ttl = λ request among. subst (λ (y : Output). SpansAs asked.sequence asked.ttl.0 y) among.2
          (all among.0 (outputs.Message (outgoing.Send targets.Store asked.sequence (bodies.Request request))) among.1)
          refl;
    }))

more-than : (a b : ℕ) → a ≤ b → a < b + 1
more-than a b less = omega (arith, less)

judged-holds : (now : Ticks) (o b : Outcome) → o.knows.sequence ≤ b.knows.sequence → All IsSilent b.outputs
    → Holds now o (judged now b)
judged-holds now o b later silent = judged-by (Holds now o) now b
    (asked-now now o (creating now (waiting_no_more b)) b.outputs _ _ silent refl refl refl refl
    (more-than o.knows.sequence b.knows.sequence later))
    (λ bar. nothing now o (barred bar (waiting_no_more b)) refl)

-- a handover that is judged waits for nothing
handover-holds : (now : Ticks) (held : ℕ) (o b : Outcome) → HandoverRows (Holds now o) now held b
handover-holds now held o b = record {
  kept = nothing now o (waiting_no_more b) refl;
  clears = λ compared. nothing now o (dropping compared (waiting_no_more b)) refl;
  hands = λ candidate. nothing now o (hands_over now held candidate (waiting_no_more b)) refl;
}

overdue-silent : (now : Ticks) (o b : Outcome) → o.knows.sequence ≤ b.knows.sequence
    → b.knows.waited ≡ o.knows.waited → All IsSilent b.outputs → Holds now o (overdue now b)
overdue-silent now o b later same silent = overdue-by (Holds now o) now b (record {
  kept = as-before now o b same;
  quiet = nothing now o (waiting_no_more b) refl;
  leader = λ held _. nothing now o (leader_out_of_reach now held (waiting_no_more b)) refl;
  seeks = λ held _. only-reads now o (asking_to_stay now (others_known b.knows) (waiting_no_more b)) _ refl refl;
  alone = λ held _. nothing now o (stays_alone now (others_known b.knows) (waiting_no_more b)) refl;
  silent = λ held _. nothing now o (leader_unacknowledged now held (waiting_no_more b)) refl;
  unleased = λ _. nothing now o (unleased_out_of_reach now (waiting_no_more b)) refl;
  judges = λ _. judged-holds now o b later silent;
  ready = λ held _. nothing now o (postpones held (waiting_no_more b)) refl;
  checks = λ held _. handover-holds now held o b;
})

overdue-holds : (now : Ticks) (o b : Outcome) → o.knows.sequence ≤ b.knows.sequence
    → b.knows.waited ≡ o.knows.waited → Fronts o b → Holds now o (overdue now b)
overdue-holds now o b later same (Silent all) = overdue-silent now o b later same all
overdue-holds now o b later same (Released revision held alone role ended counted all) =
    subst (λ (z : Outcome). Holds now o z) (sym (overdue-none now b alone)) (as-before now o b same)

turn-holds : (now : Ticks) (o b : Outcome) → Holds now o b
    → ((x : Outcome) → x.outputs ≡ b.outputs → x.knows.waited ≡ b.knows.waited → Holds now o x)
    → Holds now o (turned now b)
turn-holds now o b holds more = let noted : Outcome = record b { knows = turn_noted now b.knows } in
    turn-by (Holds now o) now b (record {
      kept = holds;
      quiet = more noted refl refl;
      reads = λ _. only-reads now o (reading now noted) _ refl refl;
    })

-- what holds of an outcome holds of one with the same outputs that waits for the same
same-holds : (now : Ticks) (o b x : Outcome) → Holds now o b → x.outputs ≡ b.outputs
    → x.knows.waited ≡ b.knows.waited → Holds now o x
same-holds now o b x holds outs waits waited is asks = elim (holds waited (sym waits ∙ is) asks) [
  | inl was ↦ inl was
  | inr asked ↦ inr (record {
    later = asked.later;
    sent = asked.sent;
    ttl = λ txn among. asked.ttl txn
        (subst (λ (l : List Output).
        Contains l (outputs.Message (outgoing.Send targets.Store waited.sequence (bodies.Request txn))))
        outs among);
  })
]

-- what is waited for stays
abbrev WaitsAs : Outcome → Outcome → Type 0
WaitsAs o x = x.knows.waited ≡ o.knows.waited

-- an operator is answered, and what is waited for stays
told-holds : (now : Ticks) (o b : Outcome) → WaitsAs o b → ReplyRows (Holds now o) b
told-holds now o b same =
    record { kept = as-before now o b same; answers = λ request told. as-before now o (answering request told b) same }

before-holds : (now : Ticks) (o : Outcome) → Holds now o (reconciled now o)
before-holds now o = as-before now o (reconciled now o) (before-waits now o)

wake-holds : (now : Ticks) (o : Outcome) → IsAlone o → All IsSilent o.outputs → Holds now o (woken now o)
wake-holds now o alone silent = let told : Outcome = given_up now (reconciled now o) in
    let waits : told.knows.waited ≡ o.knows.waited = given-up-by (WaitsAs o) now (reconciled now o)
    (record { kept = before-waits now o; answers = λ request answer. before-waits now o }) in
    let holds : Holds now o (overdue now told) =
    overdue-holds now o told (given-up-onward None now o).last waits (given-up-fronts now o alone silent) in
    wake-by (Holds now o) now o (before-holds now o)
    (turn-holds now o (overdue now told) holds (λ x outs same. same-holds now o (overdue now told) x holds outs same))

free-holds : (now : Ticks) (o b : Outcome) → o.knows.sequence ≤ b.knows.sequence → b.knows.waited ≡ None
    → All IsSilent b.outputs → Holds now o (finds_free now b)
free-holds now o b later none silent = let x : Outcome = record b { role = Follower } in
    free-by (Holds now o) now x (record {
      starts = nothing now o (touching (starting_replica now None x)) none;
      touches = nothing now o (touching x) none;
      bars = λ bar. nothing now o (barred bar x) none;
      judges = judged-holds now o (unheard x) later silent;
      asks = only-reads now o (asking_others now (unheard x)) _ refl refl;
    })

abbrev WaitsNot : Outcome → Type 0
WaitsNot o = o.knows.waited ≡ None

follow-waits : (now : Ticks) (leader : MemberId) (o : Outcome) → WaitsNot o → WaitsNot (follows now leader o)
follow-waits now leader o none = let x : Outcome = led_by_another o in
    let may : Bool = may_start_behind o.knows in
    let row : WaitsNot (follow_row may now leader o.machine.server.state x) =
    follow-by WaitsNot may now leader o.machine.server.state x none none none none in
    repaired-by WaitsNot leader (repair_of o.knows.settings leader o.machine.server)
    (touching (follow_row may now leader o.machine.server.state x)) row (λ r. row)

follow-holds : (now : Ticks) (leader : MemberId) (o b : Outcome) → b.knows.waited ≡ None
    → Holds now o (follows now leader b)
follow-holds now leader o b none = nothing now o (follows now leader b) (follow-waits now leader b none)

got-silent : (now : Ticks) (points : List HistoryPoint) (sequence : ℕ) (snapshot : SnapshotFacts) (o b : Outcome)
    → o.knows.sequence ≤ b.knows.sequence → b.knows.waited ≡ o.knows.waited → All IsSilent b.outputs
    → Holds now o (read_answered now points sequence snapshot b)
got-silent now points sequence snapshot o b later same silent =
    let read : Outcome = record b { knows = read_noted now snapshot b.knows } in
    got-by (Holds now o) now points sequence snapshot b (record {
      kept = as-before now o b same;
      quiet = nothing now o (waiting_no_more b) refl;
      other = nothing now o read refl;
      leader = λ held _. nothing now o (leader_loses_key now held read) refl;
      unleased = λ _. nothing now o (unleased_loses_key now read) refl;
      renews = λ _ leader some mine. asked-now now o (renewing now points leader.revision read) b.outputs _ _
          silent refl refl refl refl (more-than o.knows.sequence b.knows.sequence later);
      touches = nothing now o (touching read) refl;
      follows = λ leader _ _. follow-holds now leader.holder o read refl;
      free = λ _ _. free-holds now o read later refl silent;
      runs_on = λ _. nothing now o (running_without_key read) refl;
      asks_on = λ _. asked-now now o (asks_as_unleased now read)
          (with_output (outputs.Note (notings.Agent agent_notes.RunsWithoutKey)) b.outputs) _ _
          (silently b.outputs (outputs.Note (notings.Agent agent_notes.RunsWithoutKey)) silent tt) refl refl refl refl
          (more-than o.knows.sequence b.knows.sequence later);
    })

got-fronts : (now : Ticks) (points : List HistoryPoint) (sequence : ℕ) (snapshot : SnapshotFacts) (o b : Outcome)
    → o.knows.sequence ≤ b.knows.sequence → b.knows.waited ≡ o.knows.waited → Fronts o b
    → Holds now o (read_answered now points sequence snapshot b)
got-fronts now points sequence snapshot o b later same (Silent all) =
    got-silent now points sequence snapshot o b later same all
got-fronts now points sequence snapshot o b later same (Released revision held alone role ended counted all) =
    subst (λ (z : Outcome). Holds now o z) (sym (got-none now points sequence snapshot b alone))
    (as-before now o b same)

got-holds : (now : Ticks) (points : List HistoryPoint) (sequence : ℕ) (snapshot : SnapshotFacts) (o : Outcome)
    → IsAlone o → All IsSilent o.outputs
    → Holds now o (read_answered now points sequence snapshot (looked sequence snapshot (reconciled now o)))
got-holds now points sequence snapshot o alone silent =
    let told : Outcome = looked sequence snapshot (reconciled now o) in
    let waits : told.knows.waited ≡ o.knows.waited = looked-by (WaitsAs o) sequence snapshot (reconciled now o)
    (record { kept = before-waits now o; answers = λ request answer. before-waits now o }) in
    got-fronts now points sequence snapshot o told (looked-later now sequence snapshot o) waits
    (looked-fronts now sequence snapshot o alone silent)

refused-holds : (now : Ticks) (sequence : ℕ) (o b : Outcome) → b.knows.waited ≡ o.knows.waited
    → Holds now o (refused now sequence b)
refused-holds now sequence o b same = refused-by (Holds now o) now sequence b (record {
  kept = as-before now o b same;
  quiet = nothing now o (waiting_no_more b) refl;
  leader = λ held _. nothing now o (leader_loses_key now held (waiting_no_more b)) refl;
  unleased = λ _. nothing now o (unleased_loses_key now (waiting_no_more b)) refl;
  follower = λ held _. nothing now o (record (waiting_no_more b) { role = Follower }) refl;
  ready = λ held _. nothing now o (postpones held (waiting_no_more b)) refl;
  runs_on = λ _. nothing now o (running_without_key (waiting_no_more b)) refl;
})

-- what a leader owes its cluster
duty-holds : (now : Ticks) (revision : ℕ) (o led : Outcome) → led.knows.waited ≡ None
    → DutyRows (Holds now o) now revision led
duty-holds now revision o led none = record {
  plan = record {
    kept = nothing now o led none;
    writes = λ settling txn _. only-reads now o (writing_sync now settling txn led) _ refl refl;
    adds = λ required. nothing now o (requiring required (noting led)) none;
    drops = λ required. nothing now o (requiring required led) none;
  };
  clears = λ compared. nothing now o (dropping compared led) none;
  asks = λ candidate. only-reads now o (checking now candidate (unheard led)) _ refl refl;
  judges = handover-holds now revision o (unheard led);
}

renewed-holds : (now ttl : Ticks) (revision : ℕ) (o b : Outcome) → b.knows.waited ≡ None
    → Holds now o (leader_renewed now ttl revision b)
renewed-holds now ttl revision o b none = let led : Outcome = led_on now ttl revision b in
    renewed-by (Holds now o) now ttl revision b
    (nothing now o (record (ending_server now StartTooLong led) { role = Ending revision HandOver }) none)
    (duty-holds now revision o led none)

kept-holds : (now : Ticks) (revision : ℕ) (o b : Outcome) → b.knows.waited ≡ None
    → Holds now o (leader_kept now revision b)
kept-holds now revision o b none = let led : Outcome = kept_on revision b in
    judges-start-by (Holds now o) now revision led
    (nothing now o (record (ending_server now StartTooLong led) { role = Ending revision HandOver }) none)
    (duty-holds now revision o led none)

unleased-holds : (now ttl : Ticks) (revision : ℕ) (o b : Outcome) → b.knows.waited ≡ None
    → Holds now o (unleased_renewed now ttl revision b)
unleased-holds now ttl revision o b none = let ended : Outcome = ending_server now WatchdogNotArmed b in
    let over : Outcome = takes_over now revision (arming now ttl b) in
    if-cases (Holds now o) (is_refusing b.machine.watchdog.mode b.machine.watchdog.works) ended over
    (λ _. nothing now o ended none) (λ _. nothing now o over none)

takes-holds : (now ttl : Ticks) (revision : ℕ) (o b : Outcome) → b.knows.waited ≡ None
    → Holds now o (takes_key now ttl revision b)
takes-holds now ttl revision o b none =
    let back : Outcome = cannot_arm revision b in let arm : Outcome = arming now ttl b in
    if-cases (Holds now o) (may_take now b.knows b.machine) (arms now ttl revision b) (gives_back revision b)
    (λ _. if-cases (Holds now o) (is_refusing b.machine.watchdog.mode b.machine.watchdog.works) back
    (begins_or_claims now revision arm) (λ _. nothing now o back none)
    (λ _. begins-or-claims-by (Holds now o) now revision arm (nothing now o (begins now revision arm) none)
    (only-reads now o (claims now revision (passing arm)) _ refl refl)))
    (λ _. nothing now o (gives_back revision b) none)

granted-holds : (now : Ticks) (sequence : ℕ) (grant : Granted) (snapshot : SnapshotFacts) (o b : Outcome)
    → b.knows.waited ≡ o.knows.waited → Holds now o (granted now sequence grant snapshot b)
granted-holds now sequence grant snapshot o b same = granted-by (Holds now o) now sequence grant snapshot b
    (as-before now o b same) (nothing now o (waiting_no_more b) refl)
    (λ waited is decision. record {
      other = nothing now o (Told snapshot b) refl;
      leader = λ held _. renewed-holds now waited.ttl grant.revision o (Told snapshot b) refl;
      unleased = λ _. unleased-holds now waited.ttl grant.revision o (Told snapshot b) refl;
      takes = λ _. takes-holds now waited.ttl grant.revision o (Told snapshot b) refl;
      keeps_late = λ held _. kept-holds now grant.revision o (Told snapshot b) refl;
      ends_late = λ _. nothing now o (ending_server now WatchdogNotArmed (Told snapshot b)) refl;
      refuses_late = λ _. nothing now o (cannot_arm grant.revision (Told snapshot b)) refl;
      returns_late = λ _. nothing now o (gives_back grant.revision (Told snapshot b)) refl;
      leads_in_pause = λ renews _ held _. let led : Outcome =
          leading_in_pause renews grant.revision (Told snapshot b) in
          duties-of (Holds now o) now grant.revision led (duty-holds now grant.revision o led refl);
      unleased_in_pause = λ renews _ _.
          nothing now o (takes_over now grant.revision (disabling_watchdog renews (Told snapshot b))) refl;
      takes_in_pause = λ renews _ _. let rest : Outcome = disabling_watchdog renews (Told snapshot b) in
          takes-in-pause-by (Holds now o) now renews grant.revision (Told snapshot b)
          (nothing now o (gives_back grant.revision (Told snapshot b)) refl)
          (nothing now o (begins now grant.revision rest) refl)
          (only-reads now o (claims now grant.revision (passing rest)) _ refl refl);
    })
    (λ after holds. same-holds now o after (confirming snapshot after) holds refl refl)
    (record {
      other = nothing now o (Told snapshot b) refl;
      begins = λ revision _. nothing now o (begins now revision (Told snapshot b)) refl;
      postpones = λ revision _. nothing now o (postpones revision (Told snapshot b)) refl;
      settles = λ required _. nothing now o (requiring required (Told snapshot b)) refl;
    })

answered-silent : (now : Ticks) (sequence : ℕ) (answer : PeerAnswer) (o b : Outcome)
    → o.knows.sequence ≤ b.knows.sequence → b.knows.waited ≡ o.knows.waited → All IsSilent b.outputs
    → Holds now o (answered now sequence answer b)
answered-silent now sequence answer o b later same silent = answered-by (Holds now o) now sequence answer b (record {
  kept = as-before now o b same;
  quiet = nothing now o (waiting_no_more b) refl;
  keeps = as-before now o (keeping answer b) same;
  judges = λ _. judged-holds now o (keeping answer b) later silent;
  checks = λ held _. handover-holds now held o (keeping answer b);
})

answered-holds : (now : Ticks) (sequence : ℕ) (answer : PeerAnswer) (o b : Outcome)
    → o.knows.sequence ≤ b.knows.sequence → b.knows.waited ≡ o.knows.waited → Fronts o b
    → Holds now o (answered now sequence answer b)
answered-holds now sequence answer o b later same (Silent all) = answered-silent now sequence answer o b later same all
answered-holds now sequence answer o b later same (Released revision held alone role ended counted all) =
    subst (λ (z : Outcome). Holds now o z) (sym (answered-none now sequence answer b alone)) (as-before now o b same)

step-holds : (now : Ticks) (points : List HistoryPoint) (heard : Heard) (o : Outcome) → IsAlone o
    → All IsSilent o.outputs → Holds now o (step now points heard o)
step-holds now points Wake o alone silent = wake-holds now o alone silent
step-holds now points (ReadAnswered sequence snapshot) o alone silent =
    got-holds now points sequence snapshot o alone silent
step-holds now points (HeardGranted sequence grant snapshot) o alone silent =
    granted-any-by (Holds now o) now sequence grant snapshot (reconciled now o) (before-holds now o)
    (told-holds now o (learned snapshot (reconciled now o)) (before-waits now o))
    (granted-holds now sequence grant snapshot o (reconciled now o) (before-waits now o))
step-holds now points (Mismatch sequence key found) o alone silent =
    refused-any-by (Holds now o) now sequence (reconciled now o)
    (told-holds now o (reconciled now o) (before-waits now o))
    (refused-holds now sequence o (reconciled now o) (before-waits now o))
step-holds now points (Asked from incarnation sequence) o alone silent =
    as-before now o (asked from incarnation sequence (reconciled now o)) (before-waits now o)
step-holds now points (FailsafeAsked from incarnation sequence ttl) o alone silent =
    let b : Outcome = reconciled now o in
    failsafe-asked-by (Holds now o) now from incarnation sequence ttl b
    (λ _. as-before now o (answering_failsafe from incarnation sequence true (holding_for now from sequence ttl b))
    (before-waits now o))
    (as-before now o (answering_failsafe from incarnation sequence false b) (before-waits now o))
step-holds now points (FailsafeAnswered from sequence accepted sent) o alone silent =
    let b : Outcome = reconciled now o in
    failsafe-answered-by (Holds now o) now from sequence accepted sent b (record {
      kept = as-before now o b (before-waits now o);
      quiet = nothing now o (waiting_no_more b) refl;
      counts = λ held _. as-before now o (counting from sent b) (before-waits now o);
      counts_late = λ held _ _. nothing now o (waiting_no_more (counting from sent b)) refl;
      stays = λ held _ waited _ _ since _ _.
          nothing now o (stays now waited.ttl waited.sequence since (counting from sent b)) refl;
      fails = λ held _ _. nothing now o (leader_unacknowledged now held (waiting_no_more b)) refl;
    })
step-holds now points (Answered sequence answer) o alone silent = answered-holds now sequence answer o
    (reconciled now o) (before-onward None now o).last (before-waits now o) (before-fronts now o alone silent)
step-holds now points (HearsOperator action) o alone silent = let b : Outcome = reconciled now o in
    operated-by (Holds now o) now action.request action.asked b (record {
      asks = λ operation txn _.
          as-before now o (operating now action.request operation (bodies.Request txn) b) (before-waits now o);
      restarts = λ told. as-before now o (telling action.request told (restarting now b)) (before-waits now o);
      wipes = λ told. as-before now o (telling action.request told (wiping b)) (before-waits now o);
      holds = λ ttl told _. as-before now o
          (telling action.request told (holding_for now b.knows.who.me unnumbered ttl b)) (before-waits now o);
      refuses = λ told. as-before now o (telling action.request told b) (before-waits now o);
    })

-- whatever is granted, expected and asked, where this holds of what an
-- operator has it configure, of what is acknowledged and of what feeds it
abbrev Any : (ConfigValue → Type 0) → (MemberId → ℕ → ℕ → Type 0) → (MemberSet → ℕ → Type 0) → Grounds
Any C K F = record {
  gives = λ revision. Unit {0};
  creates = λ expected. Unit {0};
  requests = λ sequence ttl. Unit {0};
  acknowledges = K;
  configures = C;
  feeds = F;
}

-- an output that sends a message does so under a new number that is counted
numbered : (G : Grounds) (o after : Outcome) (output : Output) → MayPut G o after output
    → IsNumbered o.knows.sequence after.knows.sequence output
numbered G o after (outputs.Message (outgoing.Send targets.Store sequence body)) may = (may.later, may.counted)
numbered G o after (outputs.Message (outgoing.Send (targets.Member member) sequence body)) may = (may.0, may.1)
numbered G o after _ may = tt

all-numbered : (G : Grounds) (o after : Outcome) → AllMay G o after
    → All (IsNumbered o.knows.sequence after.knows.sequence) after.outputs
all-numbered G o after all = All-weaker (MayPut G o after) (IsNumbered o.knows.sequence after.knows.sequence)
    (numbered G o after) after.outputs all

-- what an operator asks for, of which this holds where it is a configuration
abbrev Configures : (ConfigValue → Type 0) → Heard → Type 0
Configures C (HearsOperator action) = (config : ConfigValue) → action.asked ≡ requests.Configuration config → C config
Configures C _ = Unit {0}

-- so is what is acknowledged, where a request is heard
abbrev Acknowledges : (MemberId → ℕ → ℕ → Type 0) → Heard → Type 0
Acknowledges K (FailsafeAsked from incarnation sequence ttl) = K from incarnation sequence
Acknowledges K _ = Unit {0}

-- and what feeds it: those that were asked by the request whose answers are waited for, or nobody where none are
record MayFeed (F : MemberSet → ℕ → Type 0) (o : Outcome) : Type 0 where
  answers : (waited : PendingQuestion) → o.knows.waited ≡ Some waited → is_staying waited.question ≡ true
      → F o.knows.failsafe.members waited.sequence
  nobody : awaits_stay o.knows.waited ≡ false → (members : MemberSet) (sequence : ℕ)
      → members.bits == 0 ≡ true → F members sequence

-- such grounds
record IsAny (C : ConfigValue → Type 0) (K : MemberId → ℕ → ℕ → Type 0) (F : MemberSet → ℕ → Type 0)
    (G : Grounds) : Type 0 where
  configures : (config : ConfigValue) → G.configures config → C config
  acknowledges : (to : MemberId) (run sequence : ℕ) → G.acknowledges to run sequence → K to run sequence
  feeds : (members : MemberSet) (sequence : ℕ) → G.feeds members sequence → F members sequence

any-is : (C : ConfigValue → Type 0) (K : MemberId → ℕ → ℕ → Type 0) (F : MemberSet → ℕ → Type 0)
    → IsAny C K F (Any C K F)
any-is C K F =
    record { configures = λ config e. e; acknowledges = λ to run sequence e. e; feeds = λ members sequence e. e }

-- what any input sends
abbrev Sends : (ConfigValue → Type 0) → (MemberId → ℕ → ℕ → Type 0) → (MemberSet → ℕ → Type 0) → Outcome
    → Outcome → Type 1
Sends C K F o after = (G : Grounds) × (IsAny C K F G × AllMay G o after)

step-may : (C : ConfigValue → Type 0) (K : MemberId → ℕ → ℕ → Type 0) (F : MemberSet → ℕ → Type 0) (now : Ticks)
    (points : List HistoryPoint) (heard : Heard) (o : Outcome) → Configures C heard → Acknowledges K heard
    → MayFeed F o → IsAlone o → All IsSilent o.outputs → Sends C K F o (step now points heard o)
step-may C K F now points Wake o is says feed alone silent = (
  staying now (woken now o) (Any C K F),
  (
    record { configures = λ config e. e; acknowledges = λ to run sequence e. e; feeds = λ members sequence e. e },
    wake-may (Any C K F) now o (λ _. tt) feed.nobody alone silent,
  ),
)
step-may C K F now points (ReadAnswered sequence snapshot) o is says feed alone silent = (
  Any C K F,
  (
    any-is C K F,
    got-may (Any C K F) now points sequence snapshot o (record { free = λ _. tt; paused = λ _. tt }) alone silent,
  ),
)
step-may C K F now points (HeardGranted sequence grant snapshot) o is says feed alone silent = (
  Any C K F,
  (
    any-is C K F,
    granted-may (Any C K F) now sequence grant snapshot o alone (before-onward None now o).last
        (before-fits now o) (λ _. tt) (λ revision _. tt) silent,
  ),
)
step-may C K F now points (Mismatch sequence key found) o is says feed alone silent =
    (Any C K F, (any-is C K F, refused-may (Any C K F) now sequence o alone silent))
step-may C K F now points (Asked from incarnation sequence) o is says feed alone silent =
    (Any C K F, (any-is C K F, asked-may (Any C K F) now from incarnation sequence o alone silent))
step-may C K F now points (Answered sequence answer) o is says feed alone silent = (
  Any C K F,
  (any-is C K F, answered-may (Any C K F) now sequence answer o (λ _. tt) alone (before-onward None now o).last silent),
)
step-may C K F now points (FailsafeAsked from incarnation sequence ttl) o is says feed alone silent =
    (Any C K F, (any-is C K F, failsafe-asked-may (Any C K F) now from incarnation sequence ttl o says alone silent))
step-may C K F now points (FailsafeAnswered from sequence accepted sent) o is says feed alone silent = (
  Any C K F,
  (any-is C K F, failsafe-answered-may (Any C K F) now from sequence accepted sent o feed.answers alone silent),
)
step-may C K F now points (HearsOperator action) o is says feed alone silent =
    (Any C K F, (any-is C K F, operated-may (Any C K F) now action o is alone silent))

-- what is acknowledged is what is heard
says-heard : (heard : Heard) → Acknowledges (HearsFailsafe heard) heard
says-heard (FailsafeAsked from incarnation sequence ttl) = (ttl, refl)
says-heard _ = tt

-- the acknowledgements that are waited for feed it
feeds-asked : (o : Outcome) → MayFeed (FeedsAsAsked o.knows) o
feeds-asked o = record {
  answers = λ waited is staying. record {
    asked = λ other same _. (refl, ap (λ (w : PendingQuestion). w.sequence) (some-is waited other (sym is ∙ same)));
    nobody = λ none. absurd (no-way (sym none ∙ ap (λ (w : Option PendingQuestion). awaits_stay w) is ∙ staying));
  };
  nobody = λ none members sequence empty. record {
    asked = λ other same staying.
        absurd (no-way (sym none ∙ ap (λ (w : Option PendingQuestion). awaits_stay w) same ∙ staying));
    nobody = λ _. empty;
  };
}

step-sends : (now : Ticks) (points : List HistoryPoint) (heard : Heard) (o : Outcome) → IsAlone o
    → All IsSilent o.outputs
    → Sends (λ config. Unit {0}) (HearsFailsafe heard) (FeedsAsAsked o.knows) o (step now points heard o)
step-sends now points heard o alone silent = step-may (λ config. Unit {0}) (HearsFailsafe heard)
    (FeedsAsAsked o.knows) now points heard o (any heard) (says-heard heard) (feeds-asked o) alone silent
  where
    any : (heard : Heard) → Configures (λ config. Unit {0}) heard
    any (HearsOperator action) = λ config _. tt
    any _ = tt

-- what an output stands on
stands-put : (C : ConfigValue → Type 0) (heard : Heard) (G : Grounds) (o after : Outcome)
    → IsAny C (HearsFailsafe heard) (FeedsAsAsked o.knows) G → (output : Output) → MayPut G o after output
    → StandsOn heard o.knows output
stands-put C heard G o after is (outputs.Tell (tellings.HoldTaken until from sequence)) may = elim may [
  | inl none ↦ inl none
  | inr run ↦ inr (run.0, is.acknowledges from run.0 sequence run.1)
]
stands-put C heard G o after is (outputs.Message (outgoing.FailsafeAnswer to run sequence accepted)) may =
    λ e. is.acknowledges to run sequence (may e)
stands-put C heard G o after is (outputs.Watchdog (feedings.FedByFailsafe until members sequence since)) may =
    is.feeds members sequence may
stands-put C heard G o after is _ may = tt

-- an operator's configuration has failsafe mode as it is declared, and so has what is asked for
mode-put : (mode : Bool) (G : Grounds) (o after : Outcome)
    → ((config : ConfigValue) → G.configures config → config.config.failsafe_mode ≡ mode) → (output : Output)
    → MayPut G o after output → AsksMode mode output
mode-put mode G o after so (outputs.Message (outgoing.Send targets.Store sequence body)) may = by body may.asks
  where
    by-txn : (txn : Txn) → MayTransact G o after sequence txn → IsModeSet mode txn
    by-txn (txns.Operators (operator_txns.SetConfig revision config)) may = so config may
    by-txn _ may = tt

    by : (body : Body) → MayAskStore G o after sequence body → IsModeAsked mode body
    by (bodies.Request txn) may = by-txn txn may
    by _ may = tt
mode-put mode G o after so (outputs.Message (outgoing.Send (targets.Member member) sequence body)) may = by body may.2
  where
    by : (body : Body) → MayAskMember G sequence body → IsModeAsked mode body
    by bodies.Ask may = tt
    by (bodies.FailsafeRequest ttl) may = tt
    by _ may = absurd may
mode-put mode G o after so _ may = tt

pub mode-asked-from : (now : Ticks) (points : List HistoryPoint) (heard : Heard) (role : RoleFacts)
    (knows : Knowledge) (machine : Machine) → EndsAlone role knows.waited → (mode : Bool) → HearsMode mode heard
    → All (AsksMode mode) (step now points heard (outcome_from role knows machine [])).outputs
mode-asked-from now points heard role knows machine ends mode hears =
    let o : Outcome = outcome_from role knows machine [] in let after : Outcome = step now points heard o in
    let sends = step-may (λ config. config.config.failsafe_mode ≡ mode) (HearsFailsafe heard) (FeedsAsAsked o.knows) now
    points heard o (by heard hears) (says-heard heard) (feeds-asked o) (alone-of o ends) (All-nil IsSilent) in
    All-weaker (MayPut sends.0 o after) (AsksMode mode)
    (mode-put mode sends.0 o after sends.1.0.configures) after.outputs sends.1.1
  where
    by : (heard : Heard) → HearsMode mode heard → Configures (λ config. config.config.failsafe_mode ≡ mode) heard
    by (HearsOperator action) hears = λ config is. subst (IsModeRequested mode) is hears
    by _ hears = tt

pub mode-asked : (now : Ticks) (points : List HistoryPoint) (heard : Heard) (role : RoleFacts)
    (knows : Knowledge) (machine : Machine) → IsSoundAgent role knows → (mode : Bool) → HearsMode mode heard
    → All (AsksMode mode) (step now points heard (outcome_from role knows machine [])).outputs
mode-asked now points heard role knows machine sound = mode-asked-from now points heard role knows machine sound.ends

pub input-asks-from : (now : Ticks) (points : List HistoryPoint) (heard : Heard) (role : RoleFacts)
    (knows : Knowledge) (machine : Machine) → EndsAlone role knows.waited
    → AsksAsWaited now heard (outcome_from role knows machine [])
    (step now points heard (outcome_from role knows machine []))
input-asks-from now points heard role knows machine ends =
    let o : Outcome = outcome_from role knows machine [] in let alone : IsAlone o = alone-of o ends in
    let after : Outcome = step now points heard o in
    let sends = step-sends now points heard o alone (All-nil IsSilent) in record {
      stands = All-weaker (MayPut sends.0 o after) (StandsOn heard o.knows)
          (stands-put (λ config. Unit {0}) heard sends.0 o after sends.1.0) after.outputs sends.1.1;
      numbered = all-numbered sends.0 o after sends.1.1;
      waits = step-holds now points heard o alone (All-nil IsSilent);
    }

pub input-asks : (now : Ticks) (points : List HistoryPoint) (heard : Heard) (role : RoleFacts)
    (knows : Knowledge) (machine : Machine) → IsSoundAgent role knows
    → AsksAsWaited now heard (outcome_from role knows machine [])
    (step now points heard (outcome_from role knows machine []))
input-asks now points heard role knows machine sound = input-asks-from now points heard role knows machine sound.ends
