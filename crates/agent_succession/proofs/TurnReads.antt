-- What a turn read of the key store stays until the next turn reads it.
use Rattle.std.proofs.Common.{◌≡◌, ℕ, ◌==◌, ◌&&◌, Bool, true, false, List, Option, Some, None, refl, sym, ap, subst, ◌∙◌}
use Rattle.pat_base.specs.declared.member_id.MemberId.{MemberId}
use Rattle.pat_base.specs.declared.peer_answer.PeerAnswer.{PeerAnswer}
use Rattle.pat_base.specs.declared.ticks.Ticks.{Ticks}
use Rattle.lease_store.specs.declared.granted.Granted.{Granted}
use Rattle.wal_model.specs.declared.entry.HistoryPoint.{HistoryPoint}
use Rattle.cluster_view.specs.Snapshots.{SnapshotFacts}
use Rattle.agent_model.specs.declared.heard.Heard.{Heard}
use Rattle.agent_model.specs.declared.heard.Heard.TheVariants.{Wake, ReadAnswered, Granted as HeardGranted, Mismatch, Asked, Answered, FailsafeAsked, FailsafeAnswered, Operated as HearsOperator}
use Rattle.agent_model.specs.declared.knowledge.PendingQuestion.{PendingQuestion}
use Rattle.agent_model.specs.declared.why.Why.{Why}
use Rattle.agent_model.specs.declared.why.Why.TheVariants.{HandOver, Lost}
use Rattle.agent_model.specs.Acting.{arming, is_refusing}
use Rattle.agent_model.specs.Agents.{Outcome}
use Rattle.agent_model.specs.Claiming.{begins_or_claims}
use Rattle.agent_model.specs.Decisions.{arms, cannot_arm, gives_back, may_take, takes_key, takes_over, unleased_renewed, unleased_unarmed}
use Rattle.agent_model.specs.Operators.{given_up, learned, looked, operated}
use Rattle.agent_model.specs.Peers.{answered, keeping}
use Rattle.agent_model.specs.Racing.{judged, turn_keys}
use Rattle.agent_model.specs.Reconciling.{has_ended, reconciled}
use Rattle.agent_model.specs.Snapshots.{accepted, awaits_read, informed, read_answered}
use Rattle.agent_model.specs.StayingPrimary.{failsafe_answered, failsafe_asked}
use Rattle.agent_model.specs.Table.{granted_any, refused_any, step}
use Rattle.agent_model.specs.Wake.{overdue, turned, woken}
use Rattle.agent_model.proofs.Judging.{if-false}
use Rattle.agent_roles.proofs.Staying.{before-waits}
use Rattle.agent_cases.proofs.Rows.{if-cases, before-by, HandoverRows, given-up-by, looked-by, judged-by, overdue-by, turn-by, wake-by, refused-by, refused-any-by, answered-by, operated-by}
use Rattle.agent_cases.proofs.FailsafeRows.{failsafe-answered-by, failsafe-asked-by}
use Rattle.agent_cases.proofs.Grants.{kept_on, led_on, leading_in_pause, DutyRows, GrantRows, duties-of, judges-start-by, renewed-by, begins-or-claims-by, takes-in-pause-by, granted-by, granted-any-by}
use Rattle.agent_succession.specs.TurnReads.{KeepsTurnKeys}

-- the keys stay
abbrev Keeps : Outcome → Outcome → Type 0
Keeps o after = turn_keys after.knows ≡ turn_keys o.knows

ended-keeps : (why : Why) (held : ℕ) (o : Outcome) → Keeps o (has_ended why held o)
ended-keeps HandOver held o = refl
ended-keeps Lost held o = refl

before-keeps : (now : Ticks) (o : Outcome) → Keeps o (reconciled now o)
before-keeps now o = before-by (Keeps o) now o (record {
  kept = λ _. refl;
  leader = λ held _ _. refl;
  ending = λ held why _ _. ended-keeps why held o;
  follower = λ _ _. refl;
  holder = λ held _ _. refl;
  ready = λ held _ _. refl;
  unleased = λ _ _. refl;
})

judged-keeps : (now : Ticks) (o : Outcome) → Keeps o (judged now o)
judged-keeps now o = judged-by (Keeps o) now o refl (λ by. refl)

handover-rows : (now : Ticks) (revision : ℕ) (o : Outcome) → HandoverRows (Keeps o) now revision o
handover-rows now revision o = record { kept = refl; clears = λ compared. refl; hands = λ candidate. refl }

-- ---- a wake
overdue-keeps : (now : Ticks) (o : Outcome) → Keeps o (overdue now o)
overdue-keeps now o = overdue-by (Keeps o) now o (record {
  kept = refl;
  quiet = refl;
  leader = λ revision _. refl;
  seeks = λ revision _. refl;
  alone = λ revision _. refl;
  silent = λ revision _. refl;
  unleased = λ _. refl;
  judges = λ _. judged-keeps now o;
  ready = λ revision _. refl;
  checks = λ revision _. handover-rows now revision o;
})

turn-keeps : (now : Ticks) (o : Outcome) → Keeps o (turned now o)
turn-keeps now o = turn-by (Keeps o) now o (record { kept = refl; quiet = refl; reads = λ _. refl })

given-keeps : (now : Ticks) (o : Outcome) → Keeps o (given_up now o)
given-keeps now o = given-up-by (Keeps o) now o (record { kept = refl; answers = λ request told. refl })

wake-keeps : (now : Ticks) (o : Outcome) → Keeps o (woken now o)
wake-keeps now o =
    let b : Outcome = reconciled now o in let x : Outcome = given_up now b in let due : Outcome = overdue now x in
    wake-by (Keeps o) now o (before-keeps now o)
    (turn-keeps now due ∙ overdue-keeps now x ∙ given-keeps now b ∙ before-keeps now o)

-- ---- a grant
duty-rows : (now : Ticks) (revision : ℕ) (o : Outcome) → DutyRows (Keeps o) now revision o
duty-rows now revision o = record {
  plan = record {
    kept = refl;
    writes = λ settling txn writes. refl;
    adds = λ required. refl;
    drops = λ required. refl;
  };
  clears = λ compared. refl;
  asks = λ candidate. refl;
  judges = record { kept = refl; clears = λ compared. refl; hands = λ candidate. refl };
}

takes-keeps : (now ttl : Ticks) (revision : ℕ) (o : Outcome) → Keeps o (takes_key now ttl revision o)
takes-keeps now ttl revision o = let arm : Outcome = arming now ttl o in
    if-cases (Keeps o) (may_take now o.knows o.machine) (arms now ttl revision o) (gives_back revision o)
    (λ _. if-cases (Keeps o) (is_refusing o.machine.watchdog.mode o.machine.watchdog.works) (cannot_arm revision o)
    (begins_or_claims now revision arm) (λ _. refl) (λ _. begins-or-claims-by (Keeps o) now revision arm refl refl))
    (λ _. refl)

unleased-keeps : (now ttl : Ticks) (revision : ℕ) (o : Outcome) → Keeps o (unleased_renewed now ttl revision o)
unleased-keeps now ttl revision o =
    if-cases (Keeps o) (is_refusing o.machine.watchdog.mode o.machine.watchdog.works) (unleased_unarmed now o)
    (takes_over now revision (arming now ttl o)) (λ _. refl) (λ _. refl)

grant-rows : (now ttl : Ticks) (revision : ℕ) (o : Outcome) → GrantRows (Keeps o) now ttl revision o
grant-rows now ttl revision o = record {
  other = refl;
  leader = λ held _. renewed-by (Keeps o) now ttl revision o refl (duty-rows now revision (led_on now ttl revision o));
  unleased = λ _. unleased-keeps now ttl revision o;
  takes = λ _. takes-keeps now ttl revision o;
  keeps_late = λ held _.
      judges-start-by (Keeps o) now revision (kept_on revision o) refl (duty-rows now revision (kept_on revision o));
  ends_late = λ _. refl;
  refuses_late = λ _. refl;
  returns_late = λ _. refl;
  leads_in_pause = λ renews _ held _. let rests : Outcome = leading_in_pause renews revision o in
      duties-of (Keeps o) now revision rests (duty-rows now revision rests);
  unleased_in_pause = λ renews _ _. refl;
  takes_in_pause = λ renews _ _. takes-in-pause-by (Keeps o) now renews revision o refl refl refl;
}

grant-keeps : (now : Ticks) (sequence : ℕ) (grant : Granted) (snapshot : SnapshotFacts) (o : Outcome)
    → Keeps o (granted_any now sequence grant snapshot o)
grant-keeps now sequence grant snapshot o = let told : Outcome = record o { knows = informed snapshot o.knows } in
    granted-any-by (Keeps o) now sequence grant snapshot o refl (record { kept = refl; answers = λ request told. refl })
    (granted-by (Keeps o) now sequence grant snapshot o refl refl
    (λ asked is decision. grant-rows now asked.ttl grant.revision told) (λ after kept. kept) (record {
      other = refl;
      begins = λ revision _. refl;
      postpones = λ revision _. refl;
      settles = λ required _. refl;
    }))

-- ---- what else is heard
refusal-keeps : (now : Ticks) (sequence : ℕ) (o : Outcome) → Keeps o (refused_any now sequence o)
refusal-keeps now sequence o =
    refused-any-by (Keeps o) now sequence o (record { kept = refl; answers = λ request told. refl })
    (refused-by (Keeps o) now sequence o (record {
      kept = refl;
      quiet = refl;
      leader = λ held _. refl;
      unleased = λ _. refl;
      follower = λ held _. refl;
      ready = λ held _. refl;
      runs_on = λ _. refl;
    }))

answer-keeps : (now : Ticks) (sequence : ℕ) (answer : PeerAnswer) (o : Outcome)
    → Keeps o (answered now sequence answer o)
answer-keeps now sequence answer o = answered-by (Keeps o) now sequence answer o (record {
  kept = refl;
  quiet = refl;
  keeps = refl;
  judges = λ _. judged-keeps now (keeping answer o);
  checks = λ revision _. handover-rows now revision (keeping answer o);
})

failsafe-keeps : (now : Ticks) (from : MemberId) (sequence : ℕ) (accepted : Bool) (sent : Ticks) (o : Outcome)
    → Keeps o (failsafe_answered now from sequence accepted sent o)
failsafe-keeps now from sequence accepted sent o =
    failsafe-answered-by (Keeps o) now from sequence accepted sent o (record {
      kept = refl;
      quiet = refl;
      counts = λ revision _. refl;
      stays = λ revision _ waited _ _ since _ _. refl;
      counts_late = λ revision _ _. refl;
      fails = λ revision _ _. refl;
    })

looked-keeps : (sequence : ℕ) (snapshot : SnapshotFacts) (o : Outcome) → Keeps o (looked sequence snapshot o)
looked-keeps sequence snapshot o =
    looked-by (Keeps o) sequence snapshot o (record { kept = refl; answers = λ request told. refl })

looked-waits : (sequence : ℕ) (snapshot : SnapshotFacts) (o : Outcome)
    → (looked sequence snapshot o).knows.waited ≡ o.knows.waited
looked-waits sequence snapshot o = looked-by (λ (x : Outcome). x.knows.waited ≡ o.knows.waited) sequence snapshot o
    (record { kept = refl; answers = λ request told. refl })

-- an answer that isn't waited for
dropped-keeps : (now : Ticks) (points : List HistoryPoint) (sequence : ℕ) (snapshot : SnapshotFacts) (o : Outcome)
    → awaits_read o.knows.waited sequence ≡ false → Keeps o (step now points (ReadAnswered sequence snapshot) o)
dropped-keeps now points sequence snapshot o unawaited =
    let b : Outcome = reconciled now o in let x : Outcome = looked sequence snapshot b in
    let waits : x.knows.waited ≡ o.knows.waited = looked-waits sequence snapshot b ∙ before-waits now o in
    subst (λ (after : Outcome). Keeps o after)
    (sym (if-false (awaits_read x.knows.waited sequence) (accepted now points snapshot x) x
    (ap (λ (w : Option PendingQuestion). awaits_read w sequence) waits ∙ unawaited)))
    (looked-keeps sequence snapshot b ∙ before-keeps now o)

pub step-keeps : (now : Ticks) (points : List HistoryPoint) (heard : Heard) (o : Outcome)
    → KeepsTurnKeys heard o (step now points heard o)
step-keeps now points Wake o = wake-keeps now o
step-keeps now points (ReadAnswered sequence snapshot) o =
    λ unawaited. dropped-keeps now points sequence snapshot o unawaited
step-keeps now points (HeardGranted sequence grant snapshot) o =
    grant-keeps now sequence grant snapshot (reconciled now o) ∙ before-keeps now o
step-keeps now points (Mismatch sequence key found) o =
    refusal-keeps now sequence (reconciled now o) ∙ before-keeps now o
step-keeps now points (Asked from incarnation sequence) o = before-keeps now o
step-keeps now points (Answered sequence answer) o =
    answer-keeps now sequence answer (reconciled now o) ∙ before-keeps now o
step-keeps now points (FailsafeAsked from incarnation sequence ttl) o = let b : Outcome = reconciled now o in
    failsafe-asked-by (Keeps b) now from incarnation sequence ttl b (λ _. refl) refl ∙ before-keeps now o
step-keeps now points (FailsafeAnswered from sequence accepted sent) o =
    failsafe-keeps now from sequence accepted sent (reconciled now o) ∙ before-keeps now o
step-keeps now points (HearsOperator action) o = let b : Outcome = reconciled now o in
    operated-by (Keeps b) now action.request action.asked b (record {
      asks = λ operation txn asked. refl;
      restarts = λ told. refl;
      wipes = λ told. refl;
      holds = λ ttl told _. refl;
      refuses = λ told. refl;
    })
    ∙ before-keeps now o
