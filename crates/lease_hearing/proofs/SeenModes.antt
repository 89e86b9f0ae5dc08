-- The newest snapshot that an agent has tells failsafe mode as it is
-- declared: an input leaves it, or hears a snapshot that does.
use Rattle.std.proofs.Common.{◌≡◌, ℕ, Bool, List, Some, subst}
use Rattle.pat_base.specs.declared.member_id.MemberId.{MemberId}
use Rattle.pat_base.specs.declared.peer_answer.PeerAnswer.{PeerAnswer}
use Rattle.pat_base.specs.declared.ticks.Ticks.{Ticks}
use Rattle.lease_store.specs.declared.granted.Granted.{Granted}
use Rattle.wal_model.specs.declared.entry.HistoryPoint.{HistoryPoint}
use Rattle.cluster_view.specs.Snapshots.{SnapshotFacts}
use Rattle.event_book.specs.declared.reason.Reason.TheVariants.{WatchdogNotArmed}
use Rattle.agent_model.specs.declared.heard.Heard.{Heard}
use Rattle.agent_model.specs.declared.heard.Heard.TheVariants.{Wake, ReadAnswered, Granted as HeardGranted, Mismatch, Asked, Answered, FailsafeAsked, FailsafeAnswered, Operated as HearsOperator}
use Rattle.agent_model.specs.declared.why.Why.{Why}
use Rattle.agent_model.specs.declared.why.Why.TheVariants.{HandOver, Lost}
use Rattle.agent_model.specs.Acting.{arming, ending_server, is_refusing}
use Rattle.agent_model.specs.Agents.{Follower, Outcome}
use Rattle.agent_model.specs.Claiming.{begins_or_claims}
use Rattle.agent_model.specs.Decisions.{arms, cannot_arm, gives_back, granted, may_take, takes_key, takes_over}
use Rattle.agent_model.specs.Operators.{given_up, learned, looked}
use Rattle.agent_model.specs.Pausing.{may_start_behind}
use Rattle.agent_model.specs.Peers.{answered, keeping}
use Rattle.agent_model.specs.Racing.{finds_free, judged, unheard}
use Rattle.agent_model.specs.Reconciling.{has_ended, reconciled}
use Rattle.agent_model.specs.Repairs.{repair_of}
use Rattle.agent_model.specs.Snapshots.{follow_row, follows, led_by_another, read_answered, read_noted}
use Rattle.agent_model.specs.Acting.{touching}
use Rattle.agent_model.specs.StayingPrimary.{failsafe_answered}
use Rattle.agent_model.specs.Table.{granted_any, refused_any, step}
use Rattle.agent_model.specs.Wake.{overdue, turned, woken}
use Rattle.agent_cases.proofs.Rows.{ActRows, HandoverRows, ReplyRows, answered-by, before-by, follow-by, free-by, given-up-by, got-by, if-cases, judged-by, looked-by, operated-by, overdue-by, refused-any-by, refused-by, repaired-by, turn-by, wake-by}
use Rattle.agent_cases.proofs.FailsafeRows.{failsafe-answered-by, failsafe-asked-by}
use Rattle.agent_cases.proofs.Grants.{DutyRows, begins-or-claims-by, duties-of, granted-any-by, granted-by, judges-start-by, kept_on, leading_in_pause, led_on, renewed-by, takes-in-pause-by}
use Rattle.agent_roles.proofs.Granting.{Told}
use Rattle.agent_sending.specs.Modes.{HearsMode, TellsMode}
use Rattle.lease_model.proofs.Tools.{some-is}
use Rattle.lease_parts.specs.Bridged.{SeesMode}

module _ (mode : Bool) where
  abbrev Sees : Outcome → Type 0
  Sees o = SeesMode mode o.knows

  -- who was told a snapshot has that one
  new-sees : (snapshot found : SnapshotFacts) → TellsMode mode snapshot → Some snapshot ≡ Some found
      → TellsMode mode found
  new-sees snapshot found tells e = subst (TellsMode mode) (some-is snapshot found e) tells

  replies-see : (o : Outcome) → Sees o → ReplyRows Sees o
  replies-see o sees = record { kept = sees; answers = λ request told. sees }

  handover-sees : (now : Ticks) (held : ℕ) (o : Outcome) → Sees o → HandoverRows Sees now held o
  handover-sees now held o sees = record { kept = sees; clears = λ compared. sees; hands = λ candidate. sees }

  duty-sees : (now : Ticks) (revision : ℕ) (led : Outcome) → Sees led → DutyRows Sees now revision led
  duty-sees now revision led sees = record {
    plan = record { kept = sees; writes = λ settling txn _. sees; adds = λ required. sees; drops = λ required. sees };
    clears = λ compared. sees;
    asks = λ candidate. sees;
    judges = handover-sees now revision (unheard led) sees;
  }

  judged-sees : (now : Ticks) (o : Outcome) → Sees o → Sees (judged now o)
  judged-sees now o sees = judged-by Sees now o sees (λ bar. sees)

  -- ---- what precedes an input, and a wake
  ended-sees : (why : Why) (held : ℕ) (o : Outcome) → Sees o → Sees (has_ended why held o)
  ended-sees HandOver held o sees = sees
  ended-sees Lost held o sees = sees

  before-sees : (now : Ticks) (o : Outcome) → Sees o → Sees (reconciled now o)
  before-sees now o sees = before-by Sees now o (record {
    kept = λ _. sees;
    leader = λ held _ _. sees;
    ending = λ held why _ _. ended-sees why held o sees;
    follower = λ _ _. sees;
    holder = λ held _ _. sees;
    ready = λ held _ _. sees;
    unleased = λ _ _. sees;
  })

  overdue-sees : (now : Ticks) (o : Outcome) → Sees o → Sees (overdue now o)
  overdue-sees now o sees = overdue-by Sees now o (record {
    kept = sees;
    quiet = sees;
    leader = λ held _. sees;
    seeks = λ held _. sees;
    alone = λ held _. sees;
    silent = λ held _. sees;
    unleased = λ _. sees;
    judges = λ may. judged-sees now o sees;
    ready = λ held _. sees;
    checks = λ held _. handover-sees now held o sees;
  })

  turn-sees : (now : Ticks) (o : Outcome) → Sees o → Sees (turned now o)
  turn-sees now o sees = turn-by Sees now o (record { kept = sees; quiet = sees; reads = λ active. sees })

  wake-sees : (now : Ticks) (o : Outcome) → Sees o → Sees (woken now o)
  wake-sees now o sees = let b : Outcome = reconciled now o in let given : Outcome = given_up now b in
      let first : Sees b = before-sees now o sees in
      wake-by Sees now o first
      (turn-sees now (overdue now given) (overdue-sees now given (given-up-by Sees now b (replies-see b first))))

  -- ---- a snapshot
  follow-sees : (now : Ticks) (leader : MemberId) (o : Outcome) → Sees o → Sees (follows now leader o)
  follow-sees now leader o sees = let x : Outcome = led_by_another o in
      let may : Bool = may_start_behind o.knows in
      let row : Sees (touching (follow_row may now leader o.machine.server.state x)) =
      follow-by (λ (y : Outcome). Sees (touching y)) may now leader o.machine.server.state x sees sees sees sees in
      repaired-by Sees leader (repair_of o.knows.settings leader o.machine.server)
      (touching (follow_row may now leader o.machine.server.state x)) row (λ r. row)

  free-sees : (now : Ticks) (o : Outcome) → Sees o → Sees (finds_free now o)
  free-sees now o sees = let x : Outcome = record o { role = Follower } in
      free-by Sees now x (record {
        starts = sees;
        touches = sees;
        bars = λ bar. sees;
        judges = judged-sees now (unheard x) sees;
        asks = sees;
      })

  got-sees : (now : Ticks) (points : List HistoryPoint) (sequence : ℕ) (snapshot : SnapshotFacts) (o : Outcome)
      → TellsMode mode snapshot → Sees o → Sees (read_answered now points sequence snapshot o)
  got-sees now points sequence snapshot o tells sees =
      let read : Outcome = record o { knows = read_noted now snapshot o.knows } in
      let new : Sees read = λ found e. new-sees snapshot found tells e in
      got-by Sees now points sequence snapshot o (record {
        kept = sees;
        quiet = sees;
        other = new;
        leader = λ held _. new;
        unleased = λ _. new;
        renews = λ _ leader _ _. new;
        touches = new;
        follows = λ leader _ _. follow-sees now leader.holder read new;
        free = λ _ _. free-sees now read new;
        runs_on = λ _. new;
        asks_on = λ _. new;
      })

  -- ---- a grant
  takes-sees : (now ttl : Ticks) (revision : ℕ) (o : Outcome) → Sees o → Sees (takes_key now ttl revision o)
  takes-sees now ttl revision o sees =
      let back : Outcome = cannot_arm revision o in let arm : Outcome = arming now ttl o in
      if-cases Sees (may_take now o.knows o.machine) (arms now ttl revision o) (gives_back revision o)
      (λ _. if-cases Sees (is_refusing o.machine.watchdog.mode o.machine.watchdog.works) back
      (begins_or_claims now revision arm) (λ _. sees) (λ _. begins-or-claims-by Sees now revision arm sees sees))
      (λ _. sees)

  granted-sees : (now : Ticks) (sequence : ℕ) (grant : Granted) (snapshot : SnapshotFacts) (o : Outcome)
      → TellsMode mode snapshot → Sees o → Sees (granted now sequence grant snapshot o)
  granted-sees now sequence grant snapshot o tells sees = let told : Outcome = Told snapshot o in
      let new : Sees told = λ found e. new-sees snapshot found tells e in
      granted-by Sees now sequence grant snapshot o sees sees (λ waited _ _. record {
        other = new;
        leader = λ held _. let led : Outcome = led_on now waited.ttl grant.revision told in
            renewed-by Sees now waited.ttl grant.revision told new (duty-sees now grant.revision led new);
        unleased = λ _. if-cases Sees (is_refusing o.machine.watchdog.mode o.machine.watchdog.works)
            (ending_server now WatchdogNotArmed told)
            (takes_over now grant.revision (arming now waited.ttl told)) (λ _. new) (λ _. new);
        takes = λ _. takes-sees now waited.ttl grant.revision told new;
        keeps_late = λ held _. let kept : Outcome = kept_on grant.revision told in
            judges-start-by Sees now grant.revision kept new (duty-sees now grant.revision kept new);
        ends_late = λ _. new;
        refuses_late = λ _. new;
        returns_late = λ _. new;
        leads_in_pause = λ renews _ held _. let led : Outcome = leading_in_pause renews grant.revision told in
            duties-of Sees now grant.revision led (duty-sees now grant.revision led new);
        unleased_in_pause = λ renews _ _. new;
        takes_in_pause = λ renews _ _. takes-in-pause-by Sees now renews grant.revision told new new new;
      }) (λ after first. first) (record {
        other = new;
        begins = λ revision _. new;
        postpones = λ revision _. new;
        settles = λ required _. new;
      })

  any-granted-sees : (now : Ticks) (sequence : ℕ) (grant : Granted) (snapshot : SnapshotFacts) (o : Outcome)
      → TellsMode mode snapshot → Sees o → Sees (granted_any now sequence grant snapshot o)
  any-granted-sees now sequence grant snapshot o tells sees =
      granted-any-by Sees now sequence grant snapshot o sees
      (replies-see (learned snapshot o) (λ found e. new-sees snapshot found tells e))
      (granted-sees now sequence grant snapshot o tells sees)

  -- ---- what else is heard
  any-refused-sees : (now : Ticks) (sequence : ℕ) (o : Outcome) → Sees o → Sees (refused_any now sequence o)
  any-refused-sees now sequence o sees = refused-any-by Sees now sequence o (replies-see o sees)
      (refused-by Sees now sequence o (record {
        kept = sees;
        quiet = sees;
        leader = λ held _. sees;
        unleased = λ _. sees;
        follower = λ held _. sees;
        ready = λ held _. sees;
        runs_on = λ _. sees;
      }))

  answered-sees : (now : Ticks) (sequence : ℕ) (answer : PeerAnswer) (o : Outcome) → Sees o
      → Sees (answered now sequence answer o)
  answered-sees now sequence answer o sees = answered-by Sees now sequence answer o (record {
    kept = sees;
    quiet = sees;
    keeps = sees;
    judges = λ may. judged-sees now (keeping answer o) sees;
    checks = λ held _. handover-sees now held (keeping answer o) sees;
  })

  failsafe-answered-sees : (now : Ticks) (from : MemberId) (sequence : ℕ) (accepted : Bool) (sent : Ticks) (o : Outcome)
      → Sees o → Sees (failsafe_answered now from sequence accepted sent o)
  failsafe-answered-sees now from sequence accepted sent o sees =
      failsafe-answered-by Sees now from sequence accepted sent o (record {
        kept = sees;
        quiet = sees;
        counts = λ held _. sees;
        stays = λ held _ waited _ _ since _ _. sees;
        counts_late = λ held _ _. sees;
        fails = λ held _ _. sees;
      })

  acts-see : (now : Ticks) (request : ℕ) (o : Outcome) → Sees o → ActRows Sees now request o
  acts-see now request o sees = record {
    asks = λ operation txn _. sees;
    restarts = λ told. sees;
    wipes = λ told. sees;
    holds = λ ttl told _. sees;
    refuses = λ told. sees;
  }

  -- ---- the whole of an input
  pub step-sees : (now : Ticks) (points : List HistoryPoint) (heard : Heard) (o : Outcome)
      → HearsMode mode heard → Sees o → Sees (step now points heard o)
  step-sees now points Wake o hears sees = wake-sees now o sees
  step-sees now points (ReadAnswered sequence snapshot) o hears sees = let b : Outcome = reconciled now o in
      got-sees now points sequence snapshot (looked sequence snapshot b) hears
      (looked-by Sees sequence snapshot b (replies-see b (before-sees now o sees)))
  step-sees now points (HeardGranted sequence grant snapshot) o hears sees =
      any-granted-sees now sequence grant snapshot (reconciled now o) hears (before-sees now o sees)
  step-sees now points (Mismatch sequence key found) o hears sees =
      any-refused-sees now sequence (reconciled now o) (before-sees now o sees)
  step-sees now points (Asked from incarnation sequence) o hears sees = before-sees now o sees
  step-sees now points (Answered sequence answer) o hears sees =
      answered-sees now sequence answer (reconciled now o) (before-sees now o sees)
  step-sees now points (FailsafeAsked from incarnation sequence ttl) o hears sees =
      let first : Sees (reconciled now o) = before-sees now o sees in
      failsafe-asked-by Sees now from incarnation sequence ttl (reconciled now o) (λ _. first) first
  step-sees now points (FailsafeAnswered from sequence accepted sent) o hears sees =
      failsafe-answered-sees now from sequence accepted sent (reconciled now o) (before-sees now o sees)
  step-sees now points (HearsOperator action) o hears sees = operated-by Sees now action.request action.asked
      (reconciled now o) (acts-see now action.request (reconciled now o) (before-sees now o sees))
