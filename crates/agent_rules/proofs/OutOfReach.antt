-- A leader that can't reach the key store until `retry_timeout` is over ends its server.
use Rattle.std.proofs.Common.{ℕ, ◌≡◌, ◌⊎◌, ◌≤◌, ◌||◌, ◌&&◌, ◌==◌, eq-eqb, nat_le, Bool, true, false, cond, List, Option, Some, None, refl, sym, subst, ap, ◌∙◌, arith, inl, inr}
use Rattle.std.proofs.lemmas.Bool.Decides.{nat_tests}
use Rattle.std.proofs.lemmas.List.Elements.{Contains-push}
use Rattle.lease_model.proofs.Tools.{none-some, some-is}
use Rattle.pat_base.specs.ServerState.{live}
use Rattle.pat_base.specs.declared.member_id.MemberId.{MemberId}
use Rattle.pat_base.specs.declared.peer_answer.PeerAnswer.{PeerAnswer}
use Rattle.pat_base.specs.declared.ticks.Ticks.{Ticks}
use Rattle.store_keys.specs.declared.config.Config.{Config}
use Rattle.lease_store.specs.declared.granted.Granted.{Granted}
use Rattle.wal_model.specs.declared.entry.HistoryPoint.{HistoryPoint}
use Rattle.cluster_view.specs.Snapshots.{SnapshotFacts}
use Rattle.event_book.specs.declared.reason.Reason.{Reason}
use Rattle.event_book.specs.declared.reason.Reason.TheVariants.{FailsafeNotAcknowledged, StoreOutOfReach, WatchdogNotArmed}
use Rattle.agent_model.specs.declared.heard.Heard.{Heard}
use Rattle.agent_model.specs.declared.heard.Heard.TheVariants as heards
use Rattle.agent_model.specs.declared.knowledge.Knowledge.{Knowledge}
use Rattle.agent_model.specs.declared.knowledge.Question.{Question}
use Rattle.agent_model.specs.declared.knowledge.Question.TheVariants.{Reading, ComparingPositions, Creating, Renewing, Claiming, Syncing, FindingCandidate, StayingPrimary}
use Rattle.agent_model.specs.declared.knowledge.PendingQuestion.{PendingQuestion}
use Rattle.agent_model.specs.declared.operating.Told.{Told}
use Rattle.agent_model.specs.declared.output.Output.TheVariants as outputs
use Rattle.agent_model.specs.declared.output.ServerOrder.TheVariants as orders
use Rattle.agent_model.specs.declared.why.Why.{Why}
use Rattle.agent_model.specs.declared.why.Why.TheVariants.{HandOver, Lost}
use Rattle.agent_model.specs.Acting.{arming, ending_server, is_refusing, seconds_after, waiting_no_more}
use Rattle.agent_model.specs.Agents.{RoleFacts, Follower, Leader, Ending, Outcome}
use Rattle.agent_model.specs.Reconciling.{has_ended, reconciled, before_as, leader_finds_ended}
use Rattle.agent_model.specs.Claiming.{begins_or_claims}
use Rattle.agent_model.specs.Decisions.{arms, gives_back, granted, may_take, refused, takes_key, takes_over}
use Rattle.agent_model.specs.Operators.{answering, given_up, learned, looked}
use Rattle.agent_model.specs.Pausing.{is_paused, may_start_behind}
use Rattle.agent_model.specs.Peers.{answered, keeping}
use Rattle.agent_model.specs.Racing.{finds_free, judged, unheard}
use Rattle.agent_model.specs.Repairs.{repair_of}
use Rattle.agent_model.specs.Snapshots.{follow_row, follows, read_answered, informed, led_by_another, read_noted, turn_start}
use Rattle.agent_model.specs.Acting.{touching}
use Rattle.agent_model.specs.StayingPrimary.{accepted_failsafe, failsafe_answered, failsafe_answered_for, is_staying, leader_unacknowledged, may_stay, others_known, seeks_to_stay, unacknowledged, unacknowledged_as}
use Rattle.agent_model.specs.Table.{step}
use Rattle.agent_model.specs.Wake.{has_turn, is_due, is_overdue, finds_ended, leader_out_of_reach, overdue, overdue_for, out_of_reach, out_of_reach_as, roused, turned, unanswered}
use Rattle.agent_cases.proofs.Rows.{HandoverRows, if-cases, before-by, looked-by, given-up-by, refused-any-by, operated-by, overdue-by, turn-by, wake-by, got-by, refused-by, answered-by, follow-by, repaired-by, free-by, judged-by}
use Rattle.agent_cases.proofs.FailsafeRows.{failsafe-answered-by, failsafe-asked-by}
use Rattle.agent_cases.proofs.Grants.{DutyRows, kept_on, led_on, leading_in_pause, granted-any-by, judges-start-by, renewed-by, duties-of, begins-or-claims-by, takes-in-pause-by, granted-by}
use Rattle.agent_roles.proofs.Living.{no-way}
use Rattle.agent_rules.specs.OutOfReach.{asks_to_lead, AsksToStay, EndsServer, IsOutOfReach, HasNoAnswer, IsUnacknowledged, WaitsForTurn, turn_of}

at-most : (a b : ℕ) → a ≤ b → nat_le a b ≡ true
at-most a b less = grind (arith, nat_tests)

or-first : (a b : Bool) → a ≡ true → a || b ≡ true
or-first true b e = refl
or-first false b e = absurd (no-way e)

or-second : (a b : Bool) → b ≡ true → a || b ≡ true
or-second true b e = refl
or-second false b e = e

both-so : (a b : Bool) → a ≡ true → b ≡ true → a && b ≡ true
both-so true b a is = is
both-so false b a is = absurd (no-way a)

-- ---- its time is over
-- a leader that ends its server for this reason
abbrev leaves : Reason → Ticks → ℕ → Outcome → Outcome
leaves reason now revision o = record (ending_server now reason o) { role = Ending revision Lost }

stays-leader : (now : Ticks) (revision : ℕ) (o : Outcome) → o.role ≡ Leader revision
    → live o.machine.server.state ≡ true → reconciled now o ≡ o
stays-leader now revision o role lives = ap (λ (r : RoleFacts). before_as now r o) role
    ∙ ap (λ (b : Bool). cond b o (leader_finds_ended now revision o)) lives

-- what it does about a question of this kind, under what it knows then; operators are answered before
module _ (reason : Reason) (asks : Question → Bool) (Known : Knowledge → Type 0) (now : Ticks) (revision : ℕ)
    (kept : (request : ℕ) (told : Told) (o : Outcome) → Known o.knows → Known (answering request told o).knows)
    (unanswered-ends : (question : Question) (o : Outcome) → asks question ≡ true → Known o.knows →
    is_paused o.knows ≡ false → o.role ≡ Leader revision →
    unanswered now question o ≡ leaves reason now revision (waiting_no_more o)) where
  abbrev Out : Outcome → Type 0
  Out o = HasNoAnswer asks now revision o × Known o.knows

  abbrev Ends : Outcome → Outcome → Type 0
  Ends o after = EndsServer reason now revision o after

  overdue-out : (o : Outcome) → Out o → overdue now o ≡ leaves reason now revision (waiting_no_more o)
  overdue-out o (is, known) =
      ap (λ (w : Option PendingQuestion). overdue_for now w o) is.waits
      ∙ ap (λ (b : Bool). cond b (unanswered now is.waited.question o) o) (at-most is.waited.until.0 now.0 is.over)
      ∙ unanswered-ends is.waited.question o is.asked known is.unpaused is.role

  ended-turn : (o : Outcome) → Ends o (turned now (leaves reason now revision (waiting_no_more o)))
  ended-turn o =
      let left : Outcome = leaves reason now revision (waiting_no_more o) in
      turn-by (Ends o) now left (record {
        kept =
            record { ends = Contains-push o.outputs (outputs.Server (orders.Stop reason)); server = refl; role = refl };
        quiet =
            record { ends = Contains-push o.outputs (outputs.Server (orders.Stop reason)); server = refl; role = refl };
        reads = λ active. absurd (no-way active);
      })

  turn-out : (o : Outcome) → Out o → Ends o (turned now (overdue now o))
  turn-out o is = subst (λ (x : Outcome). Ends o (turned now x)) (sym (overdue-out o is)) (ended-turn o)

  -- an operator is answered before
  answered-out : (o : Outcome) → Out o → Ends o (turned now (overdue now (given_up now o)))
  answered-out o (is, known) = given-up-by (λ (x : Outcome). Ends o (turned now (overdue now x))) now o (record {
    kept = turn-out o (is, known);
    answers = λ request told.
        let x : Outcome = answering request told o in
        let ends = turn-out x (
          record {
            role = is.role;
            lives = is.lives;
            waited = is.waited;
            waits = is.waits;
            asked = is.asked;
            over = is.over;
            unpaused = is.unpaused;
          },
          kept request told o known,
        ) in
        record { ends = ends.ends; server = ends.server; role = ends.role };
  })

  due : (o : Outcome) → Out o → is_due now o.role o.knows o.machine ≡ true
  due o (is, known) =
      let over : is_overdue now o.knows.waited ≡ true =
      ap (λ (w : Option PendingQuestion). is_overdue now w) is.waits ∙ at-most is.waited.until.0 now.0 is.over in
      or-second (finds_ended o.role o.machine.server.state) (is_overdue now o.knows.waited || has_turn now o.knows)
      (or-first (is_overdue now o.knows.waited) (has_turn now o.knows) over)

  wake-ends : (points : List HistoryPoint) (o : Outcome) → Out o → Ends o (step now points heards.Wake o)
  wake-ends points o (is, known) =
      subst (Ends o) (sym (ap (λ (b : Bool). cond b (roused now o) (reconciled now o)) (due o (is, known))))
      (subst (λ (x : Outcome). Ends o (turned now (overdue now (given_up now x))))
      (sym (stays-leader now revision o is.role is.lives)) (answered-out o (is, known)))

-- without the key store
out-ends : (now : Ticks) (revision : ℕ) (o : Outcome) → may_stay o.knows ≡ false → is_paused o.knows ≡ false
    → o.role ≡ Leader revision → out_of_reach now o ≡ leader_out_of_reach now revision (waiting_no_more o)
out-ends now revision o alone unpaused role =
    ap (λ (b : Bool). cond b (waiting_no_more o) (out_of_reach_as now o.role (waiting_no_more o))) unpaused
    ∙ ap (λ (r : RoleFacts). out_of_reach_as now r (waiting_no_more o)) role
    ∙ ap (λ (b : Bool). cond b (seeks_to_stay now (others_known o.knows) (waiting_no_more o))
    (leader_out_of_reach now revision (waiting_no_more o)))
    alone

lead-asked : (now : Ticks) (revision : ℕ) (question : Question) (o : Outcome) → asks_to_lead question ≡ true
    → may_stay o.knows ≡ false → is_paused o.knows ≡ false → o.role ≡ Leader revision
    → unanswered now question o ≡ leader_out_of_reach now revision (waiting_no_more o)
lead-asked now revision Reading o asks alone unpaused role = out-ends now revision o alone unpaused role
lead-asked now revision Renewing o asks alone unpaused role = out-ends now revision o alone unpaused role
lead-asked now revision ComparingPositions o asks alone unpaused role = absurd (no-way asks)
lead-asked now revision Creating o asks alone unpaused role = absurd (no-way asks)
lead-asked now revision Claiming o asks alone unpaused role = absurd (no-way asks)
lead-asked now revision (Syncing settling) o asks alone unpaused role = absurd (no-way asks)
lead-asked now revision FindingCandidate o asks alone unpaused role = absurd (no-way asks)
lead-asked now revision StayingPrimary o asks alone unpaused role = absurd (no-way asks)

pub leader-ends : (now : Ticks) (revision : ℕ) (points : List HistoryPoint) (o : Outcome)
    → IsOutOfReach now revision o → EndsServer StoreOutOfReach now revision o (step now points heards.Wake o)
leader-ends now revision points o is =
    wake-ends StoreOutOfReach asks_to_lead (λ (knows : Knowledge). may_stay knows ≡ false) now revision
    (λ request told x alone. alone) (lead-asked now revision) points o is

-- without the word of all others
unacknowledged-ends : (now : Ticks) (revision : ℕ) (o : Outcome) → is_paused o.knows ≡ false
    → o.role ≡ Leader revision → unacknowledged now o ≡ leader_unacknowledged now revision (waiting_no_more o)
unacknowledged-ends now revision o unpaused role =
    ap (λ (b : Bool). cond b (waiting_no_more o) (unacknowledged_as now o.role (waiting_no_more o))) unpaused
    ∙ ap (λ (r : RoleFacts). unacknowledged_as now r (waiting_no_more o)) role

stay-asked : (now : Ticks) (revision : ℕ) (question : Question) (o : Outcome) → is_staying question ≡ true
    → Unit {0} → is_paused o.knows ≡ false → o.role ≡ Leader revision
    → unanswered now question o ≡ leader_unacknowledged now revision (waiting_no_more o)
stay-asked now revision StayingPrimary o asks known unpaused role = unacknowledged-ends now revision o unpaused role
stay-asked now revision Reading o asks known unpaused role = absurd (no-way asks)
stay-asked now revision Renewing o asks known unpaused role = absurd (no-way asks)
stay-asked now revision ComparingPositions o asks known unpaused role = absurd (no-way asks)
stay-asked now revision Creating o asks known unpaused role = absurd (no-way asks)
stay-asked now revision Claiming o asks known unpaused role = absurd (no-way asks)
stay-asked now revision (Syncing settling) o asks known unpaused role = absurd (no-way asks)
stay-asked now revision FindingCandidate o asks known unpaused role = absurd (no-way asks)

pub unacknowledged-leader-ends : (now : Ticks) (revision : ℕ) (points : List HistoryPoint) (o : Outcome)
    → IsUnacknowledged now revision o
    → EndsServer FailsafeNotAcknowledged now revision o (step now points heards.Wake o)
unacknowledged-leader-ends now revision points o is =
    wake-ends FailsafeNotAcknowledged is_staying (λ (knows : Knowledge). Unit {0}) now revision
    (λ request told x known. tt) (stay-asked now revision) points o (is, tt)

-- one refusal is enough
pub refused-leader-ends : (now : Ticks) (revision sequence : ℕ) (points : List HistoryPoint) (from : MemberId)
    (sent : Ticks) (o : Outcome) → AsksToStay sequence revision o
    → EndsServer FailsafeNotAcknowledged now revision o
    (step now points (heards.FailsafeAnswered from sequence false sent) o)
refused-leader-ends now revision sequence points from sent o is =
    let same : step now points (heards.FailsafeAnswered from sequence false sent) o
    ≡ leader_unacknowledged now revision (waiting_no_more o) =
    ap (λ (x : Outcome). failsafe_answered now from sequence false sent x)
    (stays-leader now revision o is.role is.lives)
    ∙ ap (λ (w : Option PendingQuestion). failsafe_answered_for now from sequence false sent w o) is.waits
    ∙ ap (λ (b : Bool). cond b (accepted_failsafe now is.waited from false sent o.role o) o)
    (both-so (is_staying is.waited.question) (is.waited.sequence == sequence) is.asked
    (eq-eqb is.waited.sequence sequence is.number))
    ∙ ap (λ (r : RoleFacts). accepted_failsafe now is.waited from false sent r o) is.role
    ∙ unacknowledged-ends now revision o is.unpaused is.role in
    subst (EndsServer FailsafeNotAcknowledged now revision o) (sym same)
    (record {
      ends = Contains-push o.outputs (outputs.Server (orders.Stop FailsafeNotAcknowledged));
      server = refl;
      role = refl;
    })

-- ---- how long it waits
-- over what precedes the input, `b`
module _ (now : Ticks) (b : Outcome) where
  abbrev Waits : Option PendingQuestion → Config → Type 0
  Waits waited settings = (asked : PendingQuestion) → waited ≡ Some asked → asks_to_lead asked.question ≡ true
      → (b.knows.waited ≡ Some asked)
      ⊎ (asked.until ≡ seconds_after (turn_of now b.knows.last_turn asked.question) settings.retry_timeout)

  abbrev W : Outcome → Type 0
  W x = Waits x.knows.waited x.knows.settings

  nothing : (settings : Config) → Waits None settings
  nothing settings asked is asks = absurd (none-some asked is)

  -- another question
  aside : (settings : Config) (new : PendingQuestion) → asks_to_lead new.question ≡ false → Waits (Some new) settings
  aside settings new other asked is asks =
      absurd (no-way (sym other ∙ ap (λ (w : PendingQuestion). asks_to_lead w.question) (some-is new asked is) ∙ asks))

  anew : (settings : Config) (new : PendingQuestion)
      → new.until ≡ seconds_after (turn_of now b.knows.last_turn new.question) settings.retry_timeout
      → Waits (Some new) settings
  anew settings new until asked is asks =
      inr (subst (λ (w : PendingQuestion).
      w.until ≡ seconds_after (turn_of now b.knows.last_turn w.question) settings.retry_timeout)
      (some-is new asked is) until)

  judged-waits : (x : Outcome) → W (judged now x)
  judged-waits x = judged-by W now x (aside x.knows.settings _ refl) (λ bar. nothing x.knows.settings)

  handover-waits : (revision : ℕ) (x : Outcome) → HandoverRows W now revision x
  handover-waits revision x = record {
    kept = nothing x.knows.settings;
    clears = λ compared. nothing x.knows.settings;
    hands = λ candidate. nothing x.knows.settings;
  }

  overdue-waits : (x : Outcome) → W x → W (overdue now x)
  overdue-waits x w = overdue-by W now x (record {
    kept = w;
    quiet = nothing x.knows.settings;
    leader = λ held _. nothing x.knows.settings;
    seeks = λ held _. aside x.knows.settings _ refl;
    alone = λ held _. nothing x.knows.settings;
    silent = λ held _. nothing x.knows.settings;
    unleased = λ _. nothing x.knows.settings;
    judges = λ _. judged-waits x;
    ready = λ held _. nothing x.knows.settings;
    checks = λ held _. handover-waits held x;
  })

  turn-waits : (x : Outcome) → W x → W (turned now x)
  turn-waits x w = turn-by W now x (record { kept = w; quiet = w; reads = λ _. anew x.knows.settings _ refl })

  free-waits : (x : Outcome) → x.knows.waited ≡ None → W (finds_free now x)
  free-waits x none =
      let y : Outcome = record x { role = Follower } in
      let w : W y =
      subst (λ (q : Option PendingQuestion). Waits q x.knows.settings) (sym none) (nothing x.knows.settings) in
      free-by W now y (record {
        starts = w;
        touches = w;
        bars = λ bar. w;
        judges = judged-waits (unheard y);
        asks = aside x.knows.settings _ refl;
      })

  follow-waits : (x : Outcome) (leader : _) → W x → W (follows now leader x)
  follow-waits x leader w =
      let y : Outcome = led_by_another x in
      let row : Outcome = touching (follow_row (may_start_behind x.knows) now leader x.machine.server.state y) in
      let told : W row = follow-by (λ (z : Outcome). W (touching z))
      (may_start_behind x.knows) now leader x.machine.server.state y w w w w in
      repaired-by W leader (repair_of x.knows.settings leader x.machine.server) row told (λ repair. told)

  got-waits : (points : List HistoryPoint) (sequence : ℕ) (snapshot : SnapshotFacts) (x : Outcome)
      → x.knows.last_turn ≡ b.knows.last_turn → W x → W (read_answered now points sequence snapshot x)
  got-waits points sequence snapshot x same w =
      let read : Outcome = record x { knows = read_noted now snapshot x.knows } in
      let none : W read = nothing read.knows.settings in
      got-by W now points sequence snapshot x (record {
        kept = w;
        quiet = nothing x.knows.settings;
        other = none;
        leader = λ held _. none;
        unleased = λ _. none;
        renews = λ _ leader _ _. anew read.knows.settings _
            (ap (λ (turn : Option Ticks). seconds_after (turn_start now turn) read.knows.settings.retry_timeout) same);
        touches = none;
        follows = λ leader _ _. follow-waits read leader.holder none;
        free = λ _ _. free-waits read refl;
        runs_on = λ _. none;
        asks_on = λ _. aside read.knows.settings _ refl;
      })

  refused-waits : (sequence : ℕ) (x : Outcome) → W x → W (refused now sequence x)
  refused-waits sequence x w = let none : Waits None x.knows.settings = nothing x.knows.settings in
      refused-by W now sequence x (record {
        kept = w;
        quiet = none;
        leader = λ held _. none;
        unleased = λ _. none;
        follower = λ held _. none;
        ready = λ held _. none;
        runs_on = λ _. none;
      })

  answered-waits : (sequence : ℕ) (answer : PeerAnswer) (x : Outcome) → W x → W (answered now sequence answer x)
  answered-waits sequence answer x w =
      answered-by W now sequence answer x (record {
        kept = w;
        quiet = nothing x.knows.settings;
        keeps = w;
        judges = λ _. judged-waits (keeping answer x);
        checks = λ held _. handover-waits held (keeping answer x);
      })

  stay-waits : (from : MemberId) (sequence : ℕ) (accepted : Bool) (sent : Ticks) (x : Outcome) → W x
      → W (failsafe_answered now from sequence accepted sent x)
  stay-waits from sequence accepted sent x w = let none : Waits None x.knows.settings = nothing x.knows.settings in
      failsafe-answered-by W now from sequence accepted sent x (record {
        kept = w;
        quiet = none;
        counts = λ held _. w;
        stays = λ held _ waited _ _ since _ _. none;
        counts_late = λ held _ _. none;
        fails = λ held _ _. none;
      })

  -- what a leader owes its cluster, where it waits for nothing
  duty-waits : (revision : ℕ) (x : Outcome) → W x → DutyRows W now revision x
  duty-waits revision x w = record {
    plan = record {
      kept = w;
      writes = λ settling txn _. aside x.knows.settings _ refl;
      adds = λ required. w;
      drops = λ required. w;
    };
    clears = λ compared. w;
    asks = λ candidate. aside x.knows.settings _ refl;
    judges = handover-waits revision (unheard x);
  }

  takes-waits : (ttl : Ticks) (revision : ℕ) (x : Outcome) → W x → W (takes_key now ttl revision x)
  takes-waits ttl revision x w =
      if-cases W (may_take now x.knows x.machine) (arms now ttl revision x) (gives_back revision x)
      (λ _. if-cases W (is_refusing x.machine.watchdog.mode x.machine.watchdog.works) _
      (begins_or_claims now revision (arming now ttl x)) (λ _. w)
      (λ _. begins-or-claims-by W now revision (arming now ttl x) w (aside x.knows.settings _ refl))) (λ _. w)

  granted-waits : (sequence : ℕ) (grant : Granted) (snapshot : SnapshotFacts) (x : Outcome) → W x
      → W (granted now sequence grant snapshot x)
  granted-waits sequence grant snapshot x w =
      let told : Outcome = record x { knows = informed snapshot x.knows } in
      let none : W told = nothing told.knows.settings in
      granted-by W now sequence grant snapshot x w (nothing x.knows.settings)
      (λ asked _ _. record {
        other = none;
        leader = λ held _. renewed-by W now asked.ttl grant.revision told none
            (duty-waits grant.revision (led_on now asked.ttl grant.revision told) none);
        unleased = λ _. if-cases W (is_refusing told.machine.watchdog.mode told.machine.watchdog.works)
            (ending_server now WatchdogNotArmed told)
            (takes_over now grant.revision (arming now asked.ttl told)) (λ _. none) (λ _. none);
        takes = λ _. takes-waits asked.ttl grant.revision told none;
        keeps_late = λ held _. judges-start-by W now grant.revision (kept_on grant.revision told) none
            (duty-waits grant.revision (kept_on grant.revision told) none);
        ends_late = λ _. none;
        refuses_late = λ _. none;
        returns_late = λ _. none;
        leads_in_pause = λ renews _ held _. duties-of W now grant.revision (leading_in_pause renews grant.revision told)
            (duty-waits grant.revision (leading_in_pause renews grant.revision told) none);
        unleased_in_pause = λ renews _ _. none;
        takes_in_pause = λ renews _ _.
            takes-in-pause-by W now renews grant.revision told none none (aside told.knows.settings _ refl);
      })
      (λ after so. so)
      (record {
        other = none;
        begins = λ revision _. none;
        postpones = λ revision _. none;
        settles = λ required _. none;
      })

  -- what waits behind what precedes the input's own rows
  abbrev Kept : Outcome → Type 0
  Kept x = (x.knows.last_turn ≡ b.knows.last_turn) × (x.knows.waited ≡ b.knows.waited)

  kept-waits : (x : Outcome) → Kept x → W x
  kept-waits x kept asked is asks = inl (sym kept.1 ∙ is)

ended-keeps : (why : Why) (held : ℕ) (o : Outcome)
    → ((has_ended why held o).knows.last_turn ≡ o.knows.last_turn)
    × ((has_ended why held o).knows.waited ≡ o.knows.waited)
ended-keeps HandOver held o = (refl, refl)
ended-keeps Lost held o = (refl, refl)

before-keeps : (now : Ticks) (o : Outcome) → Kept now o (reconciled now o)
before-keeps now o = before-by (Kept now o) now o (record {
  kept = λ _. (refl, refl);
  leader = λ held _ _. (refl, refl);
  ending = λ held why _ _. ended-keeps why held o;
  follower = λ _ _. (refl, refl);
  holder = λ held _ _. (refl, refl);
  ready = λ held _ _. (refl, refl);
  unleased = λ _ _. (refl, refl);
})

pub step-waits : (now : Ticks) (points : List HistoryPoint) (heard : Heard) (o : Outcome)
    → WaitsForTurn now o (step now points heard o)
step-waits now points heards.Wake o =
    let first = before-keeps now o in
    wake-by (W now o) now o (kept-waits now o (reconciled now o) first)
    (turn-waits now o (overdue now (given_up now (reconciled now o)))
    (overdue-waits now o (given_up now (reconciled now o))
    (given-up-by (W now o) now (reconciled now o) (record {
      kept = kept-waits now o (reconciled now o) first;
      answers = λ request told. kept-waits now o (reconciled now o) first;
    }))))
step-waits now points (heards.ReadAnswered sequence snapshot) o =
    let first = before-keeps now o in
    let looks : Kept now o (looked sequence snapshot (reconciled now o)) = looked-by (Kept now o) sequence snapshot
    (reconciled now o) (record { kept = first; answers = λ request told. first }) in
    got-waits now o points sequence snapshot (looked sequence snapshot (reconciled now o)) looks.0
    (kept-waits now o (looked sequence snapshot (reconciled now o)) looks)
step-waits now points (heards.Granted sequence grant snapshot) o =
    let first = before-keeps now o in
    let learns : W now o (learned snapshot (reconciled now o)) = λ asked is asks. inl (sym first.1 ∙ is) in
    granted-any-by (W now o) now sequence grant snapshot (reconciled now o)
    (kept-waits now o (reconciled now o) first) (record { kept = learns; answers = λ request told. learns })
    (granted-waits now o sequence grant snapshot (reconciled now o) (kept-waits now o (reconciled now o) first))
step-waits now points (heards.Mismatch sequence key found) o =
    let first = kept-waits now o (reconciled now o) (before-keeps now o) in
    refused-any-by (W now o) now sequence (reconciled now o)
    (record { kept = first; answers = λ request told. first }) (refused-waits now o sequence (reconciled now o) first)
step-waits now points (heards.Asked from incarnation sequence) o =
    kept-waits now o (reconciled now o) (before-keeps now o)
step-waits now points (heards.Answered sequence answer) o =
    answered-waits now o sequence answer (reconciled now o) (kept-waits now o (reconciled now o) (before-keeps now o))
step-waits now points (heards.FailsafeAsked from incarnation sequence ttl) o =
    let first = kept-waits now o (reconciled now o) (before-keeps now o) in
    failsafe-asked-by (W now o) now from incarnation sequence ttl (reconciled now o) (λ _. first) first
step-waits now points (heards.FailsafeAnswered from sequence accepted sent) o = stay-waits now o from sequence
    accepted sent (reconciled now o) (kept-waits now o (reconciled now o) (before-keeps now o))
step-waits now points (heards.Operated action) o =
    let first = kept-waits now o (reconciled now o) (before-keeps now o) in
    operated-by (W now o) now action.request action.asked (reconciled now o) (record {
      asks = λ operation txn _. first;
      restarts = λ told. first;
      wipes = λ told. first;
      holds = λ ttl told _. first;
      refuses = λ told. first;
    })
