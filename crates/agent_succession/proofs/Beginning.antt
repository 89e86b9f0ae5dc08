-- Who hears the grant of the leader key that it waits for begins, where it may; and an input asks where it is to.
use Rattle.std.proofs.Common.{◌||◌, ◌≡◌, ℕ, ◌&&◌, ◌==◌, not, Bool, true, false, cond, List, Option, Some, None, refl, ◌∙◌, ap, sym, subst}
use Rattle.std.proofs.lemmas.List.Elements.{Contains-push}
use Rattle.pat_base.specs.declared.ticks.Ticks.{Ticks}
use Rattle.lease_store.specs.declared.granted.Granted.{Granted}
use Rattle.wal_model.specs.declared.entry.HistoryPoint.{HistoryPoint}
use Rattle.cluster_view.specs.Snapshots.{SnapshotFacts}
use Rattle.agent_model.specs.declared.heard.Heard.{Heard}
use Rattle.agent_model.specs.declared.heard.Heard.TheVariants.{Wake, ReadAnswered, Granted as HeardGranted, Mismatch, Asked, Answered, FailsafeAsked, FailsafeAnswered, Operated as HearsOperator}
use Rattle.agent_model.specs.declared.knowledge.Question.{Question}
use Rattle.agent_model.specs.declared.knowledge.Question.TheVariants.{Reading, ComparingPositions, Creating, Renewing, Claiming, Syncing, FindingCandidate, StayingPrimary}
use Rattle.agent_model.specs.declared.knowledge.PendingQuestion.{PendingQuestion}
use Rattle.agent_model.specs.declared.knowledge.Knowledge.{Knowledge}
use Rattle.agent_model.specs.declared.output.Output.TheVariants as outputs
use Rattle.agent_model.specs.declared.output.ServerOrder.TheVariants as orders
use Rattle.agent_model.specs.Acting.{arming, comes_late, is_refusing, waiting_no_more}
use Rattle.agent_model.specs.Agents.{RoleFacts, Follower, Holder, Ready, Leader, Ending, Unleased, Outcome, is_ready}
use Rattle.agent_model.specs.Reconciling.{reconciled}
use Rattle.agent_model.specs.Claiming.{begins, begins_or_claims, can_begin_on_claim, claims, passing, postpones}
use Rattle.agent_model.specs.Decisions.{confirming, accepted_grant, accepted_sync, arms, asks_lease, asks_sync, belongs, cannot_arm, gives_back, granted, granted_late, lease_heard, granted_for, granted_write, is_decision, is_lease_of, is_sync_decision, is_write_of, lease_granted, may_create, may_take, sync_granted, takes_key, asks_in_pause, asks_renewal, granted_in_pause, lease_used}
use Rattle.agent_succession.specs.FreeKey.{AsksWhereFree, AsksWhereWon, BeginsOn, ClaimsOn, IsAwaitedClaim, BeginsWhereGranted}
use Rattle.agent_roles.specs.Powers.{IsAwaitedLease}
use Rattle.agent_model.specs.Snapshots.{informed}
use Rattle.agent_model.specs.Operators.{looked, is_asked_for, awaits_number, grants_operator, operator_granted}
use Rattle.agent_model.specs.Table.{prepared, step, granted_any}
use Rattle.lease_model.proofs.Tools.{none-some, some-is}
use Rattle.agent_model.proofs.Judging.{if-false}
use Rattle.agent_succession.proofs.FreeKey.{free-alone, free-asks, last-won, late-won}
use Rattle.agent_model.specs.Pausing.{is_paused, is_wanted_by}

no-way : false ≡ true → ⊥
no-way e = cc

both-true : (a b : Bool) → a ≡ true → b ≡ true → a && b ≡ true
both-true true b first second = second
both-true false b first second = absurd (no-way first)

first-true : (a b : Bool) → a && b ≡ true → a ≡ true
first-true true b e = refl
first-true false b e = absurd (no-way e)

-- who may create the key may use either lease of it
may-use : (question : Question) (role : RoleFacts) → asks_lease question ≡ true → may_create role ≡ true
    → belongs question role ≡ true
may-use Reading role asks may = absurd (no-way asks)
may-use ComparingPositions role asks may = may
may-use Creating role asks may = may
may-use Claiming role asks may = absurd (no-way asks)
may-use (Syncing settling) role asks may = absurd (no-way asks)
may-use FindingCandidate role asks may = absurd (no-way asks)
may-use StayingPrimary role asks may = absurd (no-way asks)
may-use Renewing Follower asks may = refl
may-use Renewing (Holder held) asks may = refl
may-use Renewing (Ready held) asks may = refl
may-use Renewing (Leader held) asks may = refl
may-use Renewing (Ending held why) asks may = absurd (no-way may)
may-use Renewing Unleased asks may = refl

either-true : (a b : Bool) → a ≡ true → a || b ≡ true
either-true true b e = refl
either-true false b e = absurd (no-way e)

takes-it : (now ttl : Ticks) (revision : ℕ) (role : RoleFacts) (o : Outcome) → may_create role ≡ true
    → lease_granted now ttl revision role o ≡ takes_key now ttl revision o
takes-it now ttl revision Follower o may = refl
takes-it now ttl revision (Holder held) o may = refl
takes-it now ttl revision (Ready held) o may = absurd (no-way may)
takes-it now ttl revision (Leader held) o may = absurd (no-way may)
takes-it now ttl revision (Ending held why) o may = absurd (no-way may)
takes-it now ttl revision Unleased o may = absurd (no-way may)

abbrev Told : SnapshotFacts → Outcome → Outcome
Told snapshot o = record o { knows = informed snapshot o.knows }

takes-then : (now : Ticks) (sequence : ℕ) (grant : Granted) (snapshot : SnapshotFacts) (o : Outcome)
    → is_paused (informed snapshot o.knows) ≡ false → (awaited : IsAwaitedLease sequence grant o.knows)
    → comes_late now awaited.waited o.machine ≡ false → may_create o.role ≡ true
    → may_take now (informed snapshot o.knows) o.machine ≡ true
    → is_refusing o.machine.watchdog.mode o.machine.watchdog.works ≡ false
    → granted now sequence grant snapshot o
    ≡ confirming snapshot (begins_or_claims now grant.revision (arming now awaited.waited.ttl (Told snapshot o)))
takes-then now sequence grant snapshot o unpaused awaited in_time may take armed =
    let waited = awaited.waited in
    let told : Outcome = Told snapshot o in
    ap (λ (w : Option PendingQuestion). granted_for now sequence grant snapshot w o) awaited.is
    ∙ ap (λ (b : Bool).
    cond b (accepted_grant now waited grant.revision snapshot o) (granted_write now sequence grant snapshot waited o))
    (both-true (is_decision waited sequence) (is_lease_of o.knows.who.me grant) awaited.decision awaited.mine)
    ∙ ap (λ (b : Bool). cond b (confirming snapshot (lease_used now waited grant.revision told)) (waiting_no_more o))
    (either-true (belongs waited.question o.role) (is_paused told.knows && asks_in_pause waited.question o.role)
    (may-use waited.question o.role (first-true (asks_lease waited.question) _ awaited.decision) may))
    ∙ ap (confirming snapshot)
    (ap (λ (b : Bool). cond b (granted_in_pause now (asks_renewal waited.question) grant.revision o.role told)
    (lease_heard now waited grant.revision told))
    unpaused
    ∙ ap (λ (b : Bool).
    cond b (granted_late now grant.revision o.role told) (lease_granted now waited.ttl grant.revision o.role told))
    in_time
    ∙ takes-it now waited.ttl grant.revision o.role told may
    ∙ ap (λ (b : Bool). cond b (arms now waited.ttl grant.revision told) (gives_back grant.revision told)) take
    ∙ ap (λ (b : Bool).
    cond b (cannot_arm grant.revision told) (begins_or_claims now grant.revision (arming now waited.ttl told)))
    armed)

lease-begins : (now : Ticks) (sequence : ℕ) (grant : Granted) (snapshot : SnapshotFacts) (o : Outcome)
    → (awaited : IsAwaitedLease sequence grant o.knows)
    → granted now sequence grant snapshot o
    ≡ confirming snapshot (begins_or_claims now grant.revision (arming now awaited.waited.ttl (Told snapshot o)))
    → (o.knows.turn_settings.synchronous_mode ≡ false →
    BeginsOn now grant.revision o (granted now sequence grant snapshot o))
    × (o.knows.turn_settings.synchronous_mode ≡ true →
    ClaimsOn grant.revision o (granted now sequence grant snapshot o))
lease-begins now sequence grant snapshot o awaited is =
    let arm : Outcome = arming now awaited.waited.ttl (Told snapshot o) in
    let by : (mode : Bool) → o.knows.turn_settings.synchronous_mode ≡ mode → granted now sequence grant snapshot o
    ≡ confirming snapshot (cond mode (claims now grant.revision (passing arm)) (begins now grant.revision arm)) =
    λ mode e. is
    ∙ ap (λ (b : Bool).
    confirming snapshot (cond b (claims now grant.revision (passing arm)) (begins now grant.revision arm)))
    e in (
      (λ off. subst (BeginsOn now grant.revision o) (sym (by false off))
          (record { role = refl; server = refl; begins = Contains-push _ (outputs.Server orders.Begin) })),
      (λ on. subst (ClaimsOn grant.revision o) (sym (by true on)) (record {
        role = refl;
        server = refl;
        waited = _;
        waits = refl;
        asks = refl;
        claims = Contains-push (passing arm).outputs _;
      })),
    )

first-false : (a b : Bool) → a ≡ false → a && b ≡ false
first-false true b e = absurd (no-way (sym e))
first-false false b e = refl

claim-then : (now : Ticks) (sequence : ℕ) (grant : Granted) (snapshot : SnapshotFacts) (o : Outcome) (revision : ℕ)
    → is_paused (informed snapshot o.knows) ≡ false → IsAwaitedClaim sequence grant o.knows
    → o.role ≡ Ready revision → can_begin_on_claim o.machine.server.was_primary o.machine.server.state ≡ true
    → granted now sequence grant snapshot o ≡ begins now revision (Told snapshot o)
claim-then now sequence grant snapshot o revision unpaused awaited role can =
    let waited = awaited.waited in
    let told : Outcome = Told snapshot o in
    let unleased : is_decision waited sequence ≡ false =
    first-false (asks_lease waited.question) _ (ap asks_lease awaited.asks) in
    ap (λ (w : Option PendingQuestion). granted_for now sequence grant snapshot w o) awaited.is
    ∙ ap (λ (b : Bool).
    cond b (accepted_grant now waited grant.revision snapshot o) (granted_write now sequence grant snapshot waited o))
    (first-false (is_decision waited sequence) (is_lease_of o.knows.who.me grant) unleased)
    ∙ ap (λ (b : Bool). cond b (accepted_sync now waited snapshot o) o)
    (both-true (is_sync_decision waited sequence) (is_write_of o.knows.who.me grant)
    (both-true (asks_sync waited.question) _ (ap asks_sync awaited.asks) awaited.number) awaited.mine)
    ∙ ap (λ (b : Bool). cond b (sync_granted now waited.question o.role told) (waiting_no_more o))
    (ap (λ (q : Question). belongs q o.role) awaited.asks ∙ ap is_ready role)
    ∙ ap (λ (q : Question). sync_granted now q o.role told) awaited.asks
    ∙ ap (λ (r : RoleFacts). sync_granted now Claiming r told) role
    ∙ ap (λ (b : Bool). cond b (begins now revision told) (postpones revision told))
    (ap (λ (b : Bool). cond b (is_wanted_by o.knows.who.me (Some snapshot) o.machine.server.state)
    (can_begin_on_claim o.machine.server.was_primary o.machine.server.state))
    unpaused ∙ can)

granted-begins : (now : Ticks) (sequence : ℕ) (grant : Granted) (snapshot : SnapshotFacts) (o : Outcome)
    → BeginsWhereGranted now (HeardGranted sequence grant snapshot) o (granted now sequence grant snapshot o)
granted-begins now sequence grant snapshot o = (
  (λ unpaused awaited in_time may take armed. lease-begins now sequence grant snapshot o awaited
      (takes-then now sequence grant snapshot o unpaused awaited in_time may take armed)),
  (λ revision unpaused awaited role can. subst (BeginsOn now revision o)
      (sym (claim-then now sequence grant snapshot o revision unpaused awaited role can))
      (record { role = refl; server = refl; begins = Contains-push _ (outputs.Server orders.Begin) })),
)

-- ---- a grant is the agent's own
awaits-own : (waited : Option PendingQuestion) (asked : PendingQuestion) (sequence : ℕ) → waited ≡ Some asked
    → asked.sequence == sequence ≡ true → awaits_number waited sequence ≡ true
awaits-own None asked sequence is same = absurd (none-some asked is)
awaits-own (Some waited) asked sequence is same =
    subst (λ (w : PendingQuestion). w.sequence == sequence ≡ true) (sym (some-is waited asked is)) same

not-own : (asked own write : Bool) → own ≡ true → (asked && not own) && write ≡ false
not-own true true write e = refl
not-own false own write e = refl
not-own true false write e = absurd (no-way e)

-- the answer that the agent waits for is its own
own-grant : (sequence : ℕ) (grant : Granted) (knows : Knowledge) (asked : PendingQuestion)
    → knows.waited ≡ Some asked → asked.sequence == sequence ≡ true → grants_operator sequence grant knows ≡ false
own-grant sequence grant knows asked is same =
    not-own (is_asked_for knows.operating sequence) (awaits_number knows.waited sequence)
    (is_write_of knows.who.me grant) (awaits-own knows.waited asked sequence is same)

second-true : (a b : Bool) → a && b ≡ true → b ≡ true
second-true true b e = e
second-true false b e = absurd (no-way e)

granted-own : (now : Ticks) (sequence : ℕ) (grant : Granted) (snapshot : SnapshotFacts) (o : Outcome)
    → grants_operator sequence grant o.knows ≡ false
    → granted_any now sequence grant snapshot o ≡ granted now sequence grant snapshot o
granted-own now sequence grant snapshot o own = if-false (grants_operator sequence grant o.knows)
    (operator_granted snapshot o.knows.operating o) (granted now sequence grant snapshot o) own

any-begins : (now : Ticks) (sequence : ℕ) (grant : Granted) (snapshot : SnapshotFacts) (o : Outcome)
    → BeginsWhereGranted now (HeardGranted sequence grant snapshot) o (granted_any now sequence grant snapshot o)
any-begins now sequence grant snapshot o = let begin = granted-begins now sequence grant snapshot o in (
  (λ unpaused awaited in_time may take armed.
      let own = granted-own now sequence grant snapshot o
      (own-grant sequence grant o.knows awaited.waited awaited.is
      (second-true (asks_lease awaited.waited.question) _ awaited.decision)) in (
        (λ off.
            subst (BeginsOn now grant.revision o) (sym own) ((begin.0 unpaused awaited in_time may take armed).0 off)),
        (λ on. subst (ClaimsOn grant.revision o) (sym own) ((begin.0 unpaused awaited in_time may take armed).1 on)),
      )),
  (λ revision unpaused awaited role can.
      let own = granted-own now sequence grant snapshot o
      (own-grant sequence grant o.knows awaited.waited awaited.is awaited.number) in
      subst (BeginsOn now revision o) (sym own) (begin.1 revision unpaused awaited role can)),
)

-- ---- of every input
pub step-asks : (now : Ticks) (points : List HistoryPoint) (heard : Heard) (o : Outcome)
    → AsksWhereFree now heard (prepared now heard o) (step now points heard o)
step-asks now points (ReadAnswered sequence snapshot) o =
    let p : Outcome = looked sequence snapshot (reconciled now o) in
    λ hears is. (free-asks now points sequence snapshot p hears is, free-alone now points sequence snapshot p hears is)
step-asks now points Wake o = tt
step-asks now points (HeardGranted sequence grant snapshot) o = tt
step-asks now points (Mismatch sequence key found) o = tt
step-asks now points (Asked from incarnation sequence) o = tt
step-asks now points (Answered sequence answer) o = tt
step-asks now points (FailsafeAsked from incarnation sequence ttl) o = tt
step-asks now points (FailsafeAnswered from sequence accepted sent) o = tt
step-asks now points (HearsOperator action) o = tt

pub step-wins : (now : Ticks) (points : List HistoryPoint) (heard : Heard) (o : Outcome)
    → AsksWhereWon now heard (prepared now heard o) (step now points heard o)
step-wins now points (Answered sequence answer) o =
    λ waited hears is. last-won now waited sequence answer (reconciled now o) hears is
step-wins now points Wake o = λ waited runs is. late-won now waited o runs is
step-wins now points (ReadAnswered sequence snapshot) o = tt
step-wins now points (HeardGranted sequence grant snapshot) o = tt
step-wins now points (Mismatch sequence key found) o = tt
step-wins now points (Asked from incarnation sequence) o = tt
step-wins now points (FailsafeAsked from incarnation sequence ttl) o = tt
step-wins now points (FailsafeAnswered from sequence accepted sent) o = tt
step-wins now points (HearsOperator action) o = tt

pub step-begins : (now : Ticks) (points : List HistoryPoint) (heard : Heard) (o : Outcome)
    → BeginsWhereGranted now heard (prepared now heard o) (step now points heard o)
step-begins now points (HeardGranted sequence grant snapshot) o =
    any-begins now sequence grant snapshot (reconciled now o)
step-begins now points Wake o = tt
step-begins now points (ReadAnswered sequence snapshot) o = tt
step-begins now points (Mismatch sequence key found) o = tt
step-begins now points (Asked from incarnation sequence) o = tt
step-begins now points (Answered sequence answer) o = tt
step-begins now points (FailsafeAsked from incarnation sequence ttl) o = tt
step-begins now points (FailsafeAnswered from sequence accepted sent) o = tt
step-begins now points (HearsOperator action) o = tt
