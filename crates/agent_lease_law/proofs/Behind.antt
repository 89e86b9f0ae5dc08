-- Behind which of its outputs an input lets a server come to accept writes.
use Rattle.std.proofs.Common.{◌≡◌, ℕ, ◌+◌, ◌≤◌, ◌++◌, ◌&&◌, Bool, true, false, if◌then◌else◌, List, [], ◌∷◌, Option, Some, None, All, refl, sym, subst, ◌∙◌, arith, inl, inr, append_assoc}
use Rattle.std.proofs.lemmas.List.{append-nil}
use Rattle.std.proofs.lemmas.List.Elements.{All-weaker, All-head, All-tail}
use Rattle.pat_base.specs.declared.ticks.Ticks.{Ticks}
use Rattle.pat_base.specs.ServerState.{live}
use Rattle.lease_store.specs.declared.granted.Granted.{Granted}
use Rattle.store_keys.specs.declared.txn.Txn.TheVariants as txns
use Rattle.store_keys.specs.declared.txn.LeaseTxn.TheVariants as lease_txns
use Rattle.cluster_view.specs.Snapshots.{SnapshotFacts}
use Rattle.event_book.specs.declared.agent_note.AgentNote.TheVariants as agent_notes
use Rattle.event_book.specs.declared.message.Body.TheVariants as bodies
use Rattle.event_book.specs.declared.reason.Reason.TheVariants.{StartTooLong, WatchdogNotArmed}
use Rattle.leader_key.specs.Watchdog.{is_armable}
use Rattle.agent_model.specs.declared.output.Output.{Output}
use Rattle.agent_model.specs.declared.output.Output.TheVariants as outputs
use Rattle.agent_model.specs.declared.output.Feeding.TheVariants as feedings
use Rattle.agent_model.specs.declared.output.Noting.TheVariants as notings
use Rattle.agent_model.specs.declared.output.Outgoing.TheVariants as outgoing
use Rattle.agent_model.specs.declared.output.ServerOrder.TheVariants as orders
use Rattle.agent_model.specs.declared.output.Target.TheVariants as targets
use Rattle.agent_model.specs.Acting.{armed, comes_late, deadline_after, arming, ending_server, is_hold_active, is_refusing, waiting_no_more}
use Rattle.agent_model.specs.Agents.{Outcome, is_ready}
use Rattle.agent_model.specs.Reconciling.{reconciled}
use Rattle.agent_model.specs.Claiming.{begins, begins_or_claims, passing, postpones}
use Rattle.agent_model.specs.Decisions.{takes_over, can_begin, cannot_arm, may_take, gives_back, arms, takes_key, granted}
use Rattle.agent_model.specs.Outputs.{with_output, is_arming, has_one, BeginsOnly, OutputsBeginBehind}
use Rattle.agent_model.specs.Synchronous.{unnamed, may_lead_in_sync}
use Rattle.agent_model.specs.Snapshots.{informed}
use Rattle.agent_model.specs.HandingOver.{checking, hands_over}
use Rattle.agent_model.specs.Operators.{answering, learned}
use Rattle.agent_model.specs.Table.{granted_any}
use Rattle.agent_model.specs.Racing.{unheard}
use Rattle.agent_roles.proofs.Granting.{take-free, Told, one-last, one-before}
use Rattle.agent_roles.proofs.GoingOn.{IsAlone}
use Rattle.agent_roles.proofs.Leaving.{ready-is}
use Rattle.agent_roles.proofs.Living.{no-way}
use Rattle.agent_cases.proofs.Rows.{HandoverRows, ReplyRows, dropping, if-cases}
use Rattle.agent_cases.proofs.Grants.{DutyRows, granted-any-by, kept_on, led_on, judges-start-by, renewed-by, begins-or-claims-by, granted-when}
use Rattle.agent_model.specs.Pausing.{is_paused}
use Rattle.store_keys.specs.declared.txn.Expected.{Expected}
use Rattle.agent_sending.proofs.MaySend.{Grounds, IsSilent, MayPut, AllMay, silently, silent-armed, silent-fed, IsReleaseOr, Fronts, IsMild, AllMild, handover-mild, checking-mild, before-fronts, postpones-silent, told-fronts}
use Rattle.agent_sending.proofs.Sending.{silent-passing, Decides, learned-fronts, granted-none}
use Rattle.agent_sending.proofs.MaySend.Fronts.{Silent, Released}

begins-one : (P Q : Type 0) → (P → Q) → (output : Output) → BeginsOnly P output → BeginsOnly Q output
begins-one P Q more (outputs.Server orders.Begin) e = more e
begins-one P Q more (outputs.Server (orders.Restart as_primary)) e = λ is. more (e is)
begins-one P Q more _ e = tt

-- where nothing is granted, only a server that was live before comes to accept writes
unbegun : (G : Grounds) (o after : Outcome) → ((revision : ℕ) → G.gives revision → ⊥) → (output : Output)
    → MayPut G o after output → BeginsOnly (live o.machine.server.state ≡ true) output
unbegun G o after none (outputs.Server orders.Begin) may = absurd (none may.0 may.1)
unbegun G o after none (outputs.Server (orders.Restart as_primary)) may = may
unbegun G o after none _ may = tt

all-begin : (P : List Output → Type 0) (Q : Type 0) → ((outs : List Output) → Q → P outs)
    → (before-it outs : List Output) → All (BeginsOnly Q) outs → OutputsBeginBehind P before-it outs
all-begin P Q gives before-it [] all = tt
all-begin P Q gives before-it (output ∷ outs) all = (
  begins-one Q (P before-it) (gives before-it) output (All-head (BeginsOnly Q) output outs all),
  all-begin P Q gives (with_output output before-it) outs (All-tail (BeginsOnly Q) output outs all),
)

never : (P : List Output → Type 0) (before-it outs : List Output) → All (BeginsOnly ⊥) outs
    → OutputsBeginBehind P before-it outs
never P before-it outs all = all-begin P ⊥ (λ _ no. absurd no) before-it outs all

pub nobody-begins : (P : List Output → Type 0) (G : Grounds) (o after : Outcome)
    → ((revision : ℕ) → G.gives revision → ⊥) → ((outs : List Output) → live o.machine.server.state ≡ true → P outs)
    → AllMay G o after → OutputsBeginBehind P [] after.outputs
nobody-begins P G o after none gives all = all-begin P (live o.machine.server.state ≡ true) gives [] after.outputs
    (All-weaker (MayPut G o after) (BeginsOnly (live o.machine.server.state ≡ true))
    (unbegun G o after none) after.outputs all)

-- whatever a create expects
abbrev Whatever : Option Expected → Type 0
Whatever expected = Unit {0}

mild-never : (K : Option Expected → Type 0) (low high : ℕ) (output : Output) → IsMild K low high output
    → BeginsOnly ⊥ output
mild-never K low high (outputs.Server orders.Begin) mild = mild
mild-never K low high (outputs.Server (orders.Restart as_primary)) mild = absurd mild
mild-never K low high _ mild = tt

mild-begins : (P : List Output → Type 0) (K : Option Expected → Type 0) (low : ℕ) (x : Outcome)
    → AllMild K low x → OutputsBeginBehind P [] x.outputs
mild-begins P K low x mild = never P [] x.outputs
    (All-weaker (IsMild K low x.knows.sequence) (BeginsOnly ⊥) (mild-never K low x.knows.sequence) x.outputs mild)

-- one more output, behind which P holds if a server comes to accept writes by it
behind-push : (P : List Output → Type 0) (before-it outs : List Output) (output : Output)
    → OutputsBeginBehind P before-it outs → ((all : List Output) → all ≡ before-it ++ outs → BeginsOnly (P all) output)
    → OutputsBeginBehind P before-it (with_output output outs)
behind-push P before-it [] output begin last = (last before-it (sym (append-nil before-it)), tt)
behind-push P before-it (one ∷ outs) output begin last = (
  begin.0,
  behind-push P (with_output one before-it) outs output begin.1
      (λ all is. last all (is ∙ append_assoc before-it (one ∷ []) outs)),
)

-- who may begin by this grant, behind these outputs: it was about to; or the leader key
-- is granted, which doesn't come too late, no hold is active, and the watchdog was armed
pub data BeginsOn (now : Ticks) (sequence : ℕ) (grant : Granted) (o : Outcome) (before-it : List Output) : Type 0 where
  WasReady : (ready : is_ready o.role ≡ true) → BeginsOn now sequence grant o before-it
  OnLease : (decides : Decides sequence grant o) → (in_time : comes_late now decides.0 o.machine ≡ false)
      → (free : is_hold_active now o.machine.hold ≡ false) → (armed_is : has_one is_arming before-it ≡ true)
      → BeginsOn now sequence grant o before-it

armed-first : (outs : List Output) (until : Ticks) (armable : Bool) → armable ≡ true
    → has_one is_arming (armed (if armable then Some until else None) outs) ≡ true
armed-first outs until true is = one-last is_arming outs (outputs.Watchdog (feedings.Armed until)) refl
armed-first outs until false is = absurd (no-way is)

silent-never : (output : Output) → IsSilent output → BeginsOnly ⊥ output
silent-never (outputs.Server orders.Begin) silent = silent
silent-never (outputs.Server (orders.Restart as_primary)) silent = absurd silent
silent-never _ silent = tt

silent-begins : (P : List Output → Type 0) (outs : List Output) → All IsSilent outs → OutputsBeginBehind P [] outs
silent-begins P outs silent = never P [] outs (All-weaker IsSilent (BeginsOnly ⊥) silent-never outs silent)

gives-back-begins : (P : List Output → Type 0) (revision : ℕ) (b : Outcome) → All IsSilent b.outputs
    → OutputsBeginBehind P [] (gives_back revision b).outputs
gives-back-begins P revision b silent = behind-push P [] b.outputs
    (outputs.Message (outgoing.Send targets.Store (b.knows.sequence + 1)
    (bodies.Request (txns.Lease (lease_txns.Release revision)))))
    (silent-begins P b.outputs silent) (λ all is. tt)

cannot-arm-begins : (P : List Output → Type 0) (revision : ℕ) (b : Outcome) → All IsSilent b.outputs
    → OutputsBeginBehind P [] (cannot_arm revision b).outputs
cannot-arm-begins P revision b silent =
    gives-back-begins P revision
    (record b { outputs = with_output (outputs.Note (notings.Agent agent_notes.CannotArm)) b.outputs })
    (silently b.outputs (outputs.Note (notings.Agent agent_notes.CannotArm)) silent tt)

-- what a leader does behind silent outputs lets no server begin
duties-begin : (P : List Output → Type 0) (now : Ticks) (revision : ℕ) (low : ℕ) (led : Outcome)
    → low ≤ led.knows.sequence → All IsSilent led.outputs
    → DutyRows (λ (x : Outcome). OutputsBeginBehind P [] x.outputs) now revision led
duties-begin P now revision low led later rest = record {
  plan = record {
    kept = silent-begins P led.outputs rest;
    writes = λ settling txn _. behind-push P [] led.outputs _ (silent-begins P led.outputs rest) (λ all is. tt);
    adds = λ required. silent-begins P (with_output (outputs.Require required) led.outputs)
        (silently led.outputs (outputs.Require required) rest tt);
    drops = λ required. silent-begins P (with_output (outputs.Require required) led.outputs)
        (silently led.outputs (outputs.Require required) rest tt);
  };
  clears = λ compared. behind-push P [] led.outputs _ (silent-begins P led.outputs rest) (λ all is. tt);
  asks = λ candidate. mild-begins P Whatever low (checking now candidate (unheard led))
      (checking-mild Whatever low now candidate (unheard led) later rest);
  judges =
      let rows : HandoverRows (AllMild Whatever low) now revision (unheard led) =
      handover-mild Whatever low now revision (unheard led) later rest in
      record {
        kept = mild-begins P Whatever low (waiting_no_more (unheard led)) rows.kept;
        clears = λ compared.
            mild-begins P Whatever low (dropping compared (waiting_no_more (unheard led))) (rows.clears compared);
        hands = λ candidate. mild-begins P Whatever low
            (hands_over now revision candidate (waiting_no_more (unheard led))) (rows.hands candidate);
      };
}

-- a member that begins does so behind silent outputs and the order of whom its commits wait for
begins-begins : (P : List Output → Type 0) (now : Ticks) (revision : ℕ) (b : Outcome) → All IsSilent b.outputs
    → ((all : List Output) →
    all ≡ [] ++ with_output (outputs.Require (unnamed b.knows.turn_settings)) b.outputs → P all)
    → OutputsBeginBehind P [] (begins now revision b).outputs
begins-begins P now revision b silent last = let required : Output = outputs.Require (unnamed b.knows.turn_settings) in
    behind-push P [] (with_output required b.outputs) (outputs.Server orders.Begin)
    (silent-begins P (with_output required b.outputs) (silently b.outputs required silent tt)) last

arms-begins : (now ttl : Ticks) (sequence : ℕ) (grant : Granted) (revision : ℕ) (o b : Outcome)
    → (decides : Decides sequence grant o) → comes_late now decides.0 o.machine ≡ false
    → is_hold_active now o.machine.hold ≡ false
    → is_armable b.machine.watchdog.mode b.machine.watchdog.works ≡ true → All IsSilent b.outputs
    → OutputsBeginBehind (BeginsOn now sequence grant o) [] (arms now ttl revision b).outputs
arms-begins now ttl sequence grant revision o b decides in_time free armable silent =
    let arm : Outcome = arming now ttl b in
    let told : has_one is_arming arm.outputs ≡ true =
    armed-first b.outputs _ (is_armable b.machine.watchdog.mode b.machine.watchdog.works) armable in
    let rest : All IsSilent arm.outputs = silent-armed (deadline_after now ttl b.machine.watchdog) b.outputs silent in
    if-cases (λ (x : Outcome). OutputsBeginBehind (BeginsOn now sequence grant o) [] x.outputs)
    (is_refusing b.machine.watchdog.mode b.machine.watchdog.works) (cannot_arm revision b)
    (begins_or_claims now revision arm)
    (λ _. cannot-arm-begins (BeginsOn now sequence grant o) revision b silent)
    (λ _. begins-or-claims-by (λ (x : Outcome). OutputsBeginBehind (BeginsOn now sequence grant o) [] x.outputs)
    now revision arm
    (begins-begins (BeginsOn now sequence grant o) now revision arm rest
    (λ all is. OnLease decides in_time free
    (subst (λ (l : List Output). has_one is_arming l ≡ true) (sym is)
    (one-before is_arming arm.outputs (outputs.Require (unnamed arm.knows.turn_settings)) told))))
    (behind-push (BeginsOn now sequence grant o) [] (passing arm).outputs _
    (silent-begins (BeginsOn now sequence grant o) (passing arm).outputs (silent-passing arm rest)) (λ all is. tt)))

takes-begins : (now ttl : Ticks) (sequence : ℕ) (grant : Granted) (revision : ℕ) (o b : Outcome)
    → (decides : Decides sequence grant o) → comes_late now decides.0 o.machine ≡ false
    → b.machine.hold ≡ o.machine.hold → is_armable b.machine.watchdog.mode b.machine.watchdog.works ≡ true
    → All IsSilent b.outputs
    → OutputsBeginBehind (BeginsOn now sequence grant o) [] (takes_key now ttl revision b).outputs
takes-begins now ttl sequence grant revision o b decides in_time hold armable silent =
    if-cases (λ (x : Outcome). OutputsBeginBehind (BeginsOn now sequence grant o) [] x.outputs)
    (may_take now b.knows b.machine) (arms now ttl revision b) (gives_back revision b)
    (λ may. arms-begins now ttl sequence grant revision o b decides in_time
    (subst (λ (h : Option Ticks). is_hold_active now h ≡ false) hold
    (take-free (is_hold_active now b.machine.hold)
    (can_begin now b.knows b.machine.server b.machine.server.state && may_lead_in_sync b.knows) may))
    armable silent)
    (λ _. gives-back-begins (BeginsOn now sequence grant o) revision b silent)

granted-begins : (now : Ticks) (sequence : ℕ) (grant : Granted) (snapshot : SnapshotFacts) (b : Outcome)
    → is_paused (informed snapshot b.knows) ≡ false
    → (Decides sequence grant b → is_armable b.machine.watchdog.mode b.machine.watchdog.works ≡ true)
    → All IsSilent b.outputs
    → OutputsBeginBehind (BeginsOn now sequence grant b) [] (granted now sequence grant snapshot b).outputs
granted-begins now sequence grant snapshot b unpaused armable silent =
    let told : Outcome = Told snapshot b in
    let Mine : List Output → Type 0 = BeginsOn now sequence grant b in
    granted-when (λ (x : Outcome). OutputsBeginBehind Mine [] x.outputs) now sequence grant snapshot b
    (silent-begins (BeginsOn now sequence grant b) b.outputs silent)
    (silent-begins (BeginsOn now sequence grant b) b.outputs silent)
    (λ waited is decision. let led : Outcome = led_on now waited.ttl grant.revision told in
    let kept : Outcome = kept_on grant.revision told in
    let over : Outcome = takes_over now grant.revision (arming now waited.ttl told) in
    let unarmed : OutputsBeginBehind Mine [] (ending_server now WatchdogNotArmed told).outputs =
    silent-begins Mine (with_output (outputs.Server (orders.Stop WatchdogNotArmed)) b.outputs)
    (silently b.outputs (outputs.Server (orders.Stop WatchdogNotArmed)) silent tt) in
    let rest : All IsSilent led.outputs =
    silent-fed (deadline_after now waited.ttl b.machine.watchdog) b.outputs silent in
    record {
      other = silent-begins Mine b.outputs silent;
      leader = λ held _ _ _.
          renewed-by (λ (x : Outcome). OutputsBeginBehind Mine [] x.outputs) now waited.ttl grant.revision told
          (silent-begins Mine (with_output (outputs.Server (orders.Stop StartTooLong)) led.outputs)
          (silently led.outputs (outputs.Server (orders.Stop StartTooLong)) rest tt))
          (duties-begin Mine now grant.revision b.knows.sequence led (omega arith) rest);
      unleased = λ _ _ _. if-cases (λ (x : Outcome). OutputsBeginBehind Mine [] x.outputs)
          (is_refusing b.machine.watchdog.mode b.machine.watchdog.works) (ending_server now WatchdogNotArmed told) over
          (λ _. unarmed)
          (λ _. silent-begins Mine over.outputs
          (silent-armed (deadline_after now waited.ttl b.machine.watchdog) b.outputs silent));
      takes = λ _ in_time _. takes-begins now waited.ttl sequence grant grant.revision b told
          (waited, is, decision) in_time refl (armable (waited, is, decision)) silent;
      keeps_late =
          λ held _ _ _. judges-start-by (λ (x : Outcome). OutputsBeginBehind Mine [] x.outputs) now grant.revision kept
          (silent-begins Mine (with_output (outputs.Server (orders.Stop StartTooLong)) b.outputs)
          (silently b.outputs (outputs.Server (orders.Stop StartTooLong)) silent tt))
          (duties-begin Mine now grant.revision b.knows.sequence kept (omega arith) silent);
      ends_late = λ _ _. unarmed;
      refuses_late = λ _ _. cannot-arm-begins Mine grant.revision told silent;
      returns_late = λ _ _. gives-back-begins Mine grant.revision told silent;
      leads_in_pause = λ _ paused _ _. absurd (no-way (sym unpaused ∙ paused));
      unleased_in_pause = λ _ paused _. absurd (no-way (sym unpaused ∙ paused));
      takes_in_pause = λ _ paused _. absurd (no-way (sym unpaused ∙ paused));
    })
    (λ after begin. begin)
    (record {
      other = silent-begins Mine b.outputs silent;
      begins = λ revision is _.
          begins-begins Mine now revision told silent (λ all _. WasReady (ready-is b.role revision is));
      postpones =
          λ revision _. silent-begins Mine (postpones revision told).outputs (postpones-silent revision told silent);
      settles = λ required _. silent-begins Mine (with_output (outputs.Require required) b.outputs)
          (silently b.outputs (outputs.Require required) silent tt);
    })

release-never : (sequence revision : ℕ) (output : Output) → IsReleaseOr sequence revision output → BeginsOnly ⊥ output
release-never sequence revision output (inl silent) = silent-never output silent
release-never sequence revision output (inr is) = subst (λ (y : Output). BeginsOnly ⊥ y) (sym is) tt

begins-fronts : (now : Ticks) (sequence : ℕ) (grant : Granted) (snapshot : SnapshotFacts) (o b : Outcome)
    → is_paused (informed snapshot b.knows) ≡ false
    → (Decides sequence grant b → is_armable b.machine.watchdog.mode b.machine.watchdog.works ≡ true) → Fronts o b
    → OutputsBeginBehind (BeginsOn now sequence grant b) [] (granted now sequence grant snapshot b).outputs
begins-fronts now sequence grant snapshot o b unpaused armable (Silent all) =
    granted-begins now sequence grant snapshot b unpaused armable all
begins-fronts now sequence grant snapshot o b unpaused armable (Released revision held alone role ended counted all) =
    subst (λ (z : Outcome). OutputsBeginBehind (BeginsOn now sequence grant b) [] z.outputs)
    (sym (granted-none now sequence grant snapshot b alone))
    (never (BeginsOn now sequence grant b) [] b.outputs
    (All-weaker (IsReleaseOr (o.knows.sequence + 1) revision) (BeginsOnly ⊥)
    (release-never (o.knows.sequence + 1) revision) b.outputs all))

-- what precedes an input lets no server begin
fronts-begin : (P : List Output → Type 0) (o b : Outcome) → Fronts o b → OutputsBeginBehind P [] b.outputs
fronts-begin P o b (Silent all) = silent-begins P b.outputs all
fronts-begin P o b (Released revision held alone role ended counted all) = never P [] b.outputs
    (All-weaker (IsReleaseOr (o.knows.sequence + 1) revision) (BeginsOnly ⊥)
    (release-never (o.knows.sequence + 1) revision) b.outputs all)

told-begins : (P : List Output → Type 0) (o b : Outcome) → Fronts o b
    → ReplyRows (λ (x : Outcome). OutputsBeginBehind P [] x.outputs) b
told-begins P o b fronts = let rows : ReplyRows (Fronts o) b = told-fronts o b fronts in record {
  kept = fronts-begin P o b fronts;
  answers = λ request told. fronts-begin P o (answering request told b) (rows.answers request told);
}

pub grant-begins : (now : Ticks) (sequence : ℕ) (grant : Granted) (snapshot : SnapshotFacts) (o : Outcome)
    → IsAlone o → is_paused (informed snapshot (reconciled now o).knows) ≡ false
    → (Decides sequence grant (reconciled now o) →
    is_armable (reconciled now o).machine.watchdog.mode (reconciled now o).machine.watchdog.works ≡ true)
    → All IsSilent o.outputs
    → OutputsBeginBehind (BeginsOn now sequence grant (reconciled now o)) []
    (granted_any now sequence grant snapshot (reconciled now o)).outputs
grant-begins now sequence grant snapshot o alone unpaused armable silent = let b : Outcome = reconciled now o in
    let fronts : Fronts o b = before-fronts now o alone silent in
    let Mine : List Output → Type 0 = BeginsOn now sequence grant b in
    granted-any-by (λ (x : Outcome). OutputsBeginBehind Mine [] x.outputs) now sequence grant snapshot b
    (fronts-begin Mine o b fronts) (told-begins Mine o (learned snapshot b) (learned-fronts snapshot o b fronts))
    (begins-fronts now sequence grant snapshot o b unpaused armable fronts)

pub begins-weaker : (P Q : List Output → Type 0) → ((outs : List Output) → P outs → Q outs)
    → (before-it outs : List Output) → OutputsBeginBehind P before-it outs → OutputsBeginBehind Q before-it outs
begins-weaker P Q more before-it [] begin = tt
begins-weaker P Q more before-it (output ∷ outs) begin = (
  begins-one (P before-it) (Q before-it) (more before-it) output begin.0,
  begins-weaker P Q more (with_output output before-it) outs begin.1,
)
