-- The steps of a granted request while the synchronous mode is on:
-- what holds of each that applies holds of what is made of it.
use Rattle.std.proofs.Common.{◌≡◌, ℕ, ◌==◌, ◌&&◌, Bool, true, false, if◌then◌else◌, not, Option, Some, None, refl, subst, sym, ap, ◌∙◌}
use Rattle.std.proofs.lemmas.Bool.{not-false}
use Rattle.pat_base.specs.declared.member_set.MemberSet.{MemberSet}
use Rattle.pat_base.specs.declared.server_state.Required.TheVariants as requireds
use Rattle.pat_base.specs.declared.ticks.Ticks.{Ticks}
use Rattle.lease_store.specs.declared.granted.Granted.{Granted}
use Rattle.store_keys.specs.declared.value.SyncKey.{SyncKey}
use Rattle.lease_store.specs.Writes.{nobody}
use Rattle.cluster_view.specs.KeyValues.{config_in, sync_in}
use Rattle.cluster_view.specs.Snapshots.{SnapshotFacts}
use Rattle.cluster_view.specs.declared.view.LeaderView.{LeaderView}
use Rattle.event_book.specs.declared.reason.Reason.TheVariants.{StartTooLong, WatchdogNotArmed}
use Rattle.sync_state.specs.Plans.{change_of, plan_on, plan_off}
use Rattle.sync_state.specs.Sets.{both, either, is_within, are_same}
use Rattle.sync_state.specs.Candidates.{wanted_in}
use Rattle.sync_state.specs.Published.{published_in}
use Rattle.sync_state.specs.Standbys.{standbys_in, required_members, confirmed_in}
use Rattle.sync_state.specs.declared.steps.Plan.{Plan}
use Rattle.sync_state.specs.declared.steps.Plan.TheVariants as plans
use Rattle.agent_model.specs.declared.knowledge.Question.{Question}
use Rattle.agent_model.specs.declared.knowledge.Question.TheVariants.{Reading, ComparingPositions, Creating, Renewing, Claiming, Syncing, FindingCandidate, StayingPrimary}
use Rattle.agent_model.specs.declared.knowledge.Settling.{Settling}
use Rattle.agent_model.specs.declared.knowledge.Settling.TheVariants.{KeepsList, NamesStandbys, ClearsList}
use Rattle.agent_model.specs.declared.knowledge.PendingQuestion.{PendingQuestion}
use Rattle.agent_model.specs.declared.why.Why.TheVariants.{HandOver}
use Rattle.agent_model.specs.Acting.{comes_late, ending_server, arming, requiring, is_refusing, waiting_no_more}
use Rattle.agent_model.specs.Agents.{RoleFacts, Follower, Holder, Ready, Leader, Ending, Unleased, Outcome, is_leader}
use Rattle.agent_model.specs.Claiming.{begins, claims, begins_or_claims, passing, postpones, can_begin_on_claim, may_begin_on_claim}
use Rattle.agent_commit_law.specs.Committing.{IsAwaitedWrite, IsSynchronousSnapshot}
use Rattle.agent_model.specs.Decisions.{confirming, is_decision, is_sync_decision, is_lease_of, is_write_of, belongs, is_start_too_long, takes_over, unleased_renewed, cannot_arm, granted_late, judges_start, lease_heard, may_create, may_take, gives_back, arms, takes_key, lease_granted, accepted_grant, sync_granted, accepted_sync, granted_write, granted_for, granted, asks_renewal, granted_in_pause, lease_used, uses_lease}
use Rattle.agent_model.specs.HandingOver.{duties}
use Rattle.agent_model.specs.Planning.{leader_view, naming, noting, planned_as, planned_on, settled}
use Rattle.agent_roles.specs.Powers.{IsAwaitedLease}
use Rattle.agent_model.specs.Synchronous.{waiting_for}
use Rattle.agent_roles.proofs.Granting.{Told, both-true}
use Rattle.agent_roles.proofs.Living.{no-way}
use Rattle.agent_cases.proofs.Rows.{if-cases}
use Rattle.agent_cases.proofs.Grants.{FailoverRows, kept_on, led_on, duties-by, takes-late-by}
use Rattle.agent_model.specs.Pausing.{is_paused, is_wanted_by}

-- the standbys that a leader wants by a snapshot, and those that have confirmed the noted position
abbrev pub wanted_at : Ticks → SnapshotFacts → Outcome → MemberSet
wanted_at now snapshot o = wanted_in (leader_view now o.knows o.machine) snapshot

abbrev pub confirmed_at : Ticks → Outcome → MemberSet
confirmed_at now o = confirmed_in (leader_view now o.knows o.machine)

-- those that its commits wait for
abbrev pub required_at : Outcome → MemberSet
required_at o = required_members o.machine.replication.required

-- the sync key of the snapshot doesn't name this member as leader
abbrev pub IsForeign : ℕ → Option SyncKey → Type 0
IsForeign me sync = (key : SyncKey) → sync ≡ Some key → key.leader.number == me ≡ true → ⊥

-- a leader's step with its standbys
pub record PlanSteps (P : Outcome → Type 0) (now : Ticks) (revision : ℕ) (snapshot : SnapshotFacts) (o : Outcome) : Type
    0 where
  pub kept : P o
  pub mark : IsForeign o.knows.who.me.number (sync_in snapshot)
      → P (naming now revision (NamesStandbys nobody) nobody o)
  pub withdraws : P (naming now revision (NamesStandbys (both (published_in snapshot) (wanted_at now snapshot o)))
      (both (published_in snapshot) (wanted_at now snapshot o)) o)
  pub adds : P (requiring (requireds.All (either (required_at o) (wanted_at now snapshot o))) (noting o))
  pub publishes : is_within (wanted_at now snapshot o) (required_at o) ≡ true
      → is_within (wanted_at now snapshot o) (confirmed_at now o) ≡ true
      → P (naming now revision KeepsList (wanted_at now snapshot o) o)
  pub drops : is_within (wanted_at now snapshot o) (required_at o) ≡ true
      → P (requiring (waiting_for o.knows.settings (either (published_in snapshot) (wanted_at now snapshot o))) o)

change-by : (P : Outcome → Type 0) (now : Ticks) (revision : ℕ) (snapshot : SnapshotFacts) (o : Outcome)
    → PlanSteps P now revision snapshot o
    → P (planned_as now revision (change_of (standbys_in (leader_view now o.knows o.machine) snapshot)) o)
change-by P now revision snapshot o rows =
    let published : MemberSet = published_in snapshot in let wanted : MemberSet = wanted_at now snapshot o in
    let required : MemberSet = required_at o in let confirmed : MemberSet = confirmed_at now o in
    let Q : Plan → Type 0 = λ plan. P (planned_as now revision plan o) in
    let drop : Plan = if not (is_within required (either published wanted))
    then plans.DropRequired (either published wanted) else plans.Keep in
    let publish : Plan = if not (are_same wanted published) && is_within wanted confirmed
    then plans.Publish wanted else drop in
    let add : Plan = if not (is_within wanted required) then plans.AddRequired (either required wanted) else publish in
    if-cases Q (not (is_within published wanted)) (plans.Withdraw (both published wanted)) add (λ _. rows.withdraws)
    (λ _.
    if-cases Q (not (is_within wanted required)) (plans.AddRequired (either required wanted)) publish (λ _. rows.adds)
    (λ covered. let within : is_within wanted required ≡ true = not-false (is_within wanted required) covered in
    if-cases Q (not (are_same wanted published) && is_within wanted confirmed) (plans.Publish wanted) drop
    (λ e. rows.publishes within (both-true (not (are_same wanted published)) (is_within wanted confirmed) e).1)
    (λ _. if-cases Q (not (is_within required (either published wanted)))
    (plans.DropRequired (either published wanted)) plans.Keep (λ _. rows.drops within) (λ _. rows.kept))))

none-key : (key : SyncKey) → ◌≡◌ {A = Option SyncKey} None (Some key) → ⊥
none-key key e = cc

other-key : (me : ℕ) (sync : SyncKey) → sync.leader.number == me ≡ false → IsForeign me (Some sync)
other-key me sync other key is mine = let same : sync ≡ key = cc in
    absurd (no-way (sym other ∙ (ap (λ (k : SyncKey). k.leader.number == me) same ∙ mine)))

plan-on-by : (P : Outcome → Type 0) (now : Ticks) (revision : ℕ) (snapshot : SnapshotFacts) (o : Outcome)
    (sync : Option SyncKey) → sync_in snapshot ≡ sync → PlanSteps P now revision snapshot o
    → P (planned_as now revision (plan_on (leader_view now o.knows o.machine) snapshot sync) o)
plan-on-by P now revision snapshot o None is rows = rows.mark (λ key e mine. none-key key (sym is ∙ e))
plan-on-by P now revision snapshot o (Some sync) is rows =
    if-cases (λ (plan : Plan). P (planned_as now revision plan o)) (sync.leader.number == o.knows.who.me.number)
    (change_of (standbys_in (leader_view now o.knows o.machine) snapshot)) plans.Mark
    (λ _. change-by P now revision snapshot o rows)
    (λ other. rows.mark (λ key e mine. other-key o.knows.who.me.number sync other key (sym is ∙ e) mine))

pub planned-on-by : (P : Outcome → Type 0) (now : Ticks) (revision : ℕ) (snapshot : SnapshotFacts) (o : Outcome)
    → IsSynchronousSnapshot snapshot → PlanSteps P now revision snapshot o
    → P (planned_on now revision (Some snapshot) o)
planned-on-by P now revision snapshot o on rows = let view : LeaderView = leader_view now o.knows o.machine in
    if-cases (λ (plan : Plan). P (planned_as now revision plan o)) (config_in snapshot).synchronous_mode
    (plan_on view snapshot (sync_in snapshot)) (plan_off (sync_in snapshot))
    (λ _. plan-on-by P now revision snapshot o (sync_in snapshot) refl rows)
    (λ off. absurd (no-way (sym off ∙ on.synchronous)))

-- a leader under a lease that was just granted
pub record LedSteps (P : Outcome → Type 0) (now : Ticks) (revision : ℕ) (snapshot : SnapshotFacts)
    (led : Outcome) : Type 0 where
  pub ends : P (record (ending_server now StartTooLong led) { role = Ending revision HandOver })
  pub plans : PlanSteps P now revision snapshot led
  pub fails_over : FailoverRows P now revision led

-- what each role does with a lease, heard of in time or too late
pub record LeaseSteps (P : Outcome → Type 0) (now ttl : Ticks) (revision : ℕ) (snapshot : SnapshotFacts)
    (o : Outcome) : Type 0 where
  pub other : P (Told snapshot o)
  pub leads : (held : ℕ) → o.role ≡ Leader held
      → LedSteps P now revision snapshot (led_on now ttl revision (Told snapshot o))
  pub keeps : (held : ℕ) → o.role ≡ Leader held → LedSteps P now revision snapshot (kept_on revision (Told snapshot o))
  pub stops : o.role ≡ Unleased → P (ending_server now WatchdogNotArmed (Told snapshot o))
  pub takes_over : o.role ≡ Unleased → P (takes_over now revision (arming now ttl (Told snapshot o)))
  pub returns : P (gives_back revision (Told snapshot o))
  pub refuses : P (cannot_arm revision (Told snapshot o))
  pub claims : may_create o.role ≡ true → P (claims now revision (passing (arming now ttl (Told snapshot o))))

started-steps : (P : Outcome → Type 0) (now : Ticks) (revision : ℕ) (snapshot : SnapshotFacts) (led : Outcome)
    → led.knows.seen ≡ Some snapshot → IsSynchronousSnapshot snapshot → LedSteps P now revision snapshot led
    → P (judges_start now revision led)
started-steps P now revision snapshot led seen on rows =
    if-cases P (is_start_too_long now led.knows led.machine.server.state)
    (record (ending_server now StartTooLong led) { role = Ending revision HandOver }) (duties now revision led)
    (λ _. rows.ends)
    (λ _. duties-by P now revision led
    (subst (λ (read : Option SnapshotFacts). P (planned_on now revision read led)) (sym seen)
    (planned-on-by P now revision snapshot led on rows.plans))
    rows.fails_over)

unleased-steps : (P : Outcome → Type 0) (now ttl : Ticks) (revision : ℕ) (snapshot : SnapshotFacts) (o : Outcome)
    → o.role ≡ Unleased → LeaseSteps P now ttl revision snapshot o
    → P (unleased_renewed now ttl revision (Told snapshot o))
unleased-steps P now ttl revision snapshot o is rows =
    if-cases P (is_refusing o.machine.watchdog.mode o.machine.watchdog.works)
    (ending_server now WatchdogNotArmed (Told snapshot o)) (takes_over now revision (arming now ttl (Told snapshot o)))
    (λ _. rows.stops is) (λ _. rows.takes_over is)

takes-steps : (P : Outcome → Type 0) (now ttl : Ticks) (revision : ℕ) (snapshot : SnapshotFacts) (o : Outcome)
    → may_create o.role ≡ true → o.knows.turn_settings.synchronous_mode ≡ true
    → LeaseSteps P now ttl revision snapshot o → P (takes_key now ttl revision (Told snapshot o))
takes-steps P now ttl revision snapshot o creates mode rows =
    let told : Outcome = Told snapshot o in let arm : Outcome = arming now ttl told in
    if-cases P (may_take now told.knows o.machine) (arms now ttl revision told) (gives_back revision told)
    (λ _. if-cases P (is_refusing o.machine.watchdog.mode o.machine.watchdog.works) (cannot_arm revision told)
    (begins_or_claims now revision arm) (λ _. rows.refuses)
    (λ _. if-cases P o.knows.turn_settings.synchronous_mode (claims now revision (passing arm))
    (begins now revision arm) (λ _. rows.claims creates) (λ off. absurd (no-way (sym off ∙ mode)))))
    (λ _. rows.returns)

lease-steps : (P : Outcome → Type 0) (now ttl : Ticks) (revision : ℕ) (snapshot : SnapshotFacts) (role : RoleFacts)
    (o : Outcome) → o.role ≡ role → IsSynchronousSnapshot snapshot → o.knows.turn_settings.synchronous_mode ≡ true
    → LeaseSteps P now ttl revision snapshot o → P (lease_granted now ttl revision role (Told snapshot o))
lease-steps P now ttl revision snapshot (Leader held) o is on mode rows =
    started-steps P now revision snapshot (led_on now ttl revision (Told snapshot o)) refl on (rows.leads held is)
lease-steps P now ttl revision snapshot Unleased o is on mode rows =
    unleased-steps P now ttl revision snapshot o is rows
lease-steps P now ttl revision snapshot Follower o is on mode rows =
    takes-steps P now ttl revision snapshot o (rw is refl) mode rows
lease-steps P now ttl revision snapshot (Holder held) o is on mode rows =
    takes-steps P now ttl revision snapshot o (rw is refl) mode rows
lease-steps P now ttl revision snapshot (Ready held) o is on mode rows = rows.other
lease-steps P now ttl revision snapshot (Ending held why) o is on mode rows = rows.other

late-steps : (P : Outcome → Type 0) (now ttl : Ticks) (revision : ℕ) (snapshot : SnapshotFacts)
    (role : RoleFacts) (o : Outcome) → o.role ≡ role → IsSynchronousSnapshot snapshot
    → LeaseSteps P now ttl revision snapshot o → P (granted_late now revision role (Told snapshot o))
late-steps P now ttl revision snapshot (Leader held) o is on rows =
    started-steps P now revision snapshot (kept_on revision (Told snapshot o)) refl on (rows.keeps held is)
late-steps P now ttl revision snapshot Unleased o is on rows = rows.stops is
late-steps P now ttl revision snapshot Follower o is on rows =
    takes-late-by P now revision (Told snapshot o) rows.refuses rows.returns
late-steps P now ttl revision snapshot (Holder held) o is on rows =
    takes-late-by P now revision (Told snapshot o) rows.refuses rows.returns
late-steps P now ttl revision snapshot (Ready held) o is on rows = rows.other
late-steps P now ttl revision snapshot (Ending held why) o is on rows = rows.other

heard-steps : (P : Outcome → Type 0) (now : Ticks) (waited : PendingQuestion) (revision : ℕ) (snapshot : SnapshotFacts)
    (o : Outcome) → IsSynchronousSnapshot snapshot → o.knows.turn_settings.synchronous_mode ≡ true
    → LeaseSteps P now waited.ttl revision snapshot o → P (lease_heard now waited revision (Told snapshot o))
heard-steps P now waited revision snapshot o on mode rows =
    if-cases P (comes_late now waited o.machine) (granted_late now revision o.role (Told snapshot o))
    (lease_granted now waited.ttl revision o.role (Told snapshot o))
    (λ _. late-steps P now waited.ttl revision snapshot o.role o refl on rows)
    (λ _. lease-steps P now waited.ttl revision snapshot o.role o refl on mode rows)

-- what a granted write of the sync key comes to, by its question
pub record WriteSteps (P : Outcome → Type 0) (now : Ticks) (question : Question) (snapshot : SnapshotFacts)
    (o : Outcome) : Type 0 where
  pub other : P (Told snapshot o)
  pub begins : (revision : ℕ) → question ≡ Claiming → o.role ≡ Ready revision
      → can_begin_on_claim o.machine.server.was_primary o.machine.server.state ≡ true
      → P (begins now revision (Told snapshot o))
  pub postpones : (revision : ℕ) → P (postpones revision (Told snapshot o))
  pub lists : (set : MemberSet) → question ≡ Syncing (NamesStandbys set) → is_leader o.role ≡ true
      → P (requiring (waiting_for (Told snapshot o).knows.settings set) (Told snapshot o))
  pub empties : question ≡ Syncing ClearsList → P (requiring requireds.Nobody (Told snapshot o))

settled-steps : (P : Outcome → Type 0) (now : Ticks) (question : Question) (snapshot : SnapshotFacts)
    (o : Outcome) (settling : Settling) → question ≡ Syncing settling → is_leader o.role ≡ true
    → WriteSteps P now question snapshot o → P (settled settling (Told snapshot o))
settled-steps P now question snapshot o KeepsList is leads rows = rows.other
settled-steps P now question snapshot o (NamesStandbys set) is leads rows = rows.lists set is leads
settled-steps P now question snapshot o ClearsList is leads rows = rows.empties is

-- outside a pause who begins on its claim still can
begins-unpaused : (paused wanted can : Bool) → paused ≡ false → (if paused then wanted else can) ≡ true → can ≡ true
begins-unpaused true wanted can unpaused e = absurd (no-way (sym unpaused))
begins-unpaused false wanted can unpaused e = e

write-steps : (P : Outcome → Type 0) (now : Ticks) (question asked : Question) (snapshot : SnapshotFacts)
    (role : RoleFacts) (o : Outcome) → is_paused (Told snapshot o).knows ≡ false → question ≡ asked
    → o.role ≡ role → belongs asked role ≡ true → WriteSteps P now question snapshot o
    → P (sync_granted now asked role (Told snapshot o))
write-steps P now question Claiming snapshot (Ready revision) o unpaused is role fits rows =
    if-cases P (may_begin_on_claim (Told snapshot o).knows o.machine.server)
    (begins now revision (Told snapshot o)) (postpones revision (Told snapshot o))
    (λ may. rows.begins revision is role
    (begins-unpaused (is_paused (Told snapshot o).knows)
    (is_wanted_by o.knows.who.me (Some snapshot) o.machine.server.state)
    (can_begin_on_claim o.machine.server.was_primary o.machine.server.state) unpaused may))
    (λ _. rows.postpones revision)
write-steps P now question Claiming snapshot Follower o unpaused is role fits rows = rows.other
write-steps P now question Claiming snapshot (Holder held) o unpaused is role fits rows = rows.other
write-steps P now question Claiming snapshot (Leader held) o unpaused is role fits rows = rows.other
write-steps P now question Claiming snapshot (Ending held why) o unpaused is role fits rows = rows.other
write-steps P now question Claiming snapshot Unleased o unpaused is role fits rows = rows.other
write-steps P now question (Syncing settling) snapshot role o unpaused is same fits rows =
    settled-steps P now question snapshot o settling is (ap is_leader same ∙ fits) rows
write-steps P now question Reading snapshot role o unpaused is same fits rows = rows.other
write-steps P now question ComparingPositions snapshot role o unpaused is same fits rows = rows.other
write-steps P now question Creating snapshot role o unpaused is same fits rows = rows.other
write-steps P now question Renewing snapshot role o unpaused is same fits rows = rows.other
write-steps P now question FindingCandidate snapshot role o unpaused is same fits rows = rows.other
write-steps P now question StayingPrimary snapshot role o unpaused is same fits rows = rows.other

-- a granted request
pub record GrantSteps (P : Outcome → Type 0) (now : Ticks) (sequence : ℕ) (grant : Granted)
    (snapshot : SnapshotFacts) (o : Outcome) : Type 0 where
  pub kept : P o
  pub quiet : P (waiting_no_more o)
  -- whether the failsafe set is confirmed changes nothing
  pub confirms : (after : Outcome) → P after → P (confirming snapshot after)
  pub unpaused : is_paused (Told snapshot o).knows ≡ false
  pub mode : IsAwaitedLease sequence grant o.knows → o.knows.turn_settings.synchronous_mode ≡ true
  pub leases : (awaited : IsAwaitedLease sequence grant o.knows)
      → LeaseSteps P now awaited.waited.ttl grant.revision snapshot o
  pub writes : (awaited : IsAwaitedWrite sequence grant o.knows) → WriteSteps P now awaited.waited.question snapshot o

granted-for-steps : (P : Outcome → Type 0) (now : Ticks) (sequence : ℕ) (grant : Granted) (snapshot : SnapshotFacts)
    (waited : Option PendingQuestion) (o : Outcome) → o.knows.waited ≡ waited → IsSynchronousSnapshot snapshot
    → GrantSteps P now sequence grant snapshot o → P (granted_for now sequence grant snapshot waited o)
granted-for-steps P now sequence grant snapshot None o is on rows = rows.kept
granted-for-steps P now sequence grant snapshot (Some waited) o is on rows =
    if-cases P (is_decision waited sequence && is_lease_of o.knows.who.me grant)
    (accepted_grant now waited grant.revision snapshot o) (granted_write now sequence grant snapshot waited o)
    (λ decides. let parts : (is_decision waited sequence ≡ true) × (is_lease_of o.knows.who.me grant ≡ true) =
    both-true (is_decision waited sequence) (is_lease_of o.knows.who.me grant) decides in
    let awaited : IsAwaitedLease sequence grant o.knows =
    record { waited = waited; is = is; decision = parts.0; mine = parts.1 } in
    if-cases P (uses_lease (is_paused (Told snapshot o).knows) waited.question o.role)
    (confirming snapshot (lease_used now waited grant.revision (Told snapshot o))) (waiting_no_more o)
    (λ _. rows.confirms (lease_used now waited grant.revision (Told snapshot o))
    (if-cases P (is_paused (Told snapshot o).knows)
    (granted_in_pause now (asks_renewal waited.question) grant.revision o.role (Told snapshot o))
    (lease_heard now waited grant.revision (Told snapshot o))
    (λ paused. absurd (no-way (sym rows.unpaused ∙ paused)))
    (λ _. heard-steps P now waited grant.revision snapshot o on (rows.mode awaited) (rows.leases awaited))))
    (λ _. rows.quiet))
    (λ _. if-cases P (is_sync_decision waited sequence && is_write_of o.knows.who.me grant)
    (accepted_sync now waited snapshot o) o
    (λ decides. let parts : (is_sync_decision waited sequence ≡ true) × (is_write_of o.knows.who.me grant ≡ true) =
    both-true (is_sync_decision waited sequence) (is_write_of o.knows.who.me grant) decides in
    let awaited : IsAwaitedWrite sequence grant o.knows =
    record { waited = waited; is = is; decision = parts.0; mine = parts.1 } in
    if-cases P (belongs waited.question o.role) (sync_granted now waited.question o.role (Told snapshot o))
    (waiting_no_more o)
    (λ fits. write-steps P now waited.question waited.question snapshot o.role o rows.unpaused refl refl fits
    (rows.writes awaited))
    (λ _. rows.quiet))
    (λ _. rows.kept))

pub granted-steps : (P : Outcome → Type 0) (now : Ticks) (sequence : ℕ) (grant : Granted)
    (snapshot : SnapshotFacts) (o : Outcome) → IsSynchronousSnapshot snapshot
    → GrantSteps P now sequence grant snapshot o → P (granted now sequence grant snapshot o)
granted-steps P now sequence grant snapshot o on rows =
    granted-for-steps P now sequence grant snapshot o.knows.waited o refl on rows
