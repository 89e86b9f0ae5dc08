-- The rows of the decision table that a grant comes to, one by one:
-- what holds of each row that applies holds of the whole.
use Rattle.std.proofs.Common.{◌≡◌, ℕ, ◌&&◌, Bool, true, false, is_none, Option, Some, None, List, refl, ap, ◌∙◌, []}
use Rattle.lease_store.specs.declared.granted.Granted.{Granted}
use Rattle.cluster_view.specs.Snapshots.{SnapshotFacts}
use Rattle.pat_base.specs.declared.member_id.MemberId.{MemberId}
use Rattle.pat_base.specs.declared.ticks.Ticks.{Ticks}
use Rattle.agent_model.specs.declared.output.Output.{Output}
use Rattle.agent_model.specs.declared.output.Output.TheVariants as outputs
use Rattle.agent_model.specs.declared.output.Telling.TheVariants as tellings
use Rattle.agent_model.specs.declared.knowledge.Question.{Question}
use Rattle.agent_model.specs.declared.knowledge.Question.TheVariants.{Reading, ComparingPositions, Creating, Renewing, Claiming, Syncing, FindingCandidate, StayingPrimary}
use Rattle.agent_model.specs.declared.knowledge.Settling.{Settling}
use Rattle.agent_model.specs.declared.knowledge.Settling.TheVariants.{KeepsList, NamesStandbys, ClearsList}
use Rattle.agent_model.specs.declared.knowledge.SyncRead.{SyncRead}
use Rattle.agent_model.specs.declared.knowledge.PendingQuestion.{PendingQuestion}
use Rattle.agent_model.specs.Synchronous.{sync_read_if, expected_of, is_named_if, waiting_for}
use Rattle.pat_base.specs.declared.server_state.Required.{Required}
use Rattle.pat_base.specs.declared.server_state.Required.TheVariants.{Nobody, All}
use Rattle.store_keys.specs.declared.txn.Txn.{Txn}
use Rattle.store_keys.specs.declared.txn.Txn.TheVariants as txns
use Rattle.store_keys.specs.declared.txn.SyncTxn.TheVariants as sync_txns
use Rattle.lease_store.specs.Writes.{nobody}
use Rattle.sync_state.specs.declared.steps.Plan.{Plan}
use Rattle.sync_state.specs.declared.steps.Plan.TheVariants as plans
use Rattle.sync_state.specs.Plans.{plan_of}
use Rattle.agent_model.specs.declared.why.Why.TheVariants.{HandOver}
use Rattle.event_book.specs.declared.reason.Reason.TheVariants.{StartTooLong}
use Rattle.agent_model.specs.Acting.{comes_late, feeding, ending_server, requiring, waiting_no_more}
use Rattle.agent_model.specs.Agents.{RoleFacts, Follower, Holder, Ready, Leader, Ending, Unleased, Outcome, is_leader}
use Rattle.agent_model.specs.Pausing.{is_paused, is_wanted, disabling_watchdog}
use Rattle.agent_model.specs.Decisions.{takes_over, may_take, gives_back, takes_key_in_pause, cannot_arm, granted_in_pause, granted_late, judges_start, leader_kept, lease_heard, takes_late, uses_lease, unleased_unarmed, asks_renewal, lease_used, may_create, leader_renewed, is_start_too_long, unleased_renewed, takes_key, lease_granted, belongs, confirming, accepted_grant, is_lease_of, granted_write, granted_for, granted, is_decision, is_sync_decision, is_write_of, sync_granted, accepted_sync}
use Rattle.agent_model.specs.Claiming.{begins, claims, begins_or_claims, passing, told_passing, postpones, may_begin_on_claim}
use Rattle.agent_model.specs.Planning.{leader_view, writing_sync, switching_off, noting, planned_as, planned_on, planned, settled}
use Rattle.agent_model.specs.Outputs.{with_output}
use Rattle.agent_model.specs.HandingOver.{is_done, clearing, handover_judged, whom_answered, checking, checks, checks_unless_paused, failover_duty, duty_on, duties}
use Rattle.agent_model.specs.Operators.{operating, learned, grants_operator, operator_granted}
use Rattle.store_keys.specs.declared.value.FailoverKey.{FailoverKey}
use Rattle.agent_model.specs.Snapshots.{informed}
use Rattle.agent_model.specs.Racing.{unheard}
use Rattle.agent_model.specs.Table.{granted_any}
use Rattle.agent_cases.proofs.Rows.{if-cases, dropping, clearing-by, HandoverRows, handover-by, ReplyRows, operator-granted-by}

-- a leader whose watchdog rests on the grant of this revision
abbrev pub leading_in_pause : Bool → ℕ → Outcome → Outcome
leading_in_pause renews revision o = record (disabling_watchdog renews o) { role = Leader revision }

-- the lease of a request that was granted, by when each row applies
pub record GrantWhen (P : Outcome → Type 0) (now : Ticks) (waited : PendingQuestion) (revision : ℕ) (o : Outcome) : Type
    0 where
  pub other : P o
  pub leader : (held : ℕ) → is_paused o.knows ≡ false → comes_late now waited o.machine ≡ false
      → o.role ≡ Leader held → P (leader_renewed now waited.ttl revision o)
  pub unleased : is_paused o.knows ≡ false → comes_late now waited o.machine ≡ false → o.role ≡ Unleased
      → P (unleased_renewed now waited.ttl revision o)
  pub takes : is_paused o.knows ≡ false → comes_late now waited o.machine ≡ false → may_create o.role ≡ true
      → P (takes_key now waited.ttl revision o)
  -- heard too late
  pub keeps_late : (held : ℕ) → is_paused o.knows ≡ false → comes_late now waited o.machine ≡ true
      → o.role ≡ Leader held → P (leader_kept now revision o)
  pub ends_late : is_paused o.knows ≡ false → o.role ≡ Unleased → P (unleased_unarmed now o)
  pub refuses_late : is_paused o.knows ≡ false → may_create o.role ≡ true → P (cannot_arm revision o)
  pub returns_late : is_paused o.knows ≡ false → may_create o.role ≡ true → P (gives_back revision o)
  -- in a pause
  pub leads_in_pause : (renews : Bool) → is_paused o.knows ≡ true → (held : ℕ) → o.role ≡ Leader held
      → P (duties now revision (leading_in_pause renews revision o))
  pub unleased_in_pause : (renews : Bool) → is_paused o.knows ≡ true → o.role ≡ Unleased
      → P (takes_over now revision (disabling_watchdog renews o))
  pub takes_in_pause : (renews : Bool) → is_paused o.knows ≡ true → may_create o.role ≡ true
      → P (takes_key_in_pause now renews revision o)

granted-in-pause : (P : Outcome → Type 0) (now : Ticks) (waited : PendingQuestion) (renews : Bool)
    (revision : ℕ) (role : RoleFacts) (o : Outcome) → o.role ≡ role → is_paused o.knows ≡ true
    → GrantWhen P now waited revision o → P (granted_in_pause now renews revision role o)
granted-in-pause P now waited renews revision (Leader held) o is paused rows = rows.leads_in_pause renews paused held is
granted-in-pause P now waited renews revision Unleased o is paused rows = rows.unleased_in_pause renews paused is
granted-in-pause P now waited renews revision Follower o is paused rows = rows.takes_in_pause renews paused (rw is refl)
granted-in-pause P now waited renews revision (Holder held) o is paused rows =
    rows.takes_in_pause renews paused (rw is refl)
granted-in-pause P now waited renews revision (Ready held) o is paused rows = rows.other
granted-in-pause P now waited renews revision (Ending held why) o is paused rows = rows.other

lease-granted : (P : Outcome → Type 0) (now : Ticks) (waited : PendingQuestion) (revision : ℕ) (role : RoleFacts)
    (o : Outcome) → o.role ≡ role → is_paused o.knows ≡ false → comes_late now waited o.machine ≡ false
    → GrantWhen P now waited revision o → P (lease_granted now waited.ttl revision role o)
lease-granted P now waited revision (Leader held) o is unpaused in_time rows = rows.leader held unpaused in_time is
lease-granted P now waited revision Unleased o is unpaused in_time rows = rows.unleased unpaused in_time is
lease-granted P now waited revision Follower o is unpaused in_time rows = rows.takes unpaused in_time (rw is refl)
lease-granted P now waited revision (Holder held) o is unpaused in_time rows = rows.takes unpaused in_time (rw is refl)
lease-granted P now waited revision (Ready held) o is unpaused in_time rows = rows.other
lease-granted P now waited revision (Ending held why) o is unpaused in_time rows = rows.other

pub takes-late-by : (P : Outcome → Type 0) (now : Ticks) (revision : ℕ) (o : Outcome)
    → P (cannot_arm revision o) → P (gives_back revision o) → P (takes_late now revision o)
takes-late-by P now revision o refuses returns = if-cases P (may_take now o.knows o.machine)
    (cannot_arm revision o) (gives_back revision o) (λ _. refuses) (λ _. returns)

granted-late : (P : Outcome → Type 0) (now : Ticks) (waited : PendingQuestion) (revision : ℕ) (role : RoleFacts)
    (o : Outcome) → o.role ≡ role → is_paused o.knows ≡ false → comes_late now waited o.machine ≡ true
    → GrantWhen P now waited revision o → P (granted_late now revision role o)
granted-late P now waited revision (Leader held) o is unpaused late rows = rows.keeps_late held unpaused late is
granted-late P now waited revision Unleased o is unpaused late rows = rows.ends_late unpaused is
granted-late P now waited revision Follower o is unpaused late rows =
    takes-late-by P now revision o (rows.refuses_late unpaused (rw is refl)) (rows.returns_late unpaused (rw is refl))
granted-late P now waited revision (Holder held) o is unpaused late rows =
    takes-late-by P now revision o (rows.refuses_late unpaused (rw is refl)) (rows.returns_late unpaused (rw is refl))
granted-late P now waited revision (Ready held) o is unpaused late rows = rows.other
granted-late P now waited revision (Ending held why) o is unpaused late rows = rows.other

lease-heard : (P : Outcome → Type 0) (now : Ticks) (waited : PendingQuestion) (revision : ℕ) (o : Outcome)
    → is_paused o.knows ≡ false → GrantWhen P now waited revision o → P (lease_heard now waited revision o)
lease-heard P now waited revision o unpaused rows = if-cases P (comes_late now waited o.machine)
    (granted_late now revision o.role o) (lease_granted now waited.ttl revision o.role o)
    (λ late. granted-late P now waited revision o.role o refl unpaused late rows)
    (λ in_time. lease-granted P now waited revision o.role o refl unpaused in_time rows)

-- the same, whenever they apply
pub record GrantRows (P : Outcome → Type 0) (now ttl : Ticks) (revision : ℕ) (o : Outcome) : Type 0 where
  pub other : P o
  pub leader : (held : ℕ) → o.role ≡ Leader held → P (leader_renewed now ttl revision o)
  pub unleased : o.role ≡ Unleased → P (unleased_renewed now ttl revision o)
  pub takes : may_create o.role ≡ true → P (takes_key now ttl revision o)
  -- heard too late
  pub keeps_late : (held : ℕ) → o.role ≡ Leader held → P (leader_kept now revision o)
  pub ends_late : o.role ≡ Unleased → P (unleased_unarmed now o)
  pub refuses_late : may_create o.role ≡ true → P (cannot_arm revision o)
  pub returns_late : may_create o.role ≡ true → P (gives_back revision o)
  -- in a pause
  pub leads_in_pause : (renews : Bool) → is_paused o.knows ≡ true → (held : ℕ) → o.role ≡ Leader held
      → P (duties now revision (leading_in_pause renews revision o))
  pub unleased_in_pause : (renews : Bool) → is_paused o.knows ≡ true → o.role ≡ Unleased
      → P (takes_over now revision (disabling_watchdog renews o))
  pub takes_in_pause : (renews : Bool) → is_paused o.knows ≡ true → may_create o.role ≡ true
      → P (takes_key_in_pause now renews revision o)

grant-rows : (P : Outcome → Type 0) (now : Ticks) (waited : PendingQuestion) (revision : ℕ) (o : Outcome)
    → GrantRows P now waited.ttl revision o → GrantWhen P now waited revision o
grant-rows P now waited revision o rows = record {
  other = rows.other;
  leader = λ held _ _ is. rows.leader held is;
  unleased = λ _ _ is. rows.unleased is;
  takes = λ _ _ may. rows.takes may;
  keeps_late = λ held _ _ is. rows.keeps_late held is;
  ends_late = λ _ is. rows.ends_late is;
  refuses_late = λ _ may. rows.refuses_late may;
  returns_late = λ _ may. rows.returns_late may;
  leads_in_pause = rows.leads_in_pause;
  unleased_in_pause = rows.unleased_in_pause;
  takes_in_pause = rows.takes_in_pause;
}

-- a request for a write of the sync key that a leader's plan makes
abbrev pub WritesSync : Txn → Type 0
WritesSync (txns.Sync (sync_txns.SetSync revision sync standbys may_lack)) = Unit {0}
WritesSync (txns.Sync (sync_txns.DropSync revision sync)) = Unit {0}
WritesSync _ = ⊥

-- a leader whose watchdog was fed on the grant of this revision
abbrev pub led_on : Ticks → Ticks → ℕ → Outcome → Outcome
led_on now ttl revision o = record (feeding now ttl o) { role = Leader revision }

-- a leader that keeps its watchdog's deadline under the lease of this revision
abbrev pub kept_on : ℕ → Outcome → Outcome
kept_on revision o = record o { role = Leader revision }

-- a leader's step with its standbys
pub record PlanRows (P : Outcome → Type 0) (now : Ticks) (o : Outcome) : Type 0 where
  pub kept : P o
  pub writes : (settling : Settling) (txn : Txn) → WritesSync txn → P (writing_sync now settling txn o)
  pub adds : (required : Required) → P (requiring required (noting o))
  pub drops : (required : Required) → P (requiring required o)

switching-off : (P : Outcome → Type 0) (now : Ticks) (revision : ℕ) (read : Option SyncRead) (o : Outcome)
    → PlanRows P now o → P (switching_off now revision read o)
switching-off P now revision None o rows = rows.kept
switching-off P now revision (Some read) o rows =
    rows.writes ClearsList (txns.Sync (sync_txns.DropSync revision read.revision)) tt

planned-as : (P : Outcome → Type 0) (now : Ticks) (revision : ℕ) (plan : Plan) (o : Outcome)
    → PlanRows P now o → P (planned_as now revision plan o)
planned-as P now revision plans.Keep o rows = rows.kept
planned-as P now revision plans.SwitchOff o rows = switching-off P now revision (sync_read_if o.knows.seen) o rows
planned-as P now revision plans.Mark o rows =
    rows.writes (NamesStandbys nobody)
    (txns.Sync (sync_txns.SetSync revision (expected_of (sync_read_if o.knows.seen)) nobody None)) tt
planned-as P now revision (plans.Withdraw standbys) o rows =
    rows.writes (NamesStandbys standbys)
    (txns.Sync (sync_txns.SetSync revision (expected_of (sync_read_if o.knows.seen)) standbys None)) tt
planned-as P now revision (plans.AddRequired members) o rows = rows.adds (All members)
planned-as P now revision (plans.Publish standbys) o rows =
    rows.writes KeepsList
    (txns.Sync (sync_txns.SetSync revision (expected_of (sync_read_if o.knows.seen)) standbys None)) tt
planned-as P now revision (plans.DropRequired members) o rows = rows.drops (waiting_for o.knows.settings members)

planned-on : (P : Outcome → Type 0) (now : Ticks) (revision : ℕ) (seen : Option SnapshotFacts) (o : Outcome)
    → PlanRows P now o → P (planned_on now revision seen o)
planned-on P now revision None o rows = rows.kept
planned-on P now revision (Some snapshot) o rows =
    planned-as P now revision (plan_of (leader_view now o.knows o.machine) snapshot) o rows

pub planned-by : (P : Outcome → Type 0) (now : Ticks) (revision : ℕ) (o : Outcome) → PlanRows P now o
    → P (planned now revision o)
planned-by P now revision o rows = planned-on P now revision o.knows.seen o rows

-- what a leader does under a failover key
pub record FailoverRows (P : Outcome → Type 0) (now : Ticks) (revision : ℕ) (o : Outcome) : Type 0 where
  pub kept : P o
  pub clears : (compared : ℕ) → P (dropping compared o)
  pub asks : (candidate : Option MemberId) → P (checking now candidate (unheard o))
  pub judges : HandoverRows P now revision (unheard o)

failover-duty : (P : Outcome → Type 0) (now : Ticks) (revision : ℕ) (failover : FailoverKey) (o : Outcome)
    → FailoverRows P now revision o → P (failover_duty now revision failover o)
failover-duty P now revision failover o rows =
    if-cases P (is_done o.knows.who.me failover) (clearing o)
    (checks_unless_paused now revision failover.candidate o) (λ _. clearing-by P o rows.kept rows.clears)
    (λ _. if-cases P (is_paused o.knows && is_none failover.candidate) o
    (checks now revision failover.candidate (unheard o)) (λ _. rows.kept)
    (λ _. if-cases P (whom_answered o.knows.who failover.candidate [])
    (handover_judged now revision (unheard o)) (checking now failover.candidate (unheard o))
    (λ _. handover-by P now revision (unheard o) rows.judges) (λ _. rows.asks failover.candidate)))

duty-on : (P : Outcome → Type 0) (now : Ticks) (revision : ℕ) (failover : Option FailoverKey) (o : Outcome)
    → o.knows.turn_failover ≡ failover
    → (o.knows.turn_failover ≡ None → is_paused o.knows ≡ false → P (planned now revision o))
    → FailoverRows P now revision o → P (duty_on now revision failover o)
duty-on P now revision None o is plans rows =
    if-cases P (is_paused o.knows) o (planned now revision o) (λ _. rows.kept) (plans is)
duty-on P now revision (Some failover) o is plans rows = failover-duty P now revision failover o rows

-- what it owes its cluster with each renewal: without a failover key, and outside
-- a pause, a step with its synchronous standbys, or what a failover key asks
pub duties-when : (P : Outcome → Type 0) (now : Ticks) (revision : ℕ) (o : Outcome)
    → (o.knows.turn_failover ≡ None → is_paused o.knows ≡ false → P (planned now revision o))
    → FailoverRows P now revision o → P (duties now revision o)
duties-when P now revision o plans rows = duty-on P now revision o.knows.turn_failover o refl plans rows

-- the same, whenever that applies
pub duties-by : (P : Outcome → Type 0) (now : Ticks) (revision : ℕ) (o : Outcome) → P (planned now revision o)
    → FailoverRows P now revision o → P (duties now revision o)
duties-by P now revision o plans rows = duties-when P now revision o (λ _ _. plans) rows

-- the same by the rows of its step
pub record DutyRows (P : Outcome → Type 0) (now : Ticks) (revision : ℕ) (o : Outcome) : Type 0 where
  pub plan : PlanRows P now o
  pub clears : (compared : ℕ) → P (dropping compared o)
  pub asks : (candidate : Option MemberId) → P (checking now candidate (unheard o))
  pub judges : HandoverRows P now revision (unheard o)

pub duties-of : (P : Outcome → Type 0) (now : Ticks) (revision : ℕ) (o : Outcome) → DutyRows P now revision o
    → P (duties now revision o)
duties-of P now revision o rows = duties-by P now revision o (planned-by P now revision o rows.plan)
    (record { kept = rows.plan.kept; clears = rows.clears; asks = rows.asks; judges = rows.judges })

-- a leader under the lease of this revision, whose server may have been starting for too long
pub judges-start-by : (P : Outcome → Type 0) (now : Ticks) (revision : ℕ) (o : Outcome)
    → P (record (ending_server now StartTooLong o) { role = Ending revision HandOver })
    → DutyRows P now revision o → P (judges_start now revision o)
judges-start-by P now revision o ends rows =
    if-cases P (is_start_too_long now o.knows o.machine.server.state)
    (record (ending_server now StartTooLong o) { role = Ending revision HandOver }) (duties now revision o)
    (λ _. ends) (λ _. duties-of P now revision o rows)

-- a leader whose lease is renewed
pub renewed-by : (P : Outcome → Type 0) (now ttl : Ticks) (revision : ℕ) (o : Outcome)
    → P (record (ending_server now StartTooLong (led_on now ttl revision o)) { role = Ending revision HandOver })
    → DutyRows P now revision (led_on now ttl revision o) → P (leader_renewed now ttl revision o)
renewed-by P now ttl revision o ends rows = judges-start-by P now revision (led_on now ttl revision o) ends rows

-- what a member notes of the sync key before it claims that: nothing, or that it doesn't name the member
passing-as : (P : List Output → Type 0) (named : Bool) (outs : List Output) → P outs
    → P (with_output (outputs.Tell tellings.ClaimsOutsideSync) outs) → P (told_passing named outs)
passing-as P true outs silent noted = silent
passing-as P false outs silent noted = noted

pub passing-by : (P : List Output → Type 0) (o : Outcome) → P o.outputs
    → P (with_output (outputs.Tell tellings.ClaimsOutsideSync) o.outputs) → P (passing o).outputs
passing-by P o silent noted = passing-as P (is_named_if o.knows.who.me o.knows.turn_sync) o.outputs silent noted

-- a member that takes the leader key behind an armed watchdog
pub begins-or-claims-by : (P : Outcome → Type 0) (now : Ticks) (revision : ℕ) (o : Outcome)
    → P (begins now revision o) → P (claims now revision (passing o)) → P (begins_or_claims now revision o)
begins-or-claims-by P now revision o begin claim = if-cases P o.knows.turn_settings.synchronous_mode
    (claims now revision (passing o)) (begins now revision o) (λ _. claim) (λ _. begin)

-- a member that takes the leader key in a pause, or gives it back
pub takes-in-pause-by : (P : Outcome → Type 0) (now : Ticks) (renews : Bool) (revision : ℕ) (o : Outcome)
    → P (gives_back revision o) → P (begins now revision (disabling_watchdog renews o))
    → P (claims now revision (passing (disabling_watchdog renews o))) → P (takes_key_in_pause now renews revision o)
takes-in-pause-by P now renews revision o gives begin claim =
    if-cases P (is_wanted o.knows.who.me o.knows.turn_failover o.machine.server.state && may_take now o.knows o.machine)
    (begins_or_claims now revision (disabling_watchdog renews o)) (gives_back revision o)
    (λ _. begins-or-claims-by P now revision (disabling_watchdog renews o) begin claim) (λ _. gives)

-- a write of the sync key that was granted, by when each row applies
pub record SyncWhen (P : Outcome → Type 0) (now : Ticks) (o : Outcome) : Type 0 where
  pub other : P o
  pub begins : (revision : ℕ) → o.role ≡ Ready revision → may_begin_on_claim o.knows o.machine.server ≡ true
      → P (begins now revision o)
  pub postpones : (revision : ℕ) → o.role ≡ Ready revision → P (postpones revision o)
  pub settles : (required : Required) → is_leader o.role ≡ true → P (requiring required o)

-- the same, whenever they apply
pub record SyncRows (P : Outcome → Type 0) (now : Ticks) (o : Outcome) : Type 0 where
  pub other : P o
  pub begins : (revision : ℕ) → o.role ≡ Ready revision → P (begins now revision o)
  pub postpones : (revision : ℕ) → o.role ≡ Ready revision → P (postpones revision o)
  pub settles : (required : Required) → is_leader o.role ≡ true → P (requiring required o)

sync-rows : (P : Outcome → Type 0) (now : Ticks) (o : Outcome) → SyncRows P now o → SyncWhen P now o
sync-rows P now o rows = record {
  other = rows.other;
  begins = λ revision is _. rows.begins revision is;
  postpones = rows.postpones;
  settles = rows.settles;
}

settled-by : (P : Outcome → Type 0) (settling : Settling) (o : Outcome) → P o
    → ((required : Required) → P (requiring required o)) → P (settled settling o)
settled-by P KeepsList o kept requires = kept
settled-by P (NamesStandbys standbys) o kept requires = requires (waiting_for o.knows.settings standbys)
settled-by P ClearsList o kept requires = requires Nobody

-- a write of the sync key that this question asked was granted, by when each row applies
pub record SyncHeard (P : Outcome → Type 0) (now : Ticks) (question : Question) (o : Outcome) : Type 0 where
  pub other : P o
  pub begins : question ≡ Claiming → (revision : ℕ) → o.role ≡ Ready revision
      → may_begin_on_claim o.knows o.machine.server ≡ true → P (begins now revision o)
  pub postpones : (revision : ℕ) → o.role ≡ Ready revision → P (postpones revision o)
  pub settles : (settling : Settling) → question ≡ Syncing settling → is_leader o.role ≡ true → P (settled settling o)

sync-heard : (P : Outcome → Type 0) (now : Ticks) (question : Question) (o : Outcome) → SyncWhen P now o
    → SyncHeard P now question o
sync-heard P now question o rows = record {
  other = rows.other;
  begins = λ _ revision is may. rows.begins revision is may;
  postpones = rows.postpones;
  settles = λ settling _ leads. settled-by P settling o rows.other (λ required. rows.settles required leads);
}

sync-granted : (P : Outcome → Type 0) (now : Ticks) (question : Question) (role : RoleFacts) (o : Outcome)
    → o.role ≡ role → belongs question role ≡ true → SyncHeard P now question o → P (sync_granted now question role o)
sync-granted P now Claiming (Ready revision) o is fits rows =
    if-cases P (may_begin_on_claim o.knows o.machine.server) (begins now revision o) (postpones revision o)
    (rows.begins refl revision is) (λ _. rows.postpones revision is)
sync-granted P now Claiming Follower o is fits rows = rows.other
sync-granted P now Claiming (Holder held) o is fits rows = rows.other
sync-granted P now Claiming (Leader held) o is fits rows = rows.other
sync-granted P now Claiming (Ending held why) o is fits rows = rows.other
sync-granted P now Claiming Unleased o is fits rows = rows.other
sync-granted P now (Syncing settling) role o is fits rows = rows.settles settling refl (ap is_leader is ∙ fits)
sync-granted P now Reading role o is fits rows = rows.other
sync-granted P now ComparingPositions role o is fits rows = rows.other
sync-granted P now Creating role o is fits rows = rows.other
sync-granted P now Renewing role o is fits rows = rows.other
sync-granted P now FindingCandidate role o is fits rows = rows.other
sync-granted P now StayingPrimary role o is fits rows = rows.other

granted-for : (P : Outcome → Type 0) (now : Ticks) (sequence : ℕ) (grant : Granted) (snapshot : SnapshotFacts)
    (waited : Option PendingQuestion) (o : Outcome) → o.knows.waited ≡ waited → P o → P (waiting_no_more o)
    → ((asked : PendingQuestion) → o.knows.waited ≡ Some asked →
    is_decision asked sequence && is_lease_of o.knows.who.me grant ≡ true →
    GrantWhen P now asked grant.revision (record o { knows = informed snapshot o.knows }))
    → ((after : Outcome) → P after → P (confirming snapshot after))
    → ((asked : PendingQuestion) → o.knows.waited ≡ Some asked →
    is_sync_decision asked sequence && is_write_of o.knows.who.me grant ≡ true →
    SyncHeard P now asked.question (record o { knows = informed snapshot o.knows }))
    → P (granted_for now sequence grant snapshot waited o)
granted-for P now sequence grant snapshot None o is kept quiet rows confirms syncs = kept
granted-for P now sequence grant snapshot (Some waited) o is kept quiet rows confirms syncs =
    let told : Outcome = record o { knows = informed snapshot o.knows } in
    if-cases P (is_decision waited sequence && is_lease_of o.knows.who.me grant)
    (accepted_grant now waited grant.revision snapshot o) (granted_write now sequence grant snapshot waited o)
    (λ decision. if-cases P (uses_lease (is_paused told.knows) waited.question o.role)
    (confirming snapshot (lease_used now waited grant.revision told)) (waiting_no_more o)
    (λ _. confirms (lease_used now waited grant.revision told)
    (if-cases P (is_paused told.knows) (granted_in_pause now (asks_renewal waited.question) grant.revision o.role told)
    (lease_heard now waited grant.revision told)
    (λ paused. granted-in-pause P now waited
    (asks_renewal waited.question) grant.revision o.role told refl paused (rows waited is decision))
    (λ unpaused. lease-heard P now waited grant.revision told unpaused (rows waited is decision)))) (λ _. quiet))
    (λ _. if-cases P (is_sync_decision waited sequence && is_write_of o.knows.who.me grant)
    (accepted_sync now waited snapshot o) o
    (λ decision. if-cases P (belongs waited.question o.role)
    (sync_granted now waited.question o.role told) (waiting_no_more o)
    (λ fits. sync-granted P now waited.question o.role told refl fits (syncs waited is decision)) (λ _. quiet))
    (λ _. kept))

-- a request was granted, by what is heard and when each row applies
pub granted-heard : (P : Outcome → Type 0) (now : Ticks) (sequence : ℕ) (grant : Granted)
    (snapshot : SnapshotFacts) (o : Outcome) → P o → P (waiting_no_more o)
    → ((asked : PendingQuestion) → o.knows.waited ≡ Some asked →
    is_decision asked sequence && is_lease_of o.knows.who.me grant ≡ true →
    GrantWhen P now asked grant.revision (record o { knows = informed snapshot o.knows }))
    → ((after : Outcome) → P after → P (confirming snapshot after))
    → ((asked : PendingQuestion) → o.knows.waited ≡ Some asked →
    is_sync_decision asked sequence && is_write_of o.knows.who.me grant ≡ true →
    SyncHeard P now asked.question (record o { knows = informed snapshot o.knows }))
    → P (granted now sequence grant snapshot o)
granted-heard P now sequence grant snapshot o kept quiet rows confirms syncs =
    granted-for P now sequence grant snapshot o.knows.waited o refl kept quiet rows confirms syncs

-- the same, whatever write of the sync key is heard
pub granted-when : (P : Outcome → Type 0) (now : Ticks) (sequence : ℕ) (grant : Granted)
    (snapshot : SnapshotFacts) (o : Outcome) → P o → P (waiting_no_more o)
    → ((asked : PendingQuestion) → o.knows.waited ≡ Some asked →
    is_decision asked sequence && is_lease_of o.knows.who.me grant ≡ true →
    GrantWhen P now asked grant.revision (record o { knows = informed snapshot o.knows }))
    → ((after : Outcome) → P after → P (confirming snapshot after))
    → SyncWhen P now (record o { knows = informed snapshot o.knows }) → P (granted now sequence grant snapshot o)
granted-when P now sequence grant snapshot o kept quiet rows confirms syncs =
    granted-heard P now sequence grant snapshot o kept quiet rows confirms
    (λ asked _ _. sync-heard P now asked.question (record o { knows = informed snapshot o.knows }) syncs)

-- the same, whenever they apply
pub granted-by : (P : Outcome → Type 0) (now : Ticks) (sequence : ℕ) (grant : Granted)
    (snapshot : SnapshotFacts) (o : Outcome) → P o → P (waiting_no_more o)
    → ((asked : PendingQuestion) → o.knows.waited ≡ Some asked →
    is_decision asked sequence && is_lease_of o.knows.who.me grant ≡ true →
    GrantRows P now asked.ttl grant.revision (record o { knows = informed snapshot o.knows }))
    → ((after : Outcome) → P after → P (confirming snapshot after))
    → SyncRows P now (record o { knows = informed snapshot o.knows }) → P (granted now sequence grant snapshot o)
granted-by P now sequence grant snapshot o kept quiet rows confirms syncs =
    let told : Outcome = record o { knows = informed snapshot o.knows } in
    granted-when P now sequence grant snapshot o kept quiet
    (λ asked is decision. grant-rows P now asked grant.revision told (rows asked is decision)) confirms
    (sync-rows P now told syncs)

-- a request was granted: what an operator wants, or the agent by itself
pub granted-any-by : (P : Outcome → Type 0) (now : Ticks) (sequence : ℕ) (grant : Granted)
    (snapshot : SnapshotFacts) (o : Outcome) → P o → ReplyRows P (learned snapshot o)
    → P (granted now sequence grant snapshot o) → P (granted_any now sequence grant snapshot o)
granted-any-by P now sequence grant snapshot o kept rows own =
    if-cases P (grants_operator sequence grant o.knows) (operator_granted snapshot o.knows.operating o)
    (granted now sequence grant snapshot o)
    (λ _. operator-granted-by P snapshot o.knows.operating o kept rows) (λ _. own)
