-- What an agent does once the key store has decided on its request for the leader key.
use Rattle.std.specs.Prelude.{ℕ, ◌-◌, ◌*◌, ◌==◌, ◌&&◌, ◌||◌, nat_le, nat_lt, if◌then◌else◌, not, Bool, true, false, is_some, Option, Some, None}
use Rattle.pat_base.specs.declared.member_id.MemberId.{MemberId}
use Rattle.pat_base.specs.declared.server_state.State.{State}
use Rattle.pat_base.specs.declared.server_state.State.TheVariants as states
use Rattle.pat_base.specs.declared.ticks.Ticks.{Ticks}
use Rattle.lease_store.specs.declared.granted.Granted.{Granted}
use Rattle.pg_model.specs.declared.status.ServerStatus.{ServerStatus}
use Rattle.event_book.specs.declared.agent_note.AgentNote.TheVariants as agent_notes
use Rattle.event_book.specs.declared.reason.Reason.TheVariants.{StartTooLong, WatchdogNotArmed}
use Rattle.cluster_view.specs.Snapshots.{SnapshotFacts, failsafe_in}
use Rattle.agent_model.specs.declared.knowledge.Knowledge.{Knowledge}
use Rattle.agent_model.specs.declared.knowledge.Question.{Question}
use Rattle.agent_model.specs.declared.knowledge.Question.TheVariants.{ComparingPositions, Creating, Renewing, Claiming, Syncing, FindingCandidate, StayingPrimary}
use Rattle.agent_model.specs.declared.knowledge.PendingQuestion.{PendingQuestion}
use Rattle.agent_model.specs.declared.machine.Machine.{Machine}
use Rattle.agent_model.specs.declared.output.Output.TheVariants as outputs
use Rattle.agent_model.specs.declared.output.Noting.TheVariants as notings
use Rattle.agent_model.specs.declared.why.Why.TheVariants.{HandOver}
use Rattle.agent_model.specs.Acting.{waiting_no_more, releasing, ending_server, arming, comes_late, feeding, is_refusing, is_hold_active}
use Rattle.agent_model.specs.Agents.{RoleFacts, Follower, Holder, Ready, Leader, Ending, Unleased, Outcome, is_ready, is_leader}
use Rattle.agent_model.specs.Claiming.{begins_or_claims, claim_fails, claim_granted}
use Rattle.agent_model.specs.Outputs.{with_output}
use Rattle.agent_model.specs.HandingOver.{duties}
use Rattle.agent_model.specs.Planning.{settled}
use Rattle.agent_model.specs.Synchronous.{may_lead_in_sync}
use Rattle.agent_model.specs.Pausing.{is_paused, is_wanted, disabling_watchdog}
use Rattle.agent_model.specs.Snapshots.{informed, is_active, leader_without_key, unleased_without_key}
use Rattle.pat_base.specs.declared.ticks.TheConstants.{TICKS_OF_SECOND}

-- so many ticks have passed since this incarnation began the server, or took it over
abbrev pub has_lasted : Ticks → ℕ → Option Ticks → Bool
has_lasted now span None = false
has_lasted now span (Some begun) = nat_le span (now.0 - begun.0)

-- the start of a primary takes longer than it may
abbrev pub is_start_too_long : Ticks → Knowledge → State → Bool
is_start_too_long now knows (states.Starting as_primary at) =
    has_lasted now (TICKS_OF_SECOND * knows.settings.primary_start_timeout) knows.begun
is_start_too_long now knows _ = false

-- then another member is to lead; else the leader does what it owes its cluster
abbrev pub judges_start : Ticks → ℕ → Outcome → Outcome
judges_start now revision o =
    if is_start_too_long now o.knows o.machine.server.state
    then record (ending_server now StartTooLong o) { role = Ending revision HandOver } else duties now revision o

-- the lease of a leader is renewed: its watchdog is fed
abbrev pub leader_renewed : Ticks → Ticks → ℕ → Outcome → Outcome
leader_renewed now ttl revision o = judges_start now revision (record (feeding now ttl o) { role = Leader revision })

-- the lease of a leader is renewed, and it hears that too late: its watchdog keeps its deadline
abbrev pub leader_kept : Ticks → ℕ → Outcome → Outcome
leader_kept now revision o = judges_start now revision (record o { role = Leader revision })

-- an agent leads from now on with the server that is live already. What was acknowledged
-- before is known to no agent any more, so the end of the log is noted, which covers it
abbrev pub takes_over : Ticks → ℕ → Outcome → Outcome
takes_over now revision o =
    record o { role = Leader revision; knows = record o.knows { begun = Some now; noted = o.machine.server.end } }

-- an agent whose server is live without a lease can't arm its watchdog: it ends the server
abbrev pub unleased_unarmed : Ticks → Outcome → Outcome
unleased_unarmed now o = ending_server now WatchdogNotArmed o

-- an agent whose server is live without a lease gets one: it leads, once its watchdog is armed
abbrev pub unleased_renewed : Ticks → Ticks → ℕ → Outcome → Outcome
unleased_renewed now ttl revision o =
    if is_refusing o.machine.watchdog.mode o.machine.watchdog.works then unleased_unarmed now o
    else takes_over now revision (arming now ttl o)

-- so many ticks have passed since the crash was noted; none where none was
abbrev pub since_crash : Ticks → Option Ticks → ℕ
since_crash now None = 0
since_crash now (Some crashed) = now.0 - crashed.0

-- a server that is down may start as a primary again: its last run was one, and since its
-- crash less time has passed than the start of a primary may take, by what this turn read
abbrev pub may_start_again : Ticks → Knowledge → ServerStatus → Bool
may_start_again now knows server = server.was_primary
    && nat_lt (since_crash now knows.crashed) (TICKS_OF_SECOND * knows.turn_settings.primary_start_timeout)

-- the server can begin to accept writes, by its state
abbrev pub can_begin : Ticks → Knowledge → ServerStatus → State → Bool
can_begin now knows server states.Replica = true
can_begin now knows server states.Stopped = may_start_again now knows server
can_begin now knows server states.Crashed = may_start_again now knows server
can_begin now knows server _ = false

-- a member may take the leader key: no hold is active, its server can begin, and in synchronous mode it may lead
abbrev pub may_take : Ticks → Knowledge → Machine → Bool
may_take now knows machine = not (is_hold_active now machine.hold)
    && (can_begin now knows machine.server machine.server.state && may_lead_in_sync knows)

-- the leader key is given back
abbrev pub gives_back : ℕ → Outcome → Outcome
gives_back revision o = record (releasing revision o) { role = Follower }

-- nobody begins whose watchdog can't be armed
abbrev pub cannot_arm : ℕ → Outcome → Outcome
cannot_arm revision o =
    gives_back revision
    (record o { outputs = with_output (outputs.Note (notings.Agent agent_notes.CannotArm)) o.outputs })

-- nobody begins without an armed watchdog, where the member needs one
abbrev pub arms : Ticks → Ticks → ℕ → Outcome → Outcome
arms now ttl revision o =
    if is_refusing o.machine.watchdog.mode o.machine.watchdog.works then cannot_arm revision o
    else begins_or_claims now revision (arming now ttl o)

-- an agent that isn't leading gets a lease
abbrev pub takes_key : Ticks → Ticks → ℕ → Outcome → Outcome
takes_key now ttl revision o = if may_take now o.knows o.machine then arms now ttl revision o else gives_back revision o

-- an agent that isn't leading gets a lease, and hears of it too late
abbrev pub takes_late : Ticks → ℕ → Outcome → Outcome
takes_late now revision o = if may_take now o.knows o.machine then cannot_arm revision o else gives_back revision o

-- in a pause only whom an operator wants to lead takes the leader key, and its watchdog rests
abbrev pub takes_key_in_pause : Ticks → Bool → ℕ → Outcome → Outcome
takes_key_in_pause now renews revision o =
    if is_wanted o.knows.who.me o.knows.turn_failover o.machine.server.state && may_take now o.knows o.machine
    then begins_or_claims now revision (disabling_watchdog renews o) else gives_back revision o

-- what each role does in a pause with a lease that it was granted, by a renewal or as the key was free
abbrev pub granted_in_pause : Ticks → Bool → ℕ → RoleFacts → Outcome → Outcome
granted_in_pause now renews revision (Leader held) o =
    duties now revision (record (disabling_watchdog renews o) { role = Leader revision })
granted_in_pause now renews revision Unleased o = takes_over now revision (disabling_watchdog renews o)
granted_in_pause now renews revision Follower o = takes_key_in_pause now renews revision o
granted_in_pause now renews revision (Holder held) o = takes_key_in_pause now renews revision o
granted_in_pause now renews revision _ o = o

-- what each role does with a lease that it was granted
abbrev pub lease_granted : Ticks → Ticks → ℕ → RoleFacts → Outcome → Outcome
lease_granted now ttl revision (Leader held) o = leader_renewed now ttl revision o
lease_granted now ttl revision Unleased o = unleased_renewed now ttl revision o
lease_granted now ttl revision Follower o = takes_key now ttl revision o
lease_granted now ttl revision (Holder held) o = takes_key now ttl revision o
lease_granted now ttl revision _ o = o

-- what each role does with a lease that it was granted, and heard of too late
abbrev pub granted_late : Ticks → ℕ → RoleFacts → Outcome → Outcome
granted_late now revision (Leader held) o = leader_kept now revision o
granted_late now revision Unleased o = unleased_unarmed now o
granted_late now revision Follower o = takes_late now revision o
granted_late now revision (Holder held) o = takes_late now revision o
granted_late now revision _ o = o

-- who may have asked for the leader key while it was absent
abbrev pub may_create : RoleFacts → Bool
may_create Follower = true
may_create (Holder revision) = true
may_create _ = false

-- an agent whose server is live: it leads, or has no lease
abbrev pub has_primary : RoleFacts → Bool
has_primary (Leader revision) = true
has_primary Unleased = true
has_primary _ = false

-- a question belongs to the role: its answer is used
abbrev pub belongs : Question → RoleFacts → Bool
belongs ComparingPositions role = may_create role
belongs Creating role = may_create role
belongs Claiming role = is_ready role
belongs (Syncing settling) role = is_leader role
belongs FindingCandidate role = is_leader role
belongs StayingPrimary role = is_leader role
belongs _ role = is_active role

-- in a pause who runs on without the leader key asks for it too
abbrev pub asks_in_pause : Question → RoleFacts → Bool
asks_in_pause Creating Unleased = true
asks_in_pause _ _ = false

-- a grant of the leader key is used in this role
abbrev pub uses_lease : Bool → Question → RoleFacts → Bool
uses_lease paused question role = belongs question role || (paused && asks_in_pause question role)

-- this question asks for a renewal
abbrev pub asks_renewal : Question → Bool
asks_renewal Renewing = true
asks_renewal _ = false

-- a lease is granted that was asked for so, and heard of in time or too late
abbrev pub lease_heard : Ticks → PendingQuestion → ℕ → Outcome → Outcome
lease_heard now waited revision o = if comes_late now waited o.machine then granted_late now revision o.role o
    else lease_granted now waited.ttl revision o.role o

-- a lease is granted that was asked for so; in a pause nothing is late
abbrev pub lease_used : Ticks → PendingQuestion → ℕ → Outcome → Outcome
lease_used now waited revision o = if is_paused o.knows
    then granted_in_pause now (asks_renewal waited.question) revision o.role o else lease_heard now waited revision o

-- a leader's failsafe set is confirmed by a grant of its key whose snapshot has a failsafe key
abbrev pub confirming : SnapshotFacts → Outcome → Outcome
confirming snapshot o = record o {
  knows = record o.knows { confirmed = o.knows.confirmed || (is_leader o.role && is_some (failsafe_in snapshot)) };
}

-- a grant that is waited for is used where its question belongs to the
-- role; its snapshot is then the newest, also for whether there is a pause
abbrev pub accepted_grant : Ticks → PendingQuestion → ℕ → SnapshotFacts → Outcome → Outcome
accepted_grant now waited revision snapshot o =
    if uses_lease (is_paused (informed snapshot o.knows)) waited.question o.role
    then confirming snapshot (lease_used now waited revision (record o { knows = informed snapshot o.knows }))
    else waiting_no_more o

-- a question that asks for a lease of the leader key
abbrev pub asks_lease : Question → Bool
asks_lease Creating = true
asks_lease Renewing = true
asks_lease _ = false

-- a question that asks for a write of the sync key
abbrev pub asks_sync : Question → Bool
asks_sync Claiming = true
asks_sync (Syncing settling) = true
asks_sync _ = false

-- the decision on this request for the leader key is waited for
abbrev pub is_decision : PendingQuestion → ℕ → Bool
is_decision waited sequence = asks_lease waited.question && waited.sequence == sequence

-- the grant is one of the leader key, to this member
abbrev pub is_lease_of : MemberId → Granted → Bool
is_lease_of me grant = grant.leased && grant.by.number == me.number

-- the decision on this write of the sync key is waited for
abbrev pub is_sync_decision : PendingQuestion → ℕ → Bool
is_sync_decision waited sequence = asks_sync waited.question && waited.sequence == sequence

-- the grant is one of another write, to this member
abbrev pub is_write_of : MemberId → Granted → Bool
is_write_of me grant = not grant.leased && grant.by.number == me.number

-- a write of the sync key is granted that was asked by this question, to a role that asks it
abbrev pub sync_granted : Ticks → Question → RoleFacts → Outcome → Outcome
sync_granted now Claiming (Ready revision) o = claim_granted now revision o
sync_granted now (Syncing settling) role o = settled settling o
sync_granted now _ role o = o

-- such a grant is used where its question belongs to the role; its snapshot is then the newest
abbrev pub accepted_sync : Ticks → PendingQuestion → SnapshotFacts → Outcome → Outcome
accepted_sync now waited snapshot o = if belongs waited.question o.role
    then sync_granted now waited.question o.role (record o { knows = informed snapshot o.knows }) else waiting_no_more o

-- a grant of another write than that of the leader key
abbrev pub granted_write : Ticks → ℕ → Granted → SnapshotFacts → PendingQuestion → Outcome → Outcome
granted_write now sequence grant snapshot waited o =
    if is_sync_decision waited sequence && is_write_of o.knows.who.me grant
    then accepted_sync now waited snapshot o else o

-- a grant, by what is waited for
abbrev pub granted_for : Ticks → ℕ → Granted → SnapshotFacts → Option PendingQuestion → Outcome → Outcome
granted_for now sequence grant snapshot None o = o
granted_for now sequence grant snapshot (Some waited) o =
    if is_decision waited sequence && is_lease_of o.knows.who.me grant
    then accepted_grant now waited grant.revision snapshot o else granted_write now sequence grant snapshot waited o

-- a request was granted: what is waited for is used, and any other dropped
abbrev pub granted : Ticks → ℕ → Granted → SnapshotFacts → Outcome → Outcome
granted now sequence grant snapshot o = granted_for now sequence grant snapshot o.knows.waited o

-- a role without its lease, if the member isn't writing on it
abbrev pub follower_for : RoleFacts → RoleFacts
follower_for (Holder held) = Follower
follower_for role = role

-- the leader key isn't absent any more: an agent has no lease
abbrev pub create_refused : Outcome → Outcome
create_refused o = record o { role = follower_for o.role }

-- the leader key isn't as it was read: a lease is lost
abbrev pub renewal_refused : Ticks → RoleFacts → Outcome → Outcome
renewal_refused now (Leader held) o = leader_without_key now held o
renewal_refused now Unleased o = unleased_without_key now o
renewal_refused now (Holder held) o = record o { role = Follower }
renewal_refused now _ o = o

-- a refusal of what was asked by this question
abbrev pub refused_as : Ticks → Question → Outcome → Outcome
refused_as now Creating o = create_refused o
refused_as now Renewing o = renewal_refused now o.role o
refused_as now Claiming o = claim_fails o
refused_as now _ o = o

-- the decision on this request is waited for
abbrev pub awaits_decision : PendingQuestion → ℕ → Bool
awaits_decision waited sequence = is_decision waited sequence || is_sync_decision waited sequence

-- a refusal, by what is waited for
abbrev pub refused_for : Ticks → ℕ → Option PendingQuestion → Outcome → Outcome
refused_for now sequence None o = o
refused_for now sequence (Some waited) o =
    if awaits_decision waited sequence then refused_as now waited.question (waiting_no_more o) else o

-- a request was refused: what is waited for is used, and any other dropped
abbrev pub refused : Ticks → ℕ → Outcome → Outcome
refused now sequence o = refused_for now sequence o.knows.waited o
