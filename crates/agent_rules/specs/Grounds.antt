-- What an agent needs before it asks for a key, begins, feeds its watchdog, takes a hold, asks others to let it stay
-- primary, or has its server repaired or wiped, or others required; and what it leaves once it gave a lease back.
use Rattle.std.specs.Prelude.{ℕ, ◌≡◌, ◌⊎◌, ◌<◌, ◌*◌, ◌==◌, true, false, Option, None, Some, All, Contains}
use Rattle.pat_base.specs.declared.member_id.MemberId.{MemberId}
use Rattle.pat_base.specs.declared.member_set.MemberSet.{MemberSet}
use Rattle.pat_base.specs.declared.server_state.Required.{Required}
use Rattle.pat_base.specs.declared.server_state.Required.TheVariants.{Nobody, All as AllOf}
use Rattle.pat_base.specs.declared.server_state.State.TheVariants as states
use Rattle.pat_base.specs.declared.ticks.TheConstants.{TICKS_OF_SECOND}
use Rattle.pat_base.specs.declared.ticks.Ticks.{Ticks}
use Rattle.pat_base.specs.ServerState.{live}
use Rattle.store_keys.specs.declared.action.OperatorRequest.{OperatorRequest}
use Rattle.store_keys.specs.declared.action.OperatorRequest.TheVariants as requests
use Rattle.store_keys.specs.declared.config.Config.{Config}
use Rattle.store_keys.specs.declared.txn.Expected.{Expected}
use Rattle.store_keys.specs.declared.txn.Expected.TheVariants.{Revision}
use Rattle.lease_store.specs.declared.granted.Granted.{Granted}
use Rattle.lease_store.specs.Writes.{nobody}
use Rattle.store_keys.specs.declared.txn.Txn.{Txn}
use Rattle.store_keys.specs.declared.txn.Txn.TheVariants as txns
use Rattle.store_keys.specs.declared.txn.LeaseTxn.TheVariants as lease_txns
use Rattle.store_keys.specs.declared.txn.SyncTxn.TheVariants as sync_txns
use Rattle.pg_model.specs.declared.status.ServerStatus.{ServerStatus}
use Rattle.pg_model.specs.Facts.{is_down}
use Rattle.cluster_view.specs.Naming.{is_candidate, is_failover_to, is_named}
use Rattle.cluster_view.specs.Snapshots.{SnapshotFacts, leader_in, settings_in}
use Rattle.cluster_view.specs.declared.snapshot.LeaderEntry.{LeaderEntry}
use Rattle.event_book.specs.declared.message.Body.{Body}
use Rattle.event_book.specs.declared.message.Body.TheVariants as bodies
use Rattle.failsafe.specs.Asks.{has}
use Rattle.sync_state.specs.declared.steps.Plan.{Plan}
use Rattle.sync_state.specs.declared.steps.Plan.TheVariants as plans
use Rattle.sync_state.specs.Plans.{plan_of}
use Rattle.leader_key.specs.Watchdog.{WatchdogFacts, is_armable, timeout_of}
use Rattle.leader_key.specs.declared.watchdog.Mode.TheVariants as modes
use Rattle.agent_model.specs.declared.heard.Heard.{Heard}
use Rattle.agent_model.specs.declared.heard.Heard.TheVariants as heards
use Rattle.agent_model.specs.declared.knowledge.Knowledge.{Knowledge}
use Rattle.agent_model.specs.declared.knowledge.PendingQuestion.{PendingQuestion}
use Rattle.agent_model.specs.declared.knowledge.Question.{Question}
use Rattle.agent_model.specs.declared.knowledge.Question.TheVariants.{Claiming, Syncing}
use Rattle.agent_model.specs.declared.knowledge.Settling.{Settling}
use Rattle.agent_model.specs.declared.knowledge.Settling.TheVariants.{KeepsList, NamesStandbys, ClearsList}
use Rattle.agent_model.specs.declared.knowledge.SyncRead.{SyncRead}
use Rattle.agent_model.specs.declared.output.Output.{Output}
use Rattle.agent_model.specs.declared.output.Output.TheVariants as outputs
use Rattle.agent_model.specs.declared.output.Feeding.TheVariants as feedings
use Rattle.agent_model.specs.declared.output.Outgoing.TheVariants as outgoing
use Rattle.agent_model.specs.declared.output.ServerOrder.TheVariants as orders
use Rattle.agent_model.specs.declared.output.Telling.TheVariants as tellings
use Rattle.agent_model.specs.declared.output.Repair.{Repair}
use Rattle.agent_model.specs.declared.output.Repair.TheVariants.{Rewind, Clone}
use Rattle.agent_model.specs.declared.output.Target.TheVariants as targets
use Rattle.agent_model.specs.Acting.{comes_late, is_hold_active, lease_span}
use Rattle.agent_model.specs.Agents.{Follower, Outcome, is_leader, is_ready}
use Rattle.agent_model.specs.Decisions.{has_primary, is_write_of, may_create, since_crash}
use Rattle.agent_model.specs.FailsafeKeys.{is_fed_by_failsafe}
use Rattle.agent_model.specs.Pausing.{is_paused}
use Rattle.agent_model.specs.Peers.{awaits_others}
use Rattle.agent_model.specs.Planning.{leader_view}
use Rattle.agent_model.specs.Snapshots.{informed}
use Rattle.agent_model.specs.StayingPrimary.{awaits_lease, is_staying, may_stay, others_known, span_after}
use Rattle.agent_model.specs.Synchronous.{expected_of, sync_read_in, unnamed, waiting_for}
use Rattle.agent_roles.specs.Powers.{IsAwaitedLease, lease_of}
use Rattle.agent_rules.specs.OutOfReach.{HasNoAnswer, asks_to_lead}

-- the answer to the turn's read is heard, and its snapshot has no leader key
pub record HearsNoLeader (heard : Heard) : Type 0 where
  pub sequence : ℕ
  pub snapshot : SnapshotFacts
  pub is : heard ≡ heards.ReadAnswered sequence snapshot
  pub free : leader_in snapshot ≡ None

-- who asks for the leader key: a follower, or a holder whose server has ended, when its
-- turn reads that nobody leads, or when it judges what the others answered that it asked
-- then; in a pause also a primary that runs on without the key, when its turn reads so
pub data CreateGround (heard : Heard) (o : Outcome) : Type 0 where
  Finds : (free : HearsNoLeader heard) → (role : may_create o.role ≡ true) → CreateGround heard o
  Judges : (asked : awaits_others o.knows.waited ≡ true) → (role : may_create o.role ≡ true) → CreateGround heard o
  RunsOn : (free : HearsNoLeader heard) → (role : has_primary o.role ≡ true)
      → (paused : is_paused (informed free.snapshot o.knows) ≡ true) → CreateGround heard o

-- the server can begin to accept writes: it runs as a replica; or it is down, was a
-- primary, and since its crash less time has passed than the start of a primary may take
pub data CanBegin (now : Ticks) (knows : Knowledge) (server : ServerStatus) : Type 0 where
  Runs : (replica : server.state ≡ states.Replica) → CanBegin now knows server
  StartsAgain : (down : is_down server.state ≡ true) → (was_primary : server.was_primary ≡ true)
      → (soon : since_crash now knows.crashed < TICKS_OF_SECOND * knows.turn_settings.primary_start_timeout)
      → CanBegin now knows server

-- the sync key, if the turn read one, names the member; or a failover by hand names it
abbrev pub IsNamed : Knowledge → Type 0
IsNamed knows = (read : SyncRead) → knows.turn_sync ≡ Some read
    → (is_named knows.who.me read.key ≡ true) ⊎ (is_failover_to knows.who.me knows.turn_failover ≡ true)

-- a watchdog that is required has a device that works
abbrev pub WatchdogServes : WatchdogFacts → Type 0
WatchdogServes watchdog = watchdog.mode ≡ modes.Required → watchdog.works ≡ true

-- the grant of the leader key that a follower or a holder waited for lets it take the key of this
-- revision: no hold of its own is active, its server can begin, in synchronous mode the sync key doesn't
-- exclude it, its watchdog works if it is required, and the grant doesn't come too late for that. In a
-- pause an operator names it as candidate, and its server is a replica; the watchdog rests then
pub record TakeGround (now : Ticks) (heard : Heard) (o : Outcome) (revision : ℕ) : Type 0 where
  pub sequence : ℕ
  pub grant : Granted
  pub snapshot : SnapshotFacts
  pub is : heard ≡ heards.Granted sequence grant snapshot
  pub awaited : IsAwaitedLease sequence grant o.knows
  pub revision_is : grant.revision ≡ revision
  pub role : may_create o.role ≡ true
  pub free : is_hold_active now o.machine.hold ≡ false
  pub server : CanBegin now o.knows o.machine.server
  pub named : o.knows.turn_settings.synchronous_mode ≡ true → IsNamed o.knows
  pub guarded : is_paused (informed snapshot o.knows) ≡ false → WatchdogServes o.machine.watchdog
  pub in_time : is_paused (informed snapshot o.knows) ≡ false → comes_late now awaited.waited o.machine ≡ false
  pub wanted : is_paused (informed snapshot o.knows) ≡ true
      → (is_candidate o.knows.who.me o.knows.turn_failover ≡ true) × (o.machine.server.state ≡ states.Replica)

-- the grant of the write of the sync key that this question asked is heard, and waited for
pub record HearsOwnWrite (heard : Heard) (o : Outcome) (question : Question) : Type 0 where
  pub sequence : ℕ
  pub grant : Granted
  pub snapshot : SnapshotFacts
  pub is : heard ≡ heards.Granted sequence grant snapshot
  pub waited : PendingQuestion
  pub waits : o.knows.waited ≡ Some waited
  pub asks : waited.question ≡ question
  pub number : waited.sequence == sequence ≡ true
  pub mine : is_write_of o.knows.who.me grant ≡ true

-- who begins: who takes the leader key outside synchronous mode, and
-- who was ready to, on the grant of the claim that it waits for
pub data BeginGround (now : Ticks) (heard : Heard) (o : Outcome) : Type 0 where
  Takes : (revision : ℕ) → (takes : TakeGround now heard o revision)
      → (alone : o.knows.turn_settings.synchronous_mode ≡ false) → BeginGround now heard o
  WasReady : (claimed : HearsOwnWrite heard o Claiming) → (ready : is_ready o.role ≡ true) → BeginGround now heard o

-- what a repair needs of the server: a rewind, a log that diverged; a copy, that the server waits for one
abbrev pub NeedsRepair : Repair → ServerStatus → Type 0
NeedsRepair Rewind server = server.diverged ≡ true
NeedsRepair Clone server = server.state ≡ states.Creating

-- an operator asks that the member be initialized anew
abbrev pub IsReinit : Heard → Type 0
IsReinit (heards.Operated action) = action.asked ≡ requests.Reinit
IsReinit _ = ⊥

-- who asks for a renewal of this revision heard by the turn's read that the leader key is its own under that. A set for
-- the failsafe key goes with it only from a leader whose deadline, if there is one, acknowledgements didn't set last
pub record RenewGround (heard : Heard) (o : Outcome) (revision : ℕ) (carried : Option MemberSet) : Type 0 where
  pub sequence : ℕ
  pub snapshot : SnapshotFacts
  pub is : heard ≡ heards.ReadAnswered sequence snapshot
  pub leader : LeaderEntry
  pub leads : leader_in snapshot ≡ Some leader
  pub mine : leader.holder.number == o.knows.who.me.number ≡ true
  pub compared : leader.revision ≡ revision
  pub carries : (members : MemberSet) → carried ≡ Some members
      → (is_leader o.role ≡ true) × (is_fed_by_failsafe o.machine ≡ false)

-- a leader hears the grant of the lease that it waits for, under this revision and with this snapshot; there is
-- no pause, its turn read no failover key, and this is what that snapshot has it do next about its standbys
pub record PlanGround (now : Ticks) (heard : Heard) (o : Outcome) (revision : ℕ) (snapshot : SnapshotFacts)
    (plan : Plan) : Type 0 where
  pub sequence : ℕ
  pub grant : Granted
  pub is : heard ≡ heards.Granted sequence grant snapshot
  pub revision_is : grant.revision ≡ revision
  pub awaited : IsAwaitedLease sequence grant o.knows
  pub leads : is_leader o.role ≡ true
  pub unpaused : is_paused (informed snapshot o.knows) ≡ false
  pub alone : o.knows.turn_failover ≡ None
  pub planned : plan_of (leader_view now o.knows o.machine) snapshot ≡ plan

-- by this step of the plan the sync key comes to name these standbys
abbrev pub NamesByPlan : Plan → MemberSet → Type 0
NamesByPlan plans.Mark standbys = standbys ≡ nobody
NamesByPlan (plans.Withdraw wanted) standbys = standbys ≡ wanted
NamesByPlan (plans.Publish wanted) standbys = standbys ≡ wanted
NamesByPlan _ standbys = ⊥

-- a write of the sync key, or its removal, that the plan calls for, of the key as it was read last
pub record SyncGround (now : Ticks) (heard : Heard) (o : Outcome) (revision : ℕ) (sync : Expected)
    (Names : Plan → Type 0) : Type 0 where
  pub snapshot : SnapshotFacts
  pub plan : Plan
  pub ground : PlanGround now heard o revision snapshot plan
  pub names : Names plan
  pub compared : sync ≡ expected_of (sync_read_in snapshot)

-- by this step of the plan the sync key is removed: the synchronous mode is off
abbrev pub RemovesByPlan : Plan → Type 0
RemovesByPlan plans.SwitchOff = Unit {0}
RemovesByPlan _ = ⊥

-- by this step of the plan the required list becomes this, under these settings
abbrev pub RequiresByPlan : Config → Plan → Required → Type 0
RequiresByPlan settings (plans.AddRequired members) required = required ≡ AllOf members
RequiresByPlan settings (plans.DropRequired members) required = required ≡ waiting_for settings members
RequiresByPlan settings _ required = ⊥

-- a required list settles to this once the sync key is written, under these settings
abbrev pub SettlesTo : Config → Settling → Required → Type 0
SettlesTo settings KeepsList required = ⊥
SettlesTo settings (NamesStandbys standbys) required = required ≡ waiting_for settings standbys
SettlesTo settings ClearsList required = required ≡ Nobody

-- commits come to wait for others by a step of a leader's plan; once a write of the sync key
-- is granted that a leader waits for, as that was asked for; and where the server begins
pub data RequireGround (now : Ticks) (heard : Heard) (o : Outcome) (required : Required) : Type 0 where
  Plans : (revision : ℕ) → (snapshot : SnapshotFacts) → (plan : Plan)
      → (ground : PlanGround now heard o revision snapshot plan)
      → (requires : RequiresByPlan (settings_in o.knows.settings snapshot) plan required)
      → RequireGround now heard o required
  Settles : (settling : Settling) → (written : HearsOwnWrite heard o (Syncing settling))
      → (leads : is_leader o.role ≡ true)
      → (requires : SettlesTo (settings_in o.knows.settings written.snapshot) settling required)
      → RequireGround now heard o required
  Begins : (begins : BeginGround now heard o) → (requires : required ≡ unnamed o.knows.turn_settings)
      → RequireGround now heard o required

-- the grant of the lease that is waited for sets this deadline: now plus the timeout of the
-- watchdog over leases of the span that was asked for; and it doesn't come too late for that
pub record GrantDeadline (now : Ticks) (heard : Heard) (o : Outcome) (until : Ticks) : Type 0 where
  pub sequence : ℕ
  pub grant : Granted
  pub snapshot : SnapshotFacts
  pub is : heard ≡ heards.Granted sequence grant snapshot
  pub awaited : IsAwaitedLease sequence grant o.knows
  pub until_is : until ≡ span_after now (record {
    0 = timeout_of o.machine.watchdog.margin awaited.waited.ttl.0;
  })
  pub in_time : comes_late now awaited.waited o.machine ≡ false

-- a leader's read or renewal is unanswered when the time for that is over; it may ask the
-- others whether it may stay primary, or stay so where it knows no other
pub record StayGround (now : Ticks) (heard : Heard) (o : Outcome) : Type 0 where
  pub wakes : heard ≡ heards.Wake
  pub revision : ℕ
  pub out : HasNoAnswer asks_to_lead now revision o
  pub may : may_stay o.knows ≡ true

-- a failsafe request of this span to this member: to another one that a failsafe key listed
pub record FailsafeGround (now : Ticks) (heard : Heard) (o : Outcome) (to : MemberId) (ttl : Ticks) : Type 0 where
  pub stays : StayGround now heard o
  pub known : has (others_known o.knows) to.number ≡ true
  pub span : ttl ≡ lease_span o.knows.settings

-- a leader hears the acknowledgement of its failsafe request of this number which it waits for, and with
-- which each member that it asked, and these are they, has acknowledged; outside a pause it doesn't come too
-- late. The deadline is then now plus the timeout of the watchdog over leases of the span that was asked for
pub record WordGround (now : Ticks) (heard : Heard) (o : Outcome) (until : Ticks) (members : MemberSet)
    (sequence : ℕ) : Type 0 where
  pub from : MemberId
  pub sent : Ticks
  pub is : heard ≡ heards.FailsafeAnswered from sequence true sent
  pub leads : is_leader o.role ≡ true
  pub waited : PendingQuestion
  pub waits : o.knows.waited ≡ Some waited
  pub asks : is_staying waited.question ≡ true
  pub number : waited.sequence ≡ sequence
  pub members_are : members ≡ o.knows.failsafe.members
  pub each : (member : ℕ) → has members member ≡ true
      → (has o.knows.failsafe.acknowledged member ≡ true) ⊎ (member ≡ from.number)
  pub until_is : until ≡ span_after now (record { 0 = timeout_of o.machine.watchdog.margin waited.ttl.0 })
  pub in_time : is_paused o.knows ≡ false → comes_late now waited o.machine ≡ false

-- a leader that may stay primary knows no other member, so it asks none. The deadline is
-- then now plus the timeout of the watchdog over leases of its newest settings' span
pub record AloneGround (now : Ticks) (heard : Heard) (o : Outcome) (until : Ticks) (members : MemberSet) : Type 0 where
  pub stays : StayGround now heard o
  pub nobody : (others_known o.knows).bits ≡ 0
  pub members_are : members ≡ others_known o.knows
  pub until_is : until
      ≡ span_after now (record { 0 = timeout_of o.machine.watchdog.margin (lease_span o.knows.settings).0 })

-- an operator's request asks for a hold until this moment: another member's, by the REST interface
abbrev pub AsksHoldByAction : Ticks → OperatorRequest → Ticks → Type 0
AsksHoldByAction now (requests.Hold from ttl) until = until ≡ span_after now (record { 0 = ttl })
AsksHoldByAction now _ until = ⊥

-- another member asks for a hold until this moment, by a message or by the REST interface
abbrev pub AsksHold : Ticks → Heard → Ticks → Type 0
AsksHold now (heards.FailsafeAsked from incarnation sequence ttl) until = until ≡ span_after now ttl
AsksHold now (heards.Operated action) until = AsksHoldByAction now action.asked until
AsksHold now _ until = ⊥

-- who takes a hold: a follower whose server isn't live, that waits for no create and no renewal
pub record HoldGround (now : Ticks) (heard : Heard) (o : Outcome) (until : Ticks) : Type 0 where
  pub asked : AsksHold now heard until
  pub follows : o.role ≡ Follower
  pub ended : live o.machine.server.state ≡ false
  pub free : awaits_lease o.knows.waited ≡ false

-- what a request to the key store needs: a create, that nobody leads; a renewal, that this member does; a claim of
-- the sync key, as the turn read that, the leader key, in synchronous
-- mode; another write of it, that the plan calls for it
abbrev pub RequestGround : Ticks → Heard → Outcome → Txn → Type 0
RequestGround now heard o (txns.Lease (lease_txns.Create info ttl failsafe sync)) = CreateGround heard o
RequestGround now heard o (txns.Lease (lease_txns.Renew revision info ttl status row failsafe)) =
    RenewGround heard o revision failsafe
RequestGround now heard o (txns.Sync (sync_txns.Claim revision expected)) = TakeGround now heard o revision
    × (o.knows.turn_settings.synchronous_mode ≡ true) × (expected ≡ expected_of o.knows.turn_sync)
RequestGround now heard o (txns.Sync (sync_txns.SetSync revision sync standbys may_lack)) =
    SyncGround now heard o revision sync (λ plan. NamesByPlan plan standbys)
RequestGround now heard o (txns.Sync (sync_txns.DropSync revision sync)) =
    SyncGround now heard o revision (Revision sync) RemovesByPlan
RequestGround now heard o _ = Unit {0}

-- what a message to another member needs: a failsafe request, that its sender can't reach the key store
abbrev pub AskGround : Ticks → Heard → Outcome → MemberId → Body → Type 0
AskGround now heard o to (bodies.FailsafeRequest ttl) = FailsafeGround now heard o to ttl
AskGround now heard o to _ = Unit {0}

-- the ground of an output in an input that hears this, over what
-- precedes each input. A watchdog that is off or broken gets no deadline
abbrev pub HasGround : Ticks → Heard → Outcome → Output → Type 0
HasGround now heard o (outputs.Message (outgoing.Send targets.Store sequence (bodies.Request txn))) =
    RequestGround now heard o txn
HasGround now heard o (outputs.Message (outgoing.Send (targets.Member to) sequence body)) =
    AskGround now heard o to body
HasGround now heard o (outputs.Server orders.Begin) = BeginGround now heard o
HasGround now heard o (outputs.Require required) = RequireGround now heard o required
HasGround now heard o (outputs.Watchdog (feedings.Armed until)) =
    (is_armable o.machine.watchdog.mode o.machine.watchdog.works ≡ true)
    × GrantDeadline now heard o until
HasGround now heard o (outputs.Watchdog (feedings.Fed until)) =
    (is_armable o.machine.watchdog.mode o.machine.watchdog.works ≡ true)
    × GrantDeadline now heard o until
HasGround now heard o (outputs.Watchdog (feedings.FedByFailsafe until members sequence since)) =
    (is_armable o.machine.watchdog.mode o.machine.watchdog.works ≡ true)
    × (WordGround now heard o until members sequence ⊎ AloneGround now heard o until members)
HasGround now heard o (outputs.Tell (tellings.HoldTaken until from sequence)) = HoldGround now heard o until
HasGround now heard o (outputs.Server (orders.Repair leader repair)) =
    (live o.machine.server.state ≡ false) × NeedsRepair repair o.machine.server
HasGround now heard o (outputs.Server orders.Wipe) = IsReinit heard
HasGround now heard o _ = Unit {0}

-- a leader waits for the answers of the other members that failsafe keys listed, and
-- asked each of them in this input whether it may stay primary for the span of its leases
pub record AsksEachKnown (o after : Outcome) : Type 0 where
  pub waited : PendingQuestion
  pub waits : after.knows.waited ≡ Some waited
  pub asks : is_staying waited.question ≡ true
  pub later : o.knows.sequence < waited.sequence
  pub awaited : after.knows.failsafe.members ≡ others_known o.knows
  pub each : (member : MemberId) → has (others_known o.knows) member.number ≡ true
      → Contains after.outputs
      (outputs.Message (outgoing.Send (targets.Member member) waited.sequence
      (bodies.FailsafeRequest (lease_span o.knows.settings))))

-- an input has its grounds: each output does; the other members are waited for only since a turn read that nobody
-- leads; a leader that can't reach the key store and may stay primary asks each other member that failsafe keys
-- listed; a wipe leaves a live server alone; and behind the release of a lease the agent doesn't have it
pub record HasGrounds (now : Ticks) (heard : Heard) (o after : Outcome) : Type 0 where
  pub outputs_have : All (HasGround now heard o) after.outputs
  pub asks : awaits_others after.knows.waited ≡ true
      → (awaits_others o.knows.waited ≡ true) ⊎ (HearsNoLeader heard × (may_create o.role ≡ true))
  pub stays : StayGround now heard o → ((others_known o.knows).bits ≡ 0 → ⊥) → AsksEachKnown o after
  pub wipes : Contains after.outputs (outputs.Server orders.Wipe) → live o.machine.server.state ≡ true
      → after.machine.server ≡ o.machine.server
  pub releases : (sequence revision : ℕ)
      → Contains after.outputs
      (outputs.Message (outgoing.Send targets.Store sequence
      (bodies.Request (txns.Lease (lease_txns.Release revision)))))
      → lease_of after.role ≡ Some revision → ⊥
