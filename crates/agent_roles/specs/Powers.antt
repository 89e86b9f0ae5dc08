-- What an agent has of the leader key, and what an input brings it of that.
use Rattle.std.specs.Prelude.{ℕ, ◌≡◌, ◌⊎◌, ◌&&◌, ◌||◌, not, Bool, true, false, Option, Some, None}
use Rattle.pat_base.specs.ServerState.{live}
use Rattle.pat_base.specs.declared.member_id.MemberId.{MemberId}
use Rattle.pat_base.specs.declared.ticks.Ticks.{Ticks}
use Rattle.store_keys.specs.declared.action.OperatorRequest.{OperatorRequest}
use Rattle.store_keys.specs.declared.action.OperatorRequest.TheVariants as requests
use Rattle.lease_store.specs.declared.granted.Granted.{Granted}
use Rattle.leader_key.specs.Watchdog.{fed, is_armable}
use Rattle.cluster_view.specs.Snapshots.{SnapshotFacts, failsafe_in}
use Rattle.agent_model.specs.declared.knowledge.Knowledge.{Knowledge}
use Rattle.agent_model.specs.declared.knowledge.PendingQuestion.{PendingQuestion}
use Rattle.event_book.specs.Watchdogs.{prolonged_to}
use Rattle.failsafe.specs.Asks.{heard, moment_of_all}
use Rattle.agent_model.specs.Acting.{comes_late, is_hold_active, is_refusing, lease_span}
use Rattle.agent_model.specs.Agents.{RoleFacts, Follower, Holder, Ready, Leader, Ending, Outcome, is_leader, is_ready}
use Rattle.agent_model.specs.Decisions.{is_decision, is_lease_of}
use Rattle.agent_model.specs.Outputs.{is_feeding, has_one}
use Rattle.agent_model.specs.Pausing.{is_paused}
use Rattle.agent_model.specs.Snapshots.{informed, known_with}
use Rattle.agent_model.specs.StayingPrimary.{awaits_lease, is_staying, may_stay, others_known, span_after}

-- the revision of the lease that an agent has
abbrev pub lease_of : RoleFacts → Option ℕ
lease_of (Holder revision) = Some revision
lease_of (Ready revision) = Some revision
lease_of (Leader revision) = Some revision
lease_of (Ending revision why) = Some revision
lease_of _ = None

-- an agent leads, or is about to
abbrev pub leads : RoleFacts → Bool
leads (Ready revision) = true
leads (Leader revision) = true
leads _ = false

-- the server accepts writes or will, or the agent is about to begin
abbrev pub Acts : Outcome → Type 0
Acts o = (live o.machine.server.state ≡ true) ⊎ (is_ready o.role ≡ true)

-- what comes of an input brings nothing: a server that is live after it was live before,
-- who leads or is about to after it did before, and a lease after it is the one before
pub record BringsNothing (o after : Outcome) : Type 0 where
  pub live : live after.machine.server.state ≡ true → live o.machine.server.state ≡ true
  pub leads : leads after.role ≡ true → leads o.role ≡ true
  pub ready : is_ready after.role ≡ true → is_ready o.role ≡ true
  pub lease : (revision : ℕ) → lease_of after.role ≡ Some revision → lease_of o.role ≡ Some revision

-- what an input without a grant may do to its watchdog: nothing; or its deadline is removed, where nobody acts after
-- it; or where an agent that was about to begin found its server live, which only an operator's promotion brings
pub data DeadlineMay (o after : Outcome) : Type 0 where
  Kept : (same : after.machine.watchdog ≡ o.machine.watchdog) → DeadlineMay o after
  Removed : (is : after.machine.watchdog ≡ record o.machine.watchdog { deadline = None })
      → (rests : Acts after → ⊥) → DeadlineMay o after
  Undone : (is : after.machine.watchdog ≡ record o.machine.watchdog { deadline = None })
      → (ready : is_ready o.role ≡ true) → (live : live o.machine.server.state ≡ true) → DeadlineMay o after

-- what an input without a grant may do to its machine beside its server
pub record LeavesMachine (o after : Outcome) : Type 0 where
  pub deadline : DeadlineMay o after
  pub basis : after.machine.by_failsafe ≡ o.machine.by_failsafe
  pub hold : after.machine.hold ≡ o.machine.hold

-- acknowledgements of these members feed the watchdog, over leases of this
-- span: a leader's, which leads on, and knows what it knew of failsafe keys
pub record IsFedByFailsafe (now ttl : Ticks) (o after : Outcome) : Type 0 where
  pub leader : is_leader o.role ≡ true
  pub leads : is_leader after.role ≡ true
  pub fed : after.machine.watchdog ≡ fed now.0 ttl.0 o.machine.watchdog
  pub basis : after.machine.by_failsafe
      ≡ (is_armable o.machine.watchdog.mode o.machine.watchdog.works || o.machine.by_failsafe)
  pub hold : after.machine.hold ≡ o.machine.hold
  pub known : after.knows.known ≡ o.knows.known
  pub informed : after.knows.informed ≡ o.knows.informed
  pub told : is_armable o.machine.watchdog.mode o.machine.watchdog.works ≡ true
      → has_one is_feeding after.outputs ≡ true

-- a leader that is out of the key store's reach has nobody to ask, and stays primary
pub record StaysAlone (now : Ticks) (o after : Outcome) : Type 0 where
  pub fed : IsFedByFailsafe now (lease_span o.knows.settings) o after
  pub may : may_stay o.knows ≡ true
  pub nobody : (others_known o.knows).bits ≡ 0

-- it stays primary, since each member that it asked acknowledged: the last of them by this message
pub record StaysByWord (now : Ticks) (from : MemberId) (sent : Ticks) (o after : Outcome) : Type 0 where
  pub waited : PendingQuestion
  pub is : o.knows.waited ≡ Some waited
  pub staying : is_staying waited.question ≡ true
  pub fed : IsFedByFailsafe now waited.ttl o after
  -- outside a pause it comes in time
  pub in_time : is_paused o.knows ≡ false → comes_late now waited o.machine ≡ false
  pub since : Ticks
  pub all : moment_of_all (heard o.knows.failsafe from true sent) ≡ Some since

-- a member acknowledges another one's failsafe request, and holds for its span
pub record Acknowledges (now ttl : Ticks) (o after : Outcome) : Type 0 where
  pub deadline : DeadlineMay o after
  pub basis : after.machine.by_failsafe ≡ o.machine.by_failsafe
  pub hold : after.machine.hold ≡ prolonged_to (span_after now ttl) o.machine.hold
  pub follower : after.role ≡ Follower
  pub waits : awaits_lease after.knows.waited ≡ false

-- so does one that another member asks by the REST interface; no other request has a member hold
abbrev pub AcknowledgesOperated : Ticks → OperatorRequest → Outcome → Outcome → Type 0
AcknowledgesOperated now (requests.Hold from ttl) o after = Acknowledges now (record { 0 = ttl }) o after
AcknowledgesOperated now _ o after = ⊥

-- the answer of this number grants this member the lease of the leader key that it waits for
pub record IsAwaitedLease (sequence : ℕ) (grant : Granted) (knows : Knowledge) : Type 0 where
  pub waited : PendingQuestion
  pub is : knows.waited ≡ Some waited
  pub decision : is_decision waited sequence ≡ true
  pub mine : is_lease_of knows.who.me grant ≡ true

-- what a granted request may bring an agent: nothing; or the lease of its revision, where it is waited for:
-- if it is heard in time, the watchdog is fed on it for the span that was asked for and an output tells that,
-- if this member needs one then with a device that works, and the members of the snapshot's failsafe key are
-- known. Who comes to act has no active hold. Heard too late it comes to a leader alone, whose watchdog keeps
-- its deadline. In a pause the lease comes with no deadline. Or an agent that was about to begin does so
pub data GrantMay (now : Ticks) (sequence : ℕ) (grant : Granted) (snapshot : SnapshotFacts) (o after : Outcome) : Type
    0 where
  Nothing : (brings : BringsNothing o after) → (deadline : DeadlineMay o after)
      → (basis : after.machine.by_failsafe ≡ o.machine.by_failsafe) → GrantMay now sequence grant snapshot o after
  Leads : (awaited : IsAwaitedLease sequence grant o.knows)
      → (in_time : comes_late now awaited.waited o.machine ≡ false)
      → (fed : after.machine.watchdog ≡ fed now.0 awaited.waited.ttl.0 o.machine.watchdog)
      → (basis : after.machine.by_failsafe
      ≡ (not (is_armable o.machine.watchdog.mode o.machine.watchdog.works) && o.machine.by_failsafe))
      → (lease : lease_of after.role ≡ Some grant.revision)
      → (parted : is_ready after.role ≡ true → live after.machine.server.state ≡ false)
      → (known : after.knows.known ≡ known_with o.knows.known (failsafe_in snapshot))
      → (told : is_armable o.machine.watchdog.mode o.machine.watchdog.works ≡ true →
      has_one is_feeding after.outputs ≡ true)
      → (free : Acts after → (live o.machine.server.state ≡ true) ⊎ (is_hold_active now o.machine.hold ≡ false))
      → (armed : Acts after →
      (live o.machine.server.state ≡ true) ⊎ (is_refusing o.machine.watchdog.mode o.machine.watchdog.works ≡ false))
      → GrantMay now sequence grant snapshot o after
  Keeps : (awaited : IsAwaitedLease sequence grant o.knows) → (late : comes_late now awaited.waited o.machine ≡ true)
      → (led : is_leader o.role ≡ true) → (same : after.machine.watchdog ≡ o.machine.watchdog)
      → (basis : after.machine.by_failsafe ≡ o.machine.by_failsafe)
      → (lease : lease_of after.role ≡ Some grant.revision) → (ready : is_ready after.role ≡ false)
      → (known : after.knows.known ≡ known_with o.knows.known (failsafe_in snapshot))
      → (lives : live after.machine.server.state ≡ true → live o.machine.server.state ≡ true)
      → GrantMay now sequence grant snapshot o after
  Rests : (paused : is_paused (informed snapshot o.knows) ≡ true) → (awaited : IsAwaitedLease sequence grant o.knows)
      → (rested : after.machine.watchdog ≡ record o.machine.watchdog { deadline = None })
      → (lease : lease_of after.role ≡ Some grant.revision)
      → (free : Acts after → (live o.machine.server.state ≡ true) ⊎ (is_hold_active now o.machine.hold ≡ false))
      → GrantMay now sequence grant snapshot o after
  Begins : (was_ready : is_ready o.role ≡ true) → (ready : is_ready after.role ≡ false)
      → (same : after.machine.watchdog ≡ o.machine.watchdog)
      → (basis : after.machine.by_failsafe ≡ o.machine.by_failsafe)
      → (lease : lease_of after.role ≡ lease_of o.role) → GrantMay now sequence grant snapshot o after
