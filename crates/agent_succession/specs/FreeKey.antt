-- What becomes of a free leader key: who asks for it, who asks the others first, and who stays out.
use Rattle.std.specs.Prelude.{ℕ, ◌≡◌, ◌+◌, ◌<◌, ◌==◌, nat_le, true, false, [], Some, None, Contains}
use Rattle.pat_base.specs.declared.member_id.MemberId.{MemberId}
use Rattle.pat_base.specs.declared.peer_answer.PeerAnswer.{PeerAnswer}
use Rattle.pat_base.specs.declared.ticks.Ticks.{Ticks}
use Rattle.pat_base.specs.declared.ineligibility.Ineligibility.{Ineligibility}
use Rattle.lease_store.specs.declared.granted.Granted.{Granted}
use Rattle.store_keys.specs.declared.txn.Txn.TheVariants as txns
use Rattle.store_keys.specs.declared.txn.LeaseTxn.TheVariants as lease_txns
use Rattle.store_keys.specs.declared.txn.SyncTxn.TheVariants as sync_txns
use Rattle.leader_race.specs.Eligibility.{eligibility_of}
use Rattle.leader_race.specs.Outcome.{outcome_by, race_keys_in}
use Rattle.event_book.specs.declared.agent_note.AgentNote.TheVariants as agent_notes
use Rattle.event_book.specs.declared.message.Body.TheVariants as bodies
use Rattle.cluster_view.specs.Snapshots.{IsRead, SnapshotFacts, leader_in, settings_in}
use Rattle.agent_model.specs.declared.heard.Heard.{Heard}
use Rattle.agent_model.specs.declared.heard.Heard.TheVariants.{Wake, ReadAnswered, Granted as HeardGranted, Answered}
use Rattle.agent_model.specs.declared.knowledge.Knowledge.{Knowledge}
use Rattle.agent_model.specs.declared.knowledge.Question.TheVariants.{ComparingPositions, Creating, Claiming}
use Rattle.agent_model.specs.declared.knowledge.PendingQuestion.{PendingQuestion}
use Rattle.agent_model.specs.declared.output.Output.TheVariants as outputs
use Rattle.agent_model.specs.declared.output.Noting.TheVariants as notings
use Rattle.agent_model.specs.declared.output.Outgoing.TheVariants as outgoing
use Rattle.agent_model.specs.declared.output.ServerOrder.TheVariants as orders
use Rattle.agent_model.specs.declared.output.Target.TheVariants as targets
use Rattle.agent_model.specs.Acting.{comes_late, is_refusing, lease_span, status_begun}
use Rattle.agent_model.specs.Agents.{Follower, Ready, Leader, Outcome}
use Rattle.agent_model.specs.Answers.{is_other, with_answer, asking_all, all_answered}
use Rattle.agent_model.specs.Claiming.{can_begin_on_claim}
use Rattle.agent_model.specs.Decisions.{may_create, may_take, is_write_of}
use Rattle.agent_model.specs.Info.{info_of}
use Rattle.agent_model.specs.Outputs.{with_output}
use Rattle.agent_model.specs.Pausing.{is_paused}
use Rattle.agent_model.specs.Peers.{is_asking, awaits_answer}
use Rattle.agent_roles.specs.Powers.{IsAwaitedLease}
use Rattle.agent_model.specs.FailsafeKeys.{failsafe_compared}
use Rattle.agent_model.specs.Racing.{answers_until, turn_keys}
use Rattle.agent_model.specs.Snapshots.{awaits_read, informed}
use Rattle.agent_model.specs.Synchronous.{expected_of}
use Rattle.agent_model.specs.Views.{shown}
use Rattle.agent_model.specs.Wake.{turned}

-- the answer to the read that an agent waits for tells that nobody leads, and the agent is a follower or a holder
pub record HearsFree (sequence : ℕ) (snapshot : SnapshotFacts) (o : Outcome) : Type 0 where
  pub awaited : awaits_read o.knows.waited sequence ≡ true
  pub free : leader_in snapshot ≡ None
  pub role : may_create o.role ≡ true

-- the agent tells what bars it, and tells of itself. That is all: it
-- has no lease, leaves its machine alone, and waits for nothing
pub record StaysOut (snapshot : SnapshotFacts) (bar : Ineligibility) (o after : Outcome) : Type 0 where
  pub role : after.role ≡ Follower
  pub machine : after.machine ≡ o.machine
  pub waits : after.knows.waited ≡ None
  pub outputs_are : after.outputs
      ≡ with_output (outputs.Message (outgoing.Send targets.Store (o.knows.sequence + 1)
      (bodies.Request (txns.Touch (info_of o.knows.who o.machine.server)
      (lease_span (settings_in o.knows.settings snapshot))))))
      (with_output (outputs.Note (notings.Agent (agent_notes.DoesNotRace bar))) o.outputs)

-- the agent asks for the leader key, with failsafe mode under the
-- failsafe key that its turn read, and waits for the answer
pub record AsksForKey (o after : Outcome) : Type 0 where
  pub waited : PendingQuestion
  pub waits : after.knows.waited ≡ Some waited
  pub asks : waited.question ≡ Creating
  pub outputs_are : after.outputs
      ≡ with_output (outputs.Message (outgoing.Send targets.Store waited.sequence
      (bodies.Request (txns.Lease (lease_txns.Create (info_of o.knows.who o.machine.server) waited.ttl
      (failsafe_compared after.knows) None)))))
      o.outputs

-- the agent asks each other member how far its server is, and nobody else, all under one new number. It waits
-- for the answers, of which it has none yet; the race is to be judged by the keys of the snapshot that it read
pub record AsksOthers (now : Ticks) (snapshot : SnapshotFacts) (o after : Outcome) : Type 0 where
  pub waited : PendingQuestion
  pub waits : after.knows.waited ≡ Some waited
  pub asks : waited.question ≡ ComparingPositions
  pub later : o.knows.sequence < waited.sequence
  pub until : waited.until ≡ answers_until now
  pub unheard : after.knows.answers ≡ []
  pub keys : IsRead snapshot.entries → turn_keys after.knows ≡ race_keys_in snapshot
  pub each : (member : MemberId) → is_other o.knows.who member ≡ true
      → Contains after.outputs (outputs.Message (outgoing.Send (targets.Member member) waited.sequence bodies.Ask))
  pub outputs_are : after.outputs ≡ asking_all o.knows.who waited.sequence o.outputs

-- the agent waits for the answers of the others
pub record AwaitsAnswers (waited : PendingQuestion) (o : Outcome) : Type 0 where
  pub waits : o.knows.waited ≡ Some waited
  pub asking : is_asking waited.question ≡ true
  pub role : may_create o.role ≡ true

-- this is the last answer that it waits for
pub record HearsLast (waited : PendingQuestion) (sequence : ℕ) (answer : PeerAnswer) (o : Outcome) : Type 0 where
  pub awaits : AwaitsAnswers waited o
  pub number : awaits_answer waited sequence ≡ true
  pub all : all_answered o.knows.who (with_answer answer o.knows.answers) ≡ true

-- the time for the answers that it waits for is over
pub record RunsLate (now : Ticks) (waited : PendingQuestion) (o : Outcome) : Type 0 where
  pub awaits : AwaitsAnswers waited o
  pub late : nat_le waited.until.0 now.0 ≡ true

-- the agent tells what bars it, and tells of itself. That is all: its
-- role stays, it leaves its machine alone, and waits for nothing
pub record LosesRace (bar : Ineligibility) (o after : Outcome) : Type 0 where
  pub role : after.role ≡ o.role
  pub machine : after.machine ≡ o.machine
  pub waits : after.knows.waited ≡ None
  pub outputs_are : after.outputs
      ≡ with_output (outputs.Message (outgoing.Send targets.Store (o.knows.sequence + 1)
      (bodies.Request (txns.Touch (info_of o.knows.who o.machine.server) (lease_span o.knows.settings)))))
      (with_output (outputs.Note (notings.Agent (agent_notes.DoesNotRace bar))) o.outputs)

-- it loses the race, and then a turn begins that is due
pub record LosesAndTurns (now : Ticks) (bar : Ineligibility) (o after : Outcome) : Type 0 where
  pub lost : Outcome
  pub loses : LosesRace bar o lost
  pub turns : after ≡ turned now lost

-- an input that finds the leader key free, behind what precedes it: a member that nothing bars
-- asks each other one how far its server is, and where there is no other asks for the key
abbrev pub AsksWhereFree : Ticks → Heard → Outcome → Outcome → Type 0
AsksWhereFree now (ReadAnswered sequence snapshot) o after =
    HearsFree sequence snapshot o → eligibility_of (shown now o) snapshot ≡ None
    → (all_answered o.knows.who [] ≡ false → AsksOthers now snapshot o after)
    × (all_answered o.knows.who [] ≡ true → AsksForKey o after)
AsksWhereFree now _ o after = Unit {0}

-- an input that judges a race, since the last answer came or the time for them is over: who
-- wins asks for the key. It is judged by what the turn that asked read of the key store
abbrev pub AsksWhereWon : Ticks → Heard → Outcome → Outcome → Type 0
AsksWhereWon now (Answered sequence answer) o after = (waited : PendingQuestion) → HearsLast waited sequence answer o
    → outcome_by (shown now o) (turn_keys o.knows) (with_answer answer o.knows.answers) ≡ None → AsksForKey o after
AsksWhereWon now Wake o after = (waited : PendingQuestion) → RunsLate now waited o
    → outcome_by (shown now o) (turn_keys o.knows) o.knows.answers ≡ None → AsksForKey o after
AsksWhereWon now _ o after = Unit {0}

-- the agent leads by the lease of this revision, and its server begins
-- to accept writes, at once or when its start is complete
pub record BeginsOn (now : Ticks) (revision : ℕ) (o after : Outcome) : Type 0 where
  pub role : after.role ≡ Leader revision
  pub server : after.machine.server ≡ status_begun now o.machine.server
  pub begins : Contains after.outputs (outputs.Server orders.Begin)

-- the agent is about to begin, over its server as it was: it claims
-- the sync key as its turn read it, and waits for the answer
pub record ClaimsOn (revision : ℕ) (o after : Outcome) : Type 0 where
  pub role : after.role ≡ Ready revision
  pub server : after.machine.server ≡ o.machine.server
  pub waited : PendingQuestion
  pub waits : after.knows.waited ≡ Some waited
  pub asks : waited.question ≡ Claiming
  pub claims : Contains after.outputs
      (outputs.Message (outgoing.Send targets.Store waited.sequence
      (bodies.Request (txns.Sync (sync_txns.Claim revision (expected_of o.knows.turn_sync))))))

-- the answer of this number grants this member the claim that it waits for
pub record IsAwaitedClaim (sequence : ℕ) (grant : Granted) (knows : Knowledge) : Type 0 where
  pub waited : PendingQuestion
  pub is : knows.waited ≡ Some waited
  pub asks : waited.question ≡ Claiming
  pub number : waited.sequence == sequence ≡ true
  pub mine : is_write_of knows.who.me grant ≡ true

-- an input that hears, outside a pause, the grant of the leader key that it waits for: who may take it, hears of it
-- in time for its watchdog, and whose watchdog can be armed or isn't needed, begins, or in synchronous mode claims
-- the sync key. One that hears the grant of that claim: who is about to begin begins, where its server still can
abbrev pub BeginsWhereGranted : Ticks → Heard → Outcome → Outcome → Type 0
BeginsWhereGranted now (HeardGranted sequence grant snapshot) o after =
    (is_paused (informed snapshot o.knows) ≡ false → (awaited : IsAwaitedLease sequence grant o.knows) →
    comes_late now awaited.waited o.machine ≡ false → may_create o.role ≡ true →
    may_take now (informed snapshot o.knows) o.machine ≡ true →
    is_refusing o.machine.watchdog.mode o.machine.watchdog.works ≡ false
    → (o.knows.turn_settings.synchronous_mode ≡ false → BeginsOn now grant.revision o after) ×
    (o.knows.turn_settings.synchronous_mode ≡ true → ClaimsOn grant.revision o after))
    × ((revision : ℕ) → is_paused (informed snapshot o.knows) ≡ false → IsAwaitedClaim sequence grant o.knows →
    o.role ≡ Ready revision → can_begin_on_claim o.machine.server.was_primary o.machine.server.state ≡ true →
    BeginsOn now revision o after)
BeginsWhereGranted now _ o after = Unit {0}
