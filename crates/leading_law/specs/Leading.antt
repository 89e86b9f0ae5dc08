-- A leader's turn that nothing disturbs.
use Rattle.std.specs.Prelude.{ℕ, ◌≡◌, ◌+◌, ◌⊎◌, true, false, List, [], ◌∷◌, Option, Some, None}
use Rattle.std.specs.Option.{ForSome}
use Rattle.pat_base.specs.declared.lsn.Lsn.{Lsn}
use Rattle.pat_base.specs.declared.member_set.MemberSet.{MemberSet}
use Rattle.pat_base.specs.declared.server_state.State.TheVariants as states
use Rattle.pat_base.specs.declared.ticks.Ticks.{Ticks}
use Rattle.pat_base.specs.declared.server_state.Required.{Required}
use Rattle.store_keys.specs.declared.config.Config.{Config}
use Rattle.store_keys.specs.declared.txn.Txn.{Txn}
use Rattle.store_keys.specs.declared.txn.Txn.TheVariants as txns
use Rattle.store_keys.specs.declared.txn.LeaseTxn.TheVariants as lease_txns
use Rattle.store_keys.specs.declared.txn.SyncTxn.TheVariants as sync_txns
use Rattle.store_keys.specs.declared.value.HistoryRow.{HistoryRow}
use Rattle.store_keys.specs.declared.value.MemberInfo.{MemberInfo}
use Rattle.cluster_view.specs.KeyValues.{failover_in}
use Rattle.cluster_view.specs.Snapshots.{SnapshotFacts, settings_in}
use Rattle.event_book.specs.declared.message.Body.TheVariants as bodies
use Rattle.leader_key.specs.Watchdog.{fed}
use Rattle.agent_model.specs.declared.heard.Heard.{Heard}
use Rattle.agent_model.specs.declared.heard.Heard.TheVariants as heards
use Rattle.agent_model.specs.declared.heard.Heard.TheVariants.{Wake}
use Rattle.agent_model.specs.declared.knowledge.PendingQuestion.{PendingQuestion}
use Rattle.agent_model.specs.declared.knowledge.Settling.{Settling}
use Rattle.agent_model.specs.declared.knowledge.Question.TheVariants.{Reading, Renewing, Syncing}
use Rattle.agent_model.specs.declared.output.Output.{Output}
use Rattle.agent_model.specs.declared.output.Output.TheVariants as outputs
use Rattle.agent_model.specs.declared.output.Outgoing.TheVariants as outgoing
use Rattle.agent_model.specs.declared.output.Telling.TheVariants as tellings
use Rattle.agent_model.specs.declared.output.Target.TheVariants as targets
use Rattle.agent_model.specs.Acting.{deadline_after, fed_until, lease_span, seconds_after}
use Rattle.agent_model.specs.Agents.{Leader, Outcome, is_leader}
use Rattle.agent_model.specs.Decisions.{asks_sync}
use Rattle.agent_model.specs.Outputs.{with_output}
use Rattle.agent_model.specs.Peers.{is_asking, is_checking}
use Rattle.agent_model.specs.StayingPrimary.{is_staying}
use Rattle.agent_model.specs.Snapshots.{turn_start}
use Rattle.agent_model.specs.Table.{prepared}

-- an operator is told something
abbrev pub IsTold : Output → Type 0
IsTold (outputs.Tell (tellings.Told request told)) = Unit {0}
IsTold _ = ⊥

-- nothing is done but that
abbrev pub AreTold : List Output → Type 0
AreTold [] = Unit {0}
AreTold (output ∷ more) = IsTold output × AreTold more

-- another member is answered; its failsafe request is refused
abbrev pub IsAnswer : Output → Type 0
IsAnswer (outputs.Message (outgoing.Answer to incarnation sequence answer)) = Unit {0}
IsAnswer (outputs.Message (outgoing.FailsafeAnswer to incarnation sequence accepted)) = accepted ≡ false
IsAnswer _ = ⊥

-- a write of the sync key
abbrev pub WritesSync : Txn → Type 0
WritesSync (txns.Sync (sync_txns.SetSync revision sync standbys quorum)) = Unit {0}
WritesSync (txns.Sync (sync_txns.DropSync revision sync)) = Unit {0}
WritesSync _ = ⊥

-- a step with its synchronous standbys, after these outputs: none, or its commits
-- wait for others, or it asks for a write of the sync key under the next number and waits for the answer
pub data StepsOnce (now : Ticks) (last : ℕ) (before : List Output) (after : Outcome) : Type 0 where
  Stays : (waits : after.knows.waited ≡ None) → (counted : after.knows.sequence ≡ last)
      → (outputs_are : after.outputs ≡ before) → StepsOnce now last before after
  Requires : (required : Required) → (waits : after.knows.waited ≡ None) → (counted : after.knows.sequence ≡ last)
      → (outputs_are : after.outputs ≡ with_output (outputs.Require required) before) → StepsOnce now last before after
  Writes : (waited : PendingQuestion) → (settling : Settling) → (txn : Txn) → (waits : after.knows.waited ≡ Some waited)
      → (asks : waited.question ≡ Syncing settling)
      → (until : waited.until ≡ seconds_after now after.knows.settings.retry_timeout)
      → (numbered : waited.sequence ≡ last + 1) → (counted : after.knows.sequence ≡ last + 1)
      → (writes : WritesSync txn)
      → (outputs_are : after.outputs
      ≡ with_output (outputs.Message (outgoing.Send targets.Store waited.sequence (bodies.Request txn))) before)
      → StepsOnce now last before after

-- an agent leads, and its server is the primary, up and running
pub record IsLeading (o : Outcome) : Type 0 where
  pub revision : ℕ
  pub role : o.role ≡ Leader revision
  pub primary : o.machine.server.state ≡ states.Primary

-- it leads on with its server as it was
pub record LeadsOn (o after : Outcome) : Type 0 where
  pub leads : is_leader after.role ≡ true
  pub server : after.machine.server ≡ o.machine.server

-- its turn begins: it reads the key store, and its next turn comes `loop_wait` later
pub record BeginsTurn (now : Ticks) (o after : Outcome) : Type 0 where
  pub on : LeadsOn o after
  pub machine : after.machine ≡ o.machine
  pub last : after.knows.last_turn ≡ Some now
  pub next : after.knows.next_turn ≡ seconds_after now o.knows.settings.loop_wait
  pub settings : after.knows.settings ≡ o.knows.settings
  pub operating : o.knows.operating ≡ None → after.knows.operating ≡ None
  pub waited : PendingQuestion
  pub waits : after.knows.waited ≡ Some waited
  pub numbered : waited.sequence ≡ o.knows.sequence + 1
  pub counted : after.knows.sequence ≡ o.knows.sequence + 1
  pub asks : waited.question ≡ Reading
  pub until : waited.until ≡ seconds_after now o.knows.settings.retry_timeout
  pub outputs_are : after.outputs
      ≡ with_output (outputs.Message (outgoing.Send targets.Store waited.sequence bodies.Read))
      (prepared now Wake o).outputs
  pub told : AreTold o.outputs → AreTold (prepared now Wake o).outputs

-- it found its key, and asks for the renewal of this revision, by the settings that it read
pub record AsksRenewal (now : Ticks) (snapshot : SnapshotFacts) (revision : ℕ) (o after : Outcome) : Type 0 where
  pub on : LeadsOn o after
  pub machine : after.machine ≡ o.machine
  pub next : after.knows.next_turn ≡ o.knows.next_turn
  pub settings : after.knows.settings ≡ settings_in o.knows.settings snapshot
  pub operating : o.knows.operating ≡ None → after.knows.operating ≡ None
  pub failover : after.knows.turn_failover ≡ failover_in snapshot
  pub waited : PendingQuestion
  pub waits : after.knows.waited ≡ Some waited
  pub numbered : waited.sequence ≡ o.knows.sequence + 1
  pub counted : after.knows.sequence ≡ o.knows.sequence + 1
  pub asks : waited.question ≡ Renewing
  pub until : waited.until ≡ seconds_after (turn_start now o.knows.last_turn) after.knows.settings.retry_timeout
  pub span : waited.ttl ≡ lease_span after.knows.settings
  pub sent : waited.sent ≡ now
  pub info : MemberInfo
  pub status : Option Lsn
  pub row : Option HistoryRow
  pub listed : Option MemberSet
  pub before : Outcome
  pub told : AreTold o.outputs → AreTold before.outputs
  pub outputs_are : after.outputs
      ≡ with_output (outputs.Message (outgoing.Send targets.Store waited.sequence
      (bodies.Request (txns.Lease (lease_txns.Renew revision info waited.ttl status row listed)))))
      before.outputs

-- its lease was renewed: its watchdog is fed for this span, and it waits for nothing but a write of the sync key
pub record IsRenewed (now ttl : Ticks) (revision : ℕ) (snapshot : SnapshotFacts) (o after : Outcome) : Type 0 where
  pub role : after.role ≡ Leader revision
  pub server : after.machine.server ≡ o.machine.server
  pub watchdog : after.machine.watchdog ≡ fed now.0 ttl.0 o.machine.watchdog
  pub next : after.knows.next_turn ≡ o.knows.next_turn
  pub settings : after.knows.settings ≡ settings_in o.knows.settings snapshot
  pub operating : after.knows.operating ≡ o.knows.operating
  pub syncs : ForSome after.knows.waited (λ waited. asks_sync waited.question ≡ true)
  pub steps : StepsOnce now o.knows.sequence (fed_until (deadline_after now ttl o.machine.watchdog) o.outputs) after

-- it answers, and nothing else changes
pub record AnswersAlone (o after : Outcome) : Type 0 where
  pub role : after.role ≡ o.role
  pub knows : after.knows ≡ o.knows
  pub machine : after.machine ≡ o.machine
  pub answer : Output
  pub answers : IsAnswer answer
  pub outputs_are : after.outputs ≡ with_output answer o.outputs

-- this answers the question of this number
abbrev pub AnswersNumber : ℕ → Heard → Type 0
AnswersNumber number (heards.ReadAnswered sequence snapshot) = sequence ≡ number
AnswersNumber number (heards.Granted sequence grant snapshot) = sequence ≡ number
AnswersNumber number (heards.Mismatch sequence key found) = sequence ≡ number
AnswersNumber number (heards.Answered sequence answer) = sequence ≡ number
AnswersNumber number (heards.FailsafeAnswered from sequence accepted sent) = sequence ≡ number
AnswersNumber number _ = ⊥

-- its write of the sync key is decided: it waits for nothing, goes by
-- these settings, and its commits may wait for others
pub record HasSynced (settings : Config) (o after : Outcome) : Type 0 where
  pub role : after.role ≡ o.role
  pub settings_are : after.knows.settings ≡ settings
  pub counted : after.knows.sequence ≡ o.knows.sequence
  pub operating : after.knows.operating ≡ o.knows.operating
  pub server : after.machine.server ≡ o.machine.server
  pub watchdog : after.machine.watchdog ≡ o.machine.watchdog
  pub next : after.knows.next_turn ≡ o.knows.next_turn
  pub waits : after.knows.waited ≡ None
  pub outputs_are : (after.outputs ≡ o.outputs)
      ⊎ ((required : Required) × (after.outputs ≡ with_output (outputs.Require required) o.outputs))

-- this answers a question to other members
abbrev pub IsPeerAnswer : Heard → Type 0
IsPeerAnswer (heards.Answered sequence answer) = Unit {0}
IsPeerAnswer (heards.FailsafeAnswered from sequence accepted sent) = Unit {0}
IsPeerAnswer _ = ⊥

-- what is waited for, if anything is, is no answer of other members
abbrev pub AwaitsNoPeer : Option PendingQuestion → Type 0
AwaitsNoPeer None = Unit {0}
AwaitsNoPeer (Some waited) = (is_asking waited.question ≡ false)
    × ((is_checking waited.question ≡ false) × (is_staying waited.question ≡ false))
