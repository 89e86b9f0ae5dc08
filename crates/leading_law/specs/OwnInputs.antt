-- What an input of a leader leaves in the cluster: its agent, its
-- question in flight, its watchdog, and all else as it was.
use Rattle.std.specs.Prelude.{ℕ, ◌≡◌, ◌≢◌, ◌+◌, ◌≤◌, ◌<◌, Option, Some, None, length, option_map, slice_get}
use Rattle.pat_base.specs.declared.ticks.Ticks.{Ticks}
use Rattle.store_keys.specs.declared.config.Config.{Config}
use Rattle.store_keys.specs.declared.txn.Txn.{Txn}
use Rattle.store_keys.specs.declared.txn.Txn.TheVariants as txns
use Rattle.store_keys.specs.declared.txn.LeaseTxn.TheVariants as lease_txns
use Rattle.pg_model.specs.Facts.{ServerFacts}
use Rattle.event_book.specs.declared.agent_process.AgentProcess.{AgentProcess}
use Rattle.event_book.specs.declared.link.LinkEnd.TheVariants as ends
use Rattle.event_book.specs.declared.member.Member.{Member}
use Rattle.event_book.specs.declared.message.Body.{Body}
use Rattle.event_book.specs.declared.message.Body.TheVariants as bodies
use Rattle.event_book.specs.declared.message.Message.{Message}
use Rattle.event_book.specs.Flight.{InFlightFacts, in_flight}
use Rattle.cluster_view.specs.Snapshots.{SnapshotFacts}
use Rattle.agent_model.specs.declared.knowledge.PendingQuestion.{PendingQuestion}
use Rattle.agent_model.specs.declared.knowledge.Question.TheVariants.{Syncing}
use Rattle.agent_model.specs.declared.knowledge.Settling.{Settling}
use Rattle.agent_model.specs.Acting.{deadline_after, seconds_after}
use Rattle.agent_model.specs.Agents.{Outcome}
use Rattle.cluster_model.specs.Inputs.{agent_at, moment_of}
use Rattle.cluster_model.specs.Limits.{most_in_flight}
use Rattle.cluster_model.specs.Messages.{agent_message}
use Rattle.cluster_model.specs.State.{Cluster}
use Rattle.lease_book.specs.Flights.{Rises}
use Rattle.leading_law.specs.Leading.{AsksRenewal, BeginsTurn, HasSynced, IsRenewed, WritesSync}

-- fewer messages are in flight than may be
abbrev pub HasRoom : Cluster → Type 0
HasRoom cluster = length cluster.facts.flight < most_in_flight

-- the numbers of messages in flight rise, up to that of the last
pub record NumbersRise (cluster : Cluster) : Type 0 where
  pub order : Rises 0 cluster.facts.flight
  pub flown : (i : ℕ) (carried : InFlightFacts) → in_flight cluster.facts.flight i ≡ Some carried
      → i ≤ cluster.facts.sent

-- the key store, the members, the member's process and its hold are as
-- before, and its server is in the same state, at the same moment
pub record IsUntouched (n : ℕ) (before after : Cluster) : Type 0 where
  pub clock : after.facts.clock ≡ before.facts.clock
  pub keys : after.facts.keys ≡ before.facts.keys
  pub members : after.facts.members ≡ before.facts.members
  pub cuts : after.facts.cuts ≡ before.facts.cuts
  pub processes : after.facts.processes ≡ before.facts.processes
  pub hold : slice_get after.facts.holds n ≡ slice_get before.facts.holds n
  pub state : option_map (λ (s : ServerFacts). s.state) (slice_get after.facts.servers n)
      ≡ option_map (λ (s : ServerFacts). s.state) (slice_get before.facts.servers n)

-- so is its watchdog
pub record IsGuardedSo (n : ℕ) (before after : Cluster) : Type 0 where
  pub deadline : slice_get after.facts.deadlines n ≡ slice_get before.facts.deadlines n
  pub basis : slice_get after.failsafe_deadlines n ≡ slice_get before.failsafe_deadlines n

-- the agent of a member stands so
abbrev pub StandsSo : Member → Outcome → Cluster → Type 0
StandsSo member outcome cluster =
    agent_at cluster.agents member.id.number ≡ Some (record { role = outcome.role; knows = outcome.knows })

-- nothing is sent
pub record SendsNothing (before after : Cluster) : Type 0 where
  pub flight : after.facts.flight ≡ before.facts.flight
  pub sent : after.facts.sent ≡ before.facts.sent

-- one message is sent: this, under the next number and at this moment; all that was in flight before is so still
pub record SendsOne (message : Message) (before after : Cluster) : Type 0 where
  pub carried : InFlightFacts
  pub is : in_flight after.facts.flight (before.facts.sent + 1) ≡ Some carried
  pub message_is : carried.message ≡ message
  pub at : carried.sent.0 ≡ before.facts.clock
  pub others : (i : ℕ) → i ≢ before.facts.sent + 1 → in_flight after.facts.flight i ≡ in_flight before.facts.flight i
  pub sent : after.facts.sent ≡ before.facts.sent + 1

-- the agent of a member, which runs so, asks the key store this, and sends nothing else
abbrev pub AsksStore : Member → AgentProcess → ℕ → Body → Cluster → Cluster → Type 0
AsksStore member process sequence body before after =
    SendsOne (agent_message member ends.Store process.incarnation sequence body) before after

-- no question to the key store is sent and none of its answers, and all that was in flight before is so still
pub record AsksNothing (before after : Cluster) : Type 0 where
  pub others : (i : ℕ) → i ≢ before.facts.sent + 1 → in_flight after.facts.flight i ≡ in_flight before.facts.flight i
  pub answers : (carried : InFlightFacts) → in_flight after.facts.flight (before.facts.sent + 1) ≡ Some carried
      → (carried.message.to ≡ ends.Store → ⊥) × (carried.message.from ≡ ends.Store → ⊥)

-- the leader's turn begins: it asks to read the key store, and waits for the answer
pub record TakesTurn (member : Member) (process : AgentProcess) (o : Outcome) (before after : Cluster) : Type 0 where
  pub outcome : Outcome
  pub begins : BeginsTurn (moment_of before) o outcome
  pub agent : StandsSo member outcome after
  pub asks : AsksStore member process begins.waited.sequence bodies.Read before after
  pub untouched : IsUntouched member.id.number before after
  pub guards : IsGuardedSo member.id.number before after

-- it sleeps: nothing changes
pub record SleepsOn (member : Member) (o : Outcome) (before after : Cluster) : Type 0 where
  pub agent : StandsSo member o after
  pub silent : SendsNothing before after
  pub untouched : IsUntouched member.id.number before after
  pub guards : IsGuardedSo member.id.number before after

-- it found its key: it asks for the renewal of that revision, and waits for the answer
pub record GoesOn (member : Member) (process : AgentProcess) (snapshot : SnapshotFacts) (revision : ℕ)
    (o : Outcome) (before after : Cluster) : Type 0 where
  pub outcome : Outcome
  pub renews : AsksRenewal (moment_of before) snapshot revision o outcome
  pub agent : StandsSo member outcome after
  pub asks : AsksStore member process renews.waited.sequence
      (bodies.Request
      (txns.Lease (lease_txns.Renew revision renews.info renews.waited.ttl renews.status renews.row renews.listed)))
      before after
  pub untouched : IsUntouched member.id.number before after
  pub guards : IsGuardedSo member.id.number before after

-- the deadline of a watchdog that gets this one, if it gets one
abbrev pub deadline_fed : Option Ticks → Option (Option Ticks) → Option (Option Ticks)
deadline_fed None found = found
deadline_fed (Some until) found = option_map (λ (before : Option Ticks). Some until) found

-- it waits for nothing and sends nothing, or asks for a write of the sync key and waits for the answer
pub data SyncsAtMost (member : Member) (process : AgentProcess) (last : ℕ) (outcome : Outcome)
    (before after : Cluster) : Type 0 where
  Rests : (waits : outcome.knows.waited ≡ None) → (counted : outcome.knows.sequence ≡ last)
      → (silent : SendsNothing before after)
      → SyncsAtMost member process last outcome before after
  Syncs : (waited : PendingQuestion) → (settling : Settling) → (txn : Txn)
      → (waits : outcome.knows.waited ≡ Some waited)
      → (asks_it : waited.question ≡ Syncing settling)
      → (until : waited.until ≡ seconds_after (moment_of before) outcome.knows.settings.retry_timeout)
      → (numbered : waited.sequence ≡ last + 1) → (counted : outcome.knows.sequence ≡ last + 1)
      → (writes : WritesSync txn)
      → (asks : AsksStore member process waited.sequence (bodies.Request txn) before after)
      → SyncsAtMost member process last outcome before after

-- its lease is renewed: its watchdog is fed
pub record LeadsOnAt (member : Member) (process : AgentProcess) (ttl : Ticks) (revision : ℕ)
    (snapshot : SnapshotFacts) (o : Outcome) (before after : Cluster) : Type 0 where
  pub outcome : Outcome
  pub renewed : IsRenewed (moment_of before) ttl revision snapshot o outcome
  pub agent : StandsSo member outcome after
  pub syncs : SyncsAtMost member process o.knows.sequence outcome before after
  pub untouched : IsUntouched member.id.number before after
  pub deadline : slice_get after.facts.deadlines member.id.number
      ≡ deadline_fed (deadline_after (moment_of before) ttl o.machine.watchdog)
      (slice_get before.facts.deadlines member.id.number)

-- its write of the sync key is decided: it waits for nothing, and sends nothing
pub record HasSettled (member : Member) (settings : Config) (o : Outcome) (before after : Cluster) : Type 0 where
  pub outcome : Outcome
  pub settles : HasSynced settings o outcome
  pub agent : StandsSo member outcome after
  pub silent : SendsNothing before after
  pub untouched : IsUntouched member.id.number before after
  pub guards : IsGuardedSo member.id.number before after

-- it answers another member, and nothing else changes
pub record AnswersOnly (member : Member) (o : Outcome) (before after : Cluster) : Type 0 where
  pub agent : StandsSo member o after
  pub silent : AsksNothing before after
  pub untouched : IsUntouched member.id.number before after
  pub guards : IsGuardedSo member.id.number before after
