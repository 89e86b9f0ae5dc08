-- What an input of an agent asks, and what the agent waits for after it.
use Rattle.std.specs.Prelude.{ℕ, ◌≡◌, ◌≤◌, ◌<◌, true, List, Some, None, All}
use Rattle.pat_base.specs.declared.ticks.Ticks.{Ticks}
use Rattle.store_keys.specs.declared.txn.Txn.{Txn}
use Rattle.store_keys.specs.declared.txn.Txn.TheVariants as txns
use Rattle.store_keys.specs.declared.txn.SyncTxn.TheVariants as sync_txns
use Rattle.leader_key.specs.Watchdog.{IsLeaseSpan}
use Rattle.event_book.specs.declared.message.Body.{Body}
use Rattle.event_book.specs.declared.message.Body.TheVariants as bodies
use Rattle.agent_model.specs.declared.knowledge.Knowledge.{Knowledge}
use Rattle.agent_model.specs.declared.knowledge.Question.{Question}
use Rattle.agent_model.specs.declared.knowledge.Question.TheVariants.{Claiming, Syncing}
use Rattle.agent_model.specs.declared.knowledge.Settling.TheVariants.{KeepsList, NamesStandbys, ClearsList}
use Rattle.agent_model.specs.declared.knowledge.PendingQuestion.{PendingQuestion}
use Rattle.agent_model.specs.declared.output.Output.{Output}
use Rattle.agent_model.specs.declared.output.Output.TheVariants as outputs
use Rattle.agent_model.specs.declared.output.Outgoing.TheVariants as outgoing
use Rattle.agent_model.specs.declared.output.Target.{Target}
use Rattle.agent_model.specs.declared.output.Target.TheVariants as targets
use Rattle.agent_model.specs.Decisions.{asks_lease, asks_sync}
use Rattle.agent_roles.specs.Asks.{IsAsk, IsQuestion}
use Rattle.lease_model.specs.Past.{lease_span, query_of}

-- the span of the lease that a message asks for, in ticks; 0 where it asks for none
abbrev pub span_asked : Body → ℕ
span_asked (bodies.Request txn) = lease_span (query_of txn)
span_asked _ = 0

-- a question to whom it may be asked
abbrev pub IsAskedOf : Target → Body → Type 0
IsAskedOf targets.Store body = IsQuestion body
IsAskedOf (targets.Member member) body = IsAsk body

-- a message that is sent is a question under a number above the first of these and at most the second
abbrev pub SendsBetween : ℕ → ℕ → Output → Type 0
SendsBetween low high (outputs.Message (outgoing.Send to sequence body)) =
    (low < sequence) × (sequence ≤ high) × IsAskedOf to body
SendsBetween low high _ = Unit {0}

-- the question is put by this request: a claim, or a write of the sync
-- key that names the standbys to which the required list settles
abbrev pub IsPutBy : Question → Txn → Type 0
IsPutBy Claiming (txns.Sync (sync_txns.Claim revision sync)) = Unit {0}
IsPutBy (Syncing KeepsList) (txns.Sync (sync_txns.SetSync revision sync standbys may_lack)) = Unit {0}
IsPutBy (Syncing (NamesStandbys set)) (txns.Sync (sync_txns.SetSync revision sync standbys may_lack)) = standbys ≡ set
IsPutBy (Syncing ClearsList) (txns.Sync (sync_txns.DropSync revision sync)) = Unit {0}
IsPutBy _ _ = ⊥

-- the question is put by what a message says: by the request in it
abbrev pub IsPutByBody : Question → Body → Type 0
IsPutByBody question (bodies.Request txn) = IsPutBy question txn
IsPutByBody question _ = ⊥

-- a message says what is waited for: it asks for a lease of its span, or for that write of the sync key
pub record SaysWaited (waited : PendingQuestion) (body : Body) : Type 0 where
  pub lease : asks_lease waited.question ≡ true → span_asked body ≡ waited.ttl.0
  pub write : asks_sync waited.question ≡ true → IsPutByBody waited.question body

-- a message with the number of what is waited for says it
abbrev pub AsksFor : PendingQuestion → Output → Type 0
AsksFor waited (outputs.Message (outgoing.Send to sequence body)) = sequence ≡ waited.sequence → SaysWaited waited body
AsksFor waited _ = Unit {0}

-- what an agent that knew the first waits for when it knows the second, behind these
-- outputs of this moment: what it waited for, nothing, or what one of the outputs asks
pub data WaitsOn (now : Ticks) (known knows : Knowledge) (outs : List Output) : Type 0 where
  Same : (is : knows.waited ≡ known.waited) → WaitsOn now known knows outs
  Nothing : (is : knows.waited ≡ None) → WaitsOn now known knows outs
  New : (waited : PendingQuestion) → (is : knows.waited ≡ Some waited) → (later : known.sequence < waited.sequence)
      → (counted : waited.sequence ≤ knows.sequence) → (sent : waited.sent ≡ now) → (span : IsLeaseSpan waited.ttl.0)
      → (asks : All (AsksFor waited) outs) → WaitsOn now known knows outs

-- an input asks under new numbers: the agent goes on in its incarnation,
-- and waits for the same, for nothing, or for what it asks now
pub record AsksAnew (now : Ticks) (known knows : Knowledge) (outs : List Output) : Type 0 where
  pub who : knows.who ≡ known.who
  pub incarnation : knows.incarnation ≡ known.incarnation
  pub last : known.sequence ≤ knows.sequence
  pub sends : All (SendsBetween known.sequence knows.sequence) outs
  pub waits : WaitsOn now known knows outs
