-- How a member begins that has the leader key: in synchronous mode it
-- claims the sync key first (Patroni, "Replication modes").
use Rattle.std.specs.Prelude.{ℕ, if◌then◌else◌, Bool, true, false, List, Some, None}
use Rattle.pat_base.specs.declared.server_state.State.{State}
use Rattle.pat_base.specs.declared.server_state.State.TheVariants as states
use Rattle.pat_base.specs.declared.ticks.Ticks.{Ticks}
use Rattle.store_keys.specs.declared.txn.Txn.TheVariants as txns
use Rattle.store_keys.specs.declared.txn.SyncTxn.TheVariants as sync_txns
use Rattle.pg_model.specs.declared.status.ServerStatus.{ServerStatus}
use Rattle.event_book.specs.declared.agent_note.AgentNote.TheVariants as agent_notes
use Rattle.event_book.specs.declared.message.Body.TheVariants as bodies
use Rattle.agent_model.specs.declared.knowledge.Knowledge.{Knowledge}
use Rattle.agent_model.specs.declared.knowledge.Question.TheVariants.{Claiming}
use Rattle.agent_model.specs.declared.output.Output.{Output}
use Rattle.agent_model.specs.declared.output.Output.TheVariants as outputs
use Rattle.agent_model.specs.declared.output.Noting.TheVariants as notings
use Rattle.agent_model.specs.declared.output.Telling.TheVariants as tellings
use Rattle.agent_model.specs.Acting.{seconds_after, asking, disarming, beginning, requiring}
use Rattle.agent_model.specs.Agents.{RoleFacts, Holder, Ready, Leader, Outcome}
use Rattle.agent_model.specs.Outputs.{with_output}
use Rattle.agent_model.specs.Pausing.{is_paused, is_wanted_by}
use Rattle.agent_model.specs.Synchronous.{expected_of, is_named_if, unnamed}

-- the member begins: its commits wait for no named standby, and the server begins to accept writes
abbrev pub begins : Ticks → ℕ → Outcome → Outcome
begins now revision o = record (beginning now (requiring (unnamed o.knows.turn_settings) o)) {
  role = Leader revision;
  knows = record o.knows { begun = Some now; crashed = None };
}

-- the agent claims the sync key, as its turn read it, and is about to begin
abbrev pub claims : Ticks → ℕ → Outcome → Outcome
claims now revision o =
    record (asking now Claiming (seconds_after now o.knows.settings.retry_timeout)
    (bodies.Request (txns.Sync (sync_txns.Claim revision (expected_of o.knows.turn_sync)))) o) { role = Ready revision }

-- that the member leads though the sync key doesn't name it stands behind what it did so far
abbrev pub told_passing : Bool → List Output → List Output
told_passing true out = out
told_passing false out = with_output (outputs.Tell tellings.ClaimsOutsideSync) out

-- the member notes where the sync key, as its turn read it, doesn't name it: a failover by hand alone lets it lead then
abbrev pub passing : Outcome → Outcome
passing o = record o { outputs = told_passing (is_named_if o.knows.who.me o.knows.turn_sync) o.outputs }

-- an agent with an armed watchdog begins; in synchronous mode it claims the sync key first
abbrev pub begins_or_claims : Ticks → ℕ → Outcome → Outcome
begins_or_claims now revision o =
    if o.knows.turn_settings.synchronous_mode then claims now revision (passing o) else begins now revision o

-- the member keeps the leader key, and its promotion is postponed: what was armed is given up
abbrev pub postpones : ℕ → Outcome → Outcome
postpones revision o = let undone = disarming o in record undone {
  role = Holder revision;
  outputs = with_output (outputs.Note (notings.Agent agent_notes.PostponesPromotion)) undone.outputs;
}

-- a claim of the sync key fails: who is about to begin on it doesn't
abbrev pub claim_fails_as : RoleFacts → Outcome → Outcome
claim_fails_as (Ready revision) o = postpones revision o
claim_fails_as _ o = o

-- so it does for who claimed
abbrev pub claim_fails : Outcome → Outcome
claim_fails o = claim_fails_as o.role o

-- a server can begin on a granted claim, by its state: a replica, or one that is down and was a primary
abbrev pub can_begin_on_claim : Bool → State → Bool
can_begin_on_claim was_primary states.Replica = true
can_begin_on_claim was_primary states.Stopped = was_primary
can_begin_on_claim was_primary states.Crashed = was_primary
can_begin_on_claim was_primary _ = false

-- a member may begin on a granted claim, where its server still can; in a pause where an operator wants it to lead
abbrev pub may_begin_on_claim : Knowledge → ServerStatus → Bool
may_begin_on_claim knows server = if is_paused knows then is_wanted_by knows.who.me knows.seen server.state
    else can_begin_on_claim server.was_primary server.state

-- the claim is granted: the member begins, where it may
abbrev pub claim_granted : Ticks → ℕ → Outcome → Outcome
claim_granted now revision o =
    if may_begin_on_claim o.knows o.machine.server then begins now revision o else postpones revision o
