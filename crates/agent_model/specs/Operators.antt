-- What an agent does for operators, and what it answers them (Patroni's documentation of the REST API).
use Rattle.std.specs.Prelude.{ℕ, ◌+◌, ◌==◌, ◌&&◌, nat_le, if◌then◌else◌, not, Bool, false, is_none, List, Option, Some, None, option_map, slice_get}
use Rattle.pat_base.specs.declared.host.Host.{Host}
use Rattle.pat_base.specs.declared.member_id.MemberId.{MemberId}
use Rattle.pat_base.specs.declared.name.Name.{Name}
use Rattle.pat_base.specs.declared.ticks.Ticks.{Ticks}
use Rattle.store_keys.specs.declared.action.FailoverKind.{FailoverKind}
use Rattle.store_keys.specs.declared.action.FailoverKind.TheVariants as kinds
use Rattle.store_keys.specs.declared.action.OperatorRequest.{OperatorRequest}
use Rattle.store_keys.specs.declared.action.OperatorRequest.TheVariants as requests
use Rattle.store_keys.specs.declared.config.Config.{Config}
use Rattle.lease_store.specs.declared.granted.Granted.{Granted}
use Rattle.store_keys.specs.declared.key.Key.TheVariants as keys
use Rattle.store_keys.specs.declared.txn.Txn.TheVariants as txns
use Rattle.store_keys.specs.declared.txn.OperatorTxn.TheVariants as operator_txns
use Rattle.store_keys.specs.declared.value.FailoverKey.{FailoverKey}
use Rattle.store_keys.specs.declared.value.KeyEntry.{KeyEntry}
use Rattle.pg_model.specs.Running.{is_primary}
use Rattle.pg_model.specs.Status.{status_restarted, status_wiped}
use Rattle.cluster_view.specs.declared.snapshot.LeaderEntry.{LeaderEntry}
use Rattle.cluster_view.specs.KeyValues.{failover_in}
use Rattle.cluster_view.specs.Naming.{is_member}
use Rattle.cluster_view.specs.Snapshots.{SnapshotFacts, entry_in, leader_in}
use Rattle.operator_answers.specs.declared.answer_text.Text.{Text}
use Rattle.operator_answers.specs.declared.answer_text.Text.TheVariants as texts
use Rattle.operator_answers.specs.Statuses.{ok, conflict, internal_server_error, service_unavailable}
use Rattle.failsafe.specs.Holding.{may_hold}
use Rattle.event_book.specs.declared.message.Body.{Body}
use Rattle.event_book.specs.declared.message.Body.TheVariants as bodies
use Rattle.agent_model.specs.declared.knowledge.Knowledge.{Knowledge}
use Rattle.agent_model.specs.declared.knowledge.PendingQuestion.{PendingQuestion}
use Rattle.agent_model.specs.declared.operating.Operating.{Operating}
use Rattle.agent_model.specs.declared.operating.Operation.{Operation}
use Rattle.agent_model.specs.declared.operating.Operation.TheVariants.{FailingOver, Configuring}
use Rattle.agent_model.specs.declared.operating.Told.{Told}
use Rattle.agent_model.specs.declared.operating.Told.TheVariants as tolds
use Rattle.agent_model.specs.declared.output.Output.TheVariants as outputs
use Rattle.agent_model.specs.declared.output.ServerOrder.TheVariants as orders
use Rattle.agent_model.specs.declared.output.Telling.TheVariants as tellings
use Rattle.agent_model.specs.Acting.{seconds_after, lease_span, counted, sending}
use Rattle.agent_model.specs.Agents.{Outcome}
use Rattle.agent_model.specs.Decisions.{is_write_of}
use Rattle.agent_model.specs.Outputs.{with_output}
use Rattle.agent_model.specs.Snapshots.{informed, is_active, awaits_read}
use Rattle.agent_model.specs.StayingPrimary.{awaits_lease, holding_for}
use Rattle.agent_model.specs.Views.{shown}

-- for so many ticks an operator waits for what comes of a switchover or a failover
abbrev pub most_operator_ticks : ℕ
most_operator_ticks = 600

-- the agent answers the operator's request of this number
abbrev pub telling : ℕ → Told → Outcome → Outcome
telling request told o = record o { outputs = with_output (outputs.Tell (tellings.Told request told)) o.outputs }

-- it answers the request that waits, which waits no more
abbrev pub answering : ℕ → Told → Outcome → Outcome
answering request told o = telling request told (record o { knows = record o.knows { operating = None } })

-- the same, if there is an answer yet
abbrev pub answering_if : ℕ → Option Told → Outcome → Outcome
answering_if request None o = o
answering_if request (Some told) o = answering request told o

-- who leads by a snapshot, if anybody does
abbrev pub holder_in : SnapshotFacts → Option MemberId
holder_in snapshot = option_map (λ (leader : LeaderEntry). leader.holder) (leader_in snapshot)

-- the same of a snapshot that may be absent
abbrev pub holder_if : Option SnapshotFacts → Option MemberId
holder_if None = None
holder_if (Some snapshot) = holder_in snapshot

-- the agent owes the answer to a request, for which it asked its last question
abbrev pub owing : Ticks → ℕ → Operation → Knowledge → Knowledge
owing now request operation knows = record knows {
  operating = Some (record {
    request = request;
    operation = operation;
    sequence = knows.sequence;
    since = now;
    leader = holder_if knows.seen;
  });
}

-- the agent asks the key store for what the operator wants, and owes the answer
abbrev pub operating : Ticks → ℕ → Operation → Body → Outcome → Outcome
operating now request operation body o =
    record (sending body o) { knows = owing now request operation (counted o.knows) }

-- the revision under which an entry was written, if it is there; 0 is no entry's
abbrev pub revision_of_entry : Option KeyEntry → ℕ
revision_of_entry None = 0
revision_of_entry (Some found) = found.revision

-- the revision of the configuration that was read last; 0 where none was
abbrev pub config_revision : Option SnapshotFacts → ℕ
config_revision None = 0
config_revision (Some snapshot) = revision_of_entry (entry_in keys.Config snapshot)

-- the server starts again in its role: the time that a start may take counts from now on
abbrev pub restarting : Ticks → Outcome → Outcome
restarting now o = record o {
  knows = record o.knows { begun = Some now };
  machine = record o.machine { server = status_restarted now o.machine.server };
  outputs = with_output (outputs.Server (orders.Restart (is_primary o.machine.server.state))) o.outputs;
}

-- the server is wiped, and waits for a copy
abbrev pub wiping : Outcome → Outcome
wiping o = record o {
  machine = record o.machine { server = status_wiped o.machine.server };
  outputs = with_output (outputs.Server orders.Wipe) o.outputs;
}

-- the number of a failsafe request that no message brings: those of messages are counted from 1
abbrev pub unnumbered : ℕ
unnumbered = 0

-- a member that another one asks to let it stay primary for this span acknowledges,
-- where it may, and holds: of its own accord, as no message has it do so
abbrev pub asked_to_hold : Ticks → ℕ → Ticks → Outcome → Outcome
asked_to_hold now request ttl o =
    if may_hold (shown now o) (awaits_lease o.knows.waited)
    then telling request (tolds.Text ok texts.Accepted) (holding_for now o.knows.who.me unnumbered ttl o)
    else telling request (tolds.Text internal_server_error texts.Refused) o

-- what an agent does on a request of this number, which passed its checks
abbrev pub operated : Ticks → ℕ → OperatorRequest → Outcome → Outcome
operated now request (requests.Failover kind failover) o = operating now request (FailingOver kind)
    (bodies.Request (txns.Operators (operator_txns.SetFailover failover (lease_span o.knows.settings)))) o
operated now request (requests.Configuration config) o =
    operating now request Configuring
    (bodies.Request (txns.Operators (operator_txns.SetConfig (config_revision o.knows.seen) config))) o
operated now request requests.Restart o = telling request (tolds.Text ok texts.Restarted) (restarting now o)
operated now request requests.Reinit o = telling request (tolds.Text ok texts.ReinitializeStarted) (wiping o)
operated now request (requests.Hold from ttl) o = asked_to_hold now request (record { 0 = ttl }) o

-- the words for a switchover or a failover to this member that is done
abbrev pub done_text : FailoverKind → Name → Text
done_text kinds.Switchover name = texts.SwitchedOver name
done_text kinds.Failover name = texts.FailedOver name

-- the words for one that failed
abbrev pub failed_text : FailoverKind → Text
failed_text kinds.Switchover = texts.SwitchoverFailed
failed_text kinds.Failover = texts.FailoverFailed

-- the name of the member of this number, where the cluster has one
abbrev pub name_in : List (Name × Host) → Option MemberId → Option Name
name_in members None = None
name_in members (Some member) = option_map (λ (known : Name × Host). known.0) (slice_get members member.number)

-- two name the same member, or nobody
abbrev pub is_same_member : Option MemberId → Option MemberId → Bool
is_same_member None other = is_none other
is_same_member (Some member) other = is_member member other

-- another member leads, of this name
abbrev pub done_by : FailoverKind → Option Name → Option Told
done_by kind name = option_map (λ new. tolds.Text ok (done_text kind new)) name

-- nobody is to lead in the leader's place any more
abbrev pub failed_by : FailoverKind → Option FailoverKey → Option Told
failed_by kind None = Some (tolds.Text service_unavailable (failed_text kind))
failed_by kind (Some failover) = None

-- what a snapshot tells of a switchover or a failover before which this one led: it is done where another
-- member leads, and failed where the same one leads, or nobody as before, and there is no failover key any more
abbrev pub failover_result : FailoverKind → Option MemberId → SnapshotFacts → Option Told
failover_result kind was snapshot =
    if is_same_member was (holder_in snapshot) then failed_by kind (failover_in snapshot)
    else done_by kind (name_in snapshot.members (holder_in snapshot))

-- what a snapshot tells of what was asked for, before which this one led
abbrev pub result_as : Operation → Option MemberId → SnapshotFacts → Option Told
result_as (FailingOver kind) was snapshot = failover_result kind was snapshot
result_as Configuring was snapshot = None

-- a snapshot answers the request that waits, if it tells what came of it
abbrev pub looked_by : Option Operating → SnapshotFacts → Outcome → Outcome
looked_by None snapshot o = o
looked_by (Some waiting) snapshot o =
    answering_if waiting.request (result_as waiting.operation waiting.leader snapshot) o

-- this is the answer to the read that the agent waits for, in a role that reads
abbrev pub uses_read : ℕ → Outcome → Bool
uses_read sequence o = awaits_read o.knows.waited sequence && is_active o.role

-- a read is looked at for a request that waits, before anything else
abbrev pub looked : ℕ → SnapshotFacts → Outcome → Outcome
looked sequence snapshot o = if uses_read sequence o then looked_by o.knows.operating snapshot o else o

-- until when an operator waits at most that asked for this at this moment
abbrev pub operator_until : Config → Operation → Ticks → Ticks
operator_until settings (FailingOver kind) since = record { 0 = since.0 + most_operator_ticks }
operator_until settings Configuring since = seconds_after since settings.retry_timeout

-- what it is answered then
abbrev pub late_answer : Operation → Told
late_answer (FailingOver kind) = tolds.Text service_unavailable texts.NoResultInTime
late_answer Configuring = tolds.Text service_unavailable texts.ConfigurationNotWritten

-- a request whose time is over is answered so
abbrev pub given_up_by : Ticks → Option Operating → Outcome → Outcome
given_up_by now None o = o
given_up_by now (Some waiting) o = if nat_le (operator_until o.knows.settings waiting.operation waiting.since).0 now.0
    then answering waiting.request (late_answer waiting.operation) o else o

-- so is the one that waits
abbrev pub given_up : Ticks → Outcome → Outcome
given_up now o = given_up_by now o.knows.operating o

-- a snapshot is the newest, and what is waited for besides stays
abbrev pub learned : SnapshotFacts → Outcome → Outcome
learned snapshot o = record o { knows = record (informed snapshot o.knows) { waited = o.knows.waited } }

-- a grant answers who asked for a configuration; another leader is to come of it first
abbrev pub granted_as : Operation → ℕ → Outcome → Outcome
granted_as (FailingOver kind) request o = o
granted_as Configuring request o = answering request tolds.Written o

-- the request that waits asked this question of the key store
abbrev pub is_asked_for : Option Operating → ℕ → Bool
is_asked_for None sequence = false
is_asked_for (Some waiting) sequence = waiting.sequence == sequence

-- the agent itself waits for the answer of this number
abbrev pub awaits_number : Option PendingQuestion → ℕ → Bool
awaits_number None sequence = false
awaits_number (Some waited) sequence = waited.sequence == sequence

-- the answer of this number is waited for by an operator, and not by the agent itself
abbrev pub operates : Knowledge → ℕ → Bool
operates knows sequence = is_asked_for knows.operating sequence && not (awaits_number knows.waited sequence)

-- the grant is that of what an operator wants
abbrev pub grants_operator : ℕ → Granted → Knowledge → Bool
grants_operator sequence grant knows = operates knows sequence && is_write_of knows.who.me grant

-- the key store granted what an operator wants
abbrev pub operator_granted : SnapshotFacts → Option Operating → Outcome → Outcome
operator_granted snapshot None o = o
operator_granted snapshot (Some waiting) o = granted_as waiting.operation waiting.request (learned snapshot o)

-- what an operator is answered whose wish the key store refused
abbrev pub refusal_of : Operation → Told
refusal_of (FailingOver kind) = tolds.Text service_unavailable texts.AnotherUnderWay
refusal_of Configuring = tolds.Text conflict texts.ConfigurationNotWritten

-- the key store refused what an operator wants
abbrev pub operator_refused : Option Operating → Outcome → Outcome
operator_refused None o = o
operator_refused (Some waiting) o = answering waiting.request (refusal_of waiting.operation) o
