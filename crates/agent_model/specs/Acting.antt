-- What an agent does, of which the rows are made: messages, orders to its server, and its watchdog.
use Rattle.std.specs.Prelude.{ℕ, ◌+◌, ◌*◌, ◌&&◌, nat_lt, if◌then◌else◌, not, Bool, false, List, Option, Some, None}
use Rattle.pat_base.specs.declared.member_id.MemberId.{MemberId}
use Rattle.pat_base.specs.declared.server_id.ServerId.{ServerId}
use Rattle.pat_base.specs.declared.server_state.Required.{Required}
use Rattle.pat_base.specs.declared.ticks.Ticks.{Ticks}
use Rattle.store_keys.specs.declared.config.Config.{Config}
use Rattle.store_keys.specs.declared.txn.Txn.TheVariants as txns
use Rattle.store_keys.specs.declared.txn.LeaseTxn.TheVariants as lease_txns
use Rattle.pg_model.specs.declared.status.ServerStatus.{ServerStatus}
use Rattle.pg_model.specs.Status.{status_replica_started, status_primary_started, status_stopping, status_following, status_promoted}
use Rattle.event_book.specs.declared.message.Body.{Body}
use Rattle.event_book.specs.declared.message.Body.TheVariants as bodies
use Rattle.event_book.specs.declared.reason.Reason.{Reason}
use Rattle.event_book.specs.Members.{server_id_of}
use Rattle.leader_key.specs.declared.watchdog.Mode.{Mode}
use Rattle.leader_key.specs.declared.watchdog.Mode.TheVariants as modes
use Rattle.leader_key.specs.Watchdog.{WatchdogFacts, fed, is_armable, is_late, timeout_of}
use Rattle.agent_model.specs.declared.knowledge.Knowledge.{Knowledge}
use Rattle.agent_model.specs.declared.knowledge.Question.{Question}
use Rattle.agent_model.specs.declared.knowledge.PendingQuestion.{PendingQuestion}
use Rattle.agent_model.specs.declared.machine.Machine.{Machine}
use Rattle.agent_model.specs.declared.output.Output.{Output}
use Rattle.agent_model.specs.declared.output.Output.TheVariants as outputs
use Rattle.agent_model.specs.declared.output.Feeding.TheVariants as feedings
use Rattle.agent_model.specs.declared.output.Outgoing.TheVariants as outgoing
use Rattle.agent_model.specs.declared.output.ServerOrder.TheVariants as orders
use Rattle.agent_model.specs.declared.output.Target.TheVariants as targets
use Rattle.agent_model.specs.Agents.{Outcome}
use Rattle.agent_model.specs.Info.{info_of}
use Rattle.agent_model.specs.Outputs.{with_output}
use Rattle.pat_base.specs.declared.ticks.TheConstants.{TICKS_OF_SECOND}

-- so many seconds after a moment
abbrev pub seconds_after : Ticks → ℕ → Ticks
seconds_after moment seconds = record { 0 = moment.0 + TICKS_OF_SECOND * seconds }

-- the span of the leases that an agent asks for
abbrev pub lease_span : Config → Ticks
lease_span settings = record { 0 = TICKS_OF_SECOND * settings.ttl }

-- one more message of this incarnation
abbrev pub counted : Knowledge → Knowledge
counted knows = record knows { sequence = knows.sequence + 1 }

-- the agent sends this to the key store under the next number, and doesn't wait for the answer
abbrev pub sending : Body → Outcome → Outcome
sending body o = record o {
  knows = counted o.knows;
  outputs = with_output (outputs.Message (outgoing.Send targets.Store (o.knows.sequence + 1) body)) o.outputs;
}

-- the agent waits for the answer to its last question until a moment: what it asked for are leases of its settings'
-- span
abbrev pub waiting : Ticks → Question → Ticks → Knowledge → Knowledge
waiting now question until knows = record knows {
  waited = Some (record {
    question = question;
    sequence = knows.sequence;
    until = until;
    ttl = lease_span knows.settings;
    sent = now;
  });
}

-- the agent asks the key store, and waits for the answer until a moment
abbrev pub asking : Ticks → Question → Ticks → Body → Outcome → Outcome
asking now question until body o = record (sending body o) { knows = waiting now question until (counted o.knows) }

-- nothing is waited for any more
abbrev pub waiting_no_more : Outcome → Outcome
waiting_no_more o = record o { knows = record o.knows { waited = None } }

-- the agent tells of itself
abbrev pub touching : Outcome → Outcome
touching o =
    sending (bodies.Request (txns.Touch (info_of o.knows.who o.machine.server) (lease_span o.knows.settings))) o

-- the agent gives the leader key of this revision up
abbrev pub releasing : ℕ → Outcome → Outcome
releasing revision o = sending (bodies.Request (txns.Lease (lease_txns.Release revision))) o

-- the agent ends its server
abbrev pub ending_server : Ticks → Reason → Outcome → Outcome
ending_server now reason o = record o {
  machine = record o.machine { server = status_stopping now o.machine.server };
  outputs = with_output (outputs.Server (orders.Stop reason)) o.outputs;
}

-- the server shuts down
abbrev pub shutting_down : Ticks → Outcome → Outcome
shutting_down now o = record o {
  machine = record o.machine { server = status_stopping now o.machine.server };
  outputs = with_output (outputs.Server orders.ShutDown) o.outputs;
}

-- the server of this member, if one is named
abbrev pub upstream_of : Option MemberId → Option ServerId
upstream_of None = None
upstream_of (Some leader) = Some (server_id_of leader)

-- the server starts as a replica of this member's, or of none
abbrev pub starting_replica : Ticks → Option MemberId → Outcome → Outcome
starting_replica now leader o = record o {
  machine = record o.machine { server = status_replica_started now (upstream_of leader) o.machine.server };
  outputs = with_output (outputs.Server (orders.StartReplica leader)) o.outputs;
}

-- the server follows this member's
abbrev pub following_server : MemberId → Outcome → Outcome
following_server leader o = record o {
  machine = record o.machine { server = status_following (server_id_of leader) o.machine.server };
  outputs = with_output (outputs.Server (orders.Follow leader)) o.outputs;
}

-- a replica is promoted, and one that is down and was a primary starts as one again; another server stays as it is
abbrev pub status_begun : Ticks → ServerStatus → ServerStatus
status_begun now s = status_primary_started now (status_promoted s)

-- the server begins to accept writes, at once or when its start is complete
abbrev pub beginning : Ticks → Outcome → Outcome
beginning now o = record o {
  machine = record o.machine { server = status_begun now o.machine.server };
  outputs = with_output (outputs.Server orders.Begin) o.outputs;
}

-- the server's commits wait for these
abbrev pub with_required : Required → Machine → Machine
with_required required machine = record machine { replication = record machine.replication { required = required } }

-- the server's commits wait for these from now on
abbrev pub requiring : Required → Outcome → Outcome
requiring required o =
    record o { machine = with_required required o.machine; outputs = with_output (outputs.Require required) o.outputs }

-- the machine with no deadline of its watchdog
abbrev pub without_deadline : Machine → Machine
without_deadline machine = record machine { watchdog = record machine.watchdog { deadline = None } }

-- a deadline that is removed is told
abbrev pub disarmed : Option Ticks → List Output → List Output
disarmed None out = out
disarmed (Some deadline) out = with_output (outputs.Watchdog feedings.Disarmed) out

-- the watchdog has no deadline any more
abbrev pub disarming : Outcome → Outcome
disarming o =
    record o { machine = without_deadline o.machine; outputs = disarmed o.machine.watchdog.deadline o.outputs }

-- the new deadline of a watchdog that is fed at this moment, if it is used and its device works
abbrev pub deadline_after : Ticks → Ticks → WatchdogFacts → Option Ticks
deadline_after now ttl watchdog = if is_armable watchdog.mode watchdog.works
    then Some (record { 0 = now.0 + timeout_of watchdog.margin ttl.0 }) else None

-- the machine once a grant fed its watchdog, over leases of this span
abbrev pub with_feed : Ticks → Ticks → Machine → Machine
with_feed now ttl machine = record machine {
  watchdog = fed now.0 ttl.0 machine.watchdog;
  by_failsafe = not (is_armable machine.watchdog.mode machine.watchdog.works) && machine.by_failsafe;
}

-- whether the member needs a watchdog whose device doesn't work
abbrev pub is_refusing : Mode → Bool → Bool
is_refusing modes.Required works = not works
is_refusing _ works = false

-- a first deadline is told, if there is one
abbrev pub armed : Option Ticks → List Output → List Output
armed None out = out
armed (Some until) out = with_output (outputs.Watchdog (feedings.Armed until)) out

-- a new deadline is told, if there is one
abbrev pub fed_until : Option Ticks → List Output → List Output
fed_until None out = out
fed_until (Some until) out = with_output (outputs.Watchdog (feedings.Fed until)) out

-- the watchdog gets its first deadline, where it is used and its device works
abbrev pub arming : Ticks → Ticks → Outcome → Outcome
arming now ttl o = record o {
  machine = with_feed now ttl o.machine;
  outputs = armed (deadline_after now ttl o.machine.watchdog) o.outputs;
}

-- the watchdog gets a new deadline, where it is used and its device works
abbrev pub feeding : Ticks → Ticks → Outcome → Outcome
feeding now ttl o = record o {
  machine = with_feed now ttl o.machine;
  outputs = fed_until (deadline_after now ttl o.machine.watchdog) o.outputs;
}

-- an answer to what is waited for comes too late to arm or feed the watchdog
abbrev pub comes_late : Ticks → PendingQuestion → Machine → Bool
comes_late now waited machine = is_late machine.watchdog.margin now.0 waited.sent.0 waited.ttl.0

-- whether a hold is active
abbrev pub is_hold_active : Ticks → Option Ticks → Bool
is_hold_active now None = false
is_hold_active now (Some hold) = nat_lt now.0 hold.0
