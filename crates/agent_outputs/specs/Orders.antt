-- What the outputs of an input, carried out in their order, make of a machine.
use Rattle.std.specs.Prelude.{◌≡◌, Bool, true, false, List, [], ◌∷◌, Some, All}
use Rattle.pat_base.specs.declared.ticks.Ticks.{Ticks}
use Rattle.pg_model.specs.Status.{status_replica_started, status_stopping, status_following, status_restarted, status_wiped}
use Rattle.event_book.specs.Members.{server_id_of}
use Rattle.event_book.specs.Watchdogs.{prolonged_to}
use Rattle.pg_model.specs.declared.status.ServerStatus.{ServerStatus}
use Rattle.agent_model.specs.declared.machine.Machine.{Machine}
use Rattle.agent_model.specs.declared.output.Output.{Output}
use Rattle.agent_model.specs.declared.output.Output.TheVariants as outputs
use Rattle.agent_model.specs.declared.output.Feeding.TheVariants as feedings
use Rattle.agent_model.specs.declared.output.Outgoing.TheVariants as outgoing
use Rattle.agent_model.specs.declared.output.ServerOrder.TheVariants as orders
use Rattle.agent_model.specs.declared.output.Telling.TheVariants as tellings
use Rattle.agent_model.specs.declared.output.Target.TheVariants as targets
use Rattle.agent_model.specs.Acting.{status_begun, upstream_of, without_deadline, with_required}
use Rattle.agent_model.specs.Agents.{Outcome}
use Rattle.agent_roles.specs.Asks.{IsAsk}

-- the machine with this server
abbrev pub with_server : ServerStatus → Machine → Machine
with_server server machine = record machine { server = server }

-- the machine with this deadline of its watchdog, which acknowledgements set or a grant
abbrev pub with_deadline : Ticks → Bool → Machine → Machine
with_deadline deadline by_failsafe machine =
    record machine { watchdog = record machine.watchdog { deadline = Some deadline }; by_failsafe = by_failsafe }

-- the machine once this output is carried out at this moment
abbrev pub machine_after_output : Ticks → Machine → Output → Machine
machine_after_output now machine (outputs.Server orders.Begin) = with_server (status_begun now machine.server) machine
machine_after_output now machine (outputs.Server (orders.StartReplica leader)) =
    with_server (status_replica_started now (upstream_of leader) machine.server) machine
machine_after_output now machine (outputs.Server (orders.Stop reason)) =
    with_server (status_stopping now machine.server) machine
machine_after_output now machine (outputs.Server orders.ShutDown) =
    with_server (status_stopping now machine.server) machine
machine_after_output now machine (outputs.Server (orders.Restart as_primary)) =
    with_server (status_restarted now machine.server) machine
machine_after_output now machine (outputs.Server orders.Wipe) = with_server (status_wiped machine.server) machine
machine_after_output now machine (outputs.Server (orders.Follow leader)) =
    with_server (status_following (server_id_of leader) machine.server) machine
machine_after_output now machine (outputs.Watchdog (feedings.Armed until)) = with_deadline until false machine
machine_after_output now machine (outputs.Watchdog (feedings.Fed until)) = with_deadline until false machine
machine_after_output now machine (outputs.Watchdog (feedings.FedByFailsafe until members sequence since)) =
    with_deadline until true machine
machine_after_output now machine (outputs.Watchdog feedings.Disarmed) = without_deadline machine
machine_after_output now machine (outputs.Require required) = with_required required machine
machine_after_output now machine (outputs.Tell (tellings.HoldTaken until from sequence)) =
    record machine { hold = prolonged_to until machine.hold }
machine_after_output now machine _ = machine

-- the machine once these outputs are carried out at this moment, in their order
abbrev pub machine_after_outputs : Ticks → Machine → List Output → Machine
machine_after_outputs now machine [] = machine
machine_after_outputs now machine (output ∷ later) =
    machine_after_outputs now (machine_after_output now machine output) later

-- an output that the table makes: of another member it only asks how far its server is, and whether it may stay primary
abbrev pub IsOfTable : Output → Type 0
IsOfTable (outputs.Message (outgoing.Send (targets.Member member) sequence body)) = IsAsk body
IsOfTable _ = Unit {0}

-- nothing comes behind this output, where a log is repaired by it
abbrev pub EndsRepairing : Output → List Output → Type 0
EndsRepairing (outputs.Server (orders.Repair leader repair)) later = later ≡ []
EndsRepairing _ later = Unit {0}

-- where a log is repaired by one of these outputs, that is the last one
abbrev pub RepairsLast : List Output → Type 0
RepairsLast [] = Unit {0}
RepairsLast (output ∷ later) = EndsRepairing output later × RepairsLast later

-- the machine that an input leaves is what its outputs, carried out in their order, make of the machine
-- before, but for a repair of its server's log, which comes last; and the table makes each of them
pub record IsCarriedOut (now : Ticks) (machine : Machine) (after : Outcome) : Type 0 where
  pub machine_is : after.machine ≡ machine_after_outputs now machine after.outputs
  pub kinds : All IsOfTable after.outputs
  pub last : RepairsLast after.outputs
