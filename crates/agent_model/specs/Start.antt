-- The start of an agent.
use Rattle.std.specs.Prelude.{if◌then◌else◌}
use Rattle.pat_base.specs.ServerState.{live}
use Rattle.agent_model.specs.declared.machine.Machine.{Machine}
use Rattle.agent_model.specs.Acting.{without_deadline}

-- a watchdog over a server that isn't live is disarmed: no agent would feed it
abbrev pub started_machine : Machine → Machine
started_machine machine = if live machine.server.state then machine else without_deadline machine
