-- How the log of a server is repaired by that of the leader's, where it diverged or is missing.
use Rattle.std.specs.Prelude.{◌==◌, ◌&&◌, if◌then◌else◌, Bool, false, Option, Some, None}
use Rattle.pat_base.specs.declared.member_id.MemberId.{MemberId}
use Rattle.pat_base.specs.declared.server_id.ServerId.{ServerId}
use Rattle.pat_base.specs.declared.server_state.State.{State}
use Rattle.pat_base.specs.declared.server_state.State.TheVariants as states
use Rattle.store_keys.specs.declared.config.Config.{Config}
use Rattle.pg_model.specs.declared.status.ServerStatus.{ServerStatus}
use Rattle.agent_model.specs.declared.output.Output.TheVariants as outputs
use Rattle.agent_model.specs.declared.output.ServerOrder.TheVariants as orders
use Rattle.agent_model.specs.declared.output.Repair.{Repair}
use Rattle.agent_model.specs.declared.output.Repair.TheVariants.{Rewind, Clone}
use Rattle.agent_model.specs.Agents.{Outcome}
use Rattle.agent_model.specs.Outputs.{with_output}
use Rattle.agent_model.specs.Pausing.{lets_rewind}

-- the server follows this member's already
abbrev pub is_upstream : MemberId → Option ServerId → Bool
is_upstream leader None = false
is_upstream leader (Some upstream) = upstream.number == leader.number

-- a log that diverged is rewound, where the configuration lets it
abbrev pub rewind_if : Bool → Bool → Option Repair
rewind_if lets diverged = if lets && diverged then Some Rewind else None

-- how the log of a server in this state is repaired: a replica of the leader's and
-- one that was shut down by a rewind, and one that waits for a copy by a clone
abbrev pub repair_in : Bool → Bool → Bool → State → Option Repair
repair_in lets follows diverged states.Replica = rewind_if (lets && follows) diverged
repair_in lets follows diverged states.Stopped = rewind_if lets diverged
repair_in lets follows diverged states.Creating = Some Clone
repair_in lets follows diverged _ = None

-- how the log of a server is repaired by this leader's, if it has to be and may be
abbrev pub repair_of : Config → MemberId → ServerStatus → Option Repair
repair_of settings leader s = repair_in (lets_rewind settings) (is_upstream leader s.upstream) s.diverged s.state

-- the agent has the log of its server repaired by this leader's. Whether that can
-- be done shows where it is done, so the agent reckons with its server as it was
abbrev pub repairing : MemberId → Repair → Outcome → Outcome
repairing leader repair o = record o { outputs = with_output (outputs.Server (orders.Repair leader repair)) o.outputs }

-- the same, if there is a repair
abbrev pub repaired_if : MemberId → Option Repair → Outcome → Outcome
repaired_if leader None o = o
repaired_if leader (Some repair) o = repairing leader repair o
