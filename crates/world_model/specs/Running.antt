-- Which agents run.
use Rattle.std.specs.Prelude.{Bool, false, Option, Some, None, slice_get}
use Rattle.pat_base.specs.declared.member_id.MemberId.{MemberId}
use Rattle.event_book.specs.declared.agent_process.AgentProcess.{AgentProcess}
use Rattle.cluster_model.specs.State.{Cluster}

-- whether the agent of such a process runs, if there is a process
abbrev pub runs_now : Option AgentProcess → Bool
runs_now None = false
runs_now (Some process) = process.running

-- whether the agent of the member of this number runs, if such a member is declared
abbrev pub agent_runs : Cluster → MemberId → Bool
agent_runs cluster id = runs_now (slice_get cluster.facts.processes id.number)
