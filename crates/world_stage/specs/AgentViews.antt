-- What the agents of a cluster show.
use Rattle.std.specs.Prelude.{◌≡◌, Option, None, option_and_then, option_copied, option_map}
use Rattle.pat_base.specs.declared.member_id.MemberId.{MemberId}
use Rattle.cluster_view.specs.declared.view.AgentView.{AgentView}
use Rattle.agent_model.specs.Agents.{Outcome}
use Rattle.agent_model.specs.Views.{shown}
use Rattle.cluster_model.specs.Inputs.{moment_of, standing_of}
use Rattle.cluster_model.specs.Next.{declared}
use Rattle.cluster_model.specs.State.{Cluster}

-- the agent of the member of this number with its machine, where the member is declared and its agent runs
abbrev pub agent_of : Cluster → MemberId → Option Outcome
agent_of cluster id = option_and_then (standing_of cluster) (declared cluster id)

-- this view, or none, is what the agent of the member of this number shows at the cluster's moment: a view is there
-- exactly where such an agent is with its machine, and it shows them, and the newest snapshot that the agent knows
pub record IsViewOf (cluster : Cluster) (id : MemberId) (view : Option AgentView) : Type 0 where
  pub shows : option_map (λ (v : AgentView). let unread : AgentView = record v { seen = None } in unread) view
      ≡ option_map (shown (moment_of cluster)) (agent_of cluster id)
  pub seen : option_and_then (λ (v : AgentView). option_copied v.seen) view
      ≡ option_and_then (λ (o : Outcome). o.knows.seen) (agent_of cluster id)
