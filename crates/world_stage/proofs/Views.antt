-- What the agent of a member shows.
use Rattle.std.proofs.Common.{◌≡◌, Option, Some, None, refl, ◌∙◌, ap, sym}
use Rattle.std.specs.Prelude.{option_and_then, option_copied, option_map}
use Rattle.pat_base.specs.declared.member_id.MemberId.{MemberId}
use Rattle.pat_base.specs.declared.ticks.Ticks.{Ticks}
use Rattle.cluster_view.specs.declared.view.AgentView.{AgentView}
use Rattle.event_book.specs.declared.member.Member.{Member}
use Rattle.agent_model.specs.declared.machine.Machine.{Machine}
use Rattle.agent_model.specs.Agents.{AgentFacts, Outcome, word_of}
use Rattle.agent_model.specs.Views.{shown, view_of}
use Rattle.cluster_model.specs.Inputs.{agent_at, moment_of, standing, standing_of}
use Rattle.cluster_model.specs.Machines.{machine_of}
use Rattle.cluster_model.specs.Next.{declared}
use Rattle.cluster_model.specs.State.{Cluster}
use Rattle.world_stage.specs.AgentViews.{IsViewOf, agent_of}

shows-so : (now : Ticks) (machine : Machine) (found : Option AgentFacts)
    → option_map (λ (a : AgentFacts). view_of now (word_of a.role) a.knows machine) found
    ≡ option_map (shown now) (standing found (Some machine))
shows-so now machine None = refl
shows-so now machine (Some agent) = refl

seen-so : (machine : Machine) (found : Option AgentFacts)
    → option_and_then (λ (a : AgentFacts). a.knows.seen) found
    ≡ option_and_then (λ (o : Outcome). o.knows.seen) (standing found (Some machine))
seen-so machine None = refl
seen-so machine (Some agent) = refl

stands-so : (cluster : Cluster) (id : MemberId) (member : Member) (machine : Machine)
    → declared cluster id ≡ Some member → machine_of cluster member ≡ Some machine
    → agent_of cluster id ≡ standing (agent_at cluster.agents member.id.number) (Some machine)
stands-so cluster id member machine is there =
    ap (option_and_then (standing_of cluster)) is
    ∙ ap (λ (m : Option Machine). standing (agent_at cluster.agents member.id.number) m) there

-- a view of the agent at the place of a declared member with its machine is that of the cluster
pub view-is : (cluster : Cluster) (id : MemberId) (member : Member) (machine : Machine) (view : Option AgentView)
    → declared cluster id ≡ Some member → machine_of cluster member ≡ Some machine
    → option_map (λ (v : AgentView). let unread : AgentView = record v { seen = None } in unread) view
    ≡ option_map (λ (a : AgentFacts). view_of (moment_of cluster) (word_of a.role) a.knows machine)
    (agent_at cluster.agents member.id.number)
    → option_and_then (λ (v : AgentView). option_copied v.seen) view
    ≡ option_and_then (λ (a : AgentFacts). a.knows.seen) (agent_at cluster.agents member.id.number)
    → IsViewOf cluster id view
view-is cluster id member machine view is there shows seen = record {
  shows = shows ∙ shows-so (moment_of cluster) machine (agent_at cluster.agents member.id.number)
      ∙ ap (option_map (shown (moment_of cluster))) (sym (stands-so cluster id member machine is there));
  seen = seen ∙ seen-so machine (agent_at cluster.agents member.id.number)
      ∙ ap (option_and_then (λ (o : Outcome). o.knows.seen)) (sym (stands-so cluster id member machine is there));
}
