use Rattle.std.proofs.Common.{◌≡◌, ◌∙◌, Option, Some, arith, ap, sym, subst, rules}
use Rattle.std.specs.Prelude.{IfSome, slice_get}
use Rattle.pg_cluster.specs.Servers.{without_spare}
use Rattle.agent_model.specs.declared.machine.Machine.{Machine}
use Rattle.agent_model.specs.Agents.{IsWithin}
use Rattle.cluster_model.specs.Cluster.{agent_facts_with}
use Rattle.cluster_model.specs.Inputs.{outcome_of, outputs_of}
use Rattle.cluster_model.specs.Machines.{machine_of, points_from, points_of}
use Rattle.cluster_model.specs.State.{Cluster}
use Rattle.world_model.specs.Room.{HasRoom, hearing_cost}
use Rattle.world_model.proofs.Rooms.{HasRoom-fewer}
use Rattle.world_stage.proofs.Hearing.{heard-outputs, heard-state, unheard-by}
use Rattle.world_stage.proofs.Worlds.{seen}
use Rattle.world_stage.proofs.stage.Stage.agent_hears.Goals as goal

pub returns-in_default-clause-world : goal.returns-in_default-clause-world
returns-in_default-clause-world c =
    unheard-by c.args.self.now c.args.member c.args.heard (sym c.machine.ensures.machine ∙ c.in_default.is)

pub step_agent-requires-clause-server : goal.step_agent-requires-clause-server
step_agent-requires-clause-server c =
    subst (λ (machine : Option Machine). IfSome machine (λ m. IsWithin m.server)) c.in-Some.is
    (c.machine.ensures.within (HasRoom-fewer c.args.self.now hearing_cost 1 (omega arith) c.requires.room))

pub step_agent-requires-clause-numbers : goal.step_agent-requires-clause-numbers
step_agent-requires-clause-numbers c =
    let room : HasRoom (seen c.self.inside) hearing_cost =
    subst (λ (b : Cluster). HasRoom b hearing_cost) (sym c.self.view_is) c.requires.room in
    room.agents

pub returns-clause-world : goal.returns-clause-world
returns-clause-world c =
    let before = seen c.self.inside in
    let member = c.args.member in
    let machine = c.in-Some.machine in
    let there : machine_of before member ≡ Some machine = subst (λ (b : Cluster). machine_of b member ≡ Some machine)
    (sym c.self.view_is) (sym c.machine.ensures.machine ∙ c.in-Some.is) in
    let server : Some (without_spare c.in-Some-get.server.now) ≡ slice_get before.facts.servers member.id.number =
    search rules in
    let told : c.history.result.now.points ≡ points_of before member = c.history.ensures.points
    ∙ ap points_from server in
    subst (λ (b : Cluster). ◌≡◌ {A = Cluster} (record before { agents = c.step_agent.new.agents.items }) (record b {
      agents = agent_facts_with b.agents member (outcome_of b member c.args.heard);
    })) c.self.view_is
    (heard-state before member c.args.heard c.history.result.now.points machine c.step_agent.new.agents.items
    told there c.step_agent.ensures.agents)

pub returns-clause-outputs : goal.returns-clause-outputs
returns-clause-outputs c =
    let before = seen c.self.inside in
    let member = c.args.member in
    let machine = c.in-Some.machine in
    let there : machine_of before member ≡ Some machine = subst (λ (b : Cluster). machine_of b member ≡ Some machine)
    (sym c.self.view_is) (sym c.machine.ensures.machine ∙ c.in-Some.is) in
    let server : Some (without_spare c.in-Some-get.server.now) ≡ slice_get before.facts.servers member.id.number =
    search rules in
    let told : c.history.result.now.points ≡ points_of before member = c.history.ensures.points
    ∙ ap points_from server in
    subst (λ (b : Cluster). c.step_agent.new.outputs.outputs ≡ outputs_of (outcome_of b member c.args.heard))
    c.self.view_is
    (heard-outputs before member c.args.heard c.history.result.now.points machine
    c.step_agent.new.outputs.outputs told there c.step_agent.ensures.outputs)
