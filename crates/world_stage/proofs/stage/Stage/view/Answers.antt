use Rattle.std.proofs.Common.{◌≡◌, ◌∙◌, List, Option, Some, ap, sym, subst}
use Rattle.std.specs.Prelude.{option_and_then, option_map, slice_get}
use Rattle.event_book.specs.declared.member.Member.{Member}
use Rattle.agent_model.specs.Agents.{AgentFacts, word_of}
use Rattle.agent_model.specs.Views.{view_of}
use Rattle.cluster_model.specs.Inputs.{agent_at}
use Rattle.cluster_model.specs.Machines.{machine_of}
use Rattle.cluster_model.specs.Next.{declared}
use Rattle.cluster_model.specs.State.{Cluster}
use Rattle.world_stage.specs.AgentViews.{IsViewOf}
use Rattle.world_stage.proofs.Views.{view-is}
use Rattle.world_stage.proofs.Worlds.{seen}
use Rattle.world_stage.proofs.stage.Stage.view.Goals as goal

pub returns : goal.returns
returns c =
    let before = seen c.self.inside in
    let member = c.in_ok-member.member in
    let machine = c.in_ok-machine.machine in
    let is : declared before c.args.id ≡ Some member =
    ap (λ (members : List Member). slice_get members c.args.id.number) (sym c.deref.ensures.value)
    ∙ sym c.member_at.ensures ∙ c.in_ok-member.was in
    let there : machine_of before member ≡ Some machine = subst (λ (b : Cluster). machine_of b member ≡ Some machine)
    (sym c.self.view_is) (sym c.machine.ensures.machine ∙ c.in_ok-machine.was) in
    let shows = c.view_at.ensures.shows
    ∙ ap (λ (agents : List (Option AgentFacts)).
    option_map (λ (a : AgentFacts). view_of c.self.inside.clock (word_of a.role) a.knows machine)
    (agent_at agents member.id.number))
    c.deref-2.ensures.value in
    let seen_so = c.view_at.ensures.seen
    ∙ ap (λ (agents : List (Option AgentFacts)).
    option_and_then (λ (a : AgentFacts). a.knows.seen) (agent_at agents member.id.number))
    c.deref-2.ensures.value in
    subst (λ (b : Cluster). IsViewOf b c.args.id c.view_at.result) c.self.view_is
    (view-is before c.args.id member machine c.view_at.result is there shows seen_so)
