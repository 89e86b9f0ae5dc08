use Rattle.std.proofs.Common.{◌≤◌, List, All, length, Some, sym, subst}
use Rattle.agent_model.specs.declared.heard.Heard.TheVariants.{Operated}
use Rattle.agent_model.specs.declared.output.Output.{Output}
use Rattle.agent_model.specs.Outputs.{most_outputs}
use Rattle.cluster_model.specs.Messages.{no_message, output_events, operate_events}
use Rattle.cluster_model.specs.Parts.{each}
use Rattle.cluster_model.specs.State.{Cluster}
use Rattle.world_model.specs.Emits.{Emits}
use Rattle.world_model.specs.Room.{HasRoom, request_cost, outputs_cost}
use Rattle.agent_model.specs.Asked.{AsksShortly}
use Rattle.world_acts.proofs.Waking.{operate-took, input-few}
use Rattle.world_play.proofs.requests.operate.Goals as goal

pub carry_out-requires-clause-room : goal.carry_out-requires-clause-room
carry_out-requires-clause-room c = c.in_ok-obey.ensures.emits.room outputs_cost
    (subst (λ (b : Cluster). HasRoom b request_cost) (sym c.take_outputs.ensures.world) c.requires)

pub carry_out-requires-clause-few : goal.carry_out-requires-clause-few
carry_out-requires-clause-few c =
    subst (λ (os : List Output). length os ≤ most_outputs) (sym c.in_ok-obey.ensures.outputs)
    (input-few c.take_outputs.new.self c.args.member (Some (Operated c.args.action))).few

pub carry_out-requires-clause-short : goal.carry_out-requires-clause-short
carry_out-requires-clause-short c = subst (λ (os : List Output). All AsksShortly os) (sym c.in_ok-obey.ensures.outputs)
    (input-few c.take_outputs.new.self c.args.member (Some (Operated c.args.action))).short

pub returns : goal.returns
returns c =
    let after = c.give_back.new.self in
    let done =
    subst (λ (a : Cluster). Emits c.obey.new.self a c.obey.new.events c.carry_out.new.events
    (each (output_events c.args.member no_message) c.obey.new.self c.obey.new.outputs.outputs) outputs_cost)
    (sym c.give_back.ensures) c.in_ok-carry_out.ensures.emits in
    subst (λ (b : Cluster).
    Emits b after c.args.events.now c.carry_out.new.events (operate_events b c.args.member c.args.action) request_cost)
    c.take_outputs.ensures.world
    (operate-took c.take_outputs.new.self c.obey.new.self after c.args.member c.args.action
    c.obey.new.outputs.outputs c.args.events.now c.obey.new.events c.carry_out.new.events
    c.in_ok-obey.ensures.emits c.in_ok-obey.ensures.outputs done)
