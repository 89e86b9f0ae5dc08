use Rattle.std.proofs.Common.{◌≤◌, List, All, length, Some, sym, subst}
use Rattle.agent_model.specs.declared.heard.Heard.TheVariants.{Wake}
use Rattle.agent_model.specs.declared.output.Output.{Output}
use Rattle.agent_model.specs.Outputs.{most_outputs}
use Rattle.cluster_model.specs.Messages.{no_message, output_events, wake_events_of}
use Rattle.cluster_model.specs.Parts.{each}
use Rattle.cluster_model.specs.State.{Cluster}
use Rattle.world_model.specs.Emits.{Emits}
use Rattle.world_model.specs.Room.{HasRoom, input_cost, outputs_cost}
use Rattle.agent_model.specs.Asked.{AsksShortly}
use Rattle.world_acts.proofs.Waking.{awaken-took, input-few}
use Rattle.world_acts.proofs.wakes.awaken.Goals as goal

pub carry_out-requires-clause-room : goal.carry_out-requires-clause-room
carry_out-requires-clause-room c = c.in_ok-rouse.ensures.emits.room outputs_cost
    (subst (λ (b : Cluster). HasRoom b input_cost) (sym c.take_outputs.ensures.world) c.requires)

pub carry_out-requires-clause-few : goal.carry_out-requires-clause-few
carry_out-requires-clause-few c = subst (λ (os : List Output). length os ≤ most_outputs)
    (sym c.rouse.ensures.outputs) (input-few c.take_outputs.new.self c.args.member (Some Wake)).few

pub carry_out-requires-clause-short : goal.carry_out-requires-clause-short
carry_out-requires-clause-short c = subst (λ (os : List Output). All AsksShortly os)
    (sym c.rouse.ensures.outputs) (input-few c.take_outputs.new.self c.args.member (Some Wake)).short

pub returns : goal.returns
returns c =
    let after = c.give_back.new.self in
    let done =
    subst (λ (a : Cluster). Emits c.rouse.new.self a c.rouse.new.events c.carry_out.new.events
    (each (output_events c.args.member no_message) c.rouse.new.self c.rouse.new.outputs.outputs) outputs_cost)
    (sym c.give_back.ensures) c.in_ok-carry_out.ensures.emits in
    subst (λ (b : Cluster).
    Emits b after c.args.events.now c.carry_out.new.events (wake_events_of b c.args.member) input_cost)
    c.take_outputs.ensures.world
    (awaken-took c.take_outputs.new.self c.rouse.new.self after c.args.member c.rouse.new.outputs.outputs
    c.args.events.now c.rouse.new.events c.carry_out.new.events c.in_ok-rouse.ensures.emits
    c.rouse.ensures.outputs done)
