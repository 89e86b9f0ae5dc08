use Rattle.std.proofs.Common.{◌∙◌, Some, arith, ap, sym, subst}
use Rattle.event_book.specs.declared.message.Message.{Message}
use Rattle.event_book.specs.Flight.{in_flight}
use Rattle.cluster_model.specs.Messages.{answer_events, arrival_events, output_events}
use Rattle.cluster_model.specs.Parts.{each, for_some}
use Rattle.cluster_model.specs.State.{Cluster}
use Rattle.world_model.specs.Emits.{Emits}
use Rattle.world_model.specs.Room.{HasRoom, decision_cost, message_cost, outputs_cost}
use Rattle.world_acts.specs.Asleep.{AreAsleep}
use Rattle.world_acts.proofs.Sleeping.{asleep-behind}
use Rattle.world_play.proofs.Arriving.{AgentCame, StoreCame, agent-came, store-came}
use Rattle.world_play.proofs.messages.arrive.Goals as goal

pub carry_out-requires-clause-room : goal.carry_out-requires-clause-room
carry_out-requires-clause-room c =
    let came : AgentCame c.take_outputs.new.self c.land.new.self c.args.events.now c.land.new.events
    c.land.new.outputs.outputs c.args.number c.in-Some-AtAgent.member c.in-Some-AtAgent.heard
    = agent-came c.in-Some-AtAgent.member c.in-Some-AtAgent.heard c.in_ok-land.ensures.landed
    (c.in-Some-AtAgent.is ∙ ap Some c.in-Some-AtAgent.field-0-is) in
    came.room (subst (λ (b : Cluster). HasRoom b message_cost) (sym c.take_outputs.ensures.world) c.requires.room)

pub carry_out-requires-clause-few : goal.carry_out-requires-clause-few
carry_out-requires-clause-few c =
    let came : AgentCame c.take_outputs.new.self c.land.new.self c.args.events.now c.land.new.events
    c.land.new.outputs.outputs c.args.number c.in-Some-AtAgent.member c.in-Some-AtAgent.heard
    = agent-came c.in-Some-AtAgent.member c.in-Some-AtAgent.heard c.in_ok-land.ensures.landed
    (c.in-Some-AtAgent.is ∙ ap Some c.in-Some-AtAgent.field-0-is) in
    came.few.few

pub carry_out-requires-clause-short : goal.carry_out-requires-clause-short
carry_out-requires-clause-short c =
    let came : AgentCame c.take_outputs.new.self c.land.new.self c.args.events.now c.land.new.events
    c.land.new.outputs.outputs c.args.number c.in-Some-AtAgent.member c.in-Some-AtAgent.heard
    = agent-came c.in-Some-AtAgent.member c.in-Some-AtAgent.heard c.in_ok-land.ensures.landed
    (c.in-Some-AtAgent.is ∙ ap Some c.in-Some-AtAgent.field-0-is) in
    came.few.short

pub returns-in_ok-carry_out-in-Some-AtAgent-clause-emits : goal.returns-in_ok-carry_out-in-Some-AtAgent-clause-emits
returns-in_ok-carry_out-in-Some-AtAgent-clause-emits c =
    let after = c.give_back-in-Some-AtAgent.new.self in
    let came : AgentCame c.take_outputs.new.self c.land.new.self c.args.events.now c.land.new.events
    c.land.new.outputs.outputs c.args.number c.in-Some-AtAgent.member c.in-Some-AtAgent.heard
    = agent-came c.in-Some-AtAgent.member c.in-Some-AtAgent.heard c.in_ok-land.ensures.landed
    (c.in-Some-AtAgent.is ∙ ap Some c.in-Some-AtAgent.field-0-is) in
    let done =
    subst (λ (a : Cluster). Emits c.land.new.self a c.land.new.events c.carry_out.new.events
    (each (output_events c.in-Some-AtAgent.member c.in-Some-AtAgent.heard) c.land.new.self c.land.new.outputs.outputs)
    outputs_cost)
    (sym c.give_back-in-Some-AtAgent.ensures) c.in_ok-carry_out-in-Some-AtAgent.ensures.emits in
    subst (λ (b : Cluster). Emits b after c.args.events.now c.carry_out.new.events
    (for_some (in_flight b.facts.flight c.args.number) (arrival_events b c.args.number)) message_cost)
    c.take_outputs.ensures.world
    (came.acted after c.carry_out.new.events done)

pub returns-in_ok-answer-in-Some-AtStore-clause-emits : goal.returns-in_ok-answer-in-Some-AtStore-clause-emits
returns-in_ok-answer-in-Some-AtStore-clause-emits c =
    let after = c.give_back-in-Some-AtStore.new.self in
    let stored = c.in-Some-AtStore.message in
    let came : StoreCame c.take_outputs.new.self c.land.new.self c.args.events.now c.land.new.events
    c.land.new.outputs.outputs c.args.number stored
    = store-came stored c.in_ok-land.ensures.landed (c.in-Some-AtStore.is ∙ ap Some c.in-Some-AtStore.field-0-is) in
    let done =
    subst (λ (a : Cluster). Emits c.land.new.self a c.land.new.events c.answer.new.events
    (answer_events c.land.new.self c.args.number stored) decision_cost)
    (sym c.give_back-in-Some-AtStore.ensures)
    (subst (λ (m : Message). Emits c.land.new.self c.answer.new.self c.land.new.events c.answer.new.events
    (answer_events c.land.new.self c.args.number m) decision_cost)
    c.get.ensures c.in_ok-answer-in-Some-AtStore.ensures) in
    subst (λ (b : Cluster). Emits b after c.args.events.now c.answer.new.events
    (for_some (in_flight b.facts.flight c.args.number) (arrival_events b c.args.number)) message_cost)
    c.take_outputs.ensures.world
    (came.answered after c.answer.new.events done)

pub returns-in_ok-carry_out-in-Some-AtAgent-clause-asleep : goal.returns-in_ok-carry_out-in-Some-AtAgent-clause-asleep
returns-in_ok-carry_out-in-Some-AtAgent-clause-asleep c =
    let came : AgentCame c.take_outputs.new.self c.land.new.self c.args.events.now c.land.new.events
    c.land.new.outputs.outputs c.args.number c.in-Some-AtAgent.member c.in-Some-AtAgent.heard
    = agent-came c.in-Some-AtAgent.member c.in-Some-AtAgent.heard c.in_ok-land.ensures.landed
    (c.in-Some-AtAgent.is ∙ ap Some c.in-Some-AtAgent.field-0-is) in
    let sleep = came.asleep c.args.asleep.now c.forget.new.self
    (subst (AreAsleep c.args.asleep.now) (sym c.take_outputs.ensures.world) c.requires.asleep)
    c.forget.ensures.same c.forget.ensures.others in
    let done = c.in_ok-carry_out-in-Some-AtAgent.ensures.emits in
    asleep-behind c.forget.new.self c.pass-in-Some-AtAgent.new.self c.land.new.self
    c.give_back-in-Some-AtAgent.new.self c.land.new.events c.carry_out.new.events _ c.len-from-in-Some-AtAgent.result
    (c.give_back-in-Some-AtAgent.ensures ∙ done.state) done.event
    (omega (arith, c.len-from-in-Some-AtAgent.ensures)) sleep c.pass-in-Some-AtAgent.ensures.asleep

pub returns-in_ok-answer-in-Some-AtStore-clause-asleep : goal.returns-in_ok-answer-in-Some-AtStore-clause-asleep
returns-in_ok-answer-in-Some-AtStore-clause-asleep c =
    let came : StoreCame c.take_outputs.new.self c.land.new.self c.args.events.now c.land.new.events
    c.land.new.outputs.outputs c.args.number c.in-Some-AtStore.message
    = store-came c.in-Some-AtStore.message c.in_ok-land.ensures.landed
    (c.in-Some-AtStore.is ∙ ap Some c.in-Some-AtStore.field-0-is) in
    let sleep = came.asleep c.args.asleep.now
    (subst (AreAsleep c.args.asleep.now) (sym c.take_outputs.ensures.world) c.requires.asleep) in
    let done = c.in_ok-answer-in-Some-AtStore.ensures in
    asleep-behind c.args.asleep.now c.pass.new.self c.land.new.self c.give_back-in-Some-AtStore.new.self
    c.land.new.events c.answer.new.events _ c.len-from.result
    (c.give_back-in-Some-AtStore.ensures ∙ done.state) done.event
    (omega (arith, c.len-from.ensures)) sleep c.pass.ensures.asleep
