use Rattle.std.proofs.Common.{◌+◌, ◌*◌, arith}
use Rattle.std.proofs.lemmas.Result.{on_ok_weaker}
use Rattle.cluster_model.specs.declared.step.Step.TheVariants as steps
use Rattle.cluster_model.specs.Messages.{visit_events}
use Rattle.cluster_model.specs.Next.{scheduled_events}
use Rattle.cluster_model.specs.Ticking.{tick_events}
use Rattle.world_model.specs.Room.{request_cost, command_cost, schedule_cost, step_cost, tick_cost}
use Rattle.world_model.proofs.Rooms.{HasRoom-fewer}
use Rattle.world_model.proofs.Rest.{stepped}
use Rattle.world_model.proofs.Taking.{Emits-then, found-took}
use Rattle.world_play.proofs.Lulls.{lull-behind}
use Rattle.world_play.proofs.steps.perform.Goals as goal

pub scheduled-requires-clause-room : goal.scheduled-requires-clause-room
scheduled-requires-clause-room c = c.in_ok-take_tick-in-Scheduled.ensures.emits.room schedule_cost
    (HasRoom-fewer c.args.stage.now (step_cost * 1) (tick_cost + schedule_cost) (omega arith) c.requires.room.room)

pub returns-in_ok-take_tick-in-Scheduled-clause-emits : goal.returns-in_ok-take_tick-in-Scheduled-clause-emits
returns-in_ok-take_tick-in-Scheduled-clause-emits c =
    on_ok_weaker c.scheduled.result
    (λ took. stepped _ _ _ _ _ steps.Scheduled step_cost c.in-Scheduled.is
    (Emits-then c.args.stage.now c.take_tick.new.stage c.scheduled.new.stage _ _ _ (tick_events c.args.stage.now)
    scheduled_events tick_cost schedule_cost step_cost c.in_ok-take_tick-in-Scheduled.ensures.emits took (omega arith))
    (omega arith))
    c.scheduled.ensures.emits

pub returns-in_ok-take_tick-in-Tick-clause-emits : goal.returns-in_ok-take_tick-in-Tick-clause-emits
returns-in_ok-take_tick-in-Tick-clause-emits c =
    stepped _ _ _ _ _ steps.Tick tick_cost c.in-Tick.is c.in_ok-take_tick-in-Tick.ensures.emits (omega arith)

pub returns-in_ok-take_command-in-Command-clause-emits : goal.returns-in_ok-take_command-in-Command-clause-emits
returns-in_ok-take_command-in-Command-clause-emits c = stepped _ _ _ _ _ (steps.Command c.in-Command.command)
    command_cost c.in-Command.is c.in_ok-take_command-in-Command.ensures (omega arith)

pub returns-in_ok-take_command-in-Command-clause-lull : goal.returns-in_ok-take_command-in-Command-clause-lull
returns-in_ok-take_command-in-Command-clause-lull c =
    lull-behind c.args.lull.now c.pass.new.self c.args.stage.now c.take_command.new.stage c.args.events.now
    c.take_command.new.events _ command_cost c.len-from.result c.in_ok-take_command-in-Command.ensures
    (omega (arith, c.len-from.ensures))
    c.pass.ensures.settled c.pass.ensures.asleep c.requires.lull

pub returns-in_ok-take_command-in-Command-clause-caught_up : goal.returns-in_ok-take_command-in-Command-clause-caught_up
returns-in_ok-take_command-in-Command-clause-caught_up c = λ known.
    let lull =
    lull-behind c.args.lull.now c.pass.new.self c.args.stage.now c.take_command.new.stage c.args.events.now
    c.take_command.new.events _ command_cost c.len-from.result c.in_ok-take_command-in-Command.ensures
    (omega (arith, c.len-from.ensures))
    c.pass.ensures.settled c.pass.ensures.asleep c.requires.lull in
    (lull.settled known).0

pub returns-in_ok-receive_visit-in-Connection-clause-emits : goal.returns-in_ok-receive_visit-in-Connection-clause-emits
returns-in_ok-receive_visit-in-Connection-clause-emits c =
    stepped _ _ _ _ _ (steps.Connection c.in-Connection.id c.in-Connection.visit) request_cost c.in-Connection.is
    (found-took _ _ _ _ _ (visit_events c.args.stage.now c.in-Connection.visit) _ _ request_cost
    c.declared-member.ensures c.in_ok-receive_visit-in-Connection.ensures)
    (omega arith)

pub returns-in_ok-receive_visit-in-Connection-clause-lull : goal.returns-in_ok-receive_visit-in-Connection-clause-lull
returns-in_ok-receive_visit-in-Connection-clause-lull c =
    lull-behind c.args.lull.now c.pass-in-Connection.new.self c.args.stage.now c.receive_visit.new.stage
    c.args.events.now c.receive_visit.new.events _ request_cost c.len-from-in-Connection.result
    c.in_ok-receive_visit-in-Connection.ensures
    (omega (arith, c.len-from-in-Connection.ensures)) c.pass-in-Connection.ensures.settled
    c.pass-in-Connection.ensures.asleep c.requires.lull

pub returns-in_ok-receive_visit-in-Connection-clause-caught_up :
    goal.returns-in_ok-receive_visit-in-Connection-clause-caught_up
returns-in_ok-receive_visit-in-Connection-clause-caught_up c = λ known.
    let lull =
    lull-behind c.args.lull.now c.pass-in-Connection.new.self c.args.stage.now c.receive_visit.new.stage
    c.args.events.now c.receive_visit.new.events _ request_cost c.len-from-in-Connection.result
    c.in_ok-receive_visit-in-Connection.ensures
    (omega (arith, c.len-from-in-Connection.ensures)) c.pass-in-Connection.ensures.settled
    c.pass-in-Connection.ensures.asleep c.requires.lull in
    (lull.settled known).0
