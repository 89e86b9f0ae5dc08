use Rattle.std.proofs.Common.{◌+◌, ◌*◌, arith}
use Rattle.std.specs.Map.{keys_of}
use Rattle.std.proofs.lemmas.Result.{on_ok_weaker}
use Rattle.cluster_model.specs.Messages.{message_events, wake_events}
use Rattle.cluster_model.specs.Parts.{each}
use Rattle.cluster_model.specs.Limits.{most_in_flight}
use Rattle.world_model.specs.Room.{message_cost, round_cost, wakes_cost}
use Rattle.world_model.proofs.Rooms.{HasRoom-fewer}
use Rattle.world_model.proofs.Taking.{Emits-then}
use Rattle.world_play.proofs.steps.round.Goals as goal

pub wakes-requires-clause-room : goal.wakes-requires-clause-room
wakes-requires-clause-room c = HasRoom-fewer c.args.stage.now round_cost wakes_cost (omega arith) c.requires.room

pub pass_messages-requires-clause-room : goal.pass_messages-requires-clause-room
pass_messages-requires-clause-room c = c.in_ok-wakes.ensures.emits.room (message_cost * most_in_flight)
    (HasRoom-fewer c.args.stage.now round_cost (wakes_cost + message_cost * most_in_flight)
    (omega arith) c.requires.room)

pub returns-clause-emits : goal.returns-clause-emits
returns-clause-emits c =
    on_ok_weaker c.pass_messages.result
    (λ took. Emits-then c.args.stage.now c.wakes.new.stage c.pass_messages.new.stage _ _ _
    (each wake_events c.args.stage.now c.args.stage.now.facts.members)
    (λ later. each message_events later (keys_of later.facts.flight)) wakes_cost
    (message_cost * most_in_flight) round_cost c.in_ok-wakes.ensures.emits took (omega arith))
    c.pass_messages.ensures.emits
