use Rattle.std.proofs.Common.{◌+◌, arith}
use Rattle.cluster_model.specs.Next.{receive_events_of, rounds_events}
use Rattle.cluster_model.specs.Parts.{each}
use Rattle.cluster_model.specs.Limits.{most_rounds}
use Rattle.world_model.specs.Room.{receiving_cost, rounds_cost, schedule_cost}
use Rattle.world_model.proofs.Rooms.{HasRoom-fewer}
use Rattle.world_model.proofs.Settled.{caught-up-behind}
use Rattle.world_model.proofs.Taking.{Emits-then}
use Rattle.world_play.proofs.Lulls.{lull-behind, still-settled}
use Rattle.world_play.proofs.steps.scheduled.Goals as goal

pub all_receive-requires-clause-room : goal.all_receive-requires-clause-room
all_receive-requires-clause-room c =
    HasRoom-fewer c.args.stage.now schedule_cost receiving_cost (omega arith) c.requires.room

pub all_receive-requires-clause-caught_up : goal.all_receive-requires-clause-caught_up
all_receive-requires-clause-caught_up c = λ known. (c.requires.lull.settled known).0

pub rounds-requires-clause-room : goal.rounds-requires-clause-room
rounds-requires-clause-room c = c.in_ok-received.ensures.emits.room rounds_cost
    (HasRoom-fewer c.args.stage.now schedule_cost (receiving_cost + rounds_cost) (omega arith) c.requires.room)

pub rounds-requires-clause-asleep : goal.rounds-requires-clause-asleep
rounds-requires-clause-asleep c =
    let lull =
    lull-behind c.args.lull.now c.pass.new.self c.args.stage.now c.all_receive.new.stage c.args.events.now
    c.all_receive.new.events _ receiving_cost c.len-before.result c.in_ok-received.ensures.emits
    (omega (arith, c.len-before.ensures))
    c.pass.ensures.settled c.pass.ensures.asleep c.requires.lull in
    lull.asleep

pub returns-clause-emits : goal.returns-clause-emits
returns-clause-emits c =
    Emits-then c.args.stage.now c.all_receive.new.stage c.rounds.new.stage _ _ _
    (each receive_events_of c.args.stage.now c.args.stage.now.facts.members) (λ later. rounds_events later most_rounds)
    receiving_cost rounds_cost schedule_cost c.in_ok-received.ensures.emits c.in_ok-rounds.ensures.emits (omega arith)

pub returns-clause-caught_up : goal.returns-clause-caught_up
returns-clause-caught_up c =
    caught-up-behind c.all_receive.new.stage c.rounds.new.stage c.all_receive.new.events c.rounds.new.events _
    rounds_cost c.len-from.result _ c.still_caught_up.result c.in_ok-rounds.ensures.emits
    (omega (arith, c.len-from.ensures))
    c.still_caught_up.ensures c.in_ok-received.ensures.caught_up

pub returns-clause-lull : goal.returns-clause-lull
returns-clause-lull c =
    let lull =
    lull-behind c.args.lull.now c.pass.new.self c.args.stage.now c.all_receive.new.stage c.args.events.now
    c.all_receive.new.events _ receiving_cost c.len-before.result c.in_ok-received.ensures.emits
    (omega (arith, c.len-before.ensures))
    c.pass.ensures.settled c.pass.ensures.asleep c.requires.lull in
    record {
      settled = still-settled c.all_receive.new.stage c.rounds.new.stage c.all_receive.new.events
          c.rounds.new.events _ rounds_cost c.len-from.result c.pass.new.self.settled
          c.still_caught_up-lull.result c.in_ok-rounds.ensures.emits
          (omega (arith, c.len-from.ensures)) c.still_caught_up-lull.ensures lull.settled;
      asleep = c.in_ok-rounds.ensures.asleep;
    }
