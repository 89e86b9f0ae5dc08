use Rattle.std.proofs.Common.{arith}
use Rattle.std.proofs.lemmas.Result.{on_ok_weaker}
use Rattle.event_book.specs.declared.event.EventKind.TheVariants as kinds
use Rattle.event_book.specs.declared.event.Note.TheVariants.{Undeliverable}
use Rattle.cluster_model.specs.Parts.{event_of}
use Rattle.world_model.specs.Room.{message_cost}
use Rattle.world_model.proofs.Rooms.{HasRoom-fewer}
use Rattle.world_model.proofs.Taking.{Emits-weaker}
use Rattle.world_play.proofs.messages.leave.Goals as goal

pub happen-requires-clause-room : goal.happen-requires-clause-room
happen-requires-clause-room c = HasRoom-fewer c.args.stage.now message_cost 1 (omega arith) c.requires

pub returns : goal.returns
returns c = on_ok_weaker c.happen.result
    (λ took. Emits-weaker c.args.stage.now c.happen.new.self c.args.events.now c.happen.new.events
    (event_of c.args.stage.now (kinds.Note (Undeliverable c.args.number))) 1 message_cost took (omega arith))
    c.happen.ensures
