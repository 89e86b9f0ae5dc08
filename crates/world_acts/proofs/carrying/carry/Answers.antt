use Rattle.std.proofs.Common.{arith}
use Rattle.std.proofs.lemmas.Result.{on_ok_weaker}
use Rattle.world_model.specs.Room.{feeding_cost, sending_cost}
use Rattle.world_acts.proofs.Carried.{carried}
use Rattle.world_acts.proofs.carrying.carry.Goals as goal

pub returns-in-Message : goal.returns-in-Message
returns-in-Message c = on_ok_weaker c.send.result
    (carried _ _ _ _ c.args.member c.args.heard c.args.output _ sending_cost c.in-Message.is (omega arith))
    c.send.ensures

pub returns-in-Watchdog : goal.returns-in-Watchdog
returns-in-Watchdog c = on_ok_weaker c.feed.result
    (carried _ _ _ _ c.args.member c.args.heard c.args.output _ feeding_cost c.in-Watchdog.is (omega arith))
    c.feed.ensures

pub returns-in-Require : goal.returns-in-Require
returns-in-Require c = on_ok_weaker c.require.result
    (carried _ _ _ _ c.args.member c.args.heard c.args.output _ 1 c.in-Require.is (omega arith)) c.require.ensures

pub returns-in-Tell : goal.returns-in-Tell
returns-in-Tell c = on_ok_weaker c.tell.result
    (carried _ _ _ _ c.args.member c.args.heard c.args.output _ 1 c.in-Tell.is (omega arith)) c.tell.ensures

pub returns-in-Note : goal.returns-in-Note
returns-in-Note c = on_ok_weaker c.note.result
    (carried _ _ _ _ c.args.member c.args.heard c.args.output _ 1 c.in-Note.is (omega arith)) c.note.ensures
