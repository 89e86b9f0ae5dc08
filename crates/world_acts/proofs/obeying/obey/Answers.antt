use Rattle.std.proofs.Common.{arith}
use Rattle.std.proofs.lemmas.Result.{on_ok_weaker}
use Rattle.world_model.specs.Room.{beginning_cost, replica_start_cost, stopping_cost}
use Rattle.world_acts.proofs.Carried.{obeyed}
use Rattle.world_acts.proofs.obeying.obey.Goals as goal

pub returns-in-Begin : goal.returns-in-Begin
returns-in-Begin c = on_ok_weaker c.begin.result
    (obeyed _ _ _ _ c.args.member c.args.order _ beginning_cost c.in-Begin.is (omega arith)) c.begin.ensures

pub returns-in-StartReplica : goal.returns-in-StartReplica
returns-in-StartReplica c = on_ok_weaker c.start_replica.result
    (obeyed _ _ _ _ c.args.member c.args.order _ replica_start_cost c.in-StartReplica.is (omega arith))
    c.start_replica.ensures

pub returns-in-Stop : goal.returns-in-Stop
returns-in-Stop c = on_ok_weaker c.stop.result
    (obeyed _ _ _ _ c.args.member c.args.order _ stopping_cost c.in-Stop.is (omega arith)) c.stop.ensures

pub returns-in-ShutDown : goal.returns-in-ShutDown
returns-in-ShutDown c = on_ok_weaker c.shut_down.result
    (obeyed _ _ _ _ c.args.member c.args.order _ 1 c.in-ShutDown.is (omega arith)) c.shut_down.ensures

pub returns-in-Wipe : goal.returns-in-Wipe
returns-in-Wipe c = on_ok_weaker c.wipe.result
    (obeyed _ _ _ _ c.args.member c.args.order _ 1 c.in-Wipe.is (omega arith)) c.wipe.ensures

pub returns-in-Follow : goal.returns-in-Follow
returns-in-Follow c = on_ok_weaker c.follow.result
    (obeyed _ _ _ _ c.args.member c.args.order _ 1 c.in-Follow.is (omega arith)) c.follow.ensures

pub returns-in-Repair : goal.returns-in-Repair
returns-in-Repair c = on_ok_weaker c.repair_log.result
    (obeyed _ _ _ _ c.args.member c.args.order _ 1 c.in-Repair.is (omega arith)) c.repair_log.ensures
