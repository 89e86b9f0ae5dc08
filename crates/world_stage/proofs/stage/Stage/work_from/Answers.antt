use Rattle.world_model.proofs.Idling.{work-from}
use Rattle.world_stage.proofs.stage.Stage.work_from.Goals as goal

pub returns : goal.returns
returns c = work-from c.args.self.now c.args.member c.work_moment.result c.work_moment.ensures
