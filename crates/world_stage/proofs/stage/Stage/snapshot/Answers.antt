use Rattle.world_stage.proofs.Hearing.{none-read}
use Rattle.world_stage.proofs.stage.Stage.snapshot.Goals as goal

pub unreachable-requires : goal.unreachable-requires
unreachable-requires c = none-read c.args.entries c.in-None.is c.requires
