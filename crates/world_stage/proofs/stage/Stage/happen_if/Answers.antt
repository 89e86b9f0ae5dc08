use Rattle.std.proofs.lemmas.Option.{MatchOption-at_some}
use Rattle.world_model.specs.Comes.{MayCome}
use Rattle.world_stage.proofs.stage.Stage.happen_if.Goals as goal

pub happen-requires-clause-comes : goal.happen-requires-clause-comes
happen-requires-clause-comes c =
    MatchOption-at_some _ (MayCome c.args.self.now) c.in-Some.kind c.in-Some.is c.requires.comes
