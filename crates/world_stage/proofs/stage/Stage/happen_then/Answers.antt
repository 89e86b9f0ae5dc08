use Rattle.std.proofs.Common.{arith}
use Rattle.std.proofs.lemmas.Result.{on_ok_weaker}
use Rattle.cluster_model.specs.Commands.{kinds_of}
use Rattle.world_model.proofs.Taking.{Emits-more}
use Rattle.world_stage.proofs.stage.Stage.happen_then.Goals as goal

pub happen_if-requires-clause-room : goal.happen_if-requires-clause-room
happen_if-requires-clause-room c = c.in_ok-happen.ensures.room 1 c.requires.room

pub returns : goal.returns
returns c = on_ok_weaker c.happen_if.result
    (λ took. Emits-more _ _ _ _ _ _ c.args.first (kinds_of c.args.second) 1 2 c.in_ok-happen.ensures took (omega arith))
    c.happen_if.ensures
