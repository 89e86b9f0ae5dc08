use Rattle.generator_model.proofs.BodyLaws.{parts-IsScript}
use Rattle.script_generator.proofs.generating.generate.Goals as goal

pub new-requires : goal.new-requires
new-requires c = parts-IsScript c.args.seed c.args.count _ _ c.in_ok-head.ensures c.in_ok-body.ensures
