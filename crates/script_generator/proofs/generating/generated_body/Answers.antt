use Rattle.std.proofs.Common.{◌+◌, [], ◌∷◌, arith}
use Rattle.script_model.specs.declared.line.Line.TheVariants as lines
use Rattle.generator_model.specs.Generating.{ticks_behind, generated_body}
use Rattle.generator_model.proofs.BodyLaws.{drawn-step}
use Rattle.script_generator.proofs.generating.generated_body.Goals as goal

pub loop-drawn-preserved : goal.loop-drawn-preserved
loop-drawn-preserved c =
    drawn-step (generated_body c.args.seed c.args.count) _ _ (lines.Run ticks_behind ∷ []) c.loop-drawn.number
    c.next_number-number.result c.loop-drawn._drawn (c.loop-drawn._drawn + 1) c.args.count c.loop-drawn-test.true
    (omega arith) c.next_number-number.ensures c.in_ok-push_drawn.ensures c.loop-drawn.invariant
