use Rattle.std.proofs.Common.{◌≡◌, ◌-◌, [], ◌∷◌, ◌++◌}
use Rattle.script_model.specs.declared.line.Line.TheVariants as lines
use Rattle.generator_model.specs.Generating.{ticks_behind, drawn_lines, generated_body}
use Rattle.script_generator.proofs.generating.generated_body.Given as goal

abbrev pub invariant-loop-drawn : goal.invariant-loop-drawn
invariant-loop-drawn l = l.body.items ++ (drawn_lines l.number (l.count - l._drawn) ++ lines.Run ticks_behind ∷ [])
    ≡ generated_body l.seed l.count
