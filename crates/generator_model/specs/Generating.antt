-- A script made of a number.
use Rattle.std.specs.Prelude.{ℕ, zero, suc, List, [], ◌∷◌, ◌++◌}
use Rattle.script_model.specs.Script.{ScriptText}
use Rattle.script_model.specs.declared.line.Line.{Line}
use Rattle.script_model.specs.declared.line.Line.TheVariants as lines
use Rattle.generator_model.specs.Drawing.{drawn_line}
use Rattle.generator_model.specs.NumberSequence.{next_number, draw_of}
use Rattle.generator_model.specs.Opening.{generated_head}

-- the ticks of the run before the lines that are drawn
abbrev pub ticks_before : ℕ
ticks_before = 100

-- the ticks of the run behind them
abbrev pub ticks_behind : ℕ
ticks_behind = 600

-- so many lines that are drawn behind this number
abbrev pub drawn_lines : ℕ → ℕ → List Line
drawn_lines number zero = []
drawn_lines number (suc count) = drawn_line (draw_of (next_number number)) ∷ drawn_lines (next_number number) count

-- the lines of a generated body
abbrev pub generated_body : ℕ → ℕ → List Line
generated_body seed count = lines.Run ticks_before ∷ (drawn_lines seed count ++ lines.Run ticks_behind ∷ [])

-- the script of a number, with so many lines that are drawn
abbrev pub generated_script : ℕ → ℕ → ScriptText
generated_script seed count = record { head = generated_head; body = generated_body seed count }
