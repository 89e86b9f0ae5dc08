-- The ticks of a body.
use Rattle.std.specs.Prelude.{ℕ, ◌+◌, List, [], ◌∷◌}
use Rattle.script_model.specs.declared.line.Line.{Line}
use Rattle.script_model.specs.declared.line.Line.TheVariants as lines

-- the ticks of a line: those of 'run N' and 'tick N'
abbrev pub ticks_of_line : Line → ℕ
ticks_of_line (lines.Run n) = n
ticks_of_line (lines.Tick n) = n
ticks_of_line (lines.Command command) = 0

-- the ticks of all lines 'tick' and 'run'
abbrev pub total_ticks : List Line → ℕ
total_ticks [] = 0
total_ticks (line ∷ body) = ticks_of_line line + total_ticks body
