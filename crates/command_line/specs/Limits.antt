-- Scripts within the limits.
use Rattle.std.specs.Prelude.{ℕ, ◌+◌, ◌≤◌, length}
use Rattle.script_grammar.specs.Limits.{most_bytes, most_lines, most_ticks}
use Rattle.script_model.specs.Script.{ScriptText}
use Rattle.script_model.specs.Ticks.{total_ticks}

-- a script within the limits, where so many ticks come beside those of its lines
pub record KeepsLimits (waited : ℕ) (script : ScriptText) : Type 0 where
  pub ticks : total_ticks script.body + waited ≤ most_ticks
  pub lines : length script.body ≤ most_lines

-- so many bytes are read at most: one more than a script may have, so that one that has too many shows
abbrev pub most_read : ℕ
most_read = most_bytes + 1
