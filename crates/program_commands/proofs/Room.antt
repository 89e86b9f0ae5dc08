-- Scripts within the limits have no more steps than a world takes.
use Rattle.std.proofs.Common.{ℕ, ◌+◌, ◌*◌, ◌≤◌, List, [], ◌∷◌, length, arith, length-append}
use Rattle.std.proofs.lemmas.List.{length-map, length-replicate}
use Rattle.cluster_model.specs.declared.step.Step.{Step}
use Rattle.cluster_model.specs.declared.step.Step.TheVariants as steps
use Rattle.cluster_model.specs.Steps.{steps_of, steps_of_line}
use Rattle.script_model.specs.declared.line.Line.{Line}
use Rattle.script_model.specs.declared.line.Line.TheVariants as lines
use Rattle.generator_model.proofs.BodyLaws.{generated-lines, generated-ticks}
use Rattle.generator_model.specs.Generating.{generated_body, generated_script}
use Rattle.generator_model.specs.Opening.{generated_head}
use Rattle.script_model.specs.Script.{ScriptText, line_text, names_of}
use Rattle.script_model.specs.Ticks.{ticks_of_line, total_ticks}
use Rattle.serve_model.specs.Connections.{connection_cost, most_waiting}
use Rattle.world_model.specs.Room.{most_steps}
use Rattle.command_line.specs.Drawing.{CanBeDrawn}
use Rattle.command_line.specs.Limits.{KeepsLimits}

-- a body has no more steps than ticks and lines
line-steps : (line : Line) → length (steps_of_line line) ≤ ticks_of_line line + 1
line-steps (lines.Run n) = omega (arith, length-replicate {A = Step} n steps.Scheduled)
line-steps (lines.Tick n) = omega (arith, length-replicate {A = Step} n steps.Tick)
line-steps (lines.Command command) = omega arith

body-steps : (body : List Line) → length (steps_of body) ≤ total_ticks body + length body
body-steps [] = omega arith
body-steps (line ∷ body) =
    omega (arith, line-steps line, body-steps body, length-append (steps_of_line line) (steps_of body))

pub room-alone : (script : ScriptText) → KeepsLimits 0 script → length (steps_of script.body) ≤ most_steps
room-alone script few = omega (arith, few.ticks, few.lines, body-steps script.body)

pub room-behind : (script : ScriptText) (count : ℕ) → KeepsLimits (most_waiting * count) script
    → length (steps_of script.body) + connection_cost * count ≤ most_steps
room-behind script count few = omega (arith, few.ticks, few.lines, body-steps script.body)

-- nor have scripts that are made of a number
pub room-drawn : (seed count : ℕ) → CanBeDrawn count → length (steps_of (generated_script seed count).body) ≤ most_steps
room-drawn seed count few = omega (
  arith,
  few,
  generated-ticks seed count,
  generated-lines seed count,
  length-map (generated_body seed count) (line_text (names_of generated_head)),
  body-steps (generated_body seed count),
)
