-- The steps of a run: which a script with these members may have, and those that the lines of a body are made of.
use Rattle.std.specs.Prelude.{List, [], ◌∷◌, map, replicate}
use Rattle.std.specs.List.{flat_map}
use Rattle.pat_base.specs.declared.name.Name.{Name}
use Rattle.event_book.specs.declared.member.Member.{Member}
use Rattle.script_model.specs.declared.line.Line.{Line}
use Rattle.script_model.specs.declared.line.Line.TheVariants as lines
use Rattle.script_model.specs.Script.{IsCommand, IsMember}
use Rattle.cluster_model.specs.declared.step.Step.{Step}
use Rattle.cluster_model.specs.declared.step.Step.TheVariants as steps

-- the names of members, in script order
abbrev pub names_in : List Member → List Name
names_in members = map (λ (member : Member). member.name) members

-- a tick, a command that a script may have, or what a connection brings: it names declared members only
abbrev pub IsStep : List Member → Step → Type 0
IsStep members (steps.Command command) = IsCommand (names_in members) command
IsStep members (steps.Connection id visit) = IsMember (names_in members) id
IsStep members _ = Unit {0}

-- a line 'run' or 'tick' is so many ticks, another is a step by itself
abbrev pub steps_of_line : Line → List Step
steps_of_line (lines.Run n) = replicate n steps.Scheduled
steps_of_line (lines.Tick n) = replicate n steps.Tick
steps_of_line (lines.Command command) = steps.Command command ∷ []

-- the steps of a body, in order
abbrev pub steps_of : List Line → List Step
steps_of body = flat_map steps_of_line body
