-- How a command was carried out, with what it leaves.
use Rattle.std.specs.Prelude.{ℕ, ◌≡◌, ◌≢◌, ◌↔◌, Bool, List, Option, Some, None, Ok, Err, Result, IsSome, IsTrue, IfSome, option_map}
use Rattle.pat_outside.specs.declared.outside.Source.{Ghosts}
use Rattle.pat_outside.specs.declared.outside.Sink.{Ghosts as SinkGhosts}
use Rattle.pat_outside.specs.Outside.{Known}
use Rattle.pat_door.specs.declared.door.Door.{Ghosts as DoorGhosts}
use Rattle.serve_model.specs.Connections.{Connection}
use Rattle.simulation.specs.Steps.{WorldFacts}
use Rattle.run_player.specs.Left.{IsLeftBy}
use Rattle.command_line.specs.declared.ending.Ending.{Ending}
use Rattle.command_line.specs.declared.ending.Ending.TheVariants as endings
use Rattle.command_line.specs.declared.status.Status.{Status}
use Rattle.command_line.specs.declared.status.Status.TheVariants as statuses
use Rattle.command_line.specs.Commands.{Command, heeded, plays, reads}
use Rattle.program_commands.specs.Verdicts.{IfPlayed, Says, Verdict, verdict_of, verdict_on}
use Rattle.program_commands.specs.Ends.{Ends, IsApart, address_in}
use Rattle.command_line.specs.Status.{status_of}

-- how a run ended that leaves something where all is done
abbrev pub ending_in : {A : Type 0} → Result A Ending → Ending
ending_in (Ok left) = endings.Done
ending_in (Err ending) = ending

-- how a command ended: the status, and the world that it leaves, if it leaves one
pub record EndedFacts : Type 0 where
  pub status : Status
  pub world : Option WorldFacts

-- a world is there exactly where all is done and a run was played, and it took all steps of that run
pub record LeavesWorld (played : Bool) (verdict : Verdict) (ended : EndedFacts) : Type 0 where
  pub done : IsSome ended.world ↔ ((ended.status ≡ statuses.Done) × IsTrue played)
  pub stands : IfSome ended.world (λ world. IfPlayed (λ run. IsLeftBy run world) verdict)

-- how a call ended that leaves a world, or none, where all is done
abbrev pub ended_by : {W : Type 0} → (W → WorldFacts) → Result (Option W) Ending → EndedFacts
ended_by facts (Ok left) = record { status = statuses.Done; world = option_map facts left }
ended_by facts (Err ending) = record { status = status_of ending; world = None }

-- words go by these bytes: by those of a source that is read, which
-- are those that it tells, if it tells any; and else by none
abbrev pub GoesBy : Option Command → Option (List ℕ) → List ℕ → Type 0
GoesBy words rest bytes = Known (heeded (reads words) rest) (λ all. bytes ≡ all)

-- words were carried out by these bytes while these connections came: the status
-- says what came of the words, and a run that was played leaves its world
pub record Carries {S K D : Type 0} (source : Ghosts S) (sink : SinkGhosts K) (door : DoorGhosts D) (input left : S)
    (out then : K) (was now : D) (words : Option Command) (bytes : List ℕ) (visitors : List Connection)
    (ended : EndedFacts) : Type 0 where
  pub ends : Ends source sink door input left out then was now (reads words) (verdict_of words visitors) bytes
      ended.status
  pub world : LeavesWorld (plays words) (verdict_of words visitors bytes) ended
  pub apart : IsApart door was now (address_in words) ended.status (verdict_of words visitors bytes)

-- what a call that carries out a command by these bytes says of it: the words
-- were one, these connections came, and what it names is that of the bytes
pub record IsCarriedOut {S K D W : Type 0} (source : Ghosts S) (sink : SinkGhosts K) (door : DoorGhosts D)
    (facts : W → WorldFacts) (input left : S) (out then : K) (was now : D) (command : Command) (bytes : List ℕ)
    (result : Result (Option W) Ending) : Type 0 where
  pub usage : status_of (ending_in result) ≢ statuses.Usage
  pub carries : (visitors : List Connection)
      × Carries source sink door input left out then was now (Some command) bytes visitors (ended_by facts result)
  pub says : (visitors : List Connection) → Says (ending_in result) (verdict_on command visitors bytes)
