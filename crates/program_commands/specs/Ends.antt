-- How a command ends.
use Rattle.std.specs.Prelude.{ℕ, ◌≡◌, ◌≤◌, ◌⊎◌, Bool, false, List, [], ◌∷◌, length, Option, Some, Result, Ok, Err, IsTrue}
use Rattle.pat_outside.specs.declared.outside.Sink.{Ghosts as SinkGhosts}
use Rattle.pat_outside.specs.declared.outside.Source.{Ghosts as SourceGhosts}
use Rattle.pat_outside.specs.Outside.{Known, Rose, Grew, GrewByPrefix, Consumed}
use Rattle.pat_door.specs.declared.door.Door.{Ghosts as DoorGhosts}
use Rattle.cluster_model.specs.Starting.{cluster_of}
use Rattle.cluster_model.specs.Steps.{steps_of}
use Rattle.pat_door.specs.Doors.{Opened}
use Rattle.run_serving.specs.Served.{Came, ComeApart}
use Rattle.run_printing.specs.declared.serve_error.ServeError.{ServeError}
use Rattle.run_printing.specs.declared.serve_error.ServeError.TheVariants as errors
use Rattle.run_model.specs.Run.{lines_of_run}
use Rattle.run_model.specs.Visits.{after_steps, served_of}
use Rattle.command_line.specs.declared.status.Status.{Status}
use Rattle.command_line.specs.declared.status.Status.TheVariants as statuses
use Rattle.command_line.specs.Limits.{most_read}
use Rattle.command_line.specs.Commands.{Command, Serve}
use Rattle.program_commands.specs.Verdicts.{EndsWhole, Faulty, Makes, PastCount, PastLimit, Plan, Serves, UnknownMember, Verdict, plan_text}

-- the input is no script, or declares no such member
abbrev pub IsFaulty : Verdict → Type 0
IsFaulty (Faulty line fault) = Unit {0}
IsFaulty UnknownMember = Unit {0}
IsFaulty _ = ⊥

-- the input passes a limit of scripts, or more lines are to be drawn than may be
abbrev pub IsPastLimit : Verdict → Type 0
IsPastLimit PastCount = Unit {0}
IsPastLimit (PastLimit limit) = Unit {0}
IsPastLimit _ = ⊥

-- how connections were served where a command ended so
abbrev pub serving_of : Status → Result (Unit {0}) ServeError
serving_of statuses.Done = Ok tt
serving_of statuses.WriteFault = Err errors.Write
serving_of statuses.DoorFault = Err errors.Door
serving_of _ = Err errors.Memory

-- the address at which words ask to serve, if they do
abbrev pub address_in : Option Command → List ℕ
address_in (Some (Serve member address count)) = address
address_in _ = []

-- the connections of a plan came to a door that was opened at this
-- address, once and before them, and each failed for itself
abbrev pub IsApart : {D : Type 0} → DoorGhosts D → D → D → List ℕ → Status → Verdict → Type 0
IsApart door was now address status (Makes (Serves script id count visitors)) =
    ComeApart door was now (serving_of status) (after_steps (cluster_of script.head) (steps_of script.body)) id
    (Opened address ∷ []) visitors
IsApart door was now address status _ = Unit {0}

-- a source, a sink and a door before a command and after it, whether the command reads the
-- source, what comes of it by bytes, and the bytes that it goes by: those of the source, if that tells them
module _ {S K D : Type 0} (source : SourceGhosts S) (sink : SinkGhosts K) (door : DoorGhosts D)
    (input left : S) (out then : K) (was now : D) (read : Bool) (verdict : List ℕ → Verdict) (bytes : List ℕ) where
  -- no read fails
  abbrev pub NoReadFails : Type 0
  NoReadFails = IsTrue read → source.is_reliable input

  abbrev pub IsUnwritten : Type 0
  IsUnwritten = sink.content then ≡ sink.content out

  -- all that was to be printed is
  abbrev pub IsDone : Verdict → Type 0
  IsDone (Makes plan) = Grew (sink.content out) (sink.content then) (plan_text plan)
  IsDone _ = ⊥

  -- a front of what was to be printed is
  abbrev pub IsBroken : Verdict → Type 0
  IsBroken (Makes plan) = GrewByPrefix (sink.content out) (sink.content then) (plan_text plan)
  IsBroken _ = ⊥

  -- of what was to be printed the lines of whole steps are; of what gives no plan, nothing
  abbrev pub IsCut : Verdict → Type 0
  IsCut (Makes plan) = (text : List ℕ) × EndsWhole plan text × Grew (sink.content out) (sink.content then) text
  IsCut _ = IsUnwritten

  -- connections were to come, and of what was to be printed all but the closing summary is
  abbrev pub IsHalted : Verdict → Type 0
  IsHalted (Makes (Serves script id count visitors)) =
      Grew (sink.content out) (sink.content then) (lines_of_run (served_of script id visitors))
  IsHalted _ = ⊥

  -- what each status says of the bytes, of the input, of the output and of the door
  abbrev pub Means : Status → Type 0
  Means statuses.Done =
      IsDone (verdict bytes) × (IsTrue read → Known (source.rest input) (λ all. source.rest left ≡ Some []))
  Means statuses.NotScript = IsFaulty (verdict bytes) × IsUnwritten
  Means statuses.Usage = IsUnwritten
  Means statuses.ReadFault = IsTrue read × Rose (source.faults input) (source.faults left) × IsUnwritten
  Means statuses.WriteFault = Rose (sink.faults out) (sink.faults then) × IsBroken (verdict bytes)
  Means statuses.Memory = IsCut (verdict bytes)
  Means statuses.DoorFault =
      Rose (door.door_faults was) (door.door_faults now) × IsHalted (verdict bytes)
  Means statuses.Limit = IsPastLimit (verdict bytes) × IsUnwritten

  -- what became of the door: the connections of a plan came to it, which else has nothing to do with it
  abbrev pub IsVisited : Status → Verdict → Type 0
  IsVisited status (Makes (Serves script id count visitors)) = Came door was now (serving_of status)
      (after_steps (cluster_of script.head) (steps_of script.body)) id count visitors
  IsVisited status _ = now ≡ was

  -- the door serves as many connections as a plan has
  abbrev pub IsServedBy : Plan → Type 0
  IsServedBy (Serves script id count visitors) = door.serves was count
  IsServedBy _ = Unit {0}

  -- A command that doesn't read the input leaves it as it was. Where no read fails, bytes that pass
  -- a limit or are no script are told apart from scripts, unless memory is wanting, and where the
  -- output has room too, and the door serves as many connections as there are to be, all is printed.
  pub record Ends (status : Status) : Type 0 where
    pub means : Means status
    pub unread : read ≡ false → left ≡ input
    pub visited : IsVisited status (verdict bytes)
    pub past_limit : NoReadFails → IsPastLimit (verdict bytes)
        → (status ≡ statuses.Limit) ⊎ (status ≡ statuses.Memory)
    pub faulty : NoReadFails → IsFaulty (verdict bytes) → (status ≡ statuses.NotScript) ⊎ (status ≡ statuses.Memory)
    pub complete : NoReadFails → (plan : Plan) → verdict bytes ≡ Makes plan → (n : ℕ) → sink.can_take out n
        → length (plan_text plan) ≤ n → IsServedBy plan → (status ≡ statuses.Done) ⊎ (status ≡ statuses.Memory)
    pub consumed : Consumed (source.rest input) (source.rest left) most_read
