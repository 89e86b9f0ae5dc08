-- A run with connections behind its script: which came, and what was sent on each.
use Rattle.std.specs.Prelude.{ℕ, ◌≡◌, ◌≢◌, ◌≤◌, false, List, [], ◌∷◌, ◌++◌, length, All, Some, None, Result, Err, IfOk, IsErr, OnOk, IsErrOf, MatchResult, ◌⊎◌, ◌+◌, ◌-◌}
use Rattle.pat_base.specs.declared.member_id.MemberId.{MemberId}
use Rattle.pat_outside.specs.declared.outside.Sink.{Ghosts as SinkGhosts}
use Rattle.pat_outside.specs.Outside.{Grew, Rose}
use Rattle.pat_outside.specs.Prints.{Prints}
use Rattle.script_model.specs.Script.{ScriptText}
use Rattle.cluster_model.specs.Starting.{cluster_of}
use Rattle.cluster_model.specs.State.{Cluster}
use Rattle.cluster_model.specs.Steps.{steps_of}
use Rattle.pat_door.specs.declared.door.Door.{Ghosts as DoorGhosts}
use Rattle.pat_door.specs.Doors.{Accepted, DoorCall, DoorFacts, Tells}
use Rattle.serve_model.specs.Connections.{Connection, IsSent, Unread, Whole, bytes_due, steps_of_connection}
use Rattle.pat_serve.specs.Serving.{IsRead, calls_by}
use Rattle.simulation.specs.Steps.{WorldFacts}
use Rattle.run_printing.specs.declared.print_error.PrintError.TheVariants as prints
use Rattle.run_printing.specs.declared.serve_error.ServeError.{ServeError}
use Rattle.run_printing.specs.declared.serve_error.ServeError.TheVariants.{Door, Memory, Write}
use Rattle.run_player.specs.Left.{IsLeftBy}
use Rattle.run_player.specs.Playing.{PrintsWholeSteps}
use Rattle.run_model.specs.Run.{lines_of_run, text_of_run}
use Rattle.run_model.specs.Visits.{after_steps, served_of}

-- a connection with these bytes, in this cluster: it asks what they
-- say, unless a read failed, and this was sent of what was due
pub record IsServed (cluster : Cluster) (id : MemberId) (bytes : List ℕ) (visitor : Connection) (sent : List ℕ) : Type
    0 where
  pub asks : visitor.course ≢ Unread → IsRead bytes visitor.asks
  pub sends : IsSent visitor.course (bytes_due cluster id visitor) sent

-- the next connections of a door were served so, one after another, from this cluster on: so it was, and so it is
abbrev pub AreServed : Cluster → MemberId → List Connection → DoorFacts → DoorFacts → Type 0
AreServed cluster id [] facts then = then ≡ facts
AreServed cluster id (visitor ∷ more) facts then =
    (bytes : List ℕ) × (coming : List (List ℕ)) × (sent : List ℕ) × (facts.coming ≡ bytes ∷ coming)
    × IsServed cluster id bytes visitor sent
    × AreServed (after_steps cluster (steps_of_connection cluster id visitor)) id more
    (record { coming = coming; here = None; answered = facts.answered ++ sent ∷ [] }) then

-- no read or write of these connections failed
abbrev pub AreWhole : List Connection → Type 0
AreWhole visitors = All (λ visitor. visitor.course ≡ Whole) visitors

-- of connections that were to be so many these came to a door: where it tells that, they were its next ones, unless
-- memory was wanting. None of them failed where it counts no fault of theirs, and all came where it serves as many
pub record Came {D X : Type 0} (door : DoorGhosts D) (was now : D) (result : Result X ServeError)
    (cluster : Cluster) (id : MemberId) (count : ℕ) (visitors : List Connection) : Type 0 where
  pub told : result ≢ Err Memory
      → Tells (door.told was)
      (λ facts. (then : DoorFacts) × (door.told now ≡ Some then) × AreServed cluster id visitors facts then)
  pub many : OnOk result (length visitors ≡ count)
  pub few : length visitors ≤ count
  pub halts : IsErrOf result Door → Rose (door.door_faults was) (door.door_faults now)
  pub door_grows : door.door_faults was ≤ door.door_faults now
  pub fails : AreWhole visitors ⊎ Rose (door.connection_faults was) (door.connection_faults now)
  pub grows : door.connection_faults was ≤ door.connection_faults now
  pub serves : (more : ℕ) → door.serves was (count + more)
      → MatchResult result (λ _. door.serves now more) (λ error. error ≢ Door)

-- what a door is called for by connections: each is accepted, and one that isn't whole has a read or a write that fails
abbrev pub calls_with : List DoorCall → List Connection → List DoorCall
calls_with calls [] = calls
calls_with calls (visitor ∷ more) = calls_with (calls_by visitor.course (calls ++ Accepted ∷ [])) more

-- a count of faults that rises from the first number to the second, from one
-- connection to the next: it rose within each connection that isn't whole
abbrev pub FailApart : List Connection → ℕ → ℕ → Type 0
FailApart [] was now = was ≤ now
FailApart (visitor ∷ more) was now =
    (mid : ℕ) × (was ≤ mid) × (visitor.course ≢ Whole → Rose was mid) × FailApart more mid now

-- so many bytes are due on connections, one after another, from this cluster on
abbrev pub due_on : Cluster → MemberId → List Connection → ℕ
due_on cluster id [] = 0
due_on cluster id (visitor ∷ more) =
    length (bytes_due cluster id visitor)
    + due_on (after_steps cluster (steps_of_connection cluster id visitor)) id more

-- a door was called for this first, and for these connections then; or an error came before that, and it wasn't called
abbrev pub IsCalledFor : {D X : Type 0} → DoorGhosts D → D → Result X ServeError → List DoorCall → List DoorCall
    → List Connection → Type 0
IsCalledFor door now result calls first visitors =
    door.heard now (calls_with (calls ++ first) visitors) ⊎ (IsErr result × (visitors ≡ []) × door.heard now calls)

-- Of connections to a door each is accepted behind what the door was called for first, and fails for
-- itself: none does on a door that has room for what is due on all of them
pub record ComeApart {D X : Type 0} (door : DoorGhosts D) (was now : D) (result : Result X ServeError)
    (cluster : Cluster) (id : MemberId) (first : List DoorCall) (visitors : List Connection) : Type 0 where
  pub heard : result ≢ Err Memory → (calls : List DoorCall) → door.heard was calls
      → IsCalledFor door now result calls first visitors
  pub apart : FailApart visitors (door.connection_faults was) (door.connection_faults now)
  pub whole : (n : ℕ) → door.has_room was n → due_on cluster id visitors ≤ n
      → AreWhole visitors × OnOk result (door.has_room now (n - due_on cluster id visitors))

-- a script was played, and so many connections were to be served
-- behind it: these were, and the run with them was printed
pub record Serves {K D W : Type 0} (sink : SinkGhosts K) (door : DoorGhosts D) (facts : W → WorldFacts)
    (out then : K) (was now : D) (result : Result W ServeError) (script : ScriptText) (id : MemberId)
    (count : ℕ) (visitors : List Connection) : Type 0 where
  pub printed : Prints sink out then Write result (text_of_run (served_of script id visitors))
  pub whole : IsErrOf result Memory
      → PrintsWholeSteps sink out then (cluster_of script.head) false (served_of script id visitors).steps
  pub halted : IsErrOf result Door
      → Grew (sink.content out) (sink.content then) (lines_of_run (served_of script id visitors))
  pub world : IfOk result (λ world. IsLeftBy (served_of script id visitors) (facts world))
  pub came : Came door was now result (after_steps (cluster_of script.head) (steps_of script.body)) id count visitors
