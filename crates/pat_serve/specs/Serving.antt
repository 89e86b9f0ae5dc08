-- What a call that serves a connection says of its world, of its events and of its door.
use Rattle.std.specs.Prelude.{ℕ, ◌≡◌, ◌≢◌, ◌≤◌, ◌-◌, ◌++◌, Bool, true, false, List, [], ◌∷◌, length, map, Option, Some, Result, Ok, Err}
use Rattle.pat_base.specs.declared.member_id.MemberId.{MemberId}
use Rattle.pat_outside.specs.Outside.{Known, Rose}
use Rattle.event_list.specs.Listed.{Listed, traced_list}
use Rattle.cluster_model.specs.declared.step.Step.{Step}
use Rattle.cluster_model.specs.Cluster.{cluster_over}
use Rattle.cluster_model.specs.Next.{run_events}
use Rattle.cluster_model.specs.Starting.{cluster_of}
use Rattle.cluster_model.specs.State.{Cluster}
use Rattle.pat_door.specs.declared.door.Door.{Ghosts}
use Rattle.pat_door.specs.Doors.{DoorCall, DoorFacts, Failed, ReadCounts, Tells, after_hang_up, after_write, bytes_here}
use Rattle.run_model.specs.Run.{Played, events_by_step, run_of}
use Rattle.simulation.specs.Book.{StandsFor}
use Rattle.simulation.specs.Steps.{TookSteps, WorldFacts}
use Rattle.rest_answer.specs.declared.refusal.Refusal.{Refusal}
use Rattle.rest_answer.specs.declared.refusal.Refusal.TheVariants as refusals
use Rattle.rest_connection.specs.Connections.{IsRequested, ReadsToAnswer}
use Rattle.rest_message.specs.declared.request.Request.{Request}
use Rattle.rest_message.specs.Requests.{request_text}
use Rattle.rest_request.specs.declared.fault.RequestFault.{RequestFault}
use Rattle.rest_request.specs.declared.fault.RequestFault.TheVariants as faults
use Rattle.serve_model.specs.Connections.{Connection, Course, IsSent, Unread, Unwritten, Whole, bytes_due, steps_of_connection}

-- the fault of bytes for which they are refused
abbrev pub IsFaultOf : Refusal → RequestFault → Type 0
IsFaultOf refusals.BadHead fault = fault ≡ faults.BadHead
IsFaultOf refusals.TooLong fault = fault ≡ faults.TooLong
IsFaultOf refusals.BadLength fault = fault ≡ faults.BadLength
IsFaultOf _ fault = ⊥

-- all the bytes of a connection ask this, or are refused for this
abbrev pub IsRead : List ℕ → Result Request Refusal → Type 0
IsRead all (Ok request) = IsRequested all (Ok (request_text request))
IsRead all (Err refusal) = (fault : RequestFault) × IsFaultOf refusal fault × IsRequested all (Err fault)

-- a world took these steps, and their events, step by step, stand at the end of a list; messages are traced in them
pub record Brings (before after : WorldFacts) (had has : List Listed) (steps : List Step) : Type 0 where
  pub cluster : after.cluster ≡ cluster_over before.cluster (run_events before.cluster steps)
  pub taken : TookSteps before after (length steps)
  pub events : has ≡ had ++ map traced_list (events_by_step before.cluster steps)

-- a run of a head that brought a world here goes on by more steps, and brings it there, while their
-- events, step by step, are added to a list: what is promised of every run of that head is so of it
pub record GoesOn (played : Played) (before after : Cluster) (had has : List Listed) : Type 0 where
  pub more : List Step
  pub events : has ≡ had ++ map traced_list (events_by_step before more)
  pub stands : StandsFor (cluster_of played.head)
      (run_of (record { head = played.head; steps = played.steps ++ more })) after

-- how a connection goes whose reply was written whole, or else in part
abbrev pub course_of : Bool → Course
course_of true = Whole
course_of false = Unwritten

-- a read or a write failed once on a connection that isn't whole, and none on one that is
abbrev pub calls_by : Course → List DoorCall → List DoorCall
calls_by Whole calls = calls
calls_by Unread calls = calls ++ Failed ∷ []
calls_by Unwritten calls = calls ++ Failed ∷ []

-- whether a read failed
abbrev pub is_unread : Course → Bool
is_unread Unread = true
is_unread Whole = false
is_unread Unwritten = false

-- a connection to the agent of the member of this number was served, in this cluster: it asks what
-- its bytes say, and what was due was sent. This is what its door tells where it is ended. A read or
-- a write of it fails only where the door counts a fault, and none on a door that takes what is due.
-- It is read no further than its first answer
pub record Serves {D : Type 0} (door : Ghosts D) (before after : D) (told : Option DoorFacts)
    (cluster : Cluster) (id : MemberId) (connection : Connection) : Type 0 where
  pub asks : connection.course ≢ Unread → Known (bytes_here (door.told before)) (λ all. IsRead all connection.asks)
  pub sends : Tells (door.told before)
      (λ facts. (sent : List ℕ) × IsSent connection.course (bytes_due cluster id connection) sent ×
      (told ≡ Some (after_hang_up (after_write sent facts))))
  pub fails : connection.course ≢ Whole → Rose (door.connection_faults before) (door.connection_faults after)
  pub reads : (n : ℕ) → door.takes before n → connection.course ≢ Unread
  pub writes : (n : ℕ) → door.takes before n → length (bytes_due cluster id connection) ≤ n → connection.course ≡ Whole
  pub spare : (n : ℕ) → door.has_room before n → connection.course ≡ Whole
      → door.has_room after (n - length (bytes_due cluster id connection))
  pub early : ReadsToAnswer door before after (is_unread connection.course)
  pub heard : (calls : List DoorCall) → door.heard before calls → door.heard after (calls_by connection.course calls)

-- a connection that asks this was answered, whole or in part: the world took what it brings, and what was due was sent
pub record Answers {D : Type 0} (door : Ghosts D) (before after : D) (world then : WorldFacts)
    (had has : List Listed) (id : MemberId) (asks : Result Request Refusal) (whole : Bool) : Type 0 where
  pub brings : Brings world then had has
      (steps_of_connection world.cluster id (record { asks = asks; course = course_of whole }))
  pub sends : Tells (door.told before)
      (λ facts. (sent : List ℕ) ×
      IsSent (course_of whole) (bytes_due world.cluster id (record { asks = asks; course = course_of whole })) sent ×
      (door.told after ≡ Some (after_write sent facts)))
  pub fails : whole ≡ false → Rose (door.connection_faults before) (door.connection_faults after)
  pub writes : (n : ℕ) → door.takes before n
      → length (bytes_due world.cluster id (record { asks = asks; course = course_of whole })) ≤ n → whole ≡ true
  pub spare : (n : ℕ) → door.has_room before n → whole ≡ true
      → door.has_room after
      (n - length (bytes_due world.cluster id (record { asks = asks; course = course_of whole })))
  pub heard : (calls : List DoorCall) → door.heard before calls → door.heard after (calls_by (course_of whole) calls)
  pub counts : (counts : ReadCounts) → door.has_read before counts → door.has_read after counts
