-- What a connection asks, and what a call tells of it.
use Rattle.std.specs.Prelude.{ℕ, ◌≡◌, ◌≤◌, ◌-◌, Bool, true, false, List, [], ◌∷◌, ◌++◌, take, Option, Some, None, Result, Ok, Err}
use Rattle.pat_outside.specs.Outside.{Known}
use Rattle.pat_door.specs.declared.door.Door.{Ghosts}
use Rattle.pat_door.specs.Doors.{DoorCall, DoorFacts, Failed, ReadCounts, after_read, bytes_here}
use Rattle.rest_message.specs.declared.request.Request.{Request}
use Rattle.rest_request.specs.declared.fault.RequestFault.{RequestFault}
use Rattle.rest_request.specs.declared.fault.RequestFault.TheVariants.{BadHead, TooLong, BadLength, Memory}
use Rattle.rest_message.specs.Requests.{RequestText, request_text}
use Rattle.rest_request.specs.Reading.{Begun, IsBegun, answer_of}
use Rattle.rest_connection.specs.declared.asking.AskError.{AskError}
use Rattle.rest_connection.specs.declared.asking.AskError.TheVariants.{Bytes, Connection}

-- what is answered where no more bytes come: a head or a content that isn't whole is a bad head
abbrev pub at_end : Result (Option RequestText) RequestFault → Result RequestText RequestFault
at_end (Ok None) = Err BadHead
at_end (Ok (Some asked)) = Ok asked
at_end (Err fault) = Err fault

-- this is asked by all the bytes that a connection brings, by what they begin with
abbrev pub IsRequested : List ℕ → Result RequestText RequestFault → Type 0
IsRequested all answer = (begun : Begun) × IsBegun all begun × (answer ≡ at_end (answer_of all begun))

-- what a fault of the bytes tells that they ask, and nothing of them where memory was wanting
abbrev pub fault_seen : RequestFault → Option (Result RequestText RequestFault)
fault_seen BadHead = Some (Err BadHead)
fault_seen TooLong = Some (Err TooLong)
fault_seen BadLength = Some (Err BadLength)
fault_seen Memory = None

-- what a call tells that the bytes ask, and nothing where memory was wanting or a read failed
abbrev pub seen : Result Request AskError → Option (Result RequestText RequestFault)
seen (Ok request) = Some (Ok (request_text request))
seen (Err (Bytes fault)) = fault_seen fault
seen (Err Connection) = None

-- of the bytes to come these at most were read, the rest is left, and
-- what was told is asked by those that were read alone
abbrev pub LeavesRest : ℕ → DoorFacts → Option DoorFacts → Option (Result RequestText RequestFault) → Type 0
LeavesRest most facts after told = (count : ℕ) × (count ≤ most) × (after ≡ Some (after_read count facts))
    × Known facts.here
    (λ all. (answer : Result RequestText RequestFault) → told ≡ Some answer → IsRequested (take count all) answer)

-- to these bytes there is no answer yet: more are wanted
abbrev pub IsUnanswered : List ℕ → Type 0
IsUnanswered bytes = (begun : Begun) × IsBegun bytes begun × (answer_of bytes begun ≡ Ok None)

-- whether a read failed, in a call that tells it: where memory was wanting nothing is said
abbrev pub fault_read : RequestFault → Option Bool
fault_read Memory = None
fault_read _ = Some false

abbrev pub read_failed : Result Request AskError → Option Bool
read_failed (Ok request) = Some false
read_failed (Err (Bytes fault)) = fault_read fault
read_failed (Err Connection) = Some true

-- how many bytes had been read of a connection before its last read; and where that failed, all of them
abbrev pub before_last : Bool → ReadCounts → ℕ
before_last true counts = counts.all
before_last false counts = counts.before

-- A connection was read no further than its first answer: what had been read of it before the last read had none yet
pub record ReadsToAnswer {D : Type 0} (door : Ghosts D) (before after : D) (failed : Bool) : Type 0 where
  pub unanswered : (counts : ReadCounts) → door.has_read before counts
      → (then : ReadCounts) × door.has_read after then
      × Known (bytes_here (door.told before)) (λ all. IsUnanswered (take (before_last failed then - counts.all) all))

-- what a door was called for, where a call ended with this error: a read of it failed besides, or none did
abbrev pub with_failed_read : AskError → List DoorCall → List DoorCall
with_failed_read (Bytes fault) calls = calls
with_failed_read Connection calls = calls ++ Failed ∷ []
