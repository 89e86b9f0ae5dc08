-- What a call that writes on a connection says of its door.
use Rattle.std.specs.Prelude.{ℕ, ◌≡◌, ◌++◌, List, [], ◌∷◌, Option, Some}
use Rattle.pat_door.specs.Doors.{DoorCall, DoorFacts, Failed, Tells, after_write}
use Rattle.rest_connection.specs.declared.replying.ReplyError.{ReplyError}
use Rattle.rest_connection.specs.declared.replying.ReplyError.TheVariants.{Connection, Memory}

-- where it is told, a front of these bytes was answered on the present connection
abbrev pub WritesFront : Option DoorFacts → Option DoorFacts → List ℕ → Type 0
WritesFront before after bytes =
    Tells before (λ facts. (front rest : List ℕ) × (front ++ rest ≡ bytes) × (after ≡ Some (after_write front facts)))

-- what a door was called for, where a call ended with this error: a write of it failed besides, or none did
abbrev pub with_failed_write : ReplyError → List DoorCall → List DoorCall
with_failed_write Memory calls = calls
with_failed_write Connection calls = calls ++ Failed ∷ []
