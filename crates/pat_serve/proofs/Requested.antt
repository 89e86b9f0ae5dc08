-- What was read of a connection.
use Rattle.std.proofs.Common.{◌≡◌, ℕ, List, Option, Some, Result, Ok, Err, refl, ◌∙◌, ap}
use Rattle.pat_outside.specs.Outside.{Known}
use Rattle.pat_door.specs.Doors.{DoorFacts, Tells, after_read}
use Rattle.rest_answer.specs.declared.refusal.Refusal.{Refusal}
use Rattle.rest_answer.specs.declared.refusal.Refusal.TheVariants as refusals
use Rattle.rest_connection.specs.declared.asking.AskError.{AskError}
use Rattle.rest_connection.specs.declared.asking.AskError.TheVariants.{Bytes}
use Rattle.rest_connection.specs.Connections.{IsRequested, LeavesRest, fault_seen, seen}
use Rattle.rest_message.specs.declared.request.Request.{Request}
use Rattle.rest_message.specs.Requests.{RequestText, request_text}
use Rattle.rest_request.specs.declared.fault.RequestFault.{RequestFault}
use Rattle.pat_serve.specs.Serving.{IsFaultOf, IsRead}

-- what is told of bytes is what they ask
abbrev pub Told : Result Request AskError → Option (List ℕ) → Type 0
Told result here =
    Known here (λ all. (answer : Result RequestText RequestFault) → seen result ≡ Some answer → IsRequested all answer)

-- a request was read
pub read-whole : (result : Result Request AskError) (request : Request) (here : Option (List ℕ))
    → Told result here → result ≡ Ok request → Known here (λ all. IsRead all (Ok request))
read-whole result request here told is = λ all there. told all there (Ok (request_text request)) (ap seen is)

fault-seen : (refusal : Refusal) (fault : RequestFault) → IsFaultOf refusal fault → fault_seen fault ≡ Some (Err fault)
fault-seen refusals.BadHead fault is = rw is refl
fault-seen refusals.TooLong fault is = rw is refl
fault-seen refusals.BadLength fault is = rw is refl
fault-seen refusals.NoAgent fault is = absurd is
fault-seen refusals.NoResult fault is = absurd is

-- what was read is refused
pub read-refused : (result : Result Request AskError) (fault : RequestFault) (refusal : Refusal)
    (here : Option (List ℕ)) → Told result here → result ≡ Err (Bytes fault) → IsFaultOf refusal fault
    → Known here (λ all. IsRead all (Err refusal))
read-refused result fault refusal here told is of =
    λ all there. (fault, of, told all there (Err fault) (ap seen is ∙ fault-seen refusal fault of))

-- some bytes were read
pub some-read : (most : ℕ) (before after : Option DoorFacts) (told : Option (Result RequestText RequestFault))
    → Tells before (λ facts. LeavesRest most facts after told)
    → Tells before (λ facts. (count : ℕ) × (after ≡ Some (after_read count facts)))
some-read most before after told left = λ facts there. let l = left facts there in (l.0, l.2)
