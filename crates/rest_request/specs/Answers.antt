-- What is answered to the bytes of a connection.
use Rattle.std.specs.Prelude.{◌≡◌, ◌≢◌, Option, option_map, Result, Ok, Err}
use Rattle.rest_message.specs.Requests.{RequestText, request_text}
use Rattle.rest_message.specs.declared.request.Request.{Request}
use Rattle.rest_request.specs.declared.fault.RequestFault.{RequestFault}
use Rattle.rest_request.specs.declared.fault.RequestFault.TheVariants as faults

-- what an answer of the reading tells
abbrev pub answer_seen : Result (Option Request) RequestFault → Result (Option RequestText) RequestFault
answer_seen (Ok o) = Ok (option_map request_text o)
answer_seen (Err e) = Err e

-- this is answered, unless memory was wanting
abbrev pub Answers : Result (Option Request) RequestFault → Result (Option RequestText) RequestFault → Type 0
Answers result answer = result ≢ Err faults.Memory → answer_seen result ≡ answer
