-- What the bytes of a connection begin with, and what is answered to them.
use Rattle.std.specs.Prelude.{◌≡◌, ◌≢◌, ℕ, nat_lt, if◌then◌else◌, List, take, drop, map, length, Option, Some, None, Result, Ok, Err}
use Rattle.httparse.specs.Grammar.{RequestHead, print_request, ReadsRequest, HasNoRequest, NeverHasRequest, MayBecomeRequest}
use Rattle.httparse.specs.Spans.{name_and_value}
use Rattle.rest_request.specs.declared.limits.TheConstants.{HEAD_LIMIT}
use Rattle.rest_message.specs.declared.request.Request.{Request}
use Rattle.rest_request.specs.declared.fault.RequestFault.{RequestFault}
use Rattle.rest_request.specs.declared.fault.RequestFault.TheVariants.{BadHead, TooLong, Memory}
use Rattle.rest_request.specs.ContentLength.{content_length}
use Rattle.rest_message.specs.Requests.{RequestText}
use Rattle.rest_request.specs.Answers.{answer_seen}
use Rattle.rest_message.specs.Verbs.{verb_of}

-- the bytes within which a head has to end
abbrev pub head_room : List ℕ → List ℕ
head_room bytes = take HEAD_LIMIT bytes

-- what stands behind a head
abbrev pub behind : RequestHead → List ℕ → List ℕ
behind h bytes = drop (length (print_request h)) bytes

-- what a head with this content asks
abbrev pub asked : RequestHead → List ℕ → RequestText
asked h content = record { verb = verb_of h.method; target = h.target; body = content }

-- what is answered where this stands behind a head, and its fields give this length or are at fault
abbrev pub answer_by : RequestHead → List ℕ → Result ℕ RequestFault → Result (Option RequestText) RequestFault
answer_by h rest (Err fault) = Err fault
answer_by h rest (Ok n) = if nat_lt (length rest) n then Ok None else Ok (Some (asked h (take n rest)))

-- what is answered where the bytes begin with this head
abbrev pub answer_to : RequestHead → List ℕ → Result (Option RequestText) RequestFault
answer_to h bytes = answer_by h (behind h bytes) (content_length (map name_and_value h.fields))

-- what is answered while a head may still come
abbrev pub answer_before_head : List ℕ → Result (Option RequestText) RequestFault
answer_before_head bytes = if nat_lt HEAD_LIMIT (length bytes) then Err TooLong else Ok None

-- what bytes begin with: a whole head, or what may still become one, or what never will
pub data Begun : Type 0 where
  Whole : RequestHead → Begun
  Incomplete : Begun
  Malformed : Begun

-- the bytes begin so. Where they end within a target that no bytes make whole, they are incomplete and malformed
abbrev pub IsBegun : List ℕ → Begun → Type 0
IsBegun bytes (Whole h) = (rest : List ℕ) × ReadsRequest (head_room bytes) h rest
IsBegun bytes Incomplete = HasNoRequest (head_room bytes) × MayBecomeRequest (head_room bytes)
IsBegun bytes Malformed = NeverHasRequest (head_room bytes)

-- what is answered to bytes that begin so
abbrev pub answer_of : List ℕ → Begun → Result (Option RequestText) RequestFault
answer_of bytes (Whole h) = answer_to h bytes
answer_of bytes Incomplete = answer_before_head bytes
answer_of bytes Malformed = Err BadHead

-- this is answered to the bytes by what they begin with, unless memory was wanting
abbrev pub Reads : List ℕ → Result (Option Request) RequestFault → Type 0
Reads bytes result =
    result ≢ Err Memory → (begun : Begun) × IsBegun bytes begun × (answer_seen result ≡ answer_of bytes begun)
