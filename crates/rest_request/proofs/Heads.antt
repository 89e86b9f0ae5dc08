-- What is answered by a head that was read, and how many fields one can have.
use Rattle.std.proofs.Common.{◌≡◌, ℕ, ◌*◌, ◌<◌, ◌≤◌, List, [], ◌∷◌, length, All, arith, ap, length-append, drop, map, refl, Result, Err, Option}
use Rattle.std.specs.List.{flat_map}
use Rattle.std.proofs.lemmas.List.Elements.{All-head, All-tail}
use Rattle.httparse.specs.Grammar.{LineEnd, lf, crlf, print_end, Field, IsField, print_field, RequestHead, IsRequestHead, print_request}
use Rattle.httparse.specs.Grammar.{HasNoRequest, MayBecomeRequest, NeverHasRequest}
use Rattle.httparse.specs.Spans.{RequestExceeds, IsRequestOf, IsRequestAt, name_and_value}
use Rattle.httparse.specs.declared.spans.HeaderSpan.{HeaderSpan}
use Rattle.httparse.specs.declared.spans.RequestSpans.{RequestSpans}
use Rattle.rest_request.specs.declared.limits.TheConstants.{LEAST_FIELD}
use Rattle.rest_message.specs.declared.request.Request.{Request}
use Rattle.rest_request.specs.declared.fault.RequestFault.{RequestFault}
use Rattle.rest_request.specs.declared.fault.RequestFault.TheVariants.{BadHead}
use Rattle.rest_request.specs.ContentLength.{content_length}
use Rattle.rest_request.specs.Answers.{Answers}
use Rattle.rest_request.specs.Reading.{Whole, Incomplete, Malformed, head_room, answer_by, answer_before_head, Reads}

end-length : (end : LineEnd) → 1 ≤ length (print_end end)
end-length crlf = omega arith
end-length lf = omega arith

field-length : (f : Field) → IsField f → LEAST_FIELD ≤ length (print_field f)
field-length f is = simp length-append (omega (arith, is.name.0, end-length f.end))

-- each field has a name of one byte, a colon and a line end
fields-length : (fields : List Field) → All IsField fields
    → LEAST_FIELD * length fields ≤ length (flat_map print_field fields)
fields-length [] are = omega arith
fields-length (f ∷ fields) are =
    rw length-append
    (omega
    (arith, field-length f (All-head IsField f fields are), fields-length fields (All-tail IsField f fields are)))

head-length : (h : RequestHead) → IsRequestHead h → LEAST_FIELD * length h.fields ≤ length (print_request h)
unfolding print_request
head-length h is = simp length-append (omega (arith, fields-length h.fields is.fields))

-- no head in these bytes has more fields than places for them, where those are more than a third of the bytes
pub not-too-many : (room : List ℕ) (most : ℕ) → length room < LEAST_FIELD * most → RequestExceeds most room → ⊥
not-too-many room most many exceeds =
    omega (
      arith,
      head-length exceeds.3 exceeds.4.0,
      simp length-append at (ap length exceeds.2),
      simp length-append at (ap length exceeds.4.1),
      many,
      exceeds.5,
    )

-- a whole head was read
pub complete : (bytes room rest : List ℕ) (headers : List HeaderSpan) (spans : RequestSpans)
    (result : Result (Option Request) RequestFault)
    → room ≡ head_room bytes → rest ≡ drop spans.len bytes → IsRequestOf room headers spans
    → ((h : RequestHead) → IsRequestAt room headers spans h →
    Answers result (answer_by h rest (content_length (map name_and_value h.fields))))
    → Reads bytes result
complete bytes room rest headers spans result is rest_is whole answers ok =
    (Whole whole.0, (_, rw is at whole.1.reads), rw (rest_is, whole.1.len) at (answers whole.0 whole.1 ok))

-- a head may still come
pub unfinished : (bytes room : List ℕ) (result : Result (Option Request) RequestFault)
    → room ≡ head_room bytes → HasNoRequest room → MayBecomeRequest room → Answers result (answer_before_head bytes)
    → Reads bytes result
unfinished bytes room result is none may answers ok = (Incomplete, (rw is at none, rw is at may), answers ok)

-- no head can come
pub never : (bytes room : List ℕ) → room ≡ head_room bytes → NeverHasRequest room → Reads bytes (Err BadHead)
never bytes room is none ok = (Malformed, rw is at none, refl)
