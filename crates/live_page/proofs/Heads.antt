-- How many fields the head of a request can have.
use Rattle.std.proofs.Common.{◌≡◌, ℕ, ◌*◌, ◌<◌, ◌≤◌, List, [], ◌∷◌, ◌++◌, length, All, arith, ap, length-append}
use Rattle.std.specs.List.{flat_map}
use Rattle.std.proofs.lemmas.List.Elements.{All-head, All-tail}
use Rattle.httparse.specs.Grammar.{LineEnd, lf, crlf, print_end, Field, IsField, print_field, RequestHead, IsRequestHead, print_request, ReadsRequest}
use Rattle.live_page.specs.declared.origin.TheConstants.{LEAST_FIELD}

end-length : (end : LineEnd) → 1 ≤ length (print_end end)
end-length crlf = omega arith
end-length lf = omega arith

field-length : (f : Field) → IsField f → LEAST_FIELD ≤ length (print_field f)
field-length f is = simp length-append (omega (arith, is.name.0, end-length f.end))

-- each field has a name of one byte, a colon and a line end
fields-length : (fields : List Field) → All IsField fields
    → LEAST_FIELD * length fields ≤ length (flat_map print_field fields)
fields-length [] are = omega arith
fields-length (f ∷ fields) are =
    rw length-append
    (omega
    (arith, field-length f (All-head IsField f fields are), fields-length fields (All-tail IsField f fields are)))

head-length : (h : RequestHead) → IsRequestHead h → LEAST_FIELD * length h.fields ≤ length (print_request h)
unfolding print_request
head-length h is = simp length-append (omega (arith, fields-length h.fields is.fields))

-- the fields of a head in these bytes have places, where those are more than a third of the bytes
pub have-places : (room : List ℕ) (places : ℕ) (h : RequestHead) (rest : List ℕ) → length room < LEAST_FIELD * places
    → ReadsRequest room h rest → length h.fields ≤ places
have-places room places h rest many reads =
    omega (arith, head-length h reads.0, simp length-append at (ap length reads.1), many)
