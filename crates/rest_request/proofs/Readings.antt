-- What the bytes of a connection begin with, and what is answered to them with more behind them.
use Rattle.std.proofs.Common.{◌≡◌, ◌≢◌, ◌⊎◌, inl, inr, ℕ, zero, suc, ◌<◌, ◌≤◌, nat_lt, Bool, true, false, cond, List, [], ◌∷◌, ◌++◌, length, take, map, arith, refl, ap, append_assoc, length-append, length-take, Result, Ok, Err, Option, Some, None}
use Rattle.std.specs.Str.Parse.{digits_value}
use Rattle.std.proofs.lemmas.Bool.{ltb-true, ltb-false, lt-ltb, le-ltb}
use Rattle.std.proofs.lemmas.List.{take-append-le, drop-append-le}
use Rattle.httparse.specs.Grammar.{RequestHead, print_request, ReadsRequest, HasNoRequest, NeverHasRequest, MayBecomeRequest, EndsInTarget}
use Rattle.httparse.specs.Spans.{name_and_value}
use Rattle.httparse.proofs.GrammarLemmas.{request_unique, ReadsRequest-append}
use Rattle.rest_request.specs.declared.limits.TheConstants.{HEAD_LIMIT, BODY_LIMIT}
use Rattle.rest_request.specs.declared.fault.RequestFault.{RequestFault}
use Rattle.rest_request.specs.declared.fault.RequestFault.TheVariants.{TooLong, BadHead, BadLength}
use Rattle.rest_request.specs.ContentLength.{within_limit, is_decimal, length_by_all, length_values, content_length}
use Rattle.rest_message.specs.Requests.{RequestText}
use Rattle.rest_request.specs.Reading.{Begun, Whole, Incomplete, Malformed, IsBegun, head_room, behind, asked, answer_by, answer_of}

-- no head is there where none can come
never-there : (room : List ℕ) (h : RequestHead) (rest : List ℕ) → ReadsRequest room h rest → NeverHasRequest room → ⊥
never-there room h rest reads never = never [] h (rest ++ []) (ReadsRequest-append room h rest [] reads)

-- what may become a head and never does ends within a target
ends-in-target : (room : List ℕ) → MayBecomeRequest room → NeverHasRequest room → EndsInTarget room
ends-in-target room may never = elim may [ inl t ↦ absurd (never t.0 t.1 [] t.2) | inr t ↦ t ]

-- bytes are one thing, but for an end within a target
pub one-thing : (bytes : List ℕ) (one other : Begun) → IsBegun bytes one → IsBegun bytes other
    → (one ≡ other) ⊎ EndsInTarget (head_room bytes)
one-thing bytes (Whole h) (Whole k) x y = inl (ap Whole (request_unique (head_room bytes) h k x.0 y.0 x.1 y.1).0)
one-thing bytes (Whole h) Incomplete x y = absurd (y.0 h x.0 x.1)
one-thing bytes (Whole h) Malformed x y = absurd (never-there (head_room bytes) h x.0 x.1 y)
one-thing bytes Incomplete (Whole h) x y = absurd (x.0 h y.0 y.1)
one-thing bytes Incomplete Incomplete x y = inl refl
one-thing bytes Incomplete Malformed x y = inr (ends-in-target (head_room bytes) x.1 y)
one-thing bytes Malformed (Whole h) x y = absurd (never-there (head_room bytes) h y.0 y.1 x)
one-thing bytes Malformed Incomplete x y = inr (ends-in-target (head_room bytes) y.1 x)
one-thing bytes Malformed Malformed x y = inl refl

-- more bytes lengthen the front, or leave it
front-grows : (limit : ℕ) (bytes more : List ℕ)
    → (extra : List ℕ) × (take limit (bytes ++ more) ≡ take limit bytes ++ extra)
front-grows zero bytes more = ([], refl)
front-grows (suc limit) [] more = (take (suc limit) more, refl)
front-grows (suc limit) (byte ∷ bytes) more =
    let later = front-grows limit bytes more in
    (later.0, ap (λ front. byte ∷ front) later.1)

content-stays : (test : Bool) (h : RequestHead) (rest more : List ℕ) (n : ℕ) → nat_lt (length rest) n ≡ test
    → answer_by h rest (Ok n) ≢ Ok None → answer_by h (rest ++ more) (Ok n) ≡ answer_by h rest (Ok n)
content-stays true h rest more n is some = absurd (some (rw is refl))
content-stays false h rest more n is some =
    let enough : n ≤ length rest = ltb-false (length rest) n is in
    let still : nat_lt (length (rest ++ more)) n ≡ false =
    le-ltb (length (rest ++ more)) n (rw length-append (omega arith)) in
    rw (is, still, take-append-le n rest more enough) refl

-- what is answered to a head stays with more behind it
answer-stays : (h : RequestHead) (rest more : List ℕ) (length_is : Result ℕ RequestFault)
    → answer_by h rest length_is ≢ Ok None → answer_by h (rest ++ more) length_is ≡ answer_by h rest length_is
answer-stays h rest more (Err fault) some = refl
answer-stays h rest more (Ok n) some = content-stays (nat_lt (length rest) n) h rest more n refl some

head-within : (limit : ℕ) (bytes : List ℕ) (h : RequestHead) (rest : List ℕ)
    → ReadsRequest (take limit bytes) h rest → length (print_request h) ≤ length bytes
head-within limit bytes h rest reads =
    omega (arith, simp length-append at (ap length reads.1), length-take limit bytes)

head-stays : (limit : ℕ) (bytes more : List ℕ) (h : RequestHead) (rest : List ℕ)
    → ReadsRequest (take limit bytes) h rest → (later : List ℕ) × ReadsRequest (take limit (bytes ++ more)) h later
head-stays limit bytes more h rest reads =
    let grown = front-grows limit bytes more in
    (rest ++ grown.0, rw grown.1 (ReadsRequest-append (take limit bytes) h rest grown.0 reads))

never-stays : (limit : ℕ) (bytes more : List ℕ) → NeverHasRequest (take limit bytes)
    → NeverHasRequest (take limit (bytes ++ more))
never-stays limit bytes more never further h rest reads =
    let grown = front-grows limit bytes more in
    never (grown.0 ++ further) h rest (rw append_assoc at (rw grown.1 at reads))

is-full : (test : Bool) (limit : ℕ) (bytes : List ℕ) → nat_lt limit (length bytes) ≡ test
    → cond {A = Result (Option RequestText) RequestFault} test (Err TooLong) (Ok None) ≢ Ok None → limit < length bytes
is-full true limit bytes is some = ltb-true limit (length bytes) is
is-full false limit bytes is some = absurd (some refl)

still-full : (limit : ℕ) (bytes more : List ℕ) → limit < length bytes
    → nat_lt limit (length (bytes ++ more)) ≡ nat_lt limit (length bytes)
still-full limit bytes more full =
    let longer : limit < length (bytes ++ more) = rw length-append (omega arith) in
    rw (lt-ltb limit (length bytes) full, lt-ltb limit (length (bytes ++ more)) longer) refl

-- the front is full, so that more bytes leave it
incomplete-stays : (limit : ℕ) (bytes more : List ℕ) → limit < length bytes
    → HasNoRequest (take limit bytes) × MayBecomeRequest (take limit bytes)
    → HasNoRequest (take limit (bytes ++ more)) × MayBecomeRequest (take limit (bytes ++ more))
incomplete-stays limit bytes more full x =
    let same : take limit (bytes ++ more) ≡ take limit bytes = take-append-le limit bytes more (omega arith) in
    (rw same x.0, rw same x.1)

-- what was answered stays, unless more was asked for
pub stays : (bytes more : List ℕ) (begun : Begun) → IsBegun bytes begun → answer_of bytes begun ≢ Ok None
    → (later : Begun) × IsBegun (bytes ++ more) later × (answer_of (bytes ++ more) later ≡ answer_of bytes begun)
stays bytes more (Whole h) x some = (
  Whole h,
  head-stays HEAD_LIMIT bytes more h x.0 x.1,
  rw (drop-append-le (length (print_request h)) bytes more (head-within HEAD_LIMIT bytes h x.0 x.1))
      (answer-stays h (behind h bytes) more _ some),
)
stays bytes more Incomplete x some =
    let full : HEAD_LIMIT < length bytes = is-full (nat_lt HEAD_LIMIT (length bytes)) HEAD_LIMIT bytes refl some in
    (Incomplete, incomplete-stays HEAD_LIMIT bytes more full x, rw (still-full HEAD_LIMIT bytes more full) refl)
stays bytes more Malformed x some = (Malformed, never-stays HEAD_LIMIT bytes more x, refl)

-- of two answers that aren't this one, neither is
neither-is : {A : Type 0} (test : Bool) (x y z : A) → x ≢ z → y ≢ z → cond test x y ≢ z
neither-is true x y z differs also = differs
neither-is false x y z differs also = also

-- no length is a bad head
length-is-no-bad-head : (values : List (List ℕ)) → length_by_all values ≢ Err BadHead
length-is-no-bad-head [] = λ e. cc
length-is-no-bad-head (value ∷ []) =
    neither-is (is_decimal value) (within_limit (digits_value 10 value)) (Err BadLength) (Err BadHead)
    (neither-is (nat_lt BODY_LIMIT (digits_value 10 value)) (Err TooLong) (Ok (digits_value 10 value))
    (Err BadHead) (λ e. cc) (λ e. cc))
    (λ e. cc)
length-is-no-bad-head (value ∷ other ∷ more) = λ e. cc

same-fault : (f : RequestFault) → ◌≡◌ {A = Result (Option RequestText) RequestFault} (Err f) (Err BadHead)
    → ◌≡◌ {A = Result ℕ RequestFault} (Err f) (Err BadHead)
same-fault f e = cc

head-is-no-bad-head : (h : RequestHead) (rest : List ℕ) (length_is : Result ℕ RequestFault)
    → length_is ≢ Err BadHead → answer_by h rest length_is ≢ Err BadHead
head-is-no-bad-head h rest (Err fault) differs = λ e. differs (same-fault fault e)
head-is-no-bad-head h rest (Ok n) differs =
    neither-is (nat_lt (length rest) n) (Ok None) (Ok (Some (asked h (take n rest)))) (Err BadHead) (λ e. cc) (λ e. cc)

-- a bad head never becomes one
pub bad-head-never : (bytes : List ℕ) (begun : Begun) → IsBegun bytes begun
    → answer_of bytes begun ≡ Err BadHead → NeverHasRequest (head_room bytes)
bad-head-never bytes (Whole h) x e =
    absurd (head-is-no-bad-head h (behind h bytes) (content_length (map name_and_value h.fields))
    (length-is-no-bad-head (length_values (map name_and_value h.fields))) e)
bad-head-never bytes Incomplete x e =
    absurd (neither-is (nat_lt HEAD_LIMIT (length bytes)) (Err TooLong) (Ok None) (Err BadHead) (λ e. cc) (λ e. cc) e)
bad-head-never bytes Malformed x e = x

-- what never becomes a head is a bad one, but for an end within a target
pub never-bad-head : (bytes : List ℕ) (begun : Begun) → IsBegun bytes begun → NeverHasRequest (head_room bytes)
    → (answer_of bytes begun ≡ Err BadHead) ⊎ EndsInTarget (head_room bytes)
never-bad-head bytes (Whole h) x never = absurd (never-there (head_room bytes) h x.0 x.1 never)
never-bad-head bytes Incomplete x never = inr (ends-in-target (head_room bytes) x.1 never)
never-bad-head bytes Malformed x never = inl refl
