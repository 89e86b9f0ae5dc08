-- What a connection asks, read piece by piece.
use Rattle.std.proofs.Common.{ℕ, zero, suc, ◌≡◌, ◌≢◌, ◌⊎◌, inl, inr, ◌<◌, ◌≤◌, ◌+◌, ◌-◌, nat_lt, Bool, true, false, List, [], ◌∷◌, ◌++◌, length, map, take, drop, Option, Some, None, option_map, Result, Ok, Err, IsErrAnd, IsSome, IfSome, IsTrue, MatchResult, arith, refl, ap, sym, ◌∙◌, subst, length-append, length-take, length-drop, take-append-drop, take_all}
use Rattle.std.specs.Str.Parse.{digits_value}
use Rattle.std.proofs.lemmas.Bool.{ltb-true, ltb-false}
use Rattle.std.specs.Prelude.{codes}
use Rattle.std.specs.Str.{IsAscii}
use Rattle.std.proofs.lemmas.Str.{IsUtf8-from_ascii}
use Rattle.std.proofs.lemmas.List.Elements.{All-nil, All-cons}
use Rattle.httparse.specs.Grammar.{RequestHead, IsRequestHead, HasNoRequest, IsField, lf, is_token_byte, is_uri_byte, print_request, EndsInTarget}
use Rattle.httparse.specs.Spans.{name_and_value}
use Rattle.httparse.proofs.GrammarLemmas.{request_unique, ReadsRequest-append}
use Rattle.pat_outside.specs.Outside.{Known}
use Rattle.pat_outside.proofs.Contents.{HasRead, HasRead-more}
use Rattle.pat_door.specs.Doors.{DoorCall, DoorFacts, ReadCounts, Tells, bytes_here, after_read, read_more}
use Rattle.pat_door.specs.declared.door.Door.{Ghosts}
use Rattle.pat_door.proofs.Growing.{after_read-twice}
use Rattle.rest_request.specs.declared.limits.TheConstants.{HEAD_LIMIT, BODY_LIMIT}
use Rattle.rest_message.specs.declared.request.Request.{Request}
use Rattle.rest_request.specs.declared.fault.RequestFault.{RequestFault}
use Rattle.rest_request.specs.declared.fault.RequestFault.TheVariants.{BadHead, TooLong, BadLength, Memory}
use Rattle.rest_request.specs.ContentLength.{within_limit, is_decimal, length_by_all, length_values, content_length}
use Rattle.rest_message.specs.Requests.{RequestText, request_text}
use Rattle.rest_request.specs.Answers.{answer_seen}
use Rattle.rest_request.specs.Reading.{Begun, Whole, Incomplete, Malformed, IsBegun, head_room, behind, answer_by, answer_of, Reads}
use Rattle.rest_request.proofs.Readings.{one-thing, stays}
use Rattle.rest_connection.specs.declared.asking.TheConstants.{PIECE}
use Rattle.rest_connection.specs.declared.asking.AskError.{AskError}
use Rattle.rest_connection.specs.declared.asking.AskError.TheVariants.{Bytes, Connection}
use Rattle.rest_connection.specs.Connections.{IsRequested, IsUnanswered, LeavesRest, ReadsToAnswer, at_end, fault_read, fault_seen, read_failed, seen, with_failed_read}

-- the most bytes that are read of a connection
abbrev pub most-read : ℕ
most-read = HEAD_LIMIT + (BODY_LIMIT + PIECE)

-- so many bytes have been read behind these counts, and before the last read there was no answer
pub record ReadEarly {D : Type 0} (door : Ghosts D) (before after : D) (bytes : List ℕ) (counts : ReadCounts) : Type
    0 where
  pub then : ReadCounts
  pub has : door.has_read after then
  pub all : then.all ≡ counts.all + length bytes
  pub unanswered : 0 < length bytes
      → Known (bytes_here (door.told before)) (λ all. IsUnanswered (take (then.before - counts.all) all))

-- these bytes have been read, and what the door promised still holds
pub record Reading {D : Type 0} (door : Ghosts D) (before after : D) (bytes : List ℕ) : Type 0 where
  pub facts : Tells (door.told before) (λ facts. door.told after ≡ Some (after_read (length bytes) facts))
  pub read : HasRead (bytes_here (door.told before)) (bytes_here (door.told after))
      (door.connection_faults before) (door.connection_faults after) bytes most-read
  pub present : 0 < length bytes → Tells (door.told before) (λ facts. IsSome facts.here)
  pub calm : door.door_faults after ≡ door.door_faults before
  pub served : (n : ℕ) → door.serves before n → door.serves after n
  pub reliable : (n : ℕ) → door.takes before n → door.takes after n
  pub spare : (n : ℕ) → door.has_room before n → door.has_room after n
  pub heard : (calls : List DoorCall) → door.heard before calls → door.heard after calls
  pub early : (counts : ReadCounts) → door.has_read before counts → ReadEarly door before after bytes counts

-- nothing was read yet
nothing-here : (here : Option (List ℕ)) → option_map (drop 0) here ≡ here
nothing-here None = refl
nothing-here (Some all) = refl

no-byte : 0 < length {A = ℕ} [] → ⊥
no-byte some = omega (arith, some)

nothing-read : {D : Type 0} (door : Ghosts D) (before : D) → Reading door before before []
nothing-read door before = record {
  facts = λ facts is. is ∙ ap (λ here. Some (record facts { here = here })) (sym (nothing-here facts.here));
  read = record {
    within = omega arith;
    front = λ all is. (omega arith, refl);
    rest = λ all is. is;
    grows = omega arith;
  };
  present = λ some. absurd (no-byte some);
  calm = refl;
  served = λ n serves. serves;
  reliable = λ n takes. takes;
  spare = λ n has. has;
  heard = λ calls heard. heard;
  early = λ counts has. record {
    then = counts;
    has = has;
    all = omega arith;
    unanswered = λ some. absurd (no-byte some);
  };
}

pub reading-starts : {D : Type 0} (door : Ghosts D) (before : D) (bytes : List ℕ) → bytes ≡ []
    → Reading door before before bytes
reading-starts door before bytes none = subst (Reading door before before) (sym none) (nothing-read door before)

-- two reads are as good as one
read-more : (before mid after : Option DoorFacts) (count more : ℕ)
    → Tells before (λ facts. mid ≡ Some (after_read count facts))
    → Tells mid (λ facts. after ≡ Some (after_read more facts))
    → Tells before (λ facts. after ≡ Some (after_read (count + more) facts))
read-more before mid after count more had next facts is =
    next (after_read count facts) (had facts is) ∙ ap Some (after_read-twice facts count more)

-- what is left on the present connection
pub here-after : (before after : Option DoorFacts) (count : ℕ)
    → Tells before (λ facts. after ≡ Some (after_read count facts))
    → Known (bytes_here before) (λ all. bytes_here after ≡ Some (drop count all))
here-after None after count had all is = cc
here-after (Some facts) after count had all is = ap bytes_here (had facts refl) ∙ ap (option_map (drop count)) is

-- what was present after a read was so before
here-before : (count : ℕ) (here : Option (List ℕ)) → IsSome (option_map (drop count) here) → IsSome here
here-before count None is = is
here-before count (Some bytes) is = cc

pub present-before : (before mid : Option DoorFacts) (count : ℕ)
    → Tells before (λ facts. mid ≡ Some (after_read count facts))
    → Tells mid (λ facts. IsSome facts.here) → Tells before (λ facts. IsSome facts.here)
present-before before mid count had is facts told =
    here-before count facts.here (is (after_read count facts) (had facts told))

-- one more piece was read, as its call says
pub record ReadsPiece {D : Type 0} (door : Ghosts D) (mid after : D) (bytes longer : List ℕ) (count : ℕ) : Type 0 where
  pub within : count ≤ PIECE
  pub added : length longer ≡ length bytes + count
  pub bytes_are : Known (bytes_here (door.told mid)) (λ all. (count ≤ length all) × (longer ≡ bytes ++ take count all))
  pub facts : Tells (door.told mid) (λ facts. door.told after ≡ Some (after_read count facts))
  pub present : Tells (door.told mid) (λ facts. IsSome facts.here)
  pub grows : door.connection_faults mid ≤ door.connection_faults after
  pub calm : door.door_faults after ≡ door.door_faults mid
  pub served : (n : ℕ) → door.serves mid n → door.serves after n
  pub reliable : (n : ℕ) → door.takes mid n → door.takes after n
  pub spare : (n : ℕ) → door.has_room mid n → door.has_room after n
  pub heard : (calls : List DoorCall) → door.heard mid calls → door.heard after calls
  pub counts : (counts : ReadCounts) → door.has_read mid counts → door.has_read after (read_more count counts)

-- what was read has no answer where more is wanted
unanswered-front : (all bytes : List ℕ) (n : ℕ) → bytes ≡ take (length bytes) all → n ≡ length bytes
    → Reads bytes (Ok None) → IsUnanswered (take n all)
unanswered-front all bytes n front is reads =
    let begins = reads (λ e. cc) in
    subst IsUnanswered (front ∙ ap (λ k. take k all) (sym is)) (begins.0, begins.1, sym begins.2)

read-early : {D : Type 0} (door : Ghosts D) (before mid after : D) (bytes : List ℕ) (count : ℕ)
    (counts : ReadCounts) (longer : List ℕ) → Reading door before mid bytes → Reads bytes (Ok None)
    → length longer ≡ length bytes + count
    → ((counts : ReadCounts) → door.has_read mid counts → door.has_read after (read_more count counts))
    → door.has_read before counts → ReadEarly door before after longer counts
read-early door before mid after bytes count counts longer had reads long more has =
    let e = had.early counts has in
    record {
      then = read_more count e.then;
      has = more e.then e.has;
      all = omega (arith, e.all, long);
      unanswered = λ some all is.
          unanswered-front all bytes (e.then.all - counts.all) (had.read.front all is).1 (omega (arith, e.all)) reads;
    }

pub reading-more : {D : Type 0} (door : Ghosts D) (before mid after : D) (bytes longer : List ℕ) (count : ℕ)
    → Reading door before mid bytes → length bytes < HEAD_LIMIT + BODY_LIMIT → Reads bytes (Ok None)
    → ReadsPiece door mid after bytes longer count → Reading door before after longer
reading-more door before mid after bytes longer count had short wanted more = record {
  facts = subst (λ (n : ℕ). Tells (door.told before) (λ facts. door.told after ≡ Some (after_read n facts)))
      (sym more.added) (read-more _ _ _ (length bytes) count had.facts more.facts);
  read = HasRead-more _ _ _ _ _ _ _ _ _ _ had.read
      (record { added = more.added; bytes_are = more.bytes_are; after = here-after _ _ count more.facts })
      (omega (arith, more.within, short)) more.grows;
  present = λ some. present-before _ _ (length bytes) had.facts more.present;
  calm = more.calm ∙ had.calm;
  served = λ n serves. more.served n (had.served n serves);
  reliable = λ n takes. more.reliable n (had.reliable n takes);
  spare = λ n has. more.spare n (had.spare n has);
  heard = λ calls heard. more.heard calls (had.heard calls heard);
  early = λ counts has.
      read-early door before mid after bytes count counts longer had wanted more.added more.counts has;
}

-- content that is wanted is within its limit
within-limit : (test : Bool) (value n : ℕ) → nat_lt BODY_LIMIT value ≡ test → within_limit value ≡ Ok n → n ≤ BODY_LIMIT
within-limit true value n is e = cc
within-limit false value n is e =
    let same : value ≡ n = cc in
    omega (arith, same, ltb-false BODY_LIMIT value is)

length-by-one : (test : Bool) (value : List ℕ) (n : ℕ) → is_decimal value ≡ test
    → length_by_all (value ∷ []) ≡ Ok n → n ≤ BODY_LIMIT
length-by-one true value n is e =
    within-limit (nat_lt BODY_LIMIT (digits_value 10 value)) (digits_value 10 value) n refl (rw is at e)
length-by-one false value n is e = cc

length-within : (values : List (List ℕ)) (n : ℕ) → length_by_all values ≡ Ok n → n ≤ BODY_LIMIT
length-within [] n e =
    let zero_is : 0 ≡ n = cc in
    omega (arith, zero_is)
length-within (value ∷ []) n e = length-by-one (is_decimal value) value n refl e
length-within (value ∷ other ∷ more) n e = cc

content-wanted : (test : Bool) (h : RequestHead) (rest : List ℕ) (n : ℕ) → nat_lt (length rest) n ≡ test
    → answer_by h rest (Ok n) ≡ Ok None → length rest < n
content-wanted true h rest n is e = ltb-true (length rest) n is
content-wanted false h rest n is e = cc

rest-wanted : (h : RequestHead) (rest : List ℕ) (length_is : Result ℕ RequestFault)
    → ((n : ℕ) → length_is ≡ Ok n → n ≤ BODY_LIMIT) → answer_by h rest length_is ≡ Ok None → length rest < BODY_LIMIT
rest-wanted h rest (Err fault) within e = cc
rest-wanted h rest (Ok n) within e =
    omega (arith, content-wanted (nat_lt (length rest) n) h rest n refl e, within n refl)

head-wanted : (test : Bool) (bytes : List ℕ) → nat_lt HEAD_LIMIT (length bytes) ≡ test
    → answer_of bytes Incomplete ≡ Ok None → length bytes ≤ HEAD_LIMIT
head-wanted true bytes is e = cc
head-wanted false bytes is e = ltb-false HEAD_LIMIT (length bytes) is

-- more bytes are wanted only while there are fewer than a request may have
more-wanted : (bytes : List ℕ) (begun : Begun) → IsBegun bytes begun → answer_of bytes begun ≡ Ok None
    → length bytes < HEAD_LIMIT + BODY_LIMIT
more-wanted bytes (Whole h) x e =
    omega (
      arith,
      rest-wanted h (behind h bytes) (content_length (map name_and_value h.fields))
          (length-within (length_values (map name_and_value h.fields))) e,
      simp length-append at (ap length x.1.1),
      length-take HEAD_LIMIT bytes,
      length-drop (length (print_request h)) bytes,
    )
more-wanted bytes Incomplete x e = omega (arith, head-wanted (nat_lt HEAD_LIMIT (length bytes)) bytes refl e)
more-wanted bytes Malformed x e = cc

pub still-wanted : (bytes : List ℕ) → Reads bytes (Ok None) → length bytes < HEAD_LIMIT + BODY_LIMIT
still-wanted bytes reads =
    let begins = reads (λ e. cc) in
    more-wanted bytes begins.0 begins.1 (sym begins.2)

-- what a reading tells that the bytes ask, and nothing where more are wanted or memory is wanting
abbrev pub reading_seen : Result (Option Request) RequestFault → Option (Result RequestText RequestFault)
reading_seen (Ok None) = None
reading_seen (Ok (Some request)) = Some (Ok (request_text request))
reading_seen (Err fault) = fault_seen fault

-- a head has a byte
no-request-yet : HasNoRequest []
unfolding print_request
no-request-yet h rest reads = omega (arith, simp length-append at (ap length reads.1), reads.0.method.0)

-- the shortest head
shortest : RequestHead
shortest =
    record { blank = []; method = codes "G"; target = codes "/"; minor = 1; line_end = lf; fields = []; last = lf }

slash-is-ascii : IsAscii (codes "/")
slash-is-ascii zero = omega arith
slash-is-ascii (suc i) = omega arith

shortest-is : IsRequestHead shortest
unfolding shortest is_token_byte
shortest-is = record {
  method = (omega arith, All-cons (λ b. IsTrue (is_token_byte b)) _ [] refl (All-nil (λ b. IsTrue (is_token_byte b))));
  target = (omega arith, All-cons (λ b. IsTrue (is_uri_byte b)) _ [] refl (All-nil (λ b. IsTrue (is_uri_byte b))));
  target_text = IsUtf8-from_ascii (codes "/") slash-is-ascii;
  minor = omega arith;
  fields = All-nil IsField;
}

-- to no bytes nothing is answered
nothing-yet : (begun : Begun) → IsBegun [] begun → answer_of [] begun ≡ Ok None
nothing-yet (Whole h) x = absurd (no-request-yet h x.0 x.1)
nothing-yet Incomplete x = refl
nothing-yet Malformed x = absurd (x (print_request shortest ++ []) shortest [] (shortest-is, refl))

unanswered : (result : Result (Option Request) RequestFault) (answer : Result RequestText RequestFault)
    → answer_seen result ≡ Ok None → reading_seen result ≡ Some answer → ⊥
unanswered (Ok None) answer none is = cc
unanswered (Ok (Some request)) answer none is = cc
unanswered (Err fault) answer none is = cc

no-memory : (result : Result (Option Request) RequestFault) (answer : Result RequestText RequestFault)
    → reading_seen result ≡ Some answer → result ≢ Err Memory
no-memory result answer is e = cc

-- what was answered to bytes was answered to some
pub answered-some : (bytes : List ℕ) (result : Result (Option Request) RequestFault)
    (answer : Result RequestText RequestFault) → Reads bytes result → reading_seen result ≡ Some answer
    → 0 < length bytes
answered-some [] result answer reads is =
    let begins = reads (no-memory result answer is) in
    absurd (unanswered result answer (begins.2 ∙ nothing-yet begins.0 begins.1) is)
answered-some (byte ∷ bytes) result answer reads is = omega arith

-- what was answered to a front is asked by all
early : (all bytes : List ℕ) (found : Result (Option RequestText) RequestFault)
    (answer : Result RequestText RequestFault) → bytes ≡ take (length bytes) all
    → (begun : Begun) × IsBegun bytes begun × (found ≡ answer_of bytes begun) → found ≢ Ok None
    → answer ≡ at_end found → IsRequested all answer
early all bytes found answer front begins some is =
    let later = stays bytes (drop (length bytes) all) begins.0 begins.1 (λ e. some (begins.2 ∙ e)) in
    let whole : bytes ++ drop (length bytes) all ≡ all = ap (λ t. t ++ drop (length bytes) all) front
    ∙ take-append-drop (length bytes) all in
    subst (λ t. IsRequested t answer) whole (later.0, later.1, is ∙ ap at_end (begins.2 ∙ sym later.2))

pub asked-early : (all bytes : List ℕ) (result : Result (Option Request) RequestFault)
    (answer : Result RequestText RequestFault) → bytes ≡ take (length bytes) all
    → Reads bytes result → reading_seen result ≡ Some answer → IsRequested all answer
asked-early all bytes (Ok None) answer front reads is = cc
asked-early all bytes (Ok (Some request)) answer front reads is =
    early all bytes (Ok (Some (request_text request))) answer front (reads (λ e. cc)) (λ e. cc) cc
asked-early all bytes (Err BadHead) answer front reads is =
    early all bytes (Err BadHead) answer front (reads (λ e. cc)) (λ e. cc) cc
asked-early all bytes (Err TooLong) answer front reads is =
    early all bytes (Err TooLong) answer front (reads (λ e. cc)) (λ e. cc) cc
asked-early all bytes (Err BadLength) answer front reads is =
    early all bytes (Err BadLength) answer front (reads (λ e. cc)) (λ e. cc) cc
asked-early all bytes (Err Memory) answer front reads is = cc

-- a fault of the reading is one of the call
pub asked-by-fault : (all bytes : List ℕ) (fault : RequestFault) (result : Result Request AskError)
    (answer : Result RequestText RequestFault) → bytes ≡ take (length bytes) all
    → Reads bytes (Err fault) → IsErrAnd result (λ error. error ≡ Bytes fault) → seen result ≡ Some answer
    → IsRequested all answer
asked-by-fault all bytes fault (Ok request) answer front reads fails is = absurd fails
asked-by-fault all bytes fault (Err error) answer front reads fails is =
    let same : error ≡ Bytes fault = fails in
    asked-early all bytes (Err fault) answer front reads (rw same at is)

pub fault-answered-some : (bytes : List ℕ) (fault : RequestFault) (result : Result Request AskError)
    (answer : Result RequestText RequestFault)
    → Reads bytes (Err fault) → IsErrAnd result (λ error. error ≡ Bytes fault) → seen result ≡ Some answer
    → 0 < length bytes
fault-answered-some bytes fault (Ok request) answer reads fails is = absurd fails
fault-answered-some bytes fault (Err error) answer reads fails is =
    let same : error ≡ Bytes fault = fails in
    answered-some bytes (Err fault) answer reads (rw same at is)

-- want of memory and a failed read tell nothing
pub unseen : (error : AskError) (result : Result Request AskError) (answer : Result RequestText RequestFault)
    → (error ≡ Bytes Memory) ⊎ (error ≡ Connection)
    → IsErrAnd result (λ given. given ≡ error) → seen result ≡ Some answer → ⊥
unseen error (Ok request) answer which fails is = absurd fails
unseen error (Err (Bytes fault)) answer (inl memory) fails is =
    let same : fault ≡ Memory = cc in
    cc
unseen error (Err (Bytes fault)) answer (inr line) fails is = cc
unseen error (Err Connection) answer which fails is = cc

-- where more are wanted at the end, a bad head is asked
pub asked-at-end : (all bytes : List ℕ) (answer : Result RequestText RequestFault)
    → bytes ≡ take (length bytes) all → length (drop (length bytes) all) ≡ 0
    → Reads bytes (Ok None) → answer ≡ Err BadHead → IsRequested all answer
asked-at-end all bytes answer front none reads is =
    let begins = reads (λ e. cc) in
    let whole : bytes ≡ all = front
    ∙ take_all (length bytes) all (omega (arith, length-drop (length bytes) all, none)) in
    subst (λ t. IsRequested t answer) whole (begins.0, begins.1, is ∙ ap at_end begins.2)

-- what was read asks by itself what it was answered
front-of-itself : (bytes : List ℕ) → bytes ≡ take (length bytes) bytes
front-of-itself bytes = sym (take_all (length bytes) bytes (omega arith))

here-of : (before : Option DoorFacts) (facts : DoorFacts) (all : List ℕ) → before ≡ Some facts
    → facts.here ≡ Some all → bytes_here before ≡ Some all
here-of before facts all is here = ap bytes_here is ∙ here

left-early : {D : Type 0} (door : Ghosts D) (before after : D) (bytes : List ℕ)
    (told : Option (Result RequestText RequestFault)) → Reading door before after bytes
    → ((answer : Result RequestText RequestFault) → told ≡ Some answer → IsRequested bytes answer)
    → Tells (door.told before) (λ facts. LeavesRest most-read facts (door.told after) told)
left-early door before after bytes told had own facts is = (
  length bytes,
  had.read.within,
  had.facts facts is,
  λ all here answer told_is. subst (λ t. IsRequested t answer)
      (had.read.front all (here-of (door.told before) facts all is here)).1 (own answer told_is),
)

pub left-request : {D : Type 0} (door : Ghosts D) (before after : D) (bytes : List ℕ) (request : Request)
    → Reading door before after bytes → Reads bytes (Ok (Some request))
    → Tells (door.told before) (λ facts. LeavesRest most-read facts (door.told after) (seen (Ok request)))
left-request door before after bytes request had reads =
    left-early door before after bytes (seen (Ok request)) had
    (λ answer told_is. asked-early bytes bytes (Ok (Some request)) answer (front-of-itself bytes) reads told_is)

pub left-fault : {D : Type 0} (door : Ghosts D) (before after : D) (bytes : List ℕ) (fault : RequestFault)
    (result : Result Request AskError) → Reading door before after bytes
    → Reads bytes (Err fault) → IsErrAnd result (λ error. error ≡ Bytes fault)
    → Tells (door.told before) (λ facts. LeavesRest most-read facts (door.told after) (seen result))
left-fault door before after bytes fault result had reads fails =
    left-early door before after bytes (seen result) had
    (λ answer told_is. asked-by-fault bytes bytes fault result answer (front-of-itself bytes) reads fails told_is)

-- at most one more piece was taken, and nothing was told
pub left-untold : {D : Type 0} (door : Ghosts D) (before mid after : D) (bytes : List ℕ)
    (told : Option (Result RequestText RequestFault)) → Reading door before mid bytes
    → length bytes < HEAD_LIMIT + BODY_LIMIT
    → Tells (door.told mid) (λ facts. (count : ℕ) × (count ≤ PIECE) × (door.told after ≡ Some (after_read count facts)))
    → ((answer : Result RequestText RequestFault) → told ≡ Some answer → ⊥)
    → Tells (door.told before) (λ facts. LeavesRest most-read facts (door.told after) told)
left-untold door before mid after bytes told had short more none facts is =
    let next = more (after_read (length bytes) facts) (had.facts facts is) in (
      length bytes + next.0,
      omega (arith, next.1, short),
      next.2 ∙ ap Some (after_read-twice facts (length bytes) next.0),
      λ all here answer told_is. absurd (none answer told_is),
    )

-- no more bytes came
pub left-at-end : {D : Type 0} (door : Ghosts D) (before mid after : D) (bytes : List ℕ) (count : ℕ)
    → Reading door before mid bytes → length bytes < HEAD_LIMIT + BODY_LIMIT → count ≤ PIECE
    → Tells (door.told mid) (λ facts. door.told after ≡ Some (after_read count facts))
    → Known (bytes_here (door.told mid)) (λ rest. length rest ≡ 0) → Reads bytes (Ok None)
    → Tells (door.told before) (λ facts. LeavesRest most-read facts (door.told after) (Some (Err BadHead)))
left-at-end door before mid after bytes count had short within more ended reads facts is = (
  length bytes + count,
  omega (arith, short, within),
  read-more (door.told before) (door.told mid) (door.told after) (length bytes) count had.facts more facts is,
  λ all here answer told_is.
      let all_is : bytes_here (door.told before) ≡ Some all = here-of (door.told before) facts all is here in
      let none : length (drop (length bytes) all) ≡ 0 = ended (drop (length bytes) all) (had.read.rest all all_is) in
      let whole : all ≡ take (length bytes + count) all =
      sym (take_all (length bytes + count) all (omega (arith, length-drop (length bytes) all, none))) in
      subst (λ t. IsRequested t answer) whole
      (asked-at-end all bytes answer (had.read.front all all_is).1 none reads cc),
)

-- no more bytes than a head may have ask one thing, whatever they begin with
one-short : (all : List ℕ) (one other : Begun) → nat_lt HEAD_LIMIT (length all) ≡ false → IsBegun all one
    → IsBegun all other → at_end (answer_of all one) ≡ at_end (answer_of all other)
one-short all (Whole h) (Whole k) short x y =
    ap (λ t. at_end (answer_of all (Whole t))) (request_unique (head_room all) h k x.0 y.0 x.1 y.1).0
one-short all (Whole h) Incomplete short x y = absurd (y.0 h x.0 x.1)
one-short all (Whole h) Malformed short x y =
    absurd (y [] h (x.0 ++ []) (ReadsRequest-append (head_room all) h x.0 [] x.1))
one-short all Incomplete (Whole h) short x y = absurd (x.0 h y.0 y.1)
one-short all Incomplete Incomplete short x y = refl
one-short all Incomplete Malformed short x y = rw short refl
one-short all Malformed (Whole h) short x y =
    absurd (x [] h (y.0 ++ []) (ReadsRequest-append (head_room all) h y.0 [] y.1))
one-short all Malformed Incomplete short x y = rw short refl
one-short all Malformed Malformed short x y = refl

one-end : (all : List ℕ) (test : Bool) (one other : Begun) → nat_lt HEAD_LIMIT (length all) ≡ test
    → IsBegun all one → IsBegun all other
    → (at_end (answer_of all one) ≡ at_end (answer_of all other))
    ⊎ (EndsInTarget (head_room all) × (HEAD_LIMIT < length all))
one-end all true one other is x y =
    elim (one-thing all one other x
    y) [ inl e ↦ inl (ap (λ t. at_end (answer_of all t)) e) | inr t ↦ inr (t, ltb-true HEAD_LIMIT (length all) is) ]
one-end all false one other is x y = inl (one-short all one other is x y)

-- bytes ask one thing, but for an end within a target at the limit of a head
pub asks-one : (all : List ℕ) (one other : Result RequestText RequestFault) → IsRequested all one
    → IsRequested all other
    → (one ≡ other) ⊎ (EndsInTarget (head_room all) × (HEAD_LIMIT < length all))
asks-one all one other x y =
    elim (one-end all
    (nat_lt HEAD_LIMIT (length all)) x.0 y.0 refl x.1 y.1) [ inl e ↦ inl (x.2 ∙ e ∙ sym y.2) | inr t ↦ inr t ]

-- what was read no further than its answer
pub to-answer : {D : Type 0} (door : Ghosts D) (before after : D) (bytes : List ℕ) → Reading door before after bytes
    → 0 < length bytes → ReadsToAnswer door before after false
to-answer door before after bytes had some = record {
  unanswered = λ counts has.
      let e = had.early counts has in
      (e.then, e.has, e.unanswered some);
}

-- a fault of the bytes is an answer, unless memory was wanting
pub to-fault : {D : Type 0} (door : Ghosts D) (before after : D) (bytes : List ℕ) (fault : RequestFault)
    (result : Result Request AskError) → Reading door before after bytes
    → Reads bytes (Err fault) → IsErrAnd result (λ error. error ≡ Bytes fault)
    → IfSome (read_failed result) (λ failed. ReadsToAnswer door before after failed)
to-fault door before after bytes fault (Ok request) had reads fails = absurd fails
to-fault door before after bytes fault (Err error) had reads fails =
    let same : error ≡ Bytes fault = fails in
    rw same (by-fault fault reads)
  where
    by-fault : (fault : RequestFault) → Reads bytes (Err fault)
        → IfSome (fault_read fault) (λ failed. ReadsToAnswer door before after failed)
    by-fault Memory reads = tt
    by-fault BadHead reads =
        to-answer door before after bytes had (answered-some bytes (Err BadHead) (Err BadHead) reads refl)
    by-fault TooLong reads =
        to-answer door before after bytes had (answered-some bytes (Err TooLong) (Err TooLong) reads refl)
    by-fault BadLength reads =
        to-answer door before after bytes had (answered-some bytes (Err BadLength) (Err BadLength) reads refl)

-- where no more bytes came, all of them had no answer
pub to-end : {D : Type 0} (door : Ghosts D) (before mid after : D) (bytes : List ℕ) (count : ℕ)
    → Reading door before mid bytes → Reads bytes (Ok None)
    → ((counts : ReadCounts) → door.has_read mid counts → door.has_read after (read_more count counts))
    → ReadsToAnswer door before after false
to-end door before mid after bytes count had reads more = record {
  unanswered = λ counts has.
      let e = had.early counts has in (
        read_more count e.then,
        more e.then e.has,
        λ all is.
            unanswered-front all bytes (e.then.all - counts.all) (had.read.front all is).1 (omega (arith, e.all)) reads,
      );
}

-- and so where a read failed
pub to-failure : {D : Type 0} (door : Ghosts D) (before mid after : D) (bytes : List ℕ) (error : AskError)
    (result : Result Request AskError) → Reading door before mid bytes → Reads bytes (Ok None)
    → (error ≡ Bytes Memory) ⊎ (error ≡ Connection) → IsErrAnd result (λ given. given ≡ error)
    → ((counts : ReadCounts) → door.has_read mid counts → error ≡ Connection → door.has_read after counts)
    → IfSome (read_failed result) (λ failed. ReadsToAnswer door before after failed)
to-failure door before mid after bytes error (Ok request) had reads which fails more = absurd fails
to-failure door before mid after bytes error (Err given) had reads (inl memory) fails more =
    let same : given ≡ Bytes Memory = fails ∙ memory in
    rw same tt
to-failure door before mid after bytes error (Err given) had reads (inr line) fails more =
    let same : given ≡ Connection = fails ∙ line in
    rw same (record {
      unanswered = λ counts has.
          let e = had.early counts has in (
            e.then,
            more e.then e.has line,
            λ all is.
                unanswered-front all bytes (e.then.all - counts.all) (had.read.front all is).1 (omega (arith, e.all))
                reads,
          );
    })

-- what a call ends with says whether a read failed
pub heard-by : {D : Type 0} (door : Ghosts D) (after : D) (result : Result Request AskError) (error : AskError)
    (calls : List DoorCall) → IsErrAnd result (λ given. given ≡ error) → door.heard after (with_failed_read error calls)
    → MatchResult result (λ request. door.heard after calls) (λ e. door.heard after (with_failed_read e calls))
heard-by door after (Ok request) error calls fails heard = absurd fails
heard-by door after (Err given) error calls fails heard =
    let same : given ≡ error = fails in
    rw same heard
