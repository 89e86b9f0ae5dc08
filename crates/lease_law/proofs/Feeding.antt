-- A timely book's feeds are in time.
use Rattle.std.proofs.Common.{◌≡◌, ℕ, zero, suc, Bool, true, false, List, [], ◌∷◌, ◌++◌, Option, Some, None, refl, ◌∙◌, ap, sym, subst, inr}
use Rattle.event_book.specs.declared.event.Event.{Event}
use Rattle.event_book.specs.declared.event.EventKind.{EventKind}
use Rattle.event_book.specs.declared.event.EventKind.TheVariants as kinds
use Rattle.event_book.specs.declared.event.MessageEvent.{MessageEvent}
use Rattle.event_book.specs.declared.event.MessageEvent.TheVariants as messages
use Rattle.event_book.specs.declared.event.AgentEvent.TheVariants as agents
use Rattle.event_book.specs.declared.event.WatchdogEvent.TheVariants as watchdogs
use Rattle.event_book.specs.declared.reason.Basis.TheVariants as bases
use Rattle.event_book.specs.declared.link.LinkEnd.{LinkEnd}
use Rattle.event_book.specs.declared.link.LinkEnd.TheVariants as ends
use Rattle.event_book.specs.declared.message.Body.{Body}
use Rattle.event_book.specs.declared.message.Body.TheVariants as bodies
use Rattle.event_book.specs.Clock.{now_after}
use Rattle.event_book.specs.Functions.{put_at}
use Rattle.lease_model.specs.Leases.{Question, Grant, Answer, Flying, Requested, Answered}
use Rattle.event_book.specs.Premises.{Taking, IsTaken, IsOnTime, moments_sent_after, taken_with, taken_after, runs_after, Moments, IsFeedInTime, IsKindInTime, AreInTime, IsTimely}
use Rattle.lease_model.specs.States.{Declared}
use Rattle.lease_model.specs.Inputs.{AgentInput, IsInTime}
use Rattle.lease_model.specs.Past.{Past, grant_of, answer_of, question_in_flight_of, answer_in_flight_of, peer_in_flight_of, flying_of, past_flight_by, past_after, past_over, first_past, past_of, VolatileState, state_of}
use Rattle.lease_model.specs.Feeds.{KeepsClockAndRuns, KeepsMomentOf, IsFedBy, IsFedOn, ShowsFeed}
use Rattle.event_book.specs.Kinds.{AllAre}
use Rattle.lease_model.proofs.Tools.{some-is, none-some, put-all, dropped, put-here, put-there}

abbrev moments_of : Past → Moments
moments_of past = record { clock = past.clock; sent = past.sent; taken = past.taken; runs = past.runs }

-- a book that is timely goes on timely
in-time-rest : (margin : ℕ → Option ℕ) (past : Past) (front rest : List Event)
    → AreInTime margin (moments_of past) (front ++ rest) → AreInTime margin (moments_of (past_over past front)) rest
in-time-rest margin past [] rest is = is
in-time-rest margin past (event ∷ front) rest is = in-time-rest margin (past_after past event.kind) front rest is.1

-- the moment of the grant that an answer tells is that of its sending
answered-is : (a b : Answer) (g : Grant) → ◌≡◌ {A = Option Flying} (Some (Answered b)) (Some (Answered a))
    → a.grant ≡ Some g → b.grant ≡ Some g
answered-is a b g e is = cc

granted-moment : (leased : Bool) (past : Past) (request : Option Question) (g : Grant)
    → grant_of leased past request ≡ Some g → g.moment ≡ past.clock
granted-moment true past (Some request) g e = sym (ap (λ (x : Grant). x.moment) (some-is _ g e))
granted-moment true past None g e = absurd (none-some g e)
granted-moment false past request g e = absurd (none-some g e)

none-answer : (a : Answer) → ◌≡◌ {A = Option Flying} None (Some (Answered a)) → ⊥
none-answer a e = cc

requested-no : (q : Question) (a : Answer) → ◌≡◌ {A = Option Flying} (Some (Requested q)) (Some (Answered a)) → ⊥
requested-no q a e = cc

asked-moment : (past : Past) (member incarnation sequence : ℕ) (body : Body) (a : Answer)
    → question_in_flight_of past member incarnation sequence body ≡ Some (Answered a) → ⊥
asked-moment past member incarnation sequence bodies.Read a e = requested-no _ a e
asked-moment past member incarnation sequence (bodies.Request txn) a e = requested-no _ a e
asked-moment past member incarnation sequence _ a e = none-answer a e

shown-moment : (past : Past) (member incarnation sequence : ℕ) (body : Body) (a : Answer) (g : Grant)
    → answer_in_flight_of past member incarnation sequence body ≡ Some (Answered a) → a.grant ≡ Some g
    → g.moment ≡ past.clock
shown-moment past member incarnation sequence bodies.Snapshot a g e is =
    absurd (none-some g (answered-is a (answer_of past member incarnation sequence true None) g e is))
shown-moment past member incarnation sequence (bodies.Granted request leased) a g e is =
    granted-moment leased past (past.asked request) g
    (answered-is a (answer_of past member incarnation sequence true (grant_of leased past (past.asked request))) g e is)
shown-moment past member incarnation sequence (bodies.Refused request key found) a g e is =
    absurd (none-some g (answered-is a (answer_of past member incarnation sequence false None) g e is))
shown-moment past member incarnation sequence _ a g e is = absurd (none-answer a e)

said-moment : (past : Past) (by member incarnation sequence : ℕ) (body : Body) (a : Answer)
    → peer_in_flight_of past by member incarnation sequence body ≡ Some (Answered a) → ⊥
said-moment past by member incarnation sequence (bodies.FailsafeRequest ttl) a e = cc
said-moment past by member incarnation sequence (bodies.FailsafeAnswer true) a e = cc
said-moment past by member incarnation sequence _ a e = none-answer a e

flying-moment : (past : Past) (from to : LinkEnd) (incarnation sequence : ℕ) (body : Body) (a : Answer) (g : Grant)
    → flying_of past from to incarnation sequence body ≡ Some (Answered a) → a.grant ≡ Some g → g.moment ≡ past.clock
flying-moment past (ends.Member member) ends.Store incarnation sequence body a g e is =
    absurd (asked-moment past member.id.number incarnation sequence body a e)
flying-moment past ends.Store (ends.Member member) incarnation sequence body a g e is =
    shown-moment past member.id.number incarnation sequence body a g e is
flying-moment past (ends.Member by) (ends.Member member) incarnation sequence body a g e is =
    absurd (said-moment past by.id.number member.id.number incarnation sequence body a e)
flying-moment past ends.Store ends.Store incarnation sequence body a g e is = absurd (none-answer a e)

-- each answer in flight tells a grant of the moment of its sending
abbrev Agrees : (ℕ → Option ℕ) → (ℕ → Option Flying) → Type 0
Agrees sent flight =
    (i : ℕ) (a : Answer) (g : Grant) → flight i ≡ Some (Answered a) → a.grant ≡ Some g → sent i ≡ Some g.moment

agrees-message : (past : Past) (e : MessageEvent) → Agrees past.sent past.flight
    → Agrees (moments_sent_after past.clock past.sent (kinds.Message e)) (past_flight_by past e)
agrees-message past (messages.Sent number message) old i a g e is = put-all past.flight number
    (flying_of past message.from message.to message.incarnation message.sequence message.body)
    (λ n o. o ≡ Some (Answered a) → a.grant ≡ Some g → put_at past.sent number (Some past.clock) n ≡ Some g.moment)
    (λ e is. put-here past.sent number (Some past.clock) ∙ ap (λ (n : ℕ). Some n)
    (sym (flying-moment past message.from message.to message.incarnation message.sequence message.body a g e is)))
    (λ n other e is. put-there past.sent number (Some past.clock) n other ∙ old n a g e is) i e is
agrees-message past (messages.Delivered number) old i a g e is =
    old i a g (dropped past.flight number i (Answered a) e) is
agrees-message past (messages.Lost number) old i a g e is = old i a g (dropped past.flight number i (Answered a) e) is

agrees-by : (past : Past) (kind : EventKind) → Agrees past.sent past.flight
    → Agrees (past_after past kind).sent (past_after past kind).flight
agrees-by past (kinds.Message e) old = agrees-message past e old
agrees-by past _ old = old

agrees-after : (past : Past) (book : List Event) → Agrees past.sent past.flight
    → Agrees (past_over past book).sent (past_over past book).flight
agrees-after past [] old = old
agrees-after past (event ∷ book) old = agrees-after (past_after past event.kind) book (agrees-by past event.kind old)

agrees : (book : List Event) → Agrees (past_of book).sent (past_of book).flight
agrees book = agrees-after first_past book (λ i a g e is. absurd (none-answer a e))

-- what stays as it is
still-clock : (clock : ℕ) (kind : EventKind) → KeepsClockAndRuns kind → now_after clock kind ≡ clock
still-clock clock kinds.Tick is = absurd is
still-clock clock _ is = refl

still-runs : (runs : ℕ → ℕ) (kind : EventKind) → KeepsClockAndRuns kind → runs_after runs kind ≡ runs
still-runs runs (kinds.Agent (agents.Started agent incarnation)) is = absurd is
still-runs runs _ is = refl

aside-still : (number : ℕ) (kind : EventKind) → KeepsMomentOf number kind → KeepsClockAndRuns kind
aside-still number (kinds.Message (messages.Sent other message)) is = tt
aside-still number (kinds.Message (messages.Delivered other)) is = tt
aside-still number (kinds.Message (messages.Lost other)) is = tt
aside-still number kinds.Tick is = is
aside-still number (kinds.Store e) is = is
aside-still number (kinds.Watchdog e) is = is
aside-still number (kinds.Server e) is = is
aside-still number (kinds.Log e) is = is
aside-still number (kinds.Replication e) is = is
aside-still number (kinds.Agent e) is = is
aside-still number (kinds.Link e) is = is
aside-still number (kinds.Note e) is = is

aside-sent : (clock number : ℕ) (sent : ℕ → Option ℕ) (kind : EventKind) → KeepsMomentOf number kind
    → moments_sent_after clock sent kind number ≡ sent number
aside-sent clock number sent (kinds.Message (messages.Sent other message)) is =
    put-there sent other (Some clock) number (λ same. is (sym same))
aside-sent clock number sent _ is = refl

more-with : (clock : ℕ) (taken : List Taking) (by from incarnation sequence : ℕ) (t : Taking)
    → IsTaken taken t → IsTaken (taken_with clock taken by from incarnation sequence) t
more-with clock taken by from incarnation zero t is = is
more-with clock taken by from incarnation (suc before) t is = inr is

more-taken : (clock : ℕ) (taken : List Taking) (kind : EventKind) (t : Taking) → IsTaken taken t
    → IsTaken (taken_after clock taken kind) t
more-taken clock taken (kinds.Watchdog (watchdogs.HoldTaken member until from incarnation sequence)) t is =
    more-with clock taken member.id.number from.id.number incarnation sequence t is
more-taken clock taken _ t is = is

stills-clock : (past : Past) (front : List Event) → AllAre KeepsClockAndRuns front
    → (past_over past front).clock ≡ past.clock
stills-clock past [] is = refl
stills-clock past (event ∷ front) is =
    stills-clock (past_after past event.kind) front is.1 ∙ still-clock past.clock event.kind is.0

stills-runs : (past : Past) (front : List Event) → AllAre KeepsClockAndRuns front
    → (past_over past front).runs ≡ past.runs
stills-runs past [] is = refl
stills-runs past (event ∷ front) is =
    stills-runs (past_after past event.kind) front is.1 ∙ still-runs past.runs event.kind is.0

asides-still : (number : ℕ) (front : List Event) → AllAre (KeepsMomentOf number) front → AllAre KeepsClockAndRuns front
asides-still number [] is = tt
asides-still number (event ∷ front) is = (aside-still number event.kind is.0, asides-still number front is.1)

asides-sent : (number : ℕ) (past : Past) (front : List Event) → AllAre (KeepsMomentOf number) front
    → (past_over past front).sent number ≡ past.sent number
asides-sent number past [] is = refl
asides-sent number past (event ∷ front) is =
    asides-sent number (past_after past event.kind) front is.1 ∙ aside-sent past.clock number past.sent event.kind is.0

mores-taken : (past : Past) (front : List Event) (t : Taking) → IsTaken past.taken t
    → IsTaken (past_over past front).taken t
mores-taken past [] t is = is
mores-taken past (event ∷ front) t is =
    mores-taken (past_after past event.kind) front t (more-taken past.clock past.taken event.kind t is)

-- the feed of an event by a grant, and by acknowledgements
fed-by : (margin : ℕ → Option ℕ) (moments : Moments) (m number : ℕ) (kind : EventKind)
    → IsKindInTime margin moments kind → IsFedBy m number kind → IsFeedInTime margin moments m (bases.Grant number)
fed-by margin moments m number (kinds.Watchdog (watchdogs.Armed member until answer)) is fed =
    subst (λ (k : ℕ). IsFeedInTime margin moments k (bases.Grant number)) fed.0
    (subst (λ (k : ℕ). IsFeedInTime margin moments member.id.number (bases.Grant k)) fed.1 is)
fed-by margin moments m number (kinds.Watchdog (watchdogs.Fed member until (bases.Grant answer))) is fed =
    subst (λ (k : ℕ). IsFeedInTime margin moments k (bases.Grant number)) fed.0
    (subst (λ (k : ℕ). IsFeedInTime margin moments member.id.number (bases.Grant k)) fed.1 is)
fed-by margin moments m number _ is fed = absurd fed

abbrev HoldsInTime : (ℕ → Option ℕ) → Moments → ℕ → (ℕ → Bool) → ℕ → Type 0
HoldsInTime margin moments m members sequence = (p moment : ℕ) → members p ≡ true
    → IsTaken moments.taken
    (record { by = p; from = m; incarnation = moments.runs m; sequence = sequence; moment = moment })
    → IsOnTime (margin m) moments.clock moment

fed-on : (margin : ℕ → Option ℕ) (moments : Moments) (m : ℕ) (members : ℕ → Bool) (sequence : ℕ) (kind : EventKind)
    → IsKindInTime margin moments kind → IsFedOn m members sequence kind → HoldsInTime margin moments m members sequence
fed-on margin moments m members sequence
    (kinds.Watchdog (watchdogs.Fed member until (bases.Acknowledgements acknowledging number))) is fed =
    subst (λ (k : ℕ). HoldsInTime margin moments k members sequence) fed.0
    (subst (λ (k : ℕ). HoldsInTime margin moments member.id.number members k) fed.1
    (λ p moment e taken. is moment (p, fed.2 p e, taken)))
fed-on margin moments m members sequence _ is fed = absurd fed

-- the event behind a book and a front of the next action's events
abbrev Behind : List Event → List Event → Event → List Event → List Event
Behind book front event rest = book ++ (front ++ event ∷ rest)

event-in-time : (margin : ℕ → Option ℕ) (book front : List Event) (event : Event) (rest : List Event)
    → IsTimely margin (Behind book front event rest)
    → IsKindInTime margin (moments_of (past_over (past_of book) front)) event.kind
event-in-time margin book front event rest timely =
    (in-time-rest margin (past_of book) front (event ∷ rest)
    (in-time-rest margin first_past book (front ++ event ∷ rest) timely)).0

pub grant-in-time : (margin : ℕ → Option ℕ) (book front : List Event) (event : Event) (rest : List Event)
    (m number : ℕ) (answer : Answer) (grant : Grant) → IsTimely margin (Behind book front event rest)
    → AllAre (KeepsMomentOf number) front → IsFedBy m number event.kind
    → (past_of book).flight number ≡ Some (Answered answer) → answer.grant ≡ Some grant
    → IsOnTime (margin m) (past_of book).clock grant.moment
grant-in-time margin book front event rest m number answer grant timely aside fed at is =
    let past : Past = past_over (past_of book) front in
    subst (λ (k : ℕ). IsOnTime (margin m) k grant.moment)
    (stills-clock (past_of book) front (asides-still number front aside))
    (fed-by margin (moments_of past) m number event.kind (event-in-time margin book front event rest timely)
    fed grant.moment (asides-sent number (past_of book) front aside ∙ agrees book number answer grant at is))

hold-in-time : (margin : ℕ → Option ℕ) (book front : List Event) (event : Event) (rest : List Event) (m : ℕ)
    (members : ℕ → Bool) (incarnation sequence p moment : ℕ) → IsTimely margin (Behind book front event rest)
    → AllAre KeepsClockAndRuns front → IsFedOn m members sequence event.kind
    → incarnation ≡ (past_of book).runs m → members p ≡ true
    → IsTaken (past_of book).taken
    (record { by = p; from = m; incarnation = incarnation; sequence = sequence; moment = moment })
    → IsOnTime (margin m) (past_of book).clock moment
hold-in-time margin book front event rest m members incarnation sequence p moment timely still fed same e taken =
    let past : Past = past_over (past_of book) front in
    let run_is : incarnation ≡ past.runs m = same
    ∙ ap (λ (f : ℕ → ℕ). f m) (sym (stills-runs (past_of book) front still)) in
    subst (λ (k : ℕ). IsOnTime (margin m) k moment) (stills-clock (past_of book) front still)
    (fed-on margin (moments_of past) m members sequence event.kind
    (event-in-time margin book front event rest timely) fed p moment e
    (subst (λ (k : ℕ).
    IsTaken past.taken (record { by = p; from = m; incarnation = k; sequence = sequence; moment = moment }))
    run_is
    (mores-taken (past_of book) front
    (record { by = p; from = m; incarnation = incarnation; sequence = sequence; moment = moment }) taken)))

pub input-in-time : (declared : Declared) (book : List Event) (volatile_states : ℕ → VolatileState) (m : ℕ)
    (input : AgentInput) (front : List Event) (event : Event) (rest : List Event)
    → IsTimely declared.margin (Behind book front event rest)
    → ShowsFeed (state_of declared (past_of book) volatile_states) m input front event
    → IsInTime (state_of declared (past_of book) volatile_states) m input
input-in-time declared book volatile_states m input front event rest timely shows = record {
  by_grant = λ feeds basis grant h. let shown = shows.by_grant feeds basis h.number h.heard_is in
      grant-in-time declared.margin book front event rest m h.number h.answer grant timely shown.0 shown.1
      h.is h.grant_is;
  by_failsafe = λ feeds basis was failsafe_check was_is is p moment e taken. let shown =
      shows.by_failsafe feeds basis was failsafe_check was_is is in
      hold-in-time declared.margin book front event rest m failsafe_check.members was.incarnation
      failsafe_check.sequence p moment timely shown.1 shown.2 shown.0 e taken;
}
