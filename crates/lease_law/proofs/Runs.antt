-- Every run: at each moment at most one server accepts writes.
use Rattle.std.proofs.Common.{◌≡◌, ◌⊎◌, ℕ, Bool, true, false, List, [], ◌∷◌, ◌++◌, refl, ◌∙◌, ap, sym, subst, inl, inr}
use Rattle.event_book.specs.declared.event.Event.{Event}
use Rattle.event_book.specs.declared.event.EventKind.{EventKind}
use Rattle.event_book.specs.declared.event.EventKind.TheVariants as kinds
use Rattle.event_book.specs.declared.event.ServerEvent.{ServerEvent}
use Rattle.event_book.specs.declared.event.ServerEvent.TheVariants as servers
use Rattle.event_book.specs.declared.event.WatchdogEvent.{WatchdogEvent}
use Rattle.event_book.specs.declared.event.WatchdogEvent.TheVariants as watchdogs
use Rattle.event_book.specs.Functions.{put_at}
use Rattle.event_book.specs.Writers.{writes_by_server, writes_by_watchdog, writes_after, writes_over, HasOneWriter, BeginsServer, BeginsKind, Begins}
use Rattle.lease_model.specs.States.{Declared, State, Acts}
use Rattle.lease_model.specs.Actions.{Action, Tick, Deliver, Lose, Input, Start, Kill, Crash, Note, act, IsLawfulAction, IsInTimeAction, MayBegin, state_after, IsAllowed}
use Rattle.lease_model.specs.Past.{Past, past_after, past_over, first_past, past_of, VolatileState, state_of}
use Rattle.lease_model.specs.Books.{Transition, IsShown, AreAllowed, first_volatile_states, book_of, volatile_states_over}
use Rattle.lease_model.proofs.Tools.{both, put-all}
use Rattle.lease_model.specs.Carried.{IsSound, IsCarried}
use Rattle.lease_law.proofs.Starting.{good-start}
use Rattle.lease_law.proofs.Deliver.{inv-deliver}
use Rattle.lease_law.proofs.Uncontended.{inv-kill, inv-crash, inv-started, inv-lose, inv-tick}
use Rattle.lease_law.proofs.Fed.{newcomer}
use Rattle.lease_law.proofs.Inputs.{inv-input}

inv-act : (s : State) (a : Action) → IsSound s → IsLawfulAction s a → IsInTimeAction s a → IsSound (act s a)
inv-act s (Tick stops) inv law timely = inv-tick s stops inv
inv-act s (Deliver i j granted) inv law timely = inv-deliver s i j granted inv
inv-act s (Lose i) inv law timely = inv-lose s i inv
inv-act s (Input m input) inv law timely = inv-input s m input inv timely law
inv-act s (Start m) inv law timely = inv-started s m inv
inv-act s (Kill m) inv law timely = inv-kill s m inv
inv-act s (Crash m) inv law timely = inv-crash s m inv
inv-act s Note inv law timely = inv

inv-writes : (s : State) (w : ℕ → Bool) → IsSound s → IsSound (record s { writes = w })
inv-writes s w inv = record {
  guarded = inv.guarded;
  sole = inv.sole;
  parted = inv.parted;
  ready_by_grant = inv.ready_by_grant;
  off = inv.off;
  bounded = inv.bounded;
  failsafe_bounded = inv.failsafe_bounded;
  asked = inv.asked;
  said = inv.said;
  failsafe_requests = inv.failsafe_requests;
  yeses = inv.yeses;
  taken = inv.taken;
  kept = inv.kept;
  spans = inv.spans;
  failsafe_check = inv.failsafe_check;
  fresh = inv.fresh;
  tokens = inv.tokens;
}

-- who may write inside an action
abbrev Inside : State → Action → ℕ → Type 0
Inside s a n = Acts (s.members n) ⊎ MayBegin s a n

-- at most one member may
begin-acts : (s : State) (a : Action) (m n : ℕ) → IsSound s → Acts (s.members m) → MayBegin s a n → m ≡ n
begin-acts s (Tick stops) m n inv am may = inv.sole m n am (inl may)
begin-acts s (Input k input) m n inv am may = elim may.1 [
  | inl ak ↦ inv.sole m k am ak ∙ sym may.0
  | inr f ↦ newcomer s k input.heard inv f.fed f.in_time f.free m am ∙ sym may.0
]
begin-acts s (Deliver i j granted) m n inv am may = absurd may
begin-acts s (Lose i) m n inv am may = absurd may
begin-acts s (Start k) m n inv am may = absurd may
begin-acts s (Kill k) m n inv am may = absurd may
begin-acts s (Crash k) m n inv am may = absurd may
begin-acts s Note m n inv am may = absurd may

begin-begin : (s : State) (a : Action) (m n : ℕ) → IsSound s → MayBegin s a m → MayBegin s a n → m ≡ n
begin-begin s (Tick stops) m n inv a b = inv.sole m n (inl a) (inl b)
begin-begin s (Input k input) m n inv a b = a.0 ∙ sym b.0
begin-begin s (Deliver i j granted) m n inv a b = absurd a
begin-begin s (Lose i) m n inv a b = absurd a
begin-begin s (Start k) m n inv a b = absurd a
begin-begin s (Kill k) m n inv a b = absurd a
begin-begin s (Crash k) m n inv a b = absurd a
begin-begin s Note m n inv a b = absurd a

one-inside : (s : State) (a : Action) (m n : ℕ) → IsSound s → Inside s a m → Inside s a n → m ≡ n
one-inside s a m n inv (inl x) (inl y) = inv.sole m n x y
one-inside s a m n inv (inl x) (inr y) = begin-acts s a m n inv x y
one-inside s a m n inv (inr x) (inl y) = sym (begin-acts s a n m inv y x)
one-inside s a m n inv (inr x) (inr y) = begin-begin s a m n inv x y

abbrev AllWrite : (ℕ → Type 0) → (ℕ → Bool) → Type 0
AllWrite P w = (n : ℕ) → w n ≡ true → P n

off : (P : ℕ → Type 0) (w : ℕ → Bool) (m : ℕ) → AllWrite P w → AllWrite P (put_at w m false)
off P w m all = put-all w m false (λ n b. b ≡ true → P n) (λ e. absurd (both e)) (λ n other e. all n e)

server-writes : (P : ℕ → Type 0) (w : ℕ → Bool) (e : ServerEvent) → AllWrite P w → BeginsServer P e
    → AllWrite P (writes_by_server w e)
server-writes P w (servers.Began server timeline) all may =
    put-all w server.id.number true (λ n b. b ≡ true → P n) (λ e. may) (λ n other e. all n e)
server-writes P w (servers.Ended server) all may = off P w server.id.number all
server-writes P w (servers.Crashed server) all may = off P w server.id.number all
server-writes P w _ all may = all

watchdog-writes : (P : ℕ → Type 0) (w : ℕ → Bool) (e : WatchdogEvent) → AllWrite P w
    → AllWrite P (writes_by_watchdog w e)
watchdog-writes P w (watchdogs.Reset member) all = off P w member.id.number all
watchdog-writes P w _ all = all

kind-writes : (P : ℕ → Type 0) (w : ℕ → Bool) (e : EventKind) → AllWrite P w → BeginsKind P e
    → AllWrite P (writes_after w e)
kind-writes P w (kinds.Server e) all may = server-writes P w e all may
kind-writes P w (kinds.Watchdog e) all may = watchdog-writes P w e all
kind-writes P w _ all may = all

pub no-cons : (x : Event) (xs : List Event) → ◌≡◌ {A = List Event} (x ∷ xs) [] → ⊥
no-cons x xs e = cc

pub head-is : (x y : Event) (xs ys : List Event) → ◌≡◌ {A = List Event} (x ∷ xs) (y ∷ ys) → x ≡ y
head-is x y xs ys e = cc

pub tail-is : (x y : Event) (xs ys : List Event) → ◌≡◌ {A = List Event} (x ∷ xs) (y ∷ ys) → xs ≡ ys
tail-is x y xs ys e = cc

pub cons-eq : (x y : Event) (xs ys : List Event) → x ≡ y → xs ≡ ys → ◌≡◌ {A = List Event} (x ∷ xs) (y ∷ ys)
cons-eq x y xs ys e f = cc

begins-server : (P Q : ℕ → Type 0) (e : ServerEvent) → ((n : ℕ) → P n → Q n) → BeginsServer P e → BeginsServer Q e
begins-server P Q (servers.Began server timeline) sub may = sub server.id.number may
begins-server P Q _ sub may = tt

pub begins-one : (P Q : ℕ → Type 0) (e : EventKind) → ((n : ℕ) → P n → Q n) → BeginsKind P e → BeginsKind Q e
begins-one P Q (kinds.Server e) sub may = begins-server P Q e sub may
begins-one P Q _ sub may = tt

-- a front of events in which those that begin may
begun : (P Q : ℕ → Type 0) (w : ℕ → Bool) (front : List Event) → ((n : ℕ) → P n → Q n) → AllWrite Q w
    → Begins P front → AllWrite Q (writes_over w front)
begun P Q w [] sub all may = all
begun P Q w (x ∷ front) sub all may =
    begun P Q (writes_after w x.kind) front sub (kind-writes Q w x.kind all (begins-one P Q x.kind sub may.0)) may.1

begins-front : (P : ℕ → Type 0) (front back es : List Event) → front ++ back ≡ es → Begins P es → Begins P front
begins-front P [] back es e may = tt
begins-front P (x ∷ front) back [] e may = absurd (no-cons x (front ++ back) e)
begins-front P (x ∷ front) back (y ∷ es) e may = (
  subst (λ (z : Event). BeginsKind P z.kind) (sym (head-is x y (front ++ back) es e)) may.0,
  begins-front P front back es (tail-is x y (front ++ back) es e) may.1,
)

-- inside an action each writer is one that may
inside : (s : State) (a : Action) (front : List Event) → IsCarried s → Begins (MayBegin s a) front → (n : ℕ)
    → writes_over s.writes front n ≡ true → Inside s a n
inside s a front good begins =
    begun (MayBegin s a) (Inside s a) s.writes front (λ n m. inr m) (λ n w. inl (inl (good.lives n w))) begins

pub one-front : (s : State) (a : Action) (front : List Event) → IsCarried s → Begins (MayBegin s a) front
    → (m n : ℕ) → writes_over s.writes front m ≡ true → writes_over s.writes front n ≡ true → m ≡ n
one-front s a front good begins m n wm wn =
    one-inside s a m n good.sound (inside s a front good begins m wm) (inside s a front good begins n wn)

action-kept : (s : State) (action : Action) (events : List Event) → IsCarried s → IsAllowed s action events
    → IsCarried (state_after s action events)
action-kept s action events good may = record {
  sound = inv-writes (act s action) (writes_over s.writes events) (inv-act s action good.sound may.lawful may.in_time);
  lives = may.lives;
}

pub transition-kept : (declared : Declared) (book : List Event) (volatile_states : ℕ → VolatileState)
    (transition : Transition) → IsCarried (state_of declared (past_of book) volatile_states)
    → IsAllowed (state_of declared (past_of book) volatile_states) transition.action transition.events
    → IsShown declared book volatile_states transition
    → IsCarried (state_of declared (past_of (book ++ transition.events)) transition.volatile_states)
transition-kept declared book volatile_states transition good may told = subst (λ (s : State). IsCarried s) (sym told)
    (action-kept (state_of declared (past_of book) volatile_states) transition.action transition.events good may)

-- a front of a whole ends in its first part, or goes on in the rest
abbrev pub Cuts : List Event → List Event → List Event → List Event → Type 0
Cuts front rest es bs =
    ((back : List Event) × (front ++ back ≡ es)) ⊎ ((more : List Event) × (front ≡ es ++ more) × (more ++ rest ≡ bs))

pub cuts : (front rest es bs : List Event) → front ++ rest ≡ es ++ bs → Cuts front rest es bs
cuts [] rest es bs e = inl (es, refl)
cuts (x ∷ front) rest [] bs e = inr (x ∷ front, refl, e)
cuts (x ∷ front) rest (y ∷ es) bs e =
    let head = head-is x y (front ++ rest) (es ++ bs) e in
    elim (cuts front rest es bs (tail-is x y (front ++ rest) (es ++ bs) e)) [
      | inl c ↦ inl (c.0, cons-eq x y (front ++ c.0) es head c.1)
      | inr c ↦ inr (c.0, cons-eq x y front (es ++ c.0) head c.1, c.2)
    ]

pub writes-append : (w : ℕ → Bool) (es more : List Event)
    → writes_over w (es ++ more) ≡ writes_over (writes_over w es) more
writes-append w [] more = refl
writes-append w (e ∷ es) more = writes-append (writes_after w e.kind) es more

pub writes-past : (past : Past) (book : List Event) → (past_over past book).writes ≡ writes_over past.writes book
writes-past past [] = refl
writes-past past (event ∷ events) = writes-past (past_after past event.kind) events

-- a book, and then a front of the next action's events, of which only the beginnings need a reason
pub one-front-of : (declared : Declared) (book : List Event) (volatile_states : ℕ → VolatileState)
    (action : Action) (front : List Event) → IsCarried (state_of declared (past_of book) volatile_states)
    → Begins (MayBegin (state_of declared (past_of book) volatile_states) action) front → HasOneWriter (book ++ front)
one-front-of declared book volatile_states action front good begins m n wm wn =
    let same : writes_over (λ k. false) (book ++ front) ≡ writes_over (past_of book).writes front =
    writes-append (λ k. false) book front
    ∙ ap (λ (w : ℕ → Bool). writes_over w front) (sym (writes-past first_past book)) in
    one-front (state_of declared (past_of book) volatile_states) action front good begins m n
    (sym (ap (λ (w : ℕ → Bool). w m) same) ∙ wm) (sym (ap (λ (w : ℕ → Bool). w n) same) ∙ wn)

pub assoc : (xs ys zs : List Event) → (xs ++ ys) ++ zs ≡ xs ++ (ys ++ zs)
assoc [] ys zs = refl
assoc (x ∷ xs) ys zs = ap (λ (l : List Event). x ∷ l) (assoc xs ys zs)

one-from : (declared : Declared) (book : List Event) (volatile_states : ℕ → VolatileState)
    (transitions : List Transition) (front rest : List Event)
    → IsCarried (state_of declared (past_of book) volatile_states)
    → AreAllowed declared book volatile_states transitions → front ++ rest ≡ book_of transitions
    → HasOneWriter (book ++ front)
one-from declared book volatile_states [] [] rest good allowed e =
    one-front-of declared book volatile_states Note [] good tt
one-from declared book volatile_states [] (x ∷ front) rest good allowed e = absurd (no-cons x (front ++ rest) e)
one-from declared book volatile_states (transition ∷ transitions) front rest good allowed e =
    elim (cuts front rest transition.events (book_of transitions) e) [
      | inl c ↦ one-front-of declared book volatile_states transition.action front good
          (begins-front (MayBegin (state_of declared (past_of book) volatile_states) transition.action) front
          c.0 transition.events c.1 allowed.0.begins)
      | inr c ↦ subst (λ (l : List Event). HasOneWriter l)
          (assoc book transition.events c.0 ∙ ap (λ (l : List Event). book ++ l) (sym c.1))
          (one-from declared (book ++ transition.events) transition.volatile_states transitions c.0 rest
          (transition-kept declared book volatile_states transition good allowed.0 allowed.1.0) allowed.1.1 c.2)
    ]

pub one : (declared : Declared) (transitions : List Transition) (front rest : List Event)
    → AreAllowed declared [] first_volatile_states transitions → front ++ rest ≡ book_of transitions
    → HasOneWriter front
one declared transitions front rest allowed e =
    one-from declared [] first_volatile_states transitions front rest (good-start declared) allowed e

pub none-more : (xs : List Event) → xs ++ [] ≡ xs
none-more [] = refl
none-more (x ∷ xs) = ap (λ (l : List Event). x ∷ l) (none-more xs)

good-run : (declared : Declared) (book : List Event) (volatile_states : ℕ → VolatileState)
    (transitions : List Transition) → IsCarried (state_of declared (past_of book) volatile_states)
    → AreAllowed declared book volatile_states transitions
    → IsCarried (state_of declared (past_of (book ++ book_of transitions))
    (volatile_states_over volatile_states transitions))
good-run declared book volatile_states [] good allowed =
    subst (λ (l : List Event). IsCarried (state_of declared (past_of l) volatile_states)) (sym (none-more book)) good
good-run declared book volatile_states (transition ∷ transitions) good allowed =
    subst (λ (l : List Event).
    IsCarried (state_of declared (past_of l) (volatile_states_over transition.volatile_states transitions)))
    (assoc book transition.events (book_of transitions))
    (good-run declared (book ++ transition.events) transition.volatile_states transitions
    (transition-kept declared book volatile_states transition good allowed.0 allowed.1.0) allowed.1.1)

pub one-at : (declared : Declared) (transitions : List Transition) (action : Action) (front : List Event)
    → AreAllowed declared [] first_volatile_states transitions
    → Begins (MayBegin
    (state_of declared (past_of (book_of transitions)) (volatile_states_over first_volatile_states transitions)) action)
    front
    → HasOneWriter (book_of transitions ++ front)
one-at declared transitions action front allowed begins =
    one-front-of declared (book_of transitions) (volatile_states_over first_volatile_states transitions) action front
    (good-run declared [] first_volatile_states transitions (good-start declared) allowed) begins
