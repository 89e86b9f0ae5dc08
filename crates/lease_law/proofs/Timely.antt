-- A lawful run has at most one writer as long as its feeds are in time.
use Rattle.std.proofs.Common.{◌≡◌, ℕ, false, List, [], ◌∷◌, ◌++◌, ◌∙◌, ap, sym, subst, inl, inr}
use Rattle.event_book.specs.declared.event.Event.{Event}
use Rattle.event_book.specs.Writers.{HasOneWriter, BeginsKind, Begins}
use Rattle.lease_model.specs.States.{Declared, State}
use Rattle.lease_model.specs.Inputs.{AgentInput, IsInTime}
use Rattle.lease_model.specs.Actions.{Action, Tick, Deliver, Lose, Input, Start, Kill, Crash, Note, IsInTimeAction, MayArm, MayBegin, IsAllowed}
use Rattle.lease_model.specs.Past.{VolatileState, past_of, state_of}
use Rattle.lease_model.specs.Books.{Transition, first_volatile_states, book_of}
use Rattle.lease_model.specs.Carried.{IsCarried}
use Rattle.event_book.specs.Premises.{IsTimely}
use Rattle.lease_model.specs.Claims.{MayBeginArmed, MayBeginBehind, BeginsBehind, ShowsIt, IsLawfulTransition, AreLawful}
use Rattle.lease_model.proofs.Tools.{not-false}
use Rattle.lease_law.proofs.Starting.{good-start}
use Rattle.lease_law.proofs.Falling.{timely-front}
use Rattle.lease_law.proofs.Feeding.{grant-in-time, input-in-time}
use Rattle.lease_law.proofs.Runs.{cuts, no-cons, head-is, tail-is, assoc, none-more, begins-one, one-front-of, transition-kept}

-- the state behind a book
abbrev Behind : Declared → List Event → (ℕ → VolatileState) → State
Behind declared book volatile_states = state_of declared (past_of book) volatile_states

armed-begins : (declared : Declared) (book : List Event) (volatile_states : ℕ → VolatileState) (m : ℕ)
    (input : AgentInput) (before : List Event) → IsTimely declared.margin (book ++ before)
    → MayBeginArmed (Behind declared book volatile_states) m input before
    → MayArm (Behind declared book volatile_states) m input
armed-begins declared book volatile_states m input before timely armed = record {
  fed = armed.fed;
  in_time = let h = armed.fed.hears in let a = armed.armed in
      grant-in-time declared.margin book a.front a.event a.rest m h.number h.answer armed.fed.grant
      (subst (λ (l : List Event). IsTimely declared.margin (book ++ l)) (sym a.is) timely) a.aside a.fed h.is
      h.grant_is;
  free = armed.free;
}

begins-in : (declared : Declared) (book : List Event) (volatile_states : ℕ → VolatileState) (action : Action)
    (before : List Event) → IsTimely declared.margin (book ++ before) → (n : ℕ)
    → MayBeginBehind (Behind declared book volatile_states) action before n
    → MayBegin (Behind declared book volatile_states) action n
begins-in declared book volatile_states (Tick stops) before timely n may = may
begins-in declared book volatile_states (Input m input) before timely n may = (
  may.0,
  elim may.1 [
    | inl acts ↦ inl acts
    | inr armed ↦ inr (armed-begins declared book volatile_states m input before timely armed)
  ],
)
begins-in declared book volatile_states (Deliver i j granted) before timely n may = absurd may
begins-in declared book volatile_states (Lose i) before timely n may = absurd may
begins-in declared book volatile_states (Start m) before timely n may = absurd may
begins-in declared book volatile_states (Kill m) before timely n may = absurd may
begins-in declared book volatile_states (Crash m) before timely n may = absurd may
begins-in declared book volatile_states Note before timely n may = absurd may

-- in a timely front each that begins may
begins-timely : (declared : Declared) (book : List Event) (volatile_states : ℕ → VolatileState)
    (action : Action) (before front back events : List Event) → front ++ back ≡ events
    → BeginsBehind (MayBeginBehind (Behind declared book volatile_states) action) before events
    → IsTimely declared.margin (book ++ (before ++ front))
    → Begins (MayBegin (Behind declared book volatile_states) action) front
begins-timely declared book volatile_states action before [] back events e may timely = tt
begins-timely declared book volatile_states action before (x ∷ front) back [] e may timely =
    absurd (no-cons x (front ++ back) e)
begins-timely declared book volatile_states action before (x ∷ front) back (y ∷ events) e may timely =
    let head : x ≡ y = head-is x y (front ++ back) events e in
    let first : IsTimely declared.margin (book ++ before) = timely-front declared.margin (book ++ before) (x ∷ front)
    (subst (λ (l : List Event). IsTimely declared.margin l) (sym (assoc book before (x ∷ front))) timely) in (
      begins-one (MayBeginBehind (Behind declared book volatile_states) action before)
          (MayBegin (Behind declared book volatile_states) action) x.kind
          (begins-in declared book volatile_states action before first)
          (subst (λ (z : Event).
          BeginsKind (MayBeginBehind (Behind declared book volatile_states) action before) z.kind)
          (sym head) may.0),
      begins-timely declared book volatile_states action (before ++ x ∷ []) front back events
          (tail-is x y (front ++ back) events e)
          (subst (λ (z : Event).
          BeginsBehind (MayBeginBehind (Behind declared book volatile_states) action) (before ++ z ∷ []) events)
          (sym head) may.1)
          (subst (λ (l : List Event). IsTimely declared.margin (book ++ l)) (sym (assoc before (x ∷ []) front)) timely),
    )

no-feed : (s : State) (m : ℕ) (input : AgentInput) → input.feeds ≡ false → IsInTime s m input
no-feed s m input none = record {
  by_grant = λ feeds. absurd (not-false input.feeds none feeds);
  by_failsafe = λ feeds. absurd (not-false input.feeds none feeds);
}

transition-in-time : (declared : Declared) (book : List Event) (volatile_states : ℕ → VolatileState)
    (action : Action) (events : List Event) → IsTimely declared.margin (book ++ events)
    → ShowsIt (Behind declared book volatile_states) action events
    → IsInTimeAction (Behind declared book volatile_states) action
transition-in-time declared book volatile_states (Input m input) events timely (inl none) =
    no-feed (Behind declared book volatile_states) m input none
transition-in-time declared book volatile_states (Input m input) events timely (inr shown) =
    input-in-time declared book volatile_states m input shown.0 shown.1 shown.2
    (subst (λ (l : List Event). IsTimely declared.margin (book ++ l)) (sym shown.3) timely) shown.4
transition-in-time declared book volatile_states (Tick stops) events timely shows = tt
transition-in-time declared book volatile_states (Deliver i j granted) events timely shows = tt
transition-in-time declared book volatile_states (Lose i) events timely shows = tt
transition-in-time declared book volatile_states (Start m) events timely shows = tt
transition-in-time declared book volatile_states (Kill m) events timely shows = tt
transition-in-time declared book volatile_states (Crash m) events timely shows = tt
transition-in-time declared book volatile_states Note events timely shows = tt

pub transition-allowed : (declared : Declared) (book : List Event) (volatile_states : ℕ → VolatileState)
    (action : Action) (events : List Event) → IsTimely declared.margin (book ++ events)
    → IsLawfulTransition (Behind declared book volatile_states) action events
    → IsAllowed (Behind declared book volatile_states) action events
transition-allowed declared book volatile_states action events timely law = record {
  lawful = law.lawful;
  in_time = transition-in-time declared book volatile_states action events timely law.shows;
  begins = begins-timely declared book volatile_states action [] events [] events (none-more events) law.begins timely;
  lives = law.lives;
}

timely-from : (declared : Declared) (book : List Event) (volatile_states : ℕ → VolatileState)
    (transitions : List Transition) (front rest : List Event) → IsCarried (Behind declared book volatile_states)
    → AreLawful declared book volatile_states transitions → front ++ rest ≡ book_of transitions
    → IsTimely declared.margin (book ++ front) → HasOneWriter (book ++ front)
timely-from declared book volatile_states [] [] rest good law e timely =
    one-front-of declared book volatile_states Note [] good tt
timely-from declared book volatile_states [] (x ∷ front) rest good law e timely = absurd (no-cons x (front ++ rest) e)
timely-from declared book volatile_states (transition ∷ transitions) front rest good law e timely =
    elim (cuts front rest transition.events (book_of transitions) e) [
      | inl c ↦ one-front-of declared book volatile_states transition.action front good
          (begins-timely declared book volatile_states transition.action [] front c.0 transition.events c.1
          law.0.begins timely)
      | inr c ↦
          let whole : IsTimely declared.margin ((book ++ transition.events) ++ c.0) =
          subst (λ (l : List Event). IsTimely declared.margin l)
          (ap (λ (l : List Event). book ++ l) c.1 ∙ sym (assoc book transition.events c.0)) timely in
          let first : IsTimely declared.margin (book ++ transition.events) =
          timely-front declared.margin (book ++ transition.events) c.0 whole in
          subst (λ (l : List Event). HasOneWriter l)
          (assoc book transition.events c.0 ∙ ap (λ (l : List Event). book ++ l) (sym c.1))
          (timely-from declared (book ++ transition.events) transition.volatile_states transitions c.0 rest
          (transition-kept declared book volatile_states transition good
          (transition-allowed declared book volatile_states transition.action transition.events first law.0) law.1.0)
          law.1.1 c.2 whole)
    ]

pub one-timely : (declared : Declared) (transitions : List Transition) (front rest : List Event)
    → AreLawful declared [] first_volatile_states transitions → front ++ rest ≡ book_of transitions
    → IsTimely declared.margin front → HasOneWriter front
one-timely declared transitions front rest law e timely =
    timely-from declared [] first_volatile_states transitions front rest (good-start declared) law e timely

pub front-timely : (declared : Declared) (book : List Event) (volatile_states : ℕ → VolatileState)
    (action : Action) (front : List Event) → IsTimely declared.margin (book ++ front)
    → BeginsBehind (MayBeginBehind (Behind declared book volatile_states) action) [] front
    → Begins (MayBegin (Behind declared book volatile_states) action) front
front-timely declared book volatile_states action front timely may =
    begins-timely declared book volatile_states action [] front [] front (none-more front) may timely
