-- Runs that are lawful whether or not their feeds are in time.
use Rattle.std.specs.Prelude.{ℕ, ◌≡◌, ◌⊎◌, ◌≤◌, true, false, List, [], ◌∷◌, ◌++◌}
use Rattle.event_book.specs.declared.event.Event.{Event}
use Rattle.event_book.specs.Writers.{writes_over, BeginsKind}
use Rattle.lease_model.specs.States.{Declared, State, Acts}
use Rattle.lease_model.specs.Inputs.{AgentInput, Fed}
use Rattle.lease_model.specs.Actions.{Action, Tick, Input, act, IsLawfulAction}
use Rattle.lease_model.specs.Past.{VolatileState, past_of, state_of}
use Rattle.lease_model.specs.Books.{Transition, IsShown}
use Rattle.lease_model.specs.Feeds.{KeepsMomentOf, IsFedBy, ShowsFeed}
use Rattle.event_book.specs.Kinds.{AllAre}

-- among these events the watchdog of m is armed or fed by the grant that the answer of this number tells
pub record IsArmedIn (m number : ℕ) (events : List Event) : Type 0 where
  pub front : List Event
  pub event : Event
  pub rest : List Event
  pub is : front ++ event ∷ rest ≡ events
  pub aside : AllAre (KeepsMomentOf number) front
  pub fed : IsFedBy m number event.kind

-- the arming stands before: a beginning before it may be one on a late
-- grant, of which the book up to there says nothing
pub record MayBeginArmed (s : State) (m : ℕ) (input : AgentInput) (before : List Event) : Type 0 where
  pub fed : Fed s m input.heard
  pub free : (s.members m).hold ≤ s.clock
  pub armed : IsArmedIn m fed.hears.number before

-- who may begin behind these events of the action
abbrev pub MayBeginBehind : State → Action → List Event → ℕ → Type 0
MayBeginBehind s (Tick stops) before n = (s.members n).live ≡ true
MayBeginBehind s (Input m input) before n = (n ≡ m) × (Acts (s.members m) ⊎ MayBeginArmed s m input before)
MayBeginBehind s _ before n = ⊥

-- whoever begins in one of these events may begin behind those that stand before it
abbrev pub BeginsBehind : (List Event → ℕ → Type 0) → List Event → List Event → Type 0
BeginsBehind P before [] = Unit {0}
BeginsBehind P before (event ∷ events) = BeginsKind (P before) event.kind × BeginsBehind P (before ++ event ∷ []) events

-- where an input arms or feeds the watchdog, one of its events tells it
abbrev pub ShowsIt : State → Action → List Event → Type 0
ShowsIt s (Input m input) events = (input.feeds ≡ false)
    ⊎ ((front : List Event) × (event : Event) × (rest : List Event) × (is : front ++ event ∷ rest ≡ events) ×
    ShowsFeed s m input front event)
ShowsIt s _ events = Unit {0}

-- an action with its events is lawful, whether or not it is in time
pub record IsLawfulTransition (s : State) (action : Action) (events : List Event) : Type 0 where
  pub lawful : IsLawfulAction s action
  pub shows : ShowsIt s action events
  pub begins : BeginsBehind (MayBeginBehind s action) [] events
  pub lives : (n : ℕ) → writes_over s.writes events n ≡ true → ((act s action).members n).live ≡ true

-- each transition is lawful behind this book, and shown by its events
abbrev pub AreLawful : Declared → List Event → (ℕ → VolatileState) → List Transition → Type 0
AreLawful declared book volatile_states [] = Unit {0}
AreLawful declared book volatile_states (transition ∷ transitions) =
    IsLawfulTransition (state_of declared (past_of book) volatile_states) transition.action transition.events
    × (IsShown declared book volatile_states transition ×
    AreLawful declared (book ++ transition.events) transition.volatile_states transitions)
