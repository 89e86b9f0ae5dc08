-- Actions that change machines alone, ticks and losses, shown by their events.
use Rattle.std.proofs.Common.{◌≡◌, ℕ, ◌+◌, Bool, List, [], ◌∷◌, ◌++◌, Option, refl, ◌∙◌, ap}
use Rattle.pat_base.specs.declared.ticks.Ticks.{Ticks}
use Rattle.event_book.specs.declared.event.Event.{Event}
use Rattle.event_book.specs.declared.event.EventKind.{EventKind}
use Rattle.event_book.specs.declared.event.EventKind.TheVariants as kinds
use Rattle.event_book.specs.declared.event.MessageEvent.TheVariants as messages
use Rattle.event_book.specs.declared.event.StoreEvent.TheVariants as stores
use Rattle.event_book.specs.declared.event.WatchdogEvent.TheVariants as watchdogs
use Rattle.lease_model.specs.Leases.{Flying}
use Rattle.lease_model.specs.States.{Declared, State, is_due, tick_machine}
use Rattle.lease_model.specs.Actions.{Action, Tick, Deliver, Lose, Input, Start, Kill, Crash, Note, act}
use Rattle.lease_model.specs.Past.{Past, past_after, past_over, first_past, past_of, VolatileState, machine_of, state_of}
use Rattle.event_book.specs.Kinds.{AllAre}
use Rattle.lease_model.specs.Books.{Transition, IsShown}
use Rattle.lease_model.specs.Showing.{IsLocal, IsLocalAction}
use Rattle.lease_law.proofs.Showing.{past-append}
use Rattle.lease_law.proofs.Delivering.{parts-shown}

-- all but machines is as before
record Same (f g : Past) : Type 0 where
  clock : g.clock ≡ f.clock
  leader : g.leader ≡ f.leader
  failsafe : g.failsafe ≡ f.failsafe
  revision : g.revision ≡ f.revision
  flight : g.flight ≡ f.flight
  taken : g.taken ≡ f.taken

same-one : (f : Past) (kind : EventKind) → IsLocal kind → Same f (past_after f kind)
same-one f kinds.Tick is = absurd is
same-one f (kinds.Message e) is = absurd is
same-one f (kinds.Store (stores.Granted number by txn standbys)) is = absurd is
same-one f (kinds.Watchdog (watchdogs.HoldTaken member until from incarnation sequence)) is = absurd is
same-one f _ is = record { clock = refl; leader = refl; failsafe = refl; revision = refl; flight = refl; taken = refl }

same-both : (f g h : Past) → Same f g → Same g h → Same f h
same-both f g h a b = record {
  clock = b.clock ∙ a.clock;
  leader = b.leader ∙ a.leader;
  failsafe = b.failsafe ∙ a.failsafe;
  revision = b.revision ∙ a.revision;
  flight = b.flight ∙ a.flight;
  taken = b.taken ∙ a.taken;
}

same-all : (f : Past) (events : List Event) → AllAre IsLocal events → Same f (past_over f events)
same-all f [] is = record { clock = refl; leader = refl; failsafe = refl; revision = refl; flight = refl; taken = refl }
same-all f (event ∷ events) is = same-both f (past_after f event.kind) (past_over (past_after f event.kind) events)
    (same-one f event.kind is.0) (same-all (past_after f event.kind) events is.1)

same-book : (book events : List Event) (g : Past) → Same g (past_over (past_of book) events)
    → Same g (past_of (book ++ events))
same-book book events g a =
    let e = past-append first_past book events in
    record {
      clock = ap (λ (p : Past). p.clock) e ∙ a.clock;
      leader = ap (λ (p : Past). p.leader) e ∙ a.leader;
      failsafe = ap (λ (p : Past). p.failsafe) e ∙ a.failsafe;
      revision = ap (λ (p : Past). p.revision) e ∙ a.revision;
      flight = ap (λ (p : Past). p.flight) e ∙ a.flight;
      taken = ap (λ (p : Past). p.taken) e ∙ a.taken;
    }

-- such an action leaves all but machines
record Rests (s t : State) : Type 0 where
  clock : s.clock ≡ t.clock
  leader : s.leader ≡ t.leader
  failsafe : s.failsafe ≡ t.failsafe
  revision : s.revision ≡ t.revision
  flight : s.flight ≡ t.flight
  taken : s.taken ≡ t.taken

rests : (s : State) (action : Action) → IsLocalAction action → Rests s (act s action)
rests s (Start member) is =
    record { clock = refl; leader = refl; failsafe = refl; revision = refl; flight = refl; taken = refl }
rests s (Kill member) is =
    record { clock = refl; leader = refl; failsafe = refl; revision = refl; flight = refl; taken = refl }
rests s (Crash member) is =
    record { clock = refl; leader = refl; failsafe = refl; revision = refl; flight = refl; taken = refl }
rests s Note is = record { clock = refl; leader = refl; failsafe = refl; revision = refl; flight = refl; taken = refl }
rests s (Tick stops) is = absurd is
rests s (Deliver number answer granted) is = absurd is
rests s (Lose number) is = absurd is
rests s (Input member input) is = absurd is

pub local-shown : (declared : Declared) (book : List Event) (volatile_states : ℕ → VolatileState)
    (transition : Transition) → IsLocalAction transition.action → AllAre IsLocal transition.events →
    ((m : ℕ) → machine_of (past_of (book ++ transition.events)) (transition.volatile_states m) m
    ≡ (act (state_of declared (past_of book) volatile_states) transition.action).members m)
    → IsShown declared book volatile_states transition
local-shown declared book volatile_states transition uncontended quiet members =
    let a = same-book book transition.events (past_of book) (same-all (past_of book) transition.events quiet) in
    let r = rests (state_of declared (past_of book) volatile_states) transition.action uncontended in
    parts-shown declared book volatile_states transition (a.clock ∙ r.clock) (a.leader ∙ r.leader)
    (a.failsafe ∙ r.failsafe) (a.revision ∙ r.revision)
    (λ i. ap (λ (f : ℕ → Option Flying). f i) (a.flight ∙ r.flight)) (a.taken ∙ r.taken) members

pub tick-shown : (declared : Declared) (book : List Event) (volatile_states after : ℕ → VolatileState) (tick : Ticks)
    (rest : List Event) (stops : ℕ → Bool) → AllAre IsLocal rest → let events : List Event =
    record { tick = tick; kind = kinds.Tick } ∷ rest in
    ((m : ℕ) → machine_of (past_of (book ++ events)) (after m) m
    ≡ tick_machine (is_due ((past_of book).clock + 1) ((past_of book).deadline m)) (stops m)
    (machine_of (past_of book) (volatile_states m) m)) →
    IsShown declared book volatile_states (record { action = Tick stops; events = events; volatile_states = after })
tick-shown declared book volatile_states after tick rest stops quiet = λ members.
    let events : List Event = record { tick = tick; kind = kinds.Tick } ∷ rest in
    let ticked : Past = past_after (past_of book) kinds.Tick in
    let a = same-book book events ticked (same-all ticked rest quiet) in
    parts-shown declared book volatile_states
    (record { action = Tick stops; events = events; volatile_states = after }) a.clock a.leader a.failsafe a.revision
    (λ i. ap (λ (f : ℕ → Option Flying). f i) a.flight) a.taken members

pub loss-shown : (declared : Declared) (book : List Event) (volatile_states : ℕ → VolatileState)
    (tick : Ticks) (number : ℕ) → IsShown declared book volatile_states (record {
      action = Lose number;
      events = record { tick = tick; kind = kinds.Message (messages.Lost number) } ∷ [];
      volatile_states = volatile_states;
    })
loss-shown declared book volatile_states tick number = ap (λ (past : Past). state_of declared past volatile_states)
    (past-append first_past book (record { tick = tick; kind = kinds.Message (messages.Lost number) } ∷ []))
