-- The events of an input, folded one by one, are the action.
use Rattle.std.proofs.Common.{◌≡◌, ℕ, Bool, List, [], ◌∷◌, ◌++◌, Option, Some, None, max, refl, ◌∙◌, ap}
use Rattle.std.proofs.Math.Path.{fun_ext}
use Rattle.event_book.specs.declared.event.Event.{Event}
use Rattle.event_book.specs.declared.event.EventKind.{EventKind}
use Rattle.event_book.specs.declared.event.EventKind.TheVariants as kinds
use Rattle.event_book.specs.declared.event.StoreEvent.TheVariants as stores
use Rattle.event_book.specs.declared.event.WatchdogEvent.{WatchdogEvent}
use Rattle.event_book.specs.declared.event.WatchdogEvent.TheVariants as watchdogs
use Rattle.event_book.specs.declared.event.AgentEvent.TheVariants as agents
use Rattle.event_book.specs.Functions.{put_at}
use Rattle.event_book.specs.Writers.{writes_over}
use Rattle.lease_model.specs.Leases.{LeaderKey, FailsafeKey, FailsafeRequest, Flying}
use Rattle.event_book.specs.Premises.{Taking}
use Rattle.lease_model.specs.States.{Agent, Machine, Declared, State}
use Rattle.lease_model.specs.Actions.{Input, taken_by, state_after}
use Rattle.event_book.specs.Watchdogs.{is_acknowledged}
use Rattle.lease_model.specs.Past.{Past, past_after, past_over, first_past, past_of, VolatileState, machine_of, state_of}
use Rattle.event_book.specs.Kinds.{AllAre}
use Rattle.lease_model.specs.Showing.{IsOwnWatchdog, IsOwn, input_of}
use Rattle.lease_model.proofs.Tools.{put-all}
use Rattle.lease_law.proofs.Runs.{writes-past}

-- all but messages and m's own machine is as before
record Frame (m : ℕ) (f g : Past) : Type 0 where
  clock : g.clock ≡ f.clock
  leader : g.leader ≡ f.leader
  failsafe : g.failsafe ≡ f.failsafe
  revision : g.revision ≡ f.revision
  runs : g.runs ≡ f.runs
  deadline : (n : ℕ) → (n ≡ m → ⊥) → g.deadline n ≡ f.deadline n
  by_failsafe : (n : ℕ) → (n ≡ m → ⊥) → g.by_failsafe n ≡ f.by_failsafe n
  hold : (n : ℕ) → (n ≡ m → ⊥) → g.hold n ≡ f.hold n

elsewhere : {A : Type 0} (f : ℕ → A) (k m : ℕ) (x : A) → k ≡ m → (n : ℕ) → (n ≡ m → ⊥) → put_at f k x n ≡ f n
elsewhere f k m x e n other =
    put-all f k x (λ n z. (n ≡ k → ⊥) → z ≡ f n) (λ no. absurd (no refl)) (λ n o no. refl) n (λ same. other (same ∙ e))

frame-watchdog : (m : ℕ) (f : Past) (e : WatchdogEvent) → IsOwnWatchdog m e
    → Frame m f (past_after f (kinds.Watchdog e))
frame-watchdog m f (watchdogs.Armed member until answer) mine = record {
  clock = refl;
  leader = refl;
  failsafe = refl;
  revision = refl;
  runs = refl;
  deadline = elsewhere f.deadline member.id.number m (Some until.0) mine;
  by_failsafe = elsewhere f.by_failsafe member.id.number m _ mine;
  hold = λ n o. refl;
}
frame-watchdog m f (watchdogs.Fed member until basis) mine = record {
  clock = refl;
  leader = refl;
  failsafe = refl;
  revision = refl;
  runs = refl;
  deadline = elsewhere f.deadline member.id.number m (Some until.0) mine;
  by_failsafe = elsewhere f.by_failsafe member.id.number m (is_acknowledged basis) mine;
  hold = λ n o. refl;
}
frame-watchdog m f (watchdogs.Disarmed member) mine = record {
  clock = refl;
  leader = refl;
  failsafe = refl;
  revision = refl;
  runs = refl;
  deadline = elsewhere f.deadline member.id.number m None mine;
  by_failsafe = λ n o. refl;
  hold = λ n o. refl;
}
frame-watchdog m f (watchdogs.Reset member) mine = record {
  clock = refl;
  leader = refl;
  failsafe = refl;
  revision = refl;
  runs = refl;
  deadline = elsewhere f.deadline member.id.number m None mine;
  by_failsafe = λ n o. refl;
  hold = λ n o. refl;
}
frame-watchdog m f (watchdogs.Measured member since) mine = record {
  clock = refl;
  leader = refl;
  failsafe = refl;
  revision = refl;
  runs = refl;
  deadline = λ n o. refl;
  by_failsafe = λ n o. refl;
  hold = λ n o. refl;
}
frame-watchdog m f (watchdogs.HoldTaken member until from incarnation sequence) mine = record {
  clock = refl;
  leader = refl;
  failsafe = refl;
  revision = refl;
  runs = refl;
  deadline = λ n o. refl;
  by_failsafe = λ n o. refl;
  hold = elsewhere f.hold member.id.number m (max (f.hold member.id.number) until.0) mine;
}

frame-one : (m : ℕ) (f : Past) (kind : EventKind) → IsOwn m kind → Frame m f (past_after f kind)
frame-one m f kinds.Tick mine = absurd mine
frame-one m f (kinds.Store (stores.Granted number by txn standbys)) mine = absurd mine
frame-one m f (kinds.Watchdog e) mine = frame-watchdog m f e mine
frame-one m f (kinds.Agent (agents.Started agent incarnation)) mine = absurd mine
frame-one m f _ mine = record {
  clock = refl;
  leader = refl;
  failsafe = refl;
  revision = refl;
  runs = refl;
  deadline = λ n o. refl;
  by_failsafe = λ n o. refl;
  hold = λ n o. refl;
}

frame-both : (m : ℕ) (f g h : Past) → Frame m f g → Frame m g h → Frame m f h
frame-both m f g h a b = record {
  clock = b.clock ∙ a.clock;
  leader = b.leader ∙ a.leader;
  failsafe = b.failsafe ∙ a.failsafe;
  revision = b.revision ∙ a.revision;
  runs = b.runs ∙ a.runs;
  deadline = λ n o. b.deadline n o ∙ a.deadline n o;
  by_failsafe = λ n o. b.by_failsafe n o ∙ a.by_failsafe n o;
  hold = λ n o. b.hold n o ∙ a.hold n o;
}

frame-all : (m : ℕ) (f : Past) (events : List Event) → AllAre (IsOwn m) events → Frame m f (past_over f events)
frame-all m f [] mine = record {
  clock = refl;
  leader = refl;
  failsafe = refl;
  revision = refl;
  runs = refl;
  deadline = λ n o. refl;
  by_failsafe = λ n o. refl;
  hold = λ n o. refl;
}
frame-all m f (event ∷ events) mine =
    frame-both m f (past_after f event.kind) (past_over (past_after f event.kind) events)
    (frame-one m f event.kind mine.0) (frame-all m (past_after f event.kind) events mine.1)

machine-eq : (live : Bool) (agent : Option Agent) (d d' : Option ℕ) (b b' : Bool) (h h' r r' : ℕ) → d ≡ d'
    → b ≡ b' → h ≡ h' → r ≡ r' →
    ◌≡◌ {A = Machine} (record { live = live; deadline = d; by_failsafe = b; hold = h; agent = agent; runs = r })
    (record { live = live; deadline = d'; by_failsafe = b'; hold = h'; agent = agent; runs = r' })
machine-eq live agent d d' b b' h h' r r' p q s t = cc

pub state-eq : (d : Declared) (c c' : ℕ) (k k' : Option LeaderKey) (f f' : Option FailsafeKey) (t t' : ℕ)
    (fl fl' : ℕ → Option Flying) (tk tk' : List Taking) (ms ms' : ℕ → Machine) (w w' : ℕ → Bool) →
    c ≡ c' → k ≡ k' → f ≡ f' → t ≡ t' → fl ≡ fl' → tk ≡ tk' → ms ≡ ms' → w ≡ w' →
    ◌≡◌ {A = State} (record {
      declared = d;
      clock = c;
      leader = k;
      failsafe = f;
      revision = t;
      flight = fl;
      taken = tk;
      members = ms;
      writes = w;
    })
    (record {
      declared = d;
      clock = c';
      leader = k';
      failsafe = f';
      revision = t';
      flight = fl';
      taken = tk';
      members = ms';
      writes = w';
    })
state-eq d c c' k k' f f' t t' fl fl' tk tk' ms ms' w w' p1 p2 p3 p4 p5 p6 p7 p8 = cc

-- the machines after an input
machines-input : (f g : Past) (volatile_states : ℕ → VolatileState) (m : ℕ) (volatile_state : VolatileState)
    → Frame m f g
    → ◌≡◌ {A = ℕ → Machine} (λ n. machine_of g (put_at volatile_states m volatile_state n) n)
    (put_at (λ n. machine_of f (volatile_states n) n) m (machine_of g volatile_state m))
machines-input f g volatile_states m volatile_state a = fun_ext (λ n.
    put-all (λ n. machine_of f (volatile_states n) n) m (machine_of g volatile_state m)
    (λ n z. machine_of g (put_at volatile_states m volatile_state n) n ≡ z)
    (put-all volatile_states m volatile_state (λ k w. k ≡ m → machine_of g w k ≡ machine_of g volatile_state m)
    (λ e. refl) (λ k o e. absurd (o e)) m refl)
    (λ n other. put-all volatile_states m volatile_state
    (λ k w. (k ≡ m → ⊥) → machine_of g w k ≡ machine_of f (volatile_states k) k)
    (λ o. absurd (o refl))
    (λ k o no. machine-eq (volatile_states k).live (volatile_states k).agent (g.deadline k) (f.deadline k)
    (g.by_failsafe k) (f.by_failsafe k) (g.hold k) (f.hold k) (g.runs k) (f.runs k)
    (a.deadline k o) (a.by_failsafe k o) (a.hold k o) (ap (λ (r : ℕ → ℕ). r k) a.runs))
    n other)
    n)

pub input-shown : (declared : Declared) (past : Past) (volatile_states : ℕ → VolatileState) (m : ℕ)
    (volatile_state : VolatileState) (heard : Option ℕ) (feeds : Bool) (takes : Option FailsafeRequest)
    (events : List Event) → AllAre (IsOwn m) events
    → (past_over past events).taken ≡ taken_by m past.clock takes past.taken →
    state_of declared (past_over past events) (put_at volatile_states m volatile_state)
    ≡ state_after (state_of declared past volatile_states)
    (Input m (input_of past m volatile_state heard feeds takes events)) events
input-shown declared past volatile_states m volatile_state heard feeds takes events mine taken =
    let g : Past = past_over past events in
    let a = frame-all m past events mine in
    state-eq declared g.clock past.clock g.leader past.leader g.failsafe past.failsafe g.revision
    past.revision g.flight g.flight g.taken (taken_by m past.clock takes past.taken)
    (λ n. machine_of g (put_at volatile_states m volatile_state n) n)
    (put_at (λ n. machine_of past (volatile_states n) n) m (machine_of g volatile_state m)) g.writes
    (writes_over past.writes events)
    a.clock a.leader a.failsafe a.revision refl taken
    (machines-input past g volatile_states m volatile_state a) (writes-past past events)

pub past-append : (past : Past) (book events : List Event)
    → past_over past (book ++ events) ≡ past_over (past_over past book) events
past-append past [] events = refl
past-append past (event ∷ book) events = past-append (past_after past event.kind) book events

-- the same of a book
pub input-shown-of : (declared : Declared) (book : List Event) (volatile_states : ℕ → VolatileState) (m : ℕ)
    (volatile_state : VolatileState) (heard : Option ℕ) (feeds : Bool) (takes : Option FailsafeRequest)
    (events : List Event) → AllAre (IsOwn m) events
    → (past_over (past_of book) events).taken ≡ taken_by m (past_of book).clock takes (past_of book).taken →
    state_of declared (past_of (book ++ events)) (put_at volatile_states m volatile_state)
    ≡ state_after (state_of declared (past_of book) volatile_states)
    (Input m (input_of (past_of book) m volatile_state heard feeds takes events)) events
input-shown-of declared book volatile_states m volatile_state heard feeds takes events mine taken =
    ap (λ (past : Past). state_of declared past (put_at volatile_states m volatile_state))
    (past-append first_past book events)
    ∙ input-shown declared (past_of book) volatile_states m volatile_state heard feeds takes events mine taken
