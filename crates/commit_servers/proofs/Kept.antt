-- Behind such actions commits are kept, and who else is live.
use Rattle.std.proofs.Common.{ℕ, ◌≡◌, List, [], ◌∷◌, ◌++◌, Option, refl, ◌∙◌, ap, sym, subst, inr}
use Rattle.pat_base.specs.declared.ticks.Ticks.{Ticks}
use Rattle.pat_base.specs.Changes.{with_changed}
use Rattle.pat_base.specs.ServerState.{live}
use Rattle.pg_model.specs.Facts.{ServerFacts}
use Rattle.event_book.specs.declared.event.Event.{Event}
use Rattle.event_book.specs.declared.event.EventKind.{EventKind}
use Rattle.event_book.specs.declared.event.EventKind.TheVariants as kinds
use Rattle.event_book.specs.declared.event.ServerEvent.{ServerEvent}
use Rattle.event_book.specs.declared.event.ServerEvent.TheVariants as servers
use Rattle.event_book.specs.declared.event.WatchdogEvent.TheVariants as watchdogs
use Rattle.event_book.specs.Clock.{now_after}
use Rattle.event_book.specs.Facts.{Facts, facts_after}
use Rattle.event_book.specs.Servers.{servers_after, servers_by}
use Rattle.event_book.proofs.Parts.{logged-kept, replicated-kept}
use Rattle.commit_actions.specs.Actions.{Note}
use Rattle.commit_showing.specs.Books.{ChangeOnce, KeepsNow, Transition}
use Rattle.commit_actions.specs.Carried.{IsSound}
use Rattle.commit_actions.specs.Past.{Setup, Past, VolatileState, past_after, past_over, state_of}
use Rattle.commit_showing.specs.Showing.{event_at}
use Rattle.commit_showing.proofs.Fronts.{kept-after, kept-inside}
use Rattle.commit_servers.specs.Matching.{live_in, live_now, volatile_after, volatile_over}
use Rattle.commit_servers.specs.Happening.{IsAtServer, MovesOnly}
use Rattle.commit_servers.specs.Acting.{AreActions, Leads}
use Rattle.commit_servers.proofs.Live.{live-kept, live-ticked}
use Rattle.commit_servers.proofs.Places.{changed-there}

-- ---- commits are kept
pub change-once : (tick : Ticks) (kind : EventKind) → ChangeOnce (event_at tick kind)
change-once tick kind = inr tt

-- the action of one event
transition-of : (setup : Setup) (past : Past) (facts : Facts) (volatile_states : ℕ → VolatileState) (event : Event)
    → Leads setup past facts volatile_states event.kind (volatile_after volatile_states event.kind) → Transition
transition-of setup past facts volatile_states event leads = record {
  action = leads.action.action;
  events = event_at event.tick event.kind;
  volatile_states = volatile_after volatile_states event.kind;
}

sound-one : (setup : Setup) (past : Past) (facts : Facts) (volatile_states : ℕ → VolatileState) (event : Event)
    → Leads setup past facts volatile_states event.kind (volatile_after volatile_states event.kind)
    → IsSound (state_of setup past volatile_states)
    → IsSound (state_of setup (past_after past event.kind) (volatile_after volatile_states event.kind))
unfolding transition-of
sound-one setup past facts volatile_states event leads sound =
    kept-after setup past volatile_states (transition-of setup past facts volatile_states event leads) sound
    leads.action.allowed (leads.action.shown event.tick)

pub sound-over : (setup : Setup) (past : Past) (facts : Facts) (volatile_states : ℕ → VolatileState)
    (events : List Event) → AreActions setup past facts volatile_states events
    → IsSound (state_of setup past volatile_states)
    → IsSound (state_of setup (past_over past events) (volatile_over volatile_states events))
sound-over setup past facts volatile_states [] all sound = sound
sound-over setup past facts volatile_states (event ∷ events) all sound =
    sound-over setup (past_after past event.kind) (facts_after facts event.kind)
    (volatile_after volatile_states event.kind) events all.1
    (sound-one setup past facts volatile_states event all.0 sound)

-- where the law's state is carried, commits are kept
pub keeps-now : (setup : Setup) (past : Past) (volatile_states : ℕ → VolatileState)
    → IsSound (state_of setup past volatile_states) → KeepsNow past
keeps-now setup past volatile_states sound = kept-inside setup past volatile_states
    (record { action = Note; events = []; volatile_states = volatile_states }) [] [] sound tt refl tt refl

no-events : (x : Event) (xs : List Event) → ◌≡◌ {A = List Event} (x ∷ xs) [] → ⊥
no-events x xs e = cc

first-is : (x y : Event) (xs ys : List Event) → ◌≡◌ {A = List Event} (x ∷ xs) (y ∷ ys) → x ≡ y
first-is x y xs ys e = cc

others-are : (x y : Event) (xs ys : List Event) → ◌≡◌ {A = List Event} (x ∷ xs) (y ∷ ys) → xs ≡ ys
others-are x y xs ys e = cc

pub keeps-inside : (setup : Setup) (past : Past) (facts : Facts) (volatile_states : ℕ → VolatileState)
    (events front back : List Event) → AreActions setup past facts volatile_states events
    → IsSound (state_of setup past volatile_states)
    → front ++ back ≡ events → KeepsNow (past_over past front)
keeps-inside setup past facts volatile_states events [] back all sound e = keeps-now setup past volatile_states sound
keeps-inside setup past facts volatile_states [] (x ∷ front) back all sound e = absurd (no-events x (front ++ back) e)
keeps-inside setup past facts volatile_states (event ∷ events) (x ∷ front) back all sound e =
    subst (λ (y : Event). KeepsNow (past_over (past_after past y.kind) front))
    (sym (first-is x event (front ++ back) events e))
    (keeps-inside setup (past_after past event.kind) (facts_after facts event.kind)
    (volatile_after volatile_states event.kind) events front back all.1
    (sound-one setup past facts volatile_states event all.0 sound) (others-are x event (front ++ back) events e))

-- ---- the others stay live, or not
other-stays : (known : List ServerFacts) (k m n : ℕ) (change : ServerFacts → ServerFacts) → k ≡ m
    → (n ≡ m → ⊥) → live_in (with_changed known k change) n ≡ live_in known n
other-stays known k m n change here other = ap live_now (changed-there known k change n (λ e. other (e ∙ here)))

others-server : (now : ℕ) (known : List ServerFacts) (happening : ServerEvent) (m n : ℕ)
    → IsAtServer m happening → (n ≡ m → ⊥) → live_in (servers_by now known happening) n ≡ live_in known n
others-server now known (servers.Began server timeline) m n here other =
    other-stays known server.id.number m n _ here other
others-server now known (servers.Ended server) m n here other = other-stays known server.id.number m n _ here other
others-server now known (servers.Crashed server) m n here other = other-stays known server.id.number m n _ here other
others-server now known (servers.Stops server) m n here other = other-stays known server.id.number m n _ here other
others-server now known (servers.StartsAsPrimary server) m n here other =
    other-stays known server.id.number m n _ here other
others-server now known (servers.StartsAsReplica server) m n here other =
    other-stays known server.id.number m n _ here other
others-server now known (servers.Follows server upstream) m n here other =
    other-stays known server.id.number m n _ here other
others-server now known (servers.Diverged server upstream at) m n here other =
    other-stays known server.id.number m n _ here other
others-server now known (servers.Slowed server stop start) m n here other =
    other-stays known server.id.number m n _ here other
others-server now known (servers.Promoted server) m n here other = refl
others-server now known (servers.Frozen server) m n here other = refl
others-server now known (servers.Thawed server) m n here other = refl

pub others-stay : (now : ℕ) (known : List ServerFacts) (remote : Option ServerFacts) (kind : EventKind) (m n : ℕ)
    → MovesOnly m kind → (n ≡ m → ⊥) → live_in (servers_after now known remote kind) n ≡ live_in known n
others-stay now known remote kinds.Tick m n here other = live-ticked (record { 0 = now }) known n
others-stay now known remote (kinds.Server happening) m n here other = others-server now known happening m n here other
others-stay now known remote (kinds.Log happening) m n here other =
    live-kept known _ n
    (logged-kept (λ s. live s.state) (λ s t live writes required confirmed. live) known remote happening)
others-stay now known remote (kinds.Replication happening) m n here other =
    live-kept known _ n (replicated-kept (λ s. live s.state) (λ s t state log. ap live state) known happening)
others-stay now known remote (kinds.Watchdog (watchdogs.Reset member)) m n here other =
    other-stays known member.id.number m n _ here other
others-stay now known remote (kinds.Watchdog (watchdogs.Armed member until answer)) m n here other = refl
others-stay now known remote (kinds.Watchdog (watchdogs.Fed member until basis)) m n here other = refl
others-stay now known remote (kinds.Watchdog (watchdogs.Disarmed member)) m n here other = refl
others-stay now known remote (kinds.Watchdog (watchdogs.Measured member since)) m n here other = refl
others-stay now known remote (kinds.Watchdog (watchdogs.HoldTaken member until from incarnation sequence)) m n here
    other =
    refl
others-stay now known remote _ m n here other = refl

pub others-by : (facts : Facts) (kind : EventKind) (m n : ℕ) → MovesOnly m kind → (n ≡ m → ⊥)
    → live_in (facts_after facts kind).servers n ≡ live_in facts.servers n
others-by facts kind m n here other =
    others-stay (now_after facts.clock kind) facts.servers facts.remote kind m n here other
