-- What is read of a member's server, and what orders and events make of that.
use Rattle.pat_base.specs.Changes.{with_changed}
use Rattle.std.proofs.Common.{◌≡◌, ◌+◌, ◌==◌, ◌&&◌, ◌||◌, not, ℕ, Bool, true, false, if◌then◌else◌, [], Option, Some, None, slice_get, refl, sym, ap, ◌∙◌}
use Rattle.pat_base.specs.declared.server_id.ServerId.{ServerId}
use Rattle.pat_base.specs.declared.server_state.State.{State}
use Rattle.pat_base.specs.declared.server_state.State.TheVariants as states
use Rattle.pat_base.specs.declared.ticks.Ticks.{Ticks}
use Rattle.pat_base.specs.ServerState.{live}
use Rattle.pg_model.specs.Facts.{ServerFacts, is_creating, is_down, is_replica, is_up}
use Rattle.pg_model.specs.declared.status.ServerStatus.{ServerStatus}
use Rattle.pg_model.specs.Running.{is_primary, moment_after, started, starting, wiped}
use Rattle.pg_model.specs.Status.{status_promoted, status_started, status_starting, status_replica_started, status_primary_started, status_ending, status_stopping, status_following, status_restarted_in, status_wiped}
use Rattle.event_book.specs.declared.event.ServerEvent.TheVariants as servers
use Rattle.event_book.specs.Servers.{begun_in, loses_log, replica_starts_in, starts_as_primary, starts_as_replica, stops}
use Rattle.event_book.proofs.Starts.{down-starts}
use Rattle.agent_model.specs.declared.machine.Machine.{Machine}
use Rattle.agent_model.specs.Acting.{status_begun}
use Rattle.agent_outputs.specs.Orders.{with_server}
use Rattle.cluster_model.specs.State.{Cluster}
use Rattle.lease_inputs.proofs.InputStays.{item-here}

-- what is read of a server: its state, whether its last run was a primary, and how long its stops and starts take
pub record Seen : Type 0 where
  pub state : State
  pub was_primary : Bool
  pub stop : Ticks
  pub start : Ticks

abbrev pub facts_seen : ServerFacts → Seen
facts_seen s = record { state = s.state; was_primary = s.was_primary; stop = s.stop_delay; start = s.start_delay }

abbrev pub status_seen : ServerStatus → Seen
status_seen s = record { state = s.state; was_primary = s.was_primary; stop = s.stop_delay; start = s.start_delay }

-- the server of a member is seen so
pub record IsServer (cluster : Cluster) (m : ℕ) (seen : Seen) : Type 0 where
  pub server : ServerFacts
  pub is : slice_get cluster.facts.servers m ≡ Some server
  pub seen_is : facts_seen server ≡ seen

-- the member's machine, as far as the law reads it
pub record Mirrors (cluster : Cluster) (m : ℕ) (machine : Machine) : Type 0 where
  pub server : IsServer cluster m (status_seen machine.server)
  pub deadline : slice_get cluster.facts.deadlines m ≡ Some machine.watchdog.deadline
  pub hold : slice_get cluster.facts.holds m ≡ Some machine.hold

-- ---- what orders make of what is seen
abbrev pub seen_begun : Seen → Seen
seen_begun x = record x { state = states.Primary; was_primary = true }

abbrev seen_started : Bool → Seen → Seen
seen_started true x = seen_begun x
seen_started false x = record x { state = states.Replica }

abbrev pub seen_starting : Bool → Ticks → Seen → Seen
seen_starting as_primary now x = if x.start.0 == 0 then seen_started as_primary x
    else record x { state = states.Starting as_primary (moment_after now x.start) }

abbrev seen_promoted : Seen → Seen
seen_promoted x = if is_replica x.state then seen_begun x else x

abbrev pub seen_replica_started : Ticks → Seen → Seen
seen_replica_started now x = if is_down x.state then seen_starting false now (record x { was_primary = false }) else x

abbrev seen_primary_started : Ticks → Seen → Seen
seen_primary_started now x = if is_down x.state && x.was_primary then seen_starting true now x else x

abbrev pub seen_ending : Ticks → Bool → Seen → Seen
seen_ending now primary x = if x.stop.0 == 0 then record x { state = states.Stopped }
    else record x { state = states.Stopping primary (moment_after now x.stop) }

abbrev pub seen_stopping : Ticks → Seen → Seen
seen_stopping now x = if is_up x.state then seen_ending now (is_primary x.state) x else x

-- one that is down starts as a primary again, if its last run was one
abbrev pub seen_again : Ticks → Seen → Seen
seen_again now x = if x.was_primary then seen_starting true now x else x

-- what the order to begin makes of it, by its state
abbrev pub seen_begins : Ticks → State → Seen → Seen
seen_begins now states.Replica x = seen_begun x
seen_begins now states.Stopped x = seen_again now x
seen_begins now states.Crashed x = seen_again now x
seen_begins now _ x = x

-- what the order to start again makes of it, by its state
abbrev pub seen_restarted : Ticks → State → Seen → Seen
seen_restarted now states.Primary x = seen_starting true now x
seen_restarted now states.Replica x = seen_starting false now (record x { was_primary = false })
seen_restarted now _ x = x

-- it is wiped, unless it accepts writes or will
abbrev pub seen_wiped : Seen → Seen
seen_wiped x = if live x.state then x else record x { state = states.Creating }

no-both : {A : Type 0} → true ≡ false → A
no-both e = absurd (way e)
  where
    way : true ≡ false → ⊥
    way e = cc

-- a field of what is chosen
chosen : {A B : Type 0} (field : A → B) (test : Bool) (x y : A)
    → field (if test then x else y) ≡ (if test then field x else field y)
chosen field true x y = refl
chosen field false x y = refl

-- what is chosen of equal things
chosen-same : {A : Type 0} (test : Bool) (x x' y : A) → x ≡ x' → (if test then x else y) ≡ (if test then x' else y)
chosen-same test x x' y e = ap (λ z. if test then z else y) e

status-started-at : (as_primary : Bool) (s : ServerStatus)
    → status_seen (status_started as_primary s) ≡ seen_started as_primary (status_seen s)
status-started-at true s = refl
status-started-at false s = refl

status-starting : (as_primary : Bool) (now : Ticks) (s : ServerStatus)
    → status_seen (status_starting as_primary now s) ≡ seen_starting as_primary now (status_seen s)
status-starting as_primary now s =
    chosen status_seen (s.start_delay.0 == 0) (status_started as_primary s)
    (record s { state = states.Starting as_primary (moment_after now s.start_delay) })
    ∙ chosen-same (s.start_delay.0 == 0) (status_seen (status_started as_primary s))
    (seen_started as_primary (status_seen s))
    (record (status_seen s) { state = states.Starting as_primary (moment_after now s.start_delay) })
    (status-started-at as_primary s)

status-promoted : (s : ServerStatus) → status_seen (status_promoted s) ≡ seen_promoted (status_seen s)
status-promoted s = chosen status_seen (is_replica s.state)
    (record s { state = states.Primary; timeline = s.timeline + 1; was_primary = true }) s

pub status-replica-started : (now : Ticks) (upstream : Option ServerId) (s : ServerStatus)
    → status_seen (status_replica_started now upstream s) ≡ seen_replica_started now (status_seen s)
status-replica-started now upstream s =
    let behind : ServerStatus = record s { upstream = upstream; was_primary = false } in
    chosen status_seen (is_down s.state) (status_starting false now behind) s
    ∙ chosen-same (is_down s.state) (status_seen (status_starting false now behind))
    (seen_starting false now (status_seen behind)) (status_seen s) (status-starting false now behind)

status-primary-started : (now : Ticks) (s : ServerStatus)
    → status_seen (status_primary_started now s) ≡ seen_primary_started now (status_seen s)
status-primary-started now s =
    chosen status_seen (is_down s.state && s.was_primary) (status_starting true now s) s
    ∙ chosen-same (is_down s.state && s.was_primary) (status_seen (status_starting true now s))
    (seen_starting true now (status_seen s)) (status_seen s) (status-starting true now s)

-- the order to begin, by the state of the server
ordered-by : (now : Ticks) (state : State) (was : Bool) (stop start : Ticks) → let x : Seen =
    record { state = state; was_primary = was; stop = stop; start = start } in
    seen_primary_started now (seen_promoted x) ≡ seen_begins now state x
ordered-by now states.Replica was stop start = refl
ordered-by now states.Stopped was stop start = refl
ordered-by now states.Crashed was stop start = refl
ordered-by now _ was stop start = refl

pub status-begun-seen : (now : Ticks) (s : ServerStatus)
    → status_seen (status_begun now s) ≡ seen_begins now s.state (status_seen s)
status-begun-seen now s =
    status-primary-started now (status_promoted s)
    ∙ ap (seen_primary_started now) (status-promoted s)
    ∙ ordered-by now s.state s.was_primary s.stop_delay s.start_delay

pub status-stopping : (now : Ticks) (s : ServerStatus)
    → status_seen (status_stopping now s) ≡ seen_stopping now (status_seen s)
status-stopping now s =
    chosen status_seen (is_up s.state) (status_ending now s) s
    ∙ chosen-same (is_up s.state) (status_seen (status_ending now s))
    (seen_ending now (is_primary s.state) (status_seen s)) (status_seen s)
    (chosen status_seen (s.stop_delay.0 == 0) (record s { state = states.Stopped }) (record s {
      state = states.Stopping (is_primary s.state) (moment_after now s.stop_delay);
    }))

pub status-following : (upstream : ServerId) (s : ServerStatus)
    → status_seen (status_following upstream s) ≡ status_seen s
status-following upstream s = by (is_replica s.state)
  where
    by : (b : Bool) → let after : ServerStatus =
        (if b then record s { upstream = Some upstream; diverged = false } else s) in status_seen after ≡ status_seen s
    by true = refl
    by false = refl

pub status-restarted : (now : Ticks) (state : State) (s : ServerStatus)
    → status_seen (status_restarted_in state now s) ≡ seen_restarted now state (status_seen s)
status-restarted now states.Primary s = status-starting true now s
status-restarted now states.Replica s = status-starting false now (record s { was_primary = false })
status-restarted now _ s = refl

pub status-wiped : (s : ServerStatus) → status_seen (status_wiped s) ≡ seen_wiped (status_seen s)
status-wiped s =
    chosen status_seen (live s.state) s (record s { state = states.Creating; end = None; diverged = false })

-- ---- what events make of a server
pub begun-seen : (state : State) (s : ServerFacts) → facts_seen (begun_in state s) ≡ seen_begun (facts_seen s)
begun-seen states.Replica s = refl
begun-seen _ s = refl

facts-started : (as_primary : Bool) (s : ServerFacts)
    → facts_seen (started as_primary s) ≡ seen_started as_primary (facts_seen s)
facts-started true s = refl
facts-started false s = refl

facts-starting : (as_primary : Bool) (now : Ticks) (s : ServerFacts)
    → facts_seen (starting as_primary now s) ≡ seen_starting as_primary now (facts_seen s)
facts-starting as_primary now s =
    chosen facts_seen (s.start_delay.0 == 0) (started as_primary s)
    (record s { state = states.Starting as_primary (moment_after now s.start_delay) })
    ∙ chosen-same (s.start_delay.0 == 0) (facts_seen (started as_primary s)) (seen_started as_primary (facts_seen s))
    (record (facts_seen s) { state = states.Starting as_primary (moment_after now s.start_delay) })
    (facts-started as_primary s)

-- one that is down starts as a replica
pub facts-replica-started : (now : ℕ) (s : ServerFacts) → is_down s.state ≡ true
    → facts_seen (starts_as_replica now s) ≡ seen_replica_started (record { 0 = now }) (facts_seen s)
facts-replica-started now s down =
    let at : Ticks = record { 0 = now } in
    let behind : ServerFacts = record s { upstream = None; was_primary = false } in
    ap facts_seen (down-starts now s down)
    ∙ facts-starting false at behind
    ∙ sym (ap (λ (b : Bool). if b then seen_starting false at (facts_seen behind) else facts_seen s) down)

-- one that runs as a replica starts again
pub replica-again-seen : (now : ℕ) (s : ServerFacts) → s.state ≡ states.Replica
    → facts_seen (starts_as_replica now s) ≡ seen_restarted (record { 0 = now }) states.Replica (facts_seen s)
replica-again-seen now s is =
    ap (λ (state : State). facts_seen (replica_starts_in state (record { 0 = now }) s)) is
    ∙ facts-starting false (record { 0 = now }) (record s { upstream = s.upstream; was_primary = false })

-- one is wiped
pub facts-wiped : (s : ServerFacts) → facts_seen (loses_log s) ≡ seen_wiped (facts_seen s)
facts-wiped s = chosen facts_seen (live s.state) (record s { log = None }) (wiped s)

-- one that waits for a copy, or that accepts writes or will, isn't
pub unwiped : (state : State) (was : Bool) (stop start : Ticks) → (is_creating state || live state) ≡ true → let x :
    Seen =
    record { state = state; was_primary = was; stop = stop; start = start } in seen_wiped x ≡ x
unwiped states.Creating was stop start e = refl
unwiped states.Primary was stop start e = refl
unwiped (states.Starting true at) was stop start e = refl
unwiped (states.Starting false at) was stop start e = no-both (sym e)
unwiped (states.Stopping true at) was stop start e = refl
unwiped (states.Stopping false at) was stop start e = no-both (sym e)
unwiped states.Stopped was stop start e = no-both (sym e)
unwiped states.Replica was stop start e = no-both (sym e)
unwiped states.Crashed was stop start e = no-both (sym e)

-- one that is down and whose starts take time starts as a primary
pub slowly-started : (now : ℕ) (s : ServerFacts) (z : Bool) → (s.start_delay.0 == 0) ≡ z → is_down s.state ≡ true
    → z ≡ false → facts_seen (starts_as_primary now s) ≡ seen_starting true (record { 0 = now }) (facts_seen s)
slowly-started now s z e down slow =
    let at : Ticks = record { 0 = now } in
    ap (λ (b : Bool). facts_seen (if b && not (s.start_delay.0 == 0) then starting true at s else s)) down
    ∙ ap (λ (b : Bool). facts_seen (if not b then starting true at s else s)) (e ∙ slow)
    ∙ facts-starting true at s

stops-by : (now : Ticks) (s : ServerFacts) (up primary z : Bool) → (primary && z) ≡ false
    → let after : ServerFacts =
    (if up && (not primary || not z) then (if z then record s { state = states.Stopped; waiting = [] } else record s {
      state = states.Stopping primary (moment_after now s.stop_delay);
    }) else s) in
    facts_seen after
    ≡ (if up
    then (if z then record (facts_seen s) { state = states.Stopped }
    else record (facts_seen s) { state = states.Stopping primary (moment_after now s.stop_delay) })
    else facts_seen s)
stops-by now s false primary z quiet = refl
stops-by now s true false true quiet = refl
stops-by now s true false false quiet = refl
stops-by now s true true false quiet = refl
stops-by now s true true true quiet = no-both quiet

pub stops-seen : (now : ℕ) (s : ServerFacts) → (is_primary s.state && s.stop_delay.0 == 0) ≡ false
    → facts_seen (stops now s) ≡ seen_stopping (record { 0 = now }) (facts_seen s)
stops-seen now s quiet =
    stops-by (record { 0 = now }) s (is_up s.state) (is_primary s.state) (s.stop_delay.0 == 0) quiet

-- an end at once
pub ended-by : (now : Ticks) (x : Seen) (up primary z : Bool) → up ≡ true → (primary && z) ≡ true
    → record x { state = states.Stopped } ≡ (if up then (if z then record x {
      state = states.Stopped;
    } else record x { state = states.Stopping primary (moment_after now x.stop) }) else x)
ended-by now x true true true up is = refl
ended-by now x true true false up is = no-both (sym is)
ended-by now x true false z up is = no-both (sym is)
ended-by now x false primary z up is = no-both (sym up)

-- ---- the server behind an event of its own
pub moves : (cluster later : Cluster) (m : ℕ) (change : ServerFacts → ServerFacts) (x after : Seen)
    → slice_get later.facts.servers m ≡ slice_get (with_changed cluster.facts.servers m change) m
    → ((s : ServerFacts) → facts_seen s ≡ x → facts_seen (change s) ≡ after) → IsServer cluster m x
    → IsServer later m after
moves cluster later m change x after same makes old =
    record {
      server = change old.server;
      is = same ∙ item-here cluster.facts.servers m change old.server old.is;
      seen_is = makes old.server old.seen_is;
    }

pub stays-server : (cluster later : Cluster) (m : ℕ) (x : Seen)
    → slice_get later.facts.servers m ≡ slice_get cluster.facts.servers m → IsServer cluster m x → IsServer later m x
stays-server cluster later m x same old = record { server = old.server; is = same ∙ old.is; seen_is = old.seen_is }

as-server : (later : Cluster) (m : ℕ) (x after : Seen) → after ≡ x → IsServer later m x → IsServer later m after
as-server later m x after e is = record { server = is.server; is = is.is; seen_is = is.seen_is ∙ sym e }

-- an order changes the server alone
pub ordered : (cluster later : Cluster) (m : ℕ) (machine : Machine) (after : ServerStatus) (x : Seen)
    → slice_get later.facts.deadlines m ≡ slice_get cluster.facts.deadlines m
    → slice_get later.facts.holds m ≡ slice_get cluster.facts.holds m
    → status_seen after ≡ x → IsServer later m x → Mirrors cluster m machine
    → Mirrors later m (with_server after machine)
ordered cluster later m machine after x deadlines holds e is old = record {
  server = as-server later m x (status_seen after) e is;
  deadline = deadlines ∙ old.deadline;
  hold = holds ∙ old.hold;
}

pub unmoved : (cluster later : Cluster) (m : ℕ) (machine : Machine)
    → slice_get later.facts.servers m ≡ slice_get cluster.facts.servers m
    → slice_get later.facts.deadlines m ≡ slice_get cluster.facts.deadlines m
    → slice_get later.facts.holds m ≡ slice_get cluster.facts.holds m
    → Mirrors cluster m machine → Mirrors later m machine
unmoved cluster later m machine servers deadlines holds old = record {
  server = stays-server cluster later m (status_seen machine.server) servers old.server;
  deadline = deadlines ∙ old.deadline;
  hold = holds ∙ old.hold;
}
