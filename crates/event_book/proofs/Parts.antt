-- Parts of servers that events of some concerns leave as they were.
use Rattle.std.proofs.Common.{ℕ, ◌≡◌, ◌==◌, ◌&&◌, not, nat_le, Bool, cond, true, false, List, map, Option, Some, None, refl, ap, sym}
use Rattle.pat_base.specs.declared.server_state.State.{State}
use Rattle.pat_base.specs.declared.server_state.State.TheVariants as states
use Rattle.pat_base.specs.declared.server_id.ServerId.{ServerId}
use Rattle.pat_base.specs.declared.ticks.Ticks.{Ticks}
use Rattle.pat_base.specs.ServerState.{writes, live}
use Rattle.pg_model.specs.Facts.{ServerFacts, is_creating, is_down}
use Rattle.pg_model.specs.Rewinding.{cloned, is_rewindable, rewound_to}
use Rattle.pg_model.specs.Running.{completed, crashed, delayed, is_primary, moment_after, replica_started, started, stopped, stopping, wiped, ticked_unless_live}
use Rattle.pg_model.specs.Replication.{following}
use Rattle.event_book.specs.declared.event.LogEvent.{LogEvent}
use Rattle.event_book.specs.declared.event.LogEvent.TheVariants as logs
use Rattle.event_book.specs.declared.event.ReplicationEvent.{ReplicationEvent}
use Rattle.event_book.specs.declared.event.ReplicationEvent.TheVariants as replications
use Rattle.event_book.specs.declared.event.ServerEvent.{ServerEvent}
use Rattle.event_book.specs.declared.event.ServerEvent.TheVariants as servers
use Rattle.event_book.specs.declared.event.WatchdogEvent.{WatchdogEvent}
use Rattle.event_book.specs.declared.event.WatchdogEvent.TheVariants as watchdogs
use Rattle.event_book.specs.Servers.{stops_quietly, stops, replica_starts_in, servers_by, received_by, cut_to, goes_back, copied_by, servers_by_log, servers_by_replication, servers_by_watchdog}
use Rattle.event_book.specs.Remote.{server_at}
use Rattle.event_book.specs.Writers.{BeginsServer}
use Rattle.event_book.proofs.Changed.{kept-one, kept-each, same-if}

-- what only the log, the required list and what was confirmed determine stays
-- where a server starts, stops or crashes, and where it follows another one
module _ {B : Type 0} (f : ServerFacts → B)
    (reads : (s t : ServerFacts) → s.log ≡ t.log → s.required ≡ t.required → s.confirmed ≡ t.confirmed →
    f s ≡ f t) where
  completed-kept : (now : Ticks) (state : State) (s : ServerFacts)
      → f (cond (live state) s (completed now state s)) ≡ f s
  completed-kept now (states.Starting true at) s = refl
  completed-kept now (states.Starting false at) s =
      same-if f (nat_le at.0 now.0) (started false s) s (f s) (reads _ _ refl refl refl) refl
  completed-kept now (states.Stopping true at) s = refl
  completed-kept now (states.Stopping false at) s =
      same-if f (nat_le at.0 now.0) (stopped s) s (f s) (reads _ _ refl refl refl) refl
  completed-kept now _ s = refl

  pub ticked-kept : (now : Ticks) (known : List ServerFacts) → map f (map (ticked_unless_live now) known) ≡ map f known
  ticked-kept now known = kept-each f (ticked_unless_live now) (λ s. completed-kept now s.state s) known

  stops-kept : (now : ℕ) (s : ServerFacts) → f (stops now s) ≡ f s
  stops-kept now s =
      let at : Ticks = record { 0 = now } in
      let waits : ServerFacts =
      record s { state = states.Stopping (is_primary s.state) (moment_after at s.stop_delay) } in
      same-if f (stops_quietly s) (stopping at s) s (f s)
      (same-if f (s.stop_delay.0 == 0) (stopped s) waits (f s) (reads (stopped s) s refl refl refl)
      (reads waits s refl refl refl))
      refl

  -- where a start takes time nobody accepts writes yet
  primary-kept : (now : ℕ) (s : ServerFacts) (down at_once : Bool)
      → f (cond (down && not at_once) (cond at_once (started true s) (record s {
        state = states.Starting true (moment_after (record { 0 = now }) s.start_delay);
      })) s) ≡ f s
  primary-kept now s true true = refl
  primary-kept now s true false = reads (record s {
    state = states.Starting true (moment_after (record { 0 = now }) s.start_delay);
  }) s refl refl refl
  primary-kept now s false at_once = refl

  replica-started : (now : Ticks) (upstream : Option ServerId) (s : ServerFacts)
      → f (replica_started now upstream s) ≡ f s
  replica-started now upstream s =
      let told : ServerFacts = record s { upstream = upstream; was_primary = false } in
      let waits : ServerFacts = record told { state = states.Starting false (moment_after now s.start_delay) } in
      same-if f (s.start_delay.0 == 0) (started false told) waits (f s)
      (reads (started false told) s refl refl refl) (reads waits s refl refl refl)

  replica-kept : (now : Ticks) (state : State) (s : ServerFacts) → f (replica_starts_in state now s) ≡ f s
  replica-kept now states.Stopped s = replica-started now None s
  replica-kept now states.Crashed s = replica-started now None s
  replica-kept now states.Replica s = replica-started now s.upstream s
  replica-kept now _ s = refl

  pub others-kept : (now : ℕ) (known : List ServerFacts) (happening : ServerEvent)
      → BeginsServer (λ number. ⊥) happening
      → map f (servers_by now known happening) ≡ map f known
  others-kept now known (servers.Began server timeline) none = absurd none
  others-kept now known (servers.Ended server) none = kept-one f known _ _ (λ s. reads (stopped s) s refl refl refl)
  others-kept now known (servers.Crashed server) none = kept-one f known _ _ (λ s. reads (crashed s) s refl refl refl)
  others-kept now known (servers.Stops server) none = kept-one f known _ _ (stops-kept now)
  others-kept now known (servers.StartsAsPrimary server) none =
      kept-one f known _ _ (λ s. primary-kept now s (is_down s.state) (s.start_delay.0 == 0))
  others-kept now known (servers.StartsAsReplica server) none =
      kept-one f known _ _ (λ s. replica-kept (record { 0 = now }) s.state s)
  others-kept now known (servers.Follows server upstream) none =
      kept-one f known _ _ (λ s. reads (following upstream.id s) s refl refl refl)
  others-kept now known (servers.Diverged server upstream at) none =
      kept-one f known _ _ (λ s. reads (record s { diverged = true }) s refl refl refl)
  others-kept now known (servers.Slowed server stop start) none =
      kept-one f known _ _ (λ s. reads (delayed stop start s) s refl refl refl)
  others-kept now known _ none = refl

  pub watched-kept : (known : List ServerFacts) (happening : WatchdogEvent)
      → map f (servers_by_watchdog known happening) ≡ map f known
  watched-kept known (watchdogs.Reset member) = kept-one f known _ _ (λ s. reads (crashed s) s refl refl refl)
  watched-kept known _ = refl

-- what only the required list, what was confirmed, and whether a
-- server accepts writes or is live determine stays where a log changes
module _ {B : Type 0} (f : ServerFacts → B)
    (reads : (s t : ServerFacts) → live s.state ≡ live t.state → writes s.state ≡ writes t.state →
    s.required ≡ t.required → s.confirmed ≡ t.confirmed → f s ≡ f t) where
  received-kept : (known : List ServerFacts) (number count : ℕ) (found : Option ServerFacts)
      → map f (received_by known number count found) ≡ map f known
  received-kept known number count None = refl
  received-kept known number count (Some upstream) = kept-one f known _ _ (λ s. reads _ s refl refl refl refl)

  -- a server that is rewound or cloned accepts no writes, before or after
  rewound-kept : (kept : ℕ) (source : ServerFacts) (state : State) (s : ServerFacts) → s.state ≡ state
      → f (cond (is_rewindable state) (rewound_to kept s source) (cut_to kept s)) ≡ f s
  rewound-kept kept source states.Replica s is =
      reads (rewound_to kept s source) s (sym (ap live is)) (sym (ap writes is)) refl refl
  rewound-kept kept source states.Stopped s is =
      reads (rewound_to kept s source) s (sym (ap live is)) (sym (ap writes is)) refl refl
  rewound-kept kept source _ s is = reads (cut_to kept s) s refl refl refl refl

  back-kept : (kept : ℕ) (found : Option ServerFacts) (s : ServerFacts) → f (goes_back kept found s) ≡ f s
  back-kept kept None s = reads (cut_to kept s) s refl refl refl refl
  back-kept kept (Some source) s = rewound-kept kept source s.state s refl

  cloned-kept : (source : ServerFacts) (state : State) (s : ServerFacts) → s.state ≡ state
      → f (cond (is_creating state) (cloned s source) (record s { log = source.log })) ≡ f s
  cloned-kept source states.Creating s is = reads (cloned s source) s (sym (ap live is)) (sym (ap writes is)) refl refl
  cloned-kept source _ s is = reads (record s { log = source.log }) s refl refl refl refl

  copied-kept : (known : List ServerFacts) (number : ℕ) (found : Option ServerFacts)
      → map f (copied_by known number found) ≡ map f known
  copied-kept known number None = refl
  copied-kept known number (Some source) = kept-one f known _ _ (λ s. cloned-kept source s.state s refl)

  -- a server that is wiped accepts no writes, before or after
  wiped-kept : (state : State) (s : ServerFacts) → s.state ≡ state
      → f (cond (live state) (record s { log = None }) (wiped s)) ≡ f s
  wiped-kept states.Primary s is = reads (record s { log = None }) s refl refl refl refl
  wiped-kept (states.Stopping true at) s is = reads (record s { log = None }) s refl refl refl refl
  wiped-kept (states.Stopping false at) s is = reads (wiped s) s (sym (ap live is)) (sym (ap writes is)) refl refl
  wiped-kept (states.Starting true at) s is = reads (record s { log = None }) s refl refl refl refl
  wiped-kept (states.Starting false at) s is = reads (wiped s) s (sym (ap live is)) (sym (ap writes is)) refl refl
  wiped-kept _ s is = reads (wiped s) s (sym (ap live is)) (sym (ap writes is)) refl refl

  pub logged-kept : (known : List ServerFacts) (remote : Option ServerFacts) (happening : LogEvent)
      → map f (servers_by_log known remote happening) ≡ map f known
  logged-kept known remote (logs.Received server from count) =
      received-kept known server.id.number count (server_at known remote from.id.number)
  logged-kept known remote (logs.Rewound server from kept at) =
      kept-one f known _ _ (back-kept kept (server_at known remote from.id.number))
  logged-kept known remote (logs.Copied server from) =
      copied-kept known server.id.number (server_at known remote from.id.number)
  logged-kept known remote (logs.Wiped server) = kept-one f known _ _ (λ s. wiped-kept s.state s refl)
  logged-kept known remote _ = kept-one f known _ _ (λ s. reads _ s refl refl refl refl)

-- what only the state and the log determine stays where a required
-- list, what was confirmed, or what waits for acknowledgement changes
module _ {B : Type 0} (f : ServerFacts → B)
    (reads : (s t : ServerFacts) → s.state ≡ t.state → s.log ≡ t.log → f s ≡ f t) where
  pub replicated-kept : (known : List ServerFacts) (happening : ReplicationEvent)
      → map f (servers_by_replication known happening) ≡ map f known
  replicated-kept known (replications.RequiredSet server required names) =
      kept-one f known _ _ (λ s. reads _ s refl refl)
  replicated-kept known (replications.Lacks server) = refl
  replicated-kept known _ = kept-one f known _ _ (λ s. reads _ s refl refl)
