-- What others see of a server after a change, and where it stands.
use Rattle.std.proofs.Common.{◌≡◌, ◌==◌, drop, Bool, true, false, cond, [], ◌∷◌, Option, Some, None, refl, sym, ap, ◌∙◌, append-nil}
use Rattle.std.specs.Prelude.{nat_le}
use Rattle.pat_base.specs.declared.ticks.Ticks.{Ticks}
use Rattle.pat_base.specs.declared.server_id.ServerId.{ServerId}
use Rattle.pat_base.specs.declared.server_state.State.{State}
use Rattle.pat_base.specs.declared.server_state.State.TheVariants as states
use Rattle.pat_base.specs.ServerState.{live}
use Rattle.wal_model.specs.declared.entry.Entry.{Entry}
use Rattle.pg_model.specs.Facts.{ServerFacts}
use Rattle.pg_model.specs.Running.{moment_after, started, stopped, starting, replica_started, primary_started, is_primary, stopping, restarted, restarted_in, completed, ticked, ticked_unless_live}
use Rattle.pg_model.specs.Replication.{may_acknowledge, acknowledged}
use Rattle.pg_cluster.specs.Servers.{without_spare, after_entry}
use Rattle.pg_model.specs.CatchingUp.{LogPosition, log_position_of, upstream_number_of, IsBehind}

without_spare-cond : (b : Bool) (x y : ServerFacts)
    → without_spare (cond b x y) ≡ cond b (without_spare x) (without_spare y)
without_spare-cond true x y = refl
without_spare-cond false x y = refl

log_position-cond : (b : Bool) (x y : ServerFacts) (s : LogPosition) → log_position_of x ≡ s
    → log_position_of y ≡ s → log_position_of (cond b x y) ≡ s
log_position-cond true x y s p q = p
log_position-cond false x y s p q = q

pub without_spare-acknowledged : (s : ServerFacts) → without_spare (acknowledged s) ≡ acknowledged (without_spare s)
without_spare-acknowledged s = without_spare-cond (may_acknowledge s) (record s { waiting = drop 1 s.waiting }) s

pub log_position-acknowledged : (s : ServerFacts) → log_position_of (acknowledged s) ≡ log_position_of s
log_position-acknowledged s =
    log_position-cond (may_acknowledge s) (record s { waiting = drop 1 s.waiting }) s _ refl refl

without_spare-starting : (now : Ticks) (s : ServerFacts)
    → without_spare (starting false now s) ≡ starting false now (without_spare s)
without_spare-starting now s = without_spare-cond (s.start_delay.0 == 0) (started false s)
    (record s { state = states.Starting false (moment_after now s.start_delay) })

pub without_spare-replica_started : (now : Ticks) (upstream : Option ServerId) (s : ServerFacts)
    → without_spare (replica_started now upstream s) ≡ replica_started now upstream (without_spare s)
without_spare-replica_started now upstream s =
    without_spare-starting now (record s { upstream = upstream; was_primary = false })

pub log_position-replica_started : (now : Ticks) (upstream : Option ServerId) (s : ServerFacts)
    → log_position_of (replica_started now upstream s) ≡ record {
      log = (log_position_of s).log;
      timeline = s.timeline;
      history = s.history;
      upstream = upstream_number_of upstream;
    }
log_position-replica_started now upstream s =
    let restarted : ServerFacts = record s { upstream = upstream; was_primary = false } in
    log_position-cond (s.start_delay.0 == 0) (started false restarted)
    (record restarted { state = states.Starting false (moment_after now s.start_delay) }) _ refl refl

without_spare-started : (as_primary : Bool) (s : ServerFacts)
    → without_spare (started as_primary s) ≡ started as_primary (without_spare s)
without_spare-started true s = refl
without_spare-started false s = refl

log_position-started : (as_primary : Bool) (s : ServerFacts)
    → log_position_of (started as_primary s) ≡ log_position_of s
log_position-started true s = refl
log_position-started false s = refl

without_spare-completed : (now : Ticks) (state : State) (s : ServerFacts)
    → without_spare (completed now state s) ≡ completed now state (without_spare s)
without_spare-completed now (states.Starting as_primary at) s =
    without_spare-cond (nat_le at.0 now.0) (started as_primary s) s
    ∙ ap (λ (t : ServerFacts). cond (nat_le at.0 now.0) t (without_spare s)) (without_spare-started as_primary s)
without_spare-completed now (states.Stopping was_primary at) s = without_spare-cond (nat_le at.0 now.0) (stopped s) s
without_spare-completed now _ s = refl

log_position-completed : (now : Ticks) (state : State) (s : ServerFacts)
    → log_position_of (completed now state s) ≡ log_position_of s
log_position-completed now (states.Starting as_primary at) s =
    log_position-cond (nat_le at.0 now.0) (started as_primary s) s _ (log_position-started as_primary s) refl
log_position-completed now (states.Stopping was_primary at) s =
    log_position-cond (nat_le at.0 now.0) (stopped s) s _ refl refl
log_position-completed now _ s = refl

pub without_spare-ticked : (now : Ticks) (s : ServerFacts) → without_spare (ticked now s) ≡ ticked now (without_spare s)
without_spare-ticked now s = without_spare-completed now s.state s

pub log_position-ticked : (now : Ticks) (s : ServerFacts) → log_position_of (ticked now s) ≡ log_position_of s
log_position-ticked now s = log_position-completed now s.state s

pub without_spare-primary_started : (now : Ticks) (s : ServerFacts)
    → without_spare (primary_started now s) ≡ primary_started now (without_spare s)
without_spare-primary_started now s = without_spare-cond (s.start_delay.0 == 0) (started true s)
    (record s { state = states.Starting true (moment_after now s.start_delay) })

pub log_position-primary_started : (now : Ticks) (s : ServerFacts)
    → log_position_of (primary_started now s) ≡ log_position_of s
log_position-primary_started now s = log_position-cond (s.start_delay.0 == 0) (started true s)
    (record s { state = states.Starting true (moment_after now s.start_delay) }) _ refl refl

pub without_spare-stopping : (now : Ticks) (s : ServerFacts)
    → without_spare (stopping now s) ≡ stopping now (without_spare s)
without_spare-stopping now s = without_spare-cond (s.stop_delay.0 == 0) (stopped s)
    (record s { state = states.Stopping (is_primary s.state) (moment_after now s.stop_delay) })

pub log_position-stopping : (now : Ticks) (s : ServerFacts) → log_position_of (stopping now s) ≡ log_position_of s
log_position-stopping now s = log_position-cond (s.stop_delay.0 == 0) (stopped s)
    (record s { state = states.Stopping (is_primary s.state) (moment_after now s.stop_delay) }) _ refl refl

without_spare-restarted_in : (state : State) (now : Ticks) (s : ServerFacts)
    → without_spare (restarted_in state now s) ≡ restarted_in state now (without_spare s)
without_spare-restarted_in states.Primary now s = without_spare-primary_started now (stopped s)
without_spare-restarted_in _ now s = without_spare-replica_started now s.upstream s

pub without_spare-restarted : (now : Ticks) (s : ServerFacts)
    → without_spare (restarted now s) ≡ restarted now (without_spare s)
without_spare-restarted now s = without_spare-restarted_in s.state now s

log_position-restarted_in : (state : State) (now : Ticks) (s : ServerFacts)
    → log_position_of (restarted_in state now s) ≡ log_position_of s
log_position-restarted_in states.Primary now s = log_position-primary_started now (stopped s)
log_position-restarted_in _ now s = log_position-replica_started now s.upstream s

pub log_position-restarted : (now : Ticks) (s : ServerFacts) → log_position_of (restarted now s) ≡ log_position_of s
log_position-restarted now s = log_position-restarted_in s.state now s

pub without_spare-ticked_unless_live : (now : Ticks) (s : ServerFacts)
    → without_spare (ticked_unless_live now s) ≡ ticked_unless_live now (without_spare s)
without_spare-ticked_unless_live now s = without_spare-cond (live s.state) s (ticked now s)
    ∙ ap (cond (live s.state) (without_spare s)) (without_spare-completed now s.state s)

pub log_position-ticked_unless_live : (now : Ticks) (s : ServerFacts)
    → log_position_of (ticked_unless_live now s) ≡ log_position_of s
log_position-ticked_unless_live now s =
    log_position-cond (live s.state) s (ticked now s) _ refl (log_position-completed now s.state s)

pub same-behind : (s : LogPosition) → IsBehind s s
same-behind s = record { log = record { rest = []; whole = sym (append-nil s.log) }; timeline = refl; history = refl }

-- a log that grew by an entry
pub behind-after_entry : (entry : Option Entry) (s : ServerFacts)
    → IsBehind (log_position_of s) (log_position_of (after_entry entry s))
behind-after_entry None s = same-behind (log_position_of s)
behind-after_entry (Some entry) s =
    record { log = record { rest = entry ∷ []; whole = refl }; timeline = refl; history = refl }
