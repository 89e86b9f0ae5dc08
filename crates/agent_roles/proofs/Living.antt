-- No order but a promotion and a start as a primary makes a server live.
use Rattle.std.proofs.Common.{◌≡◌, ◌==◌, true, false, Option, Some, None, refl}
use Rattle.pat_base.specs.declared.server_id.ServerId.{ServerId}
use Rattle.pat_base.specs.declared.server_state.State.{State}
use Rattle.pat_base.specs.declared.server_state.State.TheVariants as states
use Rattle.pat_base.specs.declared.ticks.Ticks.{Ticks}
use Rattle.pat_base.specs.ServerState.{live}
use Rattle.pg_model.specs.declared.status.ServerStatus.{ServerStatus}
use Rattle.pg_model.specs.Facts.{is_up, is_down, is_replica}
use Rattle.pg_model.specs.Running.{is_primary, moment_after}
use Rattle.pg_model.specs.Status.{status_stopping, status_ending, status_starting, status_started, status_replica_started, status_following, status_restarted_in, status_restarted, status_wiped}
use Rattle.agent_cases.proofs.Rows.{if-cases}

pub no-way : false ≡ true → ⊥
no-way e = cc

pub primary-live : (state : State) → is_primary state ≡ true → live state ≡ true
primary-live states.Primary e = e
primary-live states.Creating e = e
primary-live states.Stopped e = e
primary-live states.Replica e = e
primary-live states.Crashed e = e
primary-live (states.Starting as_primary at) e = absurd (no-way e)
primary-live (states.Stopping was_primary at) e = absurd (no-way e)

abbrev LiveBefore : ServerStatus → ServerStatus → Type 0
LiveBefore s after = live after.state ≡ true → live s.state ≡ true

pub stop-live : (now : Ticks) (s : ServerStatus) → LiveBefore s (status_stopping now s)
stop-live now s = if-cases (LiveBefore s) (is_up s.state) (status_ending now s) s
    (λ _. if-cases (LiveBefore s) (s.stop_delay.0 == 0) (record s { state = states.Stopped }) (record s {
      state = states.Stopping (is_primary s.state) (moment_after now s.stop_delay);
    })
    (λ _ e. absurd (no-way e)) (λ _ e. primary-live s.state e))
    (λ _ e. e)

pub start-live : (now : Ticks) (upstream : Option ServerId) (s : ServerStatus)
    → LiveBefore s (status_replica_started now upstream s)
start-live now upstream s = if-cases (LiveBefore s) (is_down s.state)
    (status_starting false now (record s { upstream = upstream; was_primary = false })) s
    (λ _. if-cases (LiveBefore s) (s.start_delay.0 == 0)
    (status_started false (record s { upstream = upstream; was_primary = false })) (record s {
      upstream = upstream;
      was_primary = false;
      state = states.Starting false (moment_after now s.start_delay);
    })
    (λ _ e. absurd (no-way e)) (λ _ e. absurd (no-way e)))
    (λ _ e. e)

pub follow-live : (upstream : ServerId) (s : ServerStatus) → LiveBefore s (status_following upstream s)
follow-live upstream s = if-cases (LiveBefore s) (is_replica s.state)
    (record s { upstream = Some upstream; diverged = false }) s (λ _ e. e) (λ _ e. e)

restart-live-in : (state : State) (now : Ticks) (s : ServerStatus) → s.state ≡ state
    → LiveBefore s (status_restarted_in state now s)
restart-live-in states.Primary now s is = λ _. rw is refl
restart-live-in states.Replica now s is =
    if-cases (LiveBefore s) (s.start_delay.0 == 0) (status_started false (record s { was_primary = false }))
    (record s { was_primary = false; state = states.Starting false (moment_after now s.start_delay) })
    (λ _ e. absurd (no-way e)) (λ _ e. absurd (no-way e))
restart-live-in states.Creating now s is = λ e. e
restart-live-in states.Stopped now s is = λ e. e
restart-live-in states.Crashed now s is = λ e. e
restart-live-in (states.Starting as_primary at) now s is = λ e. e
restart-live-in (states.Stopping was_primary at) now s is = λ e. e

pub restart-live : (now : Ticks) (s : ServerStatus) → LiveBefore s (status_restarted now s)
restart-live now s = restart-live-in s.state now s refl

pub wipe-live : (s : ServerStatus) → LiveBefore s (status_wiped s)
wipe-live s = if-cases (LiveBefore s) (live s.state) s
    (record s { state = states.Creating; end = None; diverged = false }) (λ _ e. e) (λ _ e. absurd (no-way e))
