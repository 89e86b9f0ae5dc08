-- Actions that change machines alone.
use Rattle.std.specs.Prelude.{ℕ}
use Rattle.event_book.specs.Functions.{put_at}
use Rattle.lease_model.specs.Actions.{Action, Start, Kill, Crash}
use Rattle.lease_model.specs.States.{Machine, start_machine, kill_machine, crash_machine}

-- the machines after such an action
abbrev pub machines_by_action : Action → (ℕ → Machine) → ℕ → Machine
machines_by_action (Start k) machines = put_at machines k (start_machine (machines k))
machines_by_action (Kill k) machines = put_at machines k (kill_machine (machines k))
machines_by_action (Crash k) machines = put_at machines k (crash_machine (machines k))
machines_by_action _ machines = machines
