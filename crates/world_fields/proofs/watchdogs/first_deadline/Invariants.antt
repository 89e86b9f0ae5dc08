use Rattle.std.proofs.Common.{◌≡◌, ℕ, ◌≤◌, false, Option}
use Rattle.pat_base.specs.declared.ticks.Ticks.{Ticks}
use Rattle.leader_key.specs.Watchdog.{is_due_at}
use Rattle.world_model.proofs.Idling.{AreSoTo}
use Rattle.world_fields.proofs.watchdogs.first_deadline.Given as goal

-- before the first moment so far, none of the deadlines so far has come
abbrev pub invariant-loop-deadline : goal.invariant-loop-deadline
invariant-loop-deadline l = (l.first.0 ≤ l.fn.most.0)
    × AreSoTo (λ (now : ℕ) (deadline : Option Ticks). is_due_at now deadline ≡ false) l.first.0 l.deadlines
    l.deadline-index
