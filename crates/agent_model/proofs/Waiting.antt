-- From when on there is something to do for an agent.
use Rattle.std.proofs.Common.{◌≡◌, ◌&&◌, ◌||◌, nat_le, is_none, Bool, true, false, cond, Option, Some, None, arith, refl, ap, ◌∙◌}
use Rattle.std.proofs.Math.Bool.{or-false}
use Rattle.std.proofs.lemmas.Bool.Decides.{nat_tests}
use Rattle.pat_base.specs.declared.server_state.State.{State}
use Rattle.pat_base.specs.declared.ticks.Ticks.{Ticks}
use Rattle.agent_model.specs.declared.knowledge.Knowledge.{Knowledge}
use Rattle.agent_model.specs.declared.knowledge.PendingQuestion.{PendingQuestion}
use Rattle.agent_model.specs.declared.machine.Machine.{Machine}
use Rattle.agent_model.specs.Agents.{RoleFacts}
use Rattle.agent_model.specs.Wake.{due_from, finds_ended, is_due, is_overdue, waits_until}

from-start : (now : Ticks) → true ≡ nat_le 0 now.0
from-start now = grind (arith, nat_tests)

due-if : (ended : Bool) (waited : Option PendingQuestion) (next now : Ticks)
    → (ended || (is_overdue now waited || (is_none waited && nat_le next.0 now.0)))
    ≡ nat_le (cond ended (record { 0 = 0 }) (waits_until waited next)).0 now.0
due-if true waited next now = from-start now
due-if false None next now = refl
due-if false (Some waited) next now = or-false (nat_le waited.until.0 now.0)

-- it has something to do exactly from then on
pub due-at : (role : RoleFacts) (knows : Knowledge) (state : State) (now : Ticks) (machine : Machine)
    → machine.server.state ≡ state → is_due now role knows machine ≡ nat_le (due_from role knows state).0 now.0
due-at role knows state now machine is =
    due-if (finds_ended role machine.server.state) knows.waited knows.next_turn now
    ∙ ap (λ (s : State). nat_le (due_from role knows s).0 now.0) is
