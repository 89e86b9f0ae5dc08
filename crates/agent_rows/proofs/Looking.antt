-- A look at a read is of what the agent knows and tells alone.
use Rattle.std.proofs.Common.{◌≡◌, ℕ, Bool, true, false, Option, Some, None, refl, cond}
use Rattle.cluster_view.specs.Snapshots.{SnapshotFacts}
use Rattle.agent_model.specs.declared.operating.Operating.{Operating}
use Rattle.agent_model.specs.declared.operating.Told.{Told}
use Rattle.agent_model.specs.Agents.{Outcome}
use Rattle.agent_model.specs.Operators.{answering_if, looked, looked_by, result_as, uses_read}

answered-machine : (request : ℕ) (told : Option Told) (o : Outcome)
    → (answering_if request told o).machine ≡ o.machine
answered-machine request None o = refl
answered-machine request (Some told) o = refl

waiting-machine : (found : Option Operating) (snapshot : SnapshotFacts) (o : Outcome)
    → (looked_by found snapshot o).machine ≡ o.machine
waiting-machine None snapshot o = refl
waiting-machine (Some waiting) snapshot o =
    answered-machine waiting.request (result_as waiting.operation waiting.leader snapshot) o

either-machine : (uses : Bool) (o other : Outcome) → other.machine ≡ o.machine
    → (cond uses other o).machine ≡ o.machine
either-machine true o other same = same
either-machine false o other same = refl

-- the machine is as it was
pub looked-machine : (sequence : ℕ) (snapshot : SnapshotFacts) (o : Outcome)
    → (looked sequence snapshot o).machine ≡ o.machine
looked-machine sequence snapshot o =
    either-machine (uses_read sequence o) o (looked_by o.knows.operating snapshot o)
    (waiting-machine o.knows.operating snapshot o)
