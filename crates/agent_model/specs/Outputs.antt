-- Lists of outputs.
use Rattle.std.specs.Prelude.{ℕ, ◌≡◌, ◌++◌, ◌||◌, Bool, true, false, List, [], ◌∷◌}
use Rattle.agent_model.specs.declared.output.Output.{Output}
use Rattle.agent_model.specs.declared.output.Output.TheVariants as outputs
use Rattle.agent_model.specs.declared.output.Feeding.TheVariants as feedings
use Rattle.agent_model.specs.declared.output.ServerOrder.TheVariants as orders

-- so many outputs an input brings at most, messages among them
abbrev pub most_outputs : ℕ
most_outputs = 40

-- one more stands behind the others
abbrev pub with_output : Output → List Output → List Output
with_output output outputs = outputs ++ output ∷ []

-- the watchdog gets its first deadline
abbrev pub is_arming : Output → Bool
is_arming (outputs.Watchdog (feedings.Armed until)) = true
is_arming _ = false

-- the watchdog gets a deadline
abbrev pub is_feeding : Output → Bool
is_feeding (outputs.Watchdog (feedings.Armed until)) = true
is_feeding (outputs.Watchdog (feedings.Fed until)) = true
is_feeding (outputs.Watchdog (feedings.FedByFailsafe until members sequence since)) = true
is_feeding _ = false

-- one of these passes the test
abbrev pub has_one : (Output → Bool) → List Output → Bool
has_one test [] = false
has_one test (output ∷ later) = test output || has_one test later

-- P holds, where the server comes to accept writes by this output, or
-- will when its start is complete; so does a primary that starts again
abbrev pub BeginsOnly : Type 0 → Output → Type 0
BeginsOnly P (outputs.Server orders.Begin) = P
BeginsOnly P (outputs.Server (orders.Restart as_primary)) = as_primary ≡ true → P
BeginsOnly P _ = Unit {0}

-- P holds of the outputs before each one by which the server comes to
-- accept writes; the first list stands before the second
abbrev pub OutputsBeginBehind : (List Output → Type 0) → List Output → List Output → Type 0
OutputsBeginBehind P before [] = Unit {0}
OutputsBeginBehind P before (output ∷ later) =
    BeginsOnly (P before) output × OutputsBeginBehind P (with_output output before) later
