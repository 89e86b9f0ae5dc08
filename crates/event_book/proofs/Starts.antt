-- What becomes of a server that starts as a replica.
use Rattle.std.proofs.Common.{ℕ, ◌≡◌, true, false, None, refl}
use Rattle.pat_base.specs.declared.server_state.State.{State}
use Rattle.pat_base.specs.declared.server_state.State.TheVariants as states
use Rattle.pat_base.specs.declared.ticks.Ticks.{Ticks}
use Rattle.pg_model.specs.Facts.{ServerFacts, is_down}
use Rattle.pg_model.specs.Running.{replica_started}
use Rattle.event_book.specs.Servers.{replica_starts_in, starts_as_replica}

no : false ≡ true → ⊥
no e = cc

-- one that is down starts as a replica of none
down-in : (now : Ticks) (state : State) (s : ServerFacts) → is_down state ≡ true
    → replica_starts_in state now s ≡ replica_started now None s
down-in now states.Stopped s e = refl
down-in now states.Crashed s e = refl
down-in now states.Creating s e = absurd (no e)
down-in now (states.Starting as_primary at) s e = absurd (no e)
down-in now states.Replica s e = absurd (no e)
down-in now states.Primary s e = absurd (no e)
down-in now (states.Stopping was_primary at) s e = absurd (no e)

pub down-starts : (now : ℕ) (s : ServerFacts) → is_down s.state ≡ true
    → starts_as_replica now s ≡ replica_started (record { 0 = now }) None s
down-starts now s e = down-in (record { 0 = now }) s.state s e
