-- What the law sees of an agent that starts.
use Rattle.std.proofs.Common.{ℕ, ◌≡◌, ◌==◌, Bool, true, false, None, ap}
use Rattle.std.specs.Option.{ForSome}
use Rattle.std.proofs.Math.Path.{fun_ext}
use Rattle.std.proofs.lemmas.Nat.Bits.{bit_at-zero}
use Rattle.std.specs.Int.{bit_at}
use Rattle.agent_model.specs.declared.who.Who.{Who}
use Rattle.cluster_view.specs.Snapshots.{SnapshotFacts}
use Rattle.agent_sending.specs.Modes.{KeepsMode, TellsMode}
use Rattle.cluster_model.specs.Inputs.{starting_agent}
use Rattle.lease_model.specs.States.{Agent, fresh_agent}
use Rattle.lease_model.proofs.Tools.{none-some}
use Rattle.lease_parts.specs.AgentSeen.{agent_seen}

-- of failsafe mode it takes nothing to be on
pub fresh-keeps : (mode : Bool) (who : Who) (now incarnation : ℕ)
    → KeepsMode mode (starting_agent who now incarnation).knows
fresh-keeps mode who now incarnation =
    record { settings = λ e. absurd (not-so e); confirmed = λ e. absurd (not-so e); races = λ e. absurd (not-so e) }
  where
    not-so : false ≡ true → ⊥
    not-so e = cc

-- and it has no snapshot
pub fresh-sees : (mode : Bool) → ForSome {T = SnapshotFacts} None (TellsMode mode)
fresh-sees mode snapshot e = absurd (none-some snapshot e)

-- it knows nothing
pub fresh-seen : (who : Who) (now incarnation : ℕ)
    → agent_seen (starting_agent who now incarnation) ≡ fresh_agent incarnation
fresh-seen who now incarnation =
    let none : ◌≡◌ {A = ℕ → Bool} (λ p. bit_at 0 p == 1) (λ p. false) =
    fun_ext (λ p. ap (λ b. b == 1) (bit_at-zero p)) in
    ap (λ (known : ℕ → Bool). let agent : Agent = record (fresh_agent incarnation) { known = known } in agent) none
