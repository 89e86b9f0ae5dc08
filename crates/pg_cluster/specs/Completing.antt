-- When starts and stops of servers are complete.
use Rattle.std.specs.Prelude.{ℕ, ◌≡◌, nat_le, nat_lt, if◌then◌else◌, Bool, false, List, [], ◌∷◌, All}
use Rattle.pat_base.specs.declared.server_state.State.{State}
use Rattle.pat_base.specs.declared.server_state.State.TheVariants as states
use Rattle.pg_model.specs.Facts.{ServerFacts}

-- the moment of the start or the stop of a server in this state has come
abbrev pub is_complete_at : ℕ → State → Bool
is_complete_at now (states.Starting as_primary at) = nat_le at.0 now
is_complete_at now (states.Stopping was_primary at) = nat_le at.0 now
is_complete_at now _ = false

-- no start or stop of these servers is complete yet at this moment
abbrev pub NoneComplete : ℕ → List ServerFacts → Type 0
NoneComplete now servers = All (λ s. is_complete_at now s.state ≡ false) servers

-- a moment, or that at which a server in this state has started or stopped where that comes sooner
abbrev pub sooner_completion : ℕ → State → ℕ
sooner_completion most (states.Starting as_primary at) = if nat_lt at.0 most then at.0 else most
sooner_completion most (states.Stopping was_primary at) = if nat_lt at.0 most then at.0 else most
sooner_completion most _ = most

-- a moment, or the first at which one of these servers has started or stopped where that comes sooner
abbrev pub first_completion : ℕ → List ServerFacts → ℕ
first_completion most [] = most
first_completion most (s ∷ more) = first_completion (sooner_completion most s.state) more
