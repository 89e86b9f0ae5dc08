-- The empty book meets what is carried.
use Rattle.std.proofs.Common.{◌≡◌, ℕ, [], Option, Some, None, refl, ◌∙◌, ap, subst, arith, inl, inr}
use Rattle.lease_model.specs.Leases.{Requested, Answered, FailsafeRequested, Acknowledged}
use Rattle.lease_model.specs.States.{Agent, Declared, Acts, fresh_agent}
use Rattle.lease_model.specs.Past.{past_of, machine_of, first_past, first_volatile_state, state_of}
use Rattle.lease_model.specs.Books.{first_volatile_states}
use Rattle.lease_model.specs.Carried.{IsAgentKept, IsSound, IsCarried}
use Rattle.lease_model.proofs.Tools.{some-is, none-some, both}

rests-at-start : (m : ℕ) → Acts (machine_of first_past first_volatile_state m) → ⊥
rests-at-start m (inl e) = both e
rests-at-start m (inr e) = both e

first : (m : ℕ) (agent : Agent) → ◌≡◌ {A = Option Agent} (Some (fresh_agent 1)) (Some agent)
    → IsAgentKept None None 1 m 1 agent
first m agent e = subst (λ (a : Agent). IsAgentKept None None 1 m 1 a) (some-is (fresh_agent 1) agent e) (record {
  incarnation = omega arith;
  lease = λ r is. absurd (none-some r is);
  seen = λ z is. absurd (none-some z is);
  failsafe = λ f is. absurd (none-some f is);
  informed = λ is. absurd (both is);
})

-- the empty book
pub inv-start : (declared : Declared) → IsSound (state_of declared (past_of []) first_volatile_states)
inv-start declared = record {
  guarded = λ m acts. absurd (rests-at-start m acts);
  sole = λ m n acts. absurd (rests-at-start m acts);
  parted = λ m ready. refl;
  ready_by_grant = λ m ready. refl;
  off = λ e. refl;
  bounded = λ k e. absurd (none-some k e);
  failsafe_bounded = λ f e. absurd (none-some f e);
  asked = λ i q e. absurd (none-some (Requested q) e);
  said = λ i a e. absurd (none-some (Answered a) e);
  failsafe_requests = λ i q e. absurd (none-some (FailsafeRequested q) e);
  yeses = λ i h e. absurd (none-some (Acknowledged h) e);
  taken = λ t e. absurd e;
  kept = first;
  spans = λ m agent e acts. absurd (rests-at-start m acts);
  failsafe_check = λ m agent b e is.
      absurd (none-some b (ap (λ (a : Agent). a.failsafe_check) (some-is (fresh_agent 1) agent e) ∙ is));
  fresh = λ i a g e is waits. absurd (none-some (Answered a) e);
  tokens = λ i a g e is. absurd (none-some (Answered a) e);
}

pub good-start : (declared : Declared) → IsCarried (state_of declared (past_of []) first_volatile_states)
good-start declared = record { sound = inv-start declared; lives = λ k w. absurd (both w) }
