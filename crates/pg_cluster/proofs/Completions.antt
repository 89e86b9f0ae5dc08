-- Before the first completion no start or stop is complete.
use Rattle.std.proofs.Common.{◌≡◌, ℕ, ◌≤◌, ◌<◌, true, false, inl, inr, List, [], ◌∷◌, map, arith, refl, ap, sym, subst, ◌∙◌}
use Rattle.std.proofs.lemmas.Bool.{cases_lt}
use Rattle.std.proofs.lemmas.List.Elements.{All-nil, All-cons, All-head, All-tail}
use Rattle.std.proofs.lemmas.Bool.Decides.{nat_tests}
use Rattle.pat_base.specs.declared.server_state.State.{State}
use Rattle.pat_base.specs.declared.server_state.State.TheVariants as states
use Rattle.pg_cluster.specs.Completing.{NoneComplete, first_completion, is_complete_at, sooner_completion}
use Rattle.pg_model.specs.Facts.{ServerFacts}
use Rattle.pg_cluster.specs.Servers.{without_spare}

sooner-most : (most : ℕ) (state : State) → sooner_completion most state ≤ most
sooner-most most (states.Starting as_primary at) = grind (arith, nat_tests)
sooner-most most (states.Stopping was_primary at) = grind (arith, nat_tests)
sooner-most most _ = omega arith

pub first-most : (most : ℕ) (servers : List ServerFacts) → first_completion most servers ≤ most
first-most most [] = omega arith
first-most most (s ∷ servers) =
    omega (arith, first-most (sooner_completion most s.state) servers, sooner-most most s.state)

incomplete : (most now : ℕ) (state : State) → now < sooner_completion most state → is_complete_at now state ≡ false
incomplete most now (states.Starting as_primary at) h = grind (arith, nat_tests)
incomplete most now (states.Stopping was_primary at) h = grind (arith, nat_tests)
incomplete most now _ h = refl

pub first-before : (most : ℕ) (servers : List ServerFacts) (now : ℕ) → now < first_completion most servers
    → NoneComplete now servers
first-before most [] now h = All-nil (λ (one : ServerFacts). is_complete_at now one.state ≡ false)
first-before most (s ∷ servers) now h =
    let soon = sooner_completion most s.state in
    let below : now < soon = omega (arith, h, first-most soon servers) in
    All-cons (λ (one : ServerFacts). is_complete_at now one.state ≡ false) s servers
    (incomplete most now s.state below) (first-before soon servers now h)

complete : (most : ℕ) (state : State) → sooner_completion most state < most
    → is_complete_at (sooner_completion most state) state ≡ true
complete most (states.Starting as_primary at) h = grind (arith, nat_tests)
complete most (states.Stopping was_primary at) h = grind (arith, nat_tests)
complete most _ h = absurd (omega (arith, h))

complete-here : (most at : ℕ) (state : State) → at ≡ sooner_completion most state → at < most
    → is_complete_at at state ≡ false → ⊥
complete-here most at state is h none =
    let soon : sooner_completion most state < most = omega (arith, h, is) in
    no-way (sym (complete most state soon) ∙ ap (λ (n : ℕ). is_complete_at n state) (sym is) ∙ none)
  where
    no-way : true ≡ false → ⊥
    no-way e = cc

pub first-least : (most : ℕ) (servers : List ServerFacts) → first_completion most servers < most
    → NoneComplete (first_completion most servers) servers → ⊥
first-least most [] h none = absurd (omega (arith, h))
first-least most (s ∷ servers) h none =
    let soon = sooner_completion most s.state in
    let at = first_completion soon servers in
    let here = All-head (λ (one : ServerFacts). is_complete_at at one.state ≡ false) s servers none in
    elim (cases_lt at soon) [
      | inl earlier ↦ first-least soon servers earlier
          (All-tail (λ (one : ServerFacts). is_complete_at at one.state ≡ false) s servers none)
      | inr later ↦ complete-here most at s.state (omega (arith, later, first-most soon servers)) h here
    ]

-- so it is without the room of histories
pub first-seen : (most : ℕ) (servers : List ServerFacts)
    → first_completion most (map without_spare servers) ≡ first_completion most servers
first-seen most [] = refl
first-seen most (s ∷ servers) = first-seen (sooner_completion most s.state) servers

-- a moment that is the first completion, or the most
pub record IsNext (most at : ℕ) (servers : List ServerFacts) : Type 0 where
  pub within : at ≤ most
  pub before : (now : ℕ) → now < at → NoneComplete now servers
  pub least : at < most → NoneComplete at servers → ⊥

pub next-is : (most at : ℕ) (servers : List ServerFacts) → at ≡ first_completion most servers → IsNext most at servers
next-is most at servers is = subst (λ (n : ℕ). IsNext most n servers) (sym is)
    (record { within = first-most most servers; before = first-before most servers; least = first-least most servers })
