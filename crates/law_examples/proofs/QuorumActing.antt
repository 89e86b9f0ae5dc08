-- Who may act at each moment of that run.
use Rattle.std.proofs.Common.{◌≡◌, ◌⊎◌, ℕ, ◌==◌, Bool, true, false, cond, Option, Some, None, refl, sym, subst, inl, inr}
use Rattle.event_book.specs.Functions.{put_at}
use Rattle.commit_actions.specs.States.{Machine, State, Acts, Reaches, is_ready}
use Rattle.lease_model.proofs.Tools.{some-is, both, eq-from, put-all}
use Rattle.commit_actions.proofs.Tools.{or-cases}
use Rattle.law_examples.proofs.QuorumStates.{heard, race, s0, s1, s10, s11, s12, s13, s14, s15, s16, s17, s18, s19, s2, s20, s21, s22, s23, s24, s25, s26, s27, s28, s29, s3, s30, s4, s5, s6, s7, s8, s9, two}

-- only member 0 acts, and then nobody
abbrev Only : (ℕ → Machine) → Type 0
Only members = (n : ℕ) → Acts (members n) → n ≡ 0

only-zero : (members : ℕ → Machine) (y : Machine) → Only members → Only (put_at members 0 y)
only-zero members y event_at =
    put-all members 0 y (λ n z. Acts z → n ≡ 0) (λ acts. refl) (λ n other acts. event_at n acts)

only-rest : (members : ℕ → Machine) (k : ℕ) (y : Machine) → (Acts y → ⊥) → Only members → Only (put_at members k y)
only-rest members k y not_live event_at =
    put-all members k y (λ n z. Acts z → n ≡ 0) (λ acts. absurd (not_live acts)) (λ n other acts. event_at n acts)

nobody : (n : ℕ) → Acts (s0.members n) → ⊥
nobody n (inl e) = both e
nobody n (inr e) = both e

only0 : Only s0.members
only0 n acts = absurd (nobody n acts)

pub alone2 : (n : ℕ) → Acts (s2.members n) → n ≡ 0
alone2 =
    put-all s0.members 0 (s2.members 0) (λ n z. Acts z → n ≡ 0) (λ acts. refl) (λ n other acts. absurd (nobody n acts))

only1 : Only s1.members
only1 = only-zero s0.members (s1.members 0) only0

only2 : Only s2.members
only2 = only1

only3 : Only s3.members
only3 = only-zero s2.members (s3.members 0) only2

only4 : Only s4.members
only4 = only3

only5 : Only s5.members
only5 = only-zero s4.members (s5.members 0) only4

only6 : Only s6.members
only6 = only-zero s5.members (s6.members 0) only5

only7 : Only s7.members
only7 = only-zero s6.members (s7.members 0) only6

only8 : Only s8.members
only8 = only-zero s7.members (s8.members 0) only7

only9 : Only s9.members
only9 = only-zero s8.members (s9.members 0) only8

only10 : Only s10.members
only10 = only9

only11 : Only s11.members
only11 = only-zero s10.members (s11.members 0) only10

only12 : Only s12.members
only12 = only11

only13 : Only s13.members
only13 = only-zero s12.members (s13.members 0) only12

only14 : Only s14.members
only14 = only13

only15 : Only s15.members
only15 = only-zero s14.members (s15.members 0) only14

only16 : Only s16.members
only16 = only-zero s15.members (s16.members 0) only15

only17 : Only s17.members
only17 = only16

only18 : Only s18.members
only18 = only-zero s17.members (s18.members 0) only17

only19 : Only s19.members
only19 = only18

only20 : Only s20.members
only20 = only19

only21 : Only s21.members
only21 = only20

only22 : Only s22.members
only22 = only-zero s21.members (s22.members 0) only21

rests23 : Acts (s23.members 1) → ⊥
rests23 (inl e) = both e
rests23 (inr e) = both e

only23 : Only s23.members
only23 = only-rest s22.members 1 (s23.members 1) rests23 only22

only24 : Only s24.members
only24 = only-zero s23.members (s24.members 0) only23

only25 : Only s25.members
only25 = only24

only26 : Only s26.members
only26 = only-zero s25.members (s26.members 0) only25

rests27 : Acts (s27.members 1) → ⊥
rests27 (inl e) = both e
rests27 (inr e) = both e

only27 : Only s27.members
only27 = only-rest s26.members 1 (s27.members 1) rests27 only26

only28 : Only s28.members
only28 = only27

rests29 : Acts (s29.members 1) → ⊥
rests29 (inl e) = both e
rests29 (inr e) = both e

only29 : Only s29.members
only29 = only-rest s28.members 1 (s29.members 1) rests29 only28

only30 : Only s30.members
only30 = only29

dead26 : Acts (s26.members 0) → ⊥
dead26 (inl e) = both e
dead26 (inr e) = both e

pub nobody26 : (n : ℕ) → Acts (s26.members n) → ⊥
nobody26 n acts = dead26 (subst (λ (j : ℕ). Acts (s26.members j)) (only26 n acts) acts)

dead30 : Acts (s30.members 0) → ⊥
dead30 (inl e) = both e
dead30 (inr e) = both e

pub nobody30 : (n : ℕ) → Acts (s30.members n) → ⊥
nobody30 n acts = dead30 (subst (λ (j : ℕ). Acts (s30.members j)) (only30 n acts) acts)

pub unready20 : (n : ℕ) → is_ready (s20.members n).agent ≡ true → ⊥
unready20 n e = both (subst (λ (j : ℕ). is_ready (s20.members j).agent ≡ true) (only20 n (inr e)) e)

pub both-reach : (s : State) (position : ℕ) → Reaches position ((s.members 0).confirmed 1)
    → Reaches position ((s.members 0).confirmed 2) → (n : ℕ) → two n ≡ true
    → Reaches position ((s.members 0).confirmed n)
both-reach s position a b n e = elim (or-cases (n == 1) (n == 2) e) [
  | inl is ↦ subst (λ (j : ℕ). Reaches position ((s.members 0).confirmed j)) (sym (eq-from n 1 is)) a
  | inr is ↦ subst (λ (j : ℕ). Reaches position ((s.members 0).confirmed j)) (sym (eq-from n 2 is)) b
]

heard-at : (b : Bool) (n end : ℕ) → (n == 2) ≡ b → cond b (Some 8) None ≡ Some end
    → (◌≡◌ {A = Option ℕ} None (Some end)) ⊎ ((n ≡ 2) × (end ≡ 8))
heard-at true n end e is = inr (eq-from n 2 e, sym (some-is 8 end is))
heard-at false n end e is = inl is

pub heard-ends : (n end : ℕ) → heard.ends n ≡ Some end → (race.ends n ≡ Some end) ⊎ ((n ≡ 2) × (end ≡ 8))
heard-ends n end is = heard-at (n == 2) n end refl is

pub no-won : false ≡ true → true ≡ true
no-won e = refl
