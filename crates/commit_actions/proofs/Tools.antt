-- Small tools.
use Rattle.std.proofs.Common.{◌≡◌, ◌⊎◌, ℕ, ◌||◌, Bool, true, false, Option, Some, None, refl, ◌∙◌, sym, inl, inr}
use Rattle.event_book.specs.Functions.{put_at}
use Rattle.lease_model.proofs.Tools.{some-is, none-some, put-all, dropped}
use Rattle.commit_actions.specs.Functions.{forget}

pub some-none : {A : Type 0} (x : A) → ◌≡◌ {A = Option A} (Some x) None → ⊥
some-none x e = cc

pub forgotten : {A : Type 0} (heard : Option ℕ) (f : ℕ → Option A) (m : ℕ) (x : A) → forget heard f m ≡ Some x
    → f m ≡ Some x
forgotten None f m x e = e
forgotten (Some k) f m x e = dropped f k m x e

gone-at : {A : Type 0} (f : ℕ → Option A) (k : ℕ) (m : ℕ) (x : A) → put_at f k None m ≡ Some x → m ≡ k → ⊥
gone-at f k = put-all f k None (λ m o. (x : _) → o ≡ Some x → m ≡ k → ⊥) (λ x e same. none-some x e)
    (λ m other x e same. other same)

-- the answer that was heard is gone
pub gone : {A : Type 0} (heard : Option ℕ) (f : ℕ → Option A) (k m : ℕ) (x : A) → heard ≡ Some k
    → forget heard f m ≡ Some x → m ≡ k → ⊥
gone None f k m x is e same = none-some k is
gone (Some j) f k m x is e same = gone-at f j m x e (same ∙ sym (some-is j k is))

-- what stands elsewhere than what was put there stood there before
pub stood : {A : Type 0} (f : ℕ → Option A) (k : ℕ) (x y : A) → (◌≡◌ {A = Option A} (Some x) (Some y) → ⊥)
    → (m : ℕ) → put_at f k (Some x) m ≡ Some y → f m ≡ Some y
stood f k x y differs =
    put-all f k (Some x) (λ m o. o ≡ Some y → f m ≡ Some y) (λ e. absurd (differs e)) (λ m other e. e)

pub or-cases : (a b : Bool) → (a || b) ≡ true → (a ≡ true) ⊎ (b ≡ true)
or-cases true b e = inl refl
or-cases false b e = inr e
