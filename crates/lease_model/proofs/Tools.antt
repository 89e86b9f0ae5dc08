-- Small tools.
use Rattle.std.proofs.Common.{◌≡◌, ℕ, ◌≤◌, ◌<◌, ◌==◌, ◌&&◌, nat_le, Bool, true, false, cond, Option, Some, None, refl, ◌∙◌, sym, subst, arith}
use Rattle.std.proofs.lemmas.Bool.Decides.{nat_tests}
use Rattle.event_book.specs.Functions.{put_at}
use Rattle.lease_model.specs.Leases.{Question, Answer, FailsafeRequest, Acknowledgement, Flying, Requested, Answered, FailsafeRequested, Acknowledged}

pub some-is : {A : Type 0} (x y : A) → ◌≡◌ {A = Option A} (Some x) (Some y) → x ≡ y
some-is x y e = cc

pub none-some : {A : Type 0} (x : A) → ◌≡◌ {A = Option A} None (Some x) → ⊥
none-some x e = cc

pub both : false ≡ true → ⊥
both e = cc

pub not-false : (b : Bool) → b ≡ false → b ≡ true → ⊥
not-false b e f = both (sym e ∙ f)

pub and-first : (a b : Bool) → (a && b) ≡ true → a ≡ true
and-first true b e = refl
and-first false b e = e

pub eq-from : (m k : ℕ) → (m == k) ≡ true → m ≡ k
eq-from m k e = grind (arith, nat_tests)

pub ne-from : (m k : ℕ) → (m == k) ≡ false → m ≡ k → ⊥
ne-from m k e = grind (arith, nat_tests)

pub le-from : (m n : ℕ) → nat_le m n ≡ true → m ≤ n
le-from m n e = grind (arith, nat_tests)

pub gt-from : (m n : ℕ) → nat_le m n ≡ false → n < m
gt-from m n e = grind (arith, nat_tests)

put-all-at : {A : Type 0} (b : Bool) (f : ℕ → A) (k : ℕ) (x : A) (P : ℕ → A → Type 0) → P k x
    → ((m : ℕ) → (m ≡ k → ⊥) → P m (f m)) → (m : ℕ) → (m == k) ≡ b → P m (cond b x (f m))
put-all-at true f k x P here there m e = subst (λ (n : ℕ). P n x) (sym (eq-from m k e)) here
put-all-at false f k x P here there m e = there m (ne-from m k e)

-- what holds of the new value, and of each other one, holds of all
pub put-all : {A : Type 0} (f : ℕ → A) (k : ℕ) (x : A) (P : ℕ → A → Type 0) → P k x
    → ((m : ℕ) → (m ≡ k → ⊥) → P m (f m)) → (m : ℕ) → P m (put_at f k x m)
put-all f k x P here there m = put-all-at (m == k) f k x P here there m refl

pub put-here : {A : Type 0} (f : ℕ → A) (k : ℕ) (x : A) → put_at f k x k ≡ x
put-here f k x = put-all f k x (λ n z. n ≡ k → z ≡ x) (λ same. refl) (λ n other same. absurd (other same)) k refl

pub put-there : {A : Type 0} (f : ℕ → A) (k : ℕ) (x : A) (n : ℕ) → (n ≡ k → ⊥) → put_at f k x n ≡ f n
put-there f k x n other = put-all f k x (λ m z. (m ≡ k → ⊥) → z ≡ f m) (λ no. absurd (no refl)) (λ m o no. refl) n other

-- what is still there was there
pub dropped : {A : Type 0} (f : ℕ → Option A) (k : ℕ) (m : ℕ) (x : A) → put_at f k None m ≡ Some x → f m ≡ Some x
dropped f k =
    put-all f k None (λ m o. (x : _) → o ≡ Some x → f m ≡ Some x) (λ x e. absurd (none-some x e)) (λ m other x e. e)

-- messages of one kind are none of another
pub answered-requested : (a : Answer) (q : Question)
    → ◌≡◌ {A = Option Flying} (Some (Answered a)) (Some (Requested q)) → ⊥
answered-requested a q e = cc

pub answered-failsafe_requested : (a : Answer) (q : FailsafeRequest)
    → ◌≡◌ {A = Option Flying} (Some (Answered a)) (Some (FailsafeRequested q)) → ⊥
answered-failsafe_requested a q e = cc

pub answered-acknowledged : (a : Answer) (q : Acknowledgement)
    → ◌≡◌ {A = Option Flying} (Some (Answered a)) (Some (Acknowledged q)) → ⊥
answered-acknowledged a q e = cc

pub answered-is : (a b : Answer) → ◌≡◌ {A = Option Flying} (Some (Answered a)) (Some (Answered b)) → a ≡ b
answered-is a b e = cc
