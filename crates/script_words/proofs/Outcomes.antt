-- Answers that may be missing or a fault.
use Rattle.std.proofs.Common.{◌≡◌, Bool, true, false, cond, Option, Some, None, Result, Ok, Err, refl, subst}
use Rattle.std.specs.Option.{ok_or, option_and_then}
use Rattle.script_words.specs.Faults.{on_ok, both}
use Rattle.script_words.specs.declared.fault.Fault.{Fault}

pub some_is : {A : Type 0} (x y : A) → ◌≡◌ {A = Option A} (Some x) (Some y) → x ≡ y
some_is x y e = cc

pub none_is : {A : Type 0} (x : A) → ◌≡◌ {A = Option A} None (Some x) → ⊥
none_is x e = cc

pub ok_is : {A E : Type 0} (x y : A) → ◌≡◌ {A = Result A E} (Ok x) (Ok y) → x ≡ y
ok_is x y e = cc

pub err_is : {A E : Type 0} (f : E) (x : A) → ◌≡◌ {A = Result A E} (Err f) (Ok x) → ⊥
err_is f x e = cc

pub and_then-Some : {A B : Type 0} (f : A → Option B) (o : Option A) (y : B) → option_and_then f o ≡ Some y
    → (x : A) × (o ≡ Some x) × (f x ≡ Some y)
and_then-Some f None y e = absurd (none_is y e)
and_then-Some f (Some x) y e = (x, refl, e)

pub on_ok-Ok : {A B E : Type 0} (r : Result A E) (f : A → Result B E) (y : B) → on_ok r f ≡ Ok y
    → (x : A) × (r ≡ Ok x) × (f x ≡ Ok y)
on_ok-Ok (Ok x) f y e = (x, refl, e)
on_ok-Ok (Err g) f y e = absurd (err_is g y e)

-- what holds of whatever is made holds of what was made
pub on_ok-made : {A B E : Type 0} (P : B → Type 0) (r : Result A E) (make : A → B) (y : B)
    → on_ok r (λ x. Ok (make x)) ≡ Ok y → ((x : A) → r ≡ Ok x → P (make x)) → P y
on_ok-made P (Ok x) make y e each = subst P (ok_is (make x) y e) (each x refl)
on_ok-made P (Err g) make y e each = absurd (err_is g y e)

pub ok_or-Ok : {A : Type 0} (o : Option A) (fault : Fault) (x : A) → ok_or o fault ≡ Ok x → o ≡ Some x
ok_or-Ok None fault x e = absurd (err_is fault x e)
ok_or-Ok (Some y) fault x e = let same : y ≡ x = ok_is y x e in rw same refl

pub both-Ok : {A B : Type 0} (r : Result A Fault) (s : Result B Fault) (p : A × B) → both r s ≡ Ok p
    → (r ≡ Ok p.0) × (s ≡ Ok p.1)
both-Ok (Ok x) (Ok y) p e = let same : (x, y) ≡ p = ok_is (x, y) p e in (rw (← same) refl, rw (← same) refl)
both-Ok (Ok x) (Err f) p e = absurd (err_is f p e)
both-Ok (Err f) (Ok y) p e = absurd (err_is f p e)
both-Ok (Err f) (Err g) p e = absurd (err_is _ p e)

-- a test that gives something
pub cond-Some : {A : Type 0} (t : Bool) (o : Option A) (y : A) → cond t o None ≡ Some y → (t ≡ true) × (o ≡ Some y)
cond-Some true o y e = (refl, e)
cond-Some false o y e = absurd (none_is y e)

pub cond-refuses : {A : Type 0} (t : Bool) (o : Option A) (y : A) → cond t None o ≡ Some y → (t ≡ false) × (o ≡ Some y)
cond-refuses true o y e = absurd (none_is y e)
cond-refuses false o y e = (refl, e)

pub cond-Ok : {A E : Type 0} (t : Bool) (r : Result A E) (f : E) (y : A) → cond t r (Err f) ≡ Ok y
    → (t ≡ true) × (r ≡ Ok y)
cond-Ok true r f y e = (refl, e)
cond-Ok false r f y e = absurd (err_is f y e)

pub cond-Err : {A E : Type 0} (t : Bool) (r : Result A E) (f : E) (y : A) → cond t (Err f) r ≡ Ok y
    → (t ≡ false) × (r ≡ Ok y)
cond-Err true r f y e = absurd (err_is f y e)
cond-Err false r f y e = (refl, e)
