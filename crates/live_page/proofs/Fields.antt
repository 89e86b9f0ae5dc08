-- Tests of fields, one after another: what is tested from a place on.
use Rattle.std.proofs.Common.{◌≡◌, ℕ, ◌+◌, ◌<◌, ◌≤◌, Bool, true, false, List, [], ◌∷◌, map, drop, get_or, length, refl, add-one}
use Rattle.std.proofs.lemmas.List.{drop_all}
use Rattle.std.specs.List.{list_any, list_all}
use Rattle.std.proofs.Math.Seq.{drop-cons}
use Rattle.httparse.specs.declared.spans.HeaderSpan.{HeaderSpan}

-- one that passes
pub any-here : {A B : Type 0} (test : B → Bool) (f : A → B) (xs : List A) (i : ℕ) (d : A) → i < length xs
    → test (f (get_or xs i d)) ≡ true → list_any test (map f (drop i xs)) ≡ true
any-here test f xs i d within passes = rw (drop-cons xs i d within, passes) refl

-- one that fails
pub any-behind : {A B : Type 0} (test : B → Bool) (f : A → B) (xs : List A) (i : ℕ) (d : A) → i < length xs
    → test (f (get_or xs i d)) ≡ false → list_any test (map f (drop i xs)) ≡ list_any test (map f (drop (i + 1) xs))
any-behind test f xs i d within fails = rw (drop-cons xs i d within, fails, add-one) refl

-- where all were tested, none is left
pub any-none : {A B : Type 0} (test : B → Bool) (f : A → B) (xs : List A) (i : ℕ) → length xs ≤ i
    → list_any test (map f (drop i xs)) ≡ false
any-none test f xs i all = rw (drop_all i xs all) refl

-- one that fails
pub all-here : {A B : Type 0} (test : B → Bool) (f : A → B) (xs : List A) (i : ℕ) (d : A) → i < length xs
    → test (f (get_or xs i d)) ≡ false → list_all test (map f (drop i xs)) ≡ false
all-here test f xs i d within fails = rw (drop-cons xs i d within, fails) refl

-- one that passes
pub all-behind : {A B : Type 0} (test : B → Bool) (f : A → B) (xs : List A) (i : ℕ) (d : A) → i < length xs
    → test (f (get_or xs i d)) ≡ true → list_all test (map f (drop i xs)) ≡ list_all test (map f (drop (i + 1) xs))
all-behind test f xs i d within passes = rw (drop-cons xs i d within, passes, add-one) refl

-- where all were tested, none is left
pub all-none : {A B : Type 0} (test : B → Bool) (f : A → B) (xs : List A) (i : ℕ) → length xs ≤ i
    → list_all test (map f (drop i xs)) ≡ true
all-none test f xs i all = rw (drop_all i xs all) refl

-- what is read past the end of a list of headers
abbrev pub no-header : HeaderSpan
no-header = record { name = record { start = 0; end = 0 }; value = record { start = 0; end = 0 } }
