-- The values that give the length, field by field.
use Rattle.std.proofs.Common.{◌≡◌, List, [], ◌∷◌, ℕ, ◌+◌, ◌<◌, ◌≤◌, ◌++◌, suc, Bool, true, false, cond, refl, ap, sym, ◌∙◌, map, filter, take, drop, get_or, length, Err, Option, Some, None, is_some, option_map, option_to_list, append-nil, take_all}
use Rattle.std.proofs.Math.Seq.{drop-cons}
use Rattle.std.proofs.lemmas.Bool.{true≢false, false≢true}
use Rattle.std.proofs.lemmas.List.{map-append, map_more, take-append-drop}
use Rattle.std.proofs.lemmas.List.Elements.{filter-append}
use Rattle.rest_request.specs.declared.fault.RequestFault.TheVariants.{BadLength}
use Rattle.httparse.specs.declared.spans.HeaderSpan.{HeaderSpan}
use Rattle.rest_request.specs.ContentLength.{length_values, is_content_length, length_by_all}

length-values-append : (fields more : List (List ℕ × List ℕ))
    → length_values (fields ++ more) ≡ length_values fields ++ length_values more
length-values-append fields more =
    ap (λ kept. map (λ (field : List ℕ × List ℕ). field.1) kept) (filter-append is_content_length fields more)
    ∙ map-append (λ (field : List ℕ × List ℕ). field.1) (filter is_content_length fields)
    (filter is_content_length more)

-- the value of a field, where it gives the length
one-value : (gives : Bool) (field : List ℕ × List ℕ) → is_content_length field ≡ gives
    → length_values (field ∷ []) ≡ cond gives (field.1 ∷ []) []
one-value true field is = rw is refl
one-value false field is = rw is refl

-- one more field at the end
one-more : (gives : Bool) (fields : List (List ℕ × List ℕ)) (field : List ℕ × List ℕ) → is_content_length field ≡ gives
    → length_values (fields ++ field ∷ []) ≡ length_values fields ++ cond gives (field.1 ∷ []) []
one-more gives fields field is =
    length-values-append fields (field ∷ []) ∙ ap (λ values. length_values fields ++ values) (one-value gives field is)

-- the first field that gives the length
with-value : {X : Type 0} (f : X → List ℕ × List ℕ) (xs : List X) (i : ℕ) (d : X) (value : List ℕ)
    → i < length xs → is_content_length (f (get_or xs i d)) ≡ true → [] ≡ length_values (map f (take i xs))
    → value ≡ (f (get_or xs i d)).1 → value ∷ [] ≡ length_values (map f (take (i + 1) xs))
with-value f xs i d value within is had value_is =
    rw (map_more f xs i d within, one-more true (map f (take i xs)) (f (get_or xs i d)) is, ← had, value_is) refl

-- a field that doesn't give it
pub without-value : {X : Type 0} (f : X → List ℕ × List ℕ) (xs : List X) (i : ℕ) (d : X) (had : List (List ℕ))
    → i < length xs → is_content_length (f (get_or xs i d)) ≡ false → had ≡ length_values (map f (take i xs))
    → had ≡ length_values (map f (take (i + 1) xs))
without-value f xs i d had within is had_is =
    rw (map_more f xs i d within, one-more false (map f (take i xs)) (f (get_or xs i d)) is)
    (had_is ∙ sym (append-nil _))

-- a second field that gives it
second-value : {X : Type 0} (f : X → List ℕ × List ℕ) (xs : List X) (i : ℕ) (d : X) (value : List ℕ)
    → i < length xs → is_content_length (f (get_or xs i d)) ≡ true
    → value ∷ [] ≡ length_values (map f (take i xs)) → length_by_all (length_values (map f xs)) ≡ Err BadLength
second-value f xs i d value within is had =
    let parts : xs ≡ take i xs ++ (get_or xs i d ∷ drop (suc i) xs) = sym (take-append-drop i xs)
    ∙ ap (λ rest. take i xs ++ rest) (drop-cons xs i d within) in
    let fields : map f xs ≡ map f (take i xs) ++ ((f (get_or xs i d) ∷ []) ++ map f (drop (suc i) xs)) =
    ap (map f) parts ∙ map-append f (take i xs) (get_or xs i d ∷ drop (suc i) xs) in
    rw (
      fields,
      length-values-append (map f (take i xs)) ((f (get_or xs i d) ∷ []) ++ map f (drop (suc i) xs)),
      length-values-append (f (get_or xs i d) ∷ []) (map f (drop (suc i) xs)),
      ← had,
      one-value true (f (get_or xs i d)) is,
    )
    refl

-- the first field that gives the length, where none was found
pub first-found : {A X : Type 0} (g : A → List ℕ) (o : Option A) (f : X → List ℕ × List ℕ) (xs : List X)
    (i : ℕ) (d : X) (value : List ℕ) → i < length xs → is_content_length (f (get_or xs i d)) ≡ true
    → is_some o ≡ false → option_to_list (option_map g o) ≡ length_values (map f (take i xs))
    → value ≡ (f (get_or xs i d)).1 → value ∷ [] ≡ length_values (map f (take (i + 1) xs))
first-found g None f xs i d value within is none had value_is = with-value f xs i d value within is had value_is
first-found g (Some x) f xs i d value within is none had value_is = absurd (true≢false none)

-- a second field that gives it, where one was found
pub second-found : {A X : Type 0} (g : A → List ℕ) (o : Option A) (f : X → List ℕ × List ℕ) (xs : List X)
    (i : ℕ) (d : X) → i < length xs → is_content_length (f (get_or xs i d)) ≡ true → is_some o ≡ true
    → option_to_list (option_map g o) ≡ length_values (map f (take i xs))
    → length_by_all (length_values (map f xs)) ≡ Err BadLength
second-found g None f xs i d within is some had = absurd (false≢true some)
second-found g (Some x) f xs i d within is some had = second-value f xs i d (g x) within is had

-- all fields were seen
pub all-seen : {A X : Type 0} (g : A → List ℕ) (o : Option A) (f : X → List ℕ × List ℕ) (xs : List X) (i : ℕ)
    → length xs ≤ i → option_to_list (option_map g o) ≡ length_values (map f (take i xs))
    → length_values (map f xs) ≡ option_to_list (option_map g o)
all-seen g o f xs i all had = sym (had ∙ ap (λ front. length_values (map f front)) (take_all i xs all))

-- what is read past the end of a list of headers
abbrev pub no-header : HeaderSpan
no-header = record { name = record { start = 0; end = 0 }; value = record { start = 0; end = 0 } }
