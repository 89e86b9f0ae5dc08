-- Lists by members of which one item changes.
use Rattle.std.proofs.Common.{ℕ, ◌≡◌, List, map, slice_get, Option, Some, None, option_map, refl, ◌∙◌, ap, sym, subst, inl, inr}
use Rattle.std.proofs.lemmas.Bool.{cases_eq}
use Rattle.std.proofs.lemmas.Option.{slice_get_within, slice_get-map, none-some, same_Some}
use Rattle.pat_base.specs.Changes.{changed_at, with_changed}
use Rattle.pg_model.proofs.Lists.{got-set_same, got-set_other}

pub changed-here : {A : Type 0} (items : List A) (k : ℕ) (change : A → A) (item : A)
    → slice_get items k ≡ Some item → slice_get (with_changed items k change) k ≡ Some (change item)
changed-here items k change item is = ap (λ (o : Option _). slice_get (changed_at items k change o) k) is
    ∙ got-set_same items k (change item) (slice_get_within items k item is)

changed-at-there : {A : Type 0} (items : List A) (k : ℕ) (change : A → A) (found : Option A) (m : ℕ)
    → (m ≡ k → ⊥) → slice_get (changed_at items k change found) m ≡ slice_get items m
changed-at-there items k change None m other = refl
changed-at-there items k change (Some item) m other = got-set_other items k m (change item) other

pub changed-there : {A : Type 0} (items : List A) (k : ℕ) (change : A → A) (m : ℕ) → (m ≡ k → ⊥)
    → slice_get (with_changed items k change) m ≡ slice_get items m
changed-there items k change m other = changed-at-there items k change (slice_get items k) m other

-- where there is no item, none changes
pub changed-none : {A : Type 0} (items : List A) (k : ℕ) (change : A → A) → slice_get items k ≡ None
    → with_changed items k change ≡ items
changed-none items k change is = ap (λ (o : Option _). changed_at items k change o) is

-- what holds of each item, where it holds of the one that changes
module _ {A : Type 0} (P Q : A → Type 0) (items : List A) (k : ℕ) (change : A → A) where
  at-place : ((item : A) → slice_get items k ≡ Some item → P item → Q (change item)) → (found : Option A)
      → slice_get items k ≡ found
      → ((m : ℕ) (item : A) → slice_get items m ≡ Some item → P item) → (x : A)
      → slice_get (with_changed items k change) k ≡ Some x → Q x
  at-place here None is all x e =
      absurd (none-some x (sym is ∙ ap (λ (xs : List A). slice_get xs k) (sym (changed-none items k change is)) ∙ e))
  at-place here (Some item) is all x e =
      subst Q (same_Some (change item) x (sym (changed-here items k change item is) ∙ e)) (here item is (all k item is))

  pub each-changed : ((item : A) → slice_get items k ≡ Some item → P item → Q (change item))
      → ((item : A) → P item → Q item)
      → ((m : ℕ) (item : A) → slice_get items m ≡ Some item → P item) → (m : ℕ) (x : A)
      → slice_get (with_changed items k change) m ≡ Some x → Q x
  each-changed here more all m x e = elim (cases_eq m k) [
    | inl same ↦ at-place here (slice_get items k) refl all x
        (ap (λ (n : ℕ). slice_get (with_changed items k change) n) (sym same) ∙ e)
    | inr other ↦ more x (all m x (sym (changed-there items k change m other) ∙ e))
  ]

mapped-from : {A B : Type 0} (Q : B → Type 0) (f : A → B) (found : Option A) (x : B)
    → ((item : A) → found ≡ Some item → Q (f item)) → option_map f found ≡ Some x → Q x
mapped-from Q f None x all e = absurd (none-some x e)
mapped-from Q f (Some item) x all e = subst Q (same_Some (f item) x e) (all item refl)

-- and where each changes
pub each-mapped : {A : Type 0} (P : A → Type 0) (items : List A) (f : A → A) → ((item : A) → P item → P (f item))
    → ((m : ℕ) (item : A) → slice_get items m ≡ Some item → P item) → (m : ℕ) (x : A)
    → slice_get (map f items) m ≡ Some x → P x
each-mapped P items f here all m x e =
    mapped-from P f (slice_get items m) x (λ item is. here item (all m item is)) (sym (slice_get-map f items m) ∙ e)

-- what is seen of the item at each place, where one changes
module _ {A B : Type 0} (see : Option A → B) (items : List A) (k : ℕ) (change : A → A) where
  here-kept : (found : Option A) → slice_get items k ≡ found
      → ((item : A) → slice_get items k ≡ Some item → see (Some (change item)) ≡ see (Some item))
      → see (slice_get (with_changed items k change) k) ≡ see (slice_get items k)
  here-kept None is same = ap (λ (xs : List A). see (slice_get xs k)) (changed-none items k change is)
  here-kept (Some item) is same = ap see (changed-here items k change item is) ∙ same item is ∙ ap see (sym is)

  pub seen-kept : ((item : A) → slice_get items k ≡ Some item → see (Some (change item)) ≡ see (Some item))
      → (m : ℕ) → see (slice_get (with_changed items k change) m) ≡ see (slice_get items m)
  seen-kept same m = elim (cases_eq m k) [
    | inl e ↦ subst (λ (n : ℕ). see (slice_get (with_changed items k change) n) ≡ see (slice_get items n))
        (sym e) (here-kept (slice_get items k) refl same)
    | inr other ↦ ap see (changed-there items k change m other)
  ]

seen-each-of : {A B : Type 0} (see : Option A → B) (f : A → A) (found : Option A)
    → ((item : A) → see (Some (f item)) ≡ see (Some item)) → see (option_map f found) ≡ see found
seen-each-of see f None same = refl
seen-each-of see f (Some item) same = same item

pub seen-each : {A B : Type 0} (see : Option A → B) (items : List A) (f : A → A)
    → ((item : A) → see (Some (f item)) ≡ see (Some item)) → (m : ℕ)
    → see (slice_get (map f items) m) ≡ see (slice_get items m)
seen-each see items f same m = ap see (slice_get-map f items m) ∙ seen-each-of see f (slice_get items m) same
