-- Servers of which one, or each, is changed, seen by one of their parts.
use Rattle.std.proofs.Common.{ℕ, ◌≡◌, Bool, true, false, cond, List, [], ◌∷◌, length, map, slice_get, slice_set, Option, Some, None, option_map, refl, ◌∙◌, ap, sym}
use Rattle.std.proofs.lemmas.List.{map-set}
use Rattle.std.proofs.lemmas.Option.{slice_get-map, get_or_from_slice_get}
use Rattle.std.proofs.Math.ListN.{length-set}
use Rattle.std.proofs.Math.Seq.{map-set_same}
use Rattle.pat_base.specs.Changes.{changed_at, with_changed}
use Rattle.pg_model.specs.Facts.{ServerFacts}

module _ {B : Type 0} (f : ServerFacts → B) where
  -- the server at a place is changed, and so the part at that place
  changed-found : (servers : List ServerFacts) (n : ℕ) (change : ServerFacts → ServerFacts) (h : B → B)
      (found : Option ServerFacts)
      → ((s : ServerFacts) → f (change s) ≡ h (f s))
      → map f (changed_at servers n change found) ≡ changed_at (map f servers) n h (option_map f found)
  changed-found servers n change h None same = refl
  changed-found servers n change h (Some s) same =
      map-set f servers n (change s) ∙ ap (λ x. slice_set (map f servers) n x) (same s)

  pub changed-one : (servers : List ServerFacts) (n : ℕ) (change : ServerFacts → ServerFacts) (h : B → B)
      → ((s : ServerFacts) → f (change s) ≡ h (f s))
      → map f (with_changed servers n change) ≡ with_changed (map f servers) n h
  changed-one servers n change h same =
      changed-found servers n change h (slice_get servers n) same
      ∙ ap (λ o. changed_at (map f servers) n h o) (sym (slice_get-map f servers n))

  -- the change of one leaves the part as it was
  kept-found : (servers : List ServerFacts) (n : ℕ) (change : ServerFacts → ServerFacts) (found : Option ServerFacts)
      → slice_get servers n ≡ found → ((s : ServerFacts) → f (change s) ≡ f s)
      → map f (changed_at servers n change found) ≡ map f servers
  kept-found servers n change None is same = refl
  kept-found servers n change (Some s) is same =
      map-set_same f servers n (change s) s (same s ∙ ap f (sym (get_or_from_slice_get servers n s s is)))

  pub kept-one : (servers : List ServerFacts) (n : ℕ) (change : ServerFacts → ServerFacts)
      → ((s : ServerFacts) → f (change s) ≡ f s)
      → map f (with_changed servers n change) ≡ map f servers
  kept-one servers n change same = kept-found servers n change (slice_get servers n) refl same

  -- and the change of each
  pub kept-each : (change : ServerFacts → ServerFacts) → ((s : ServerFacts) → f (change s) ≡ f s)
      → (servers : List ServerFacts) → map f (map change servers) ≡ map f servers
  kept-each change same [] = refl
  kept-each change same (s ∷ servers) =
      ap (λ x. x ∷ map f (map change servers)) (same s) ∙ ap (λ xs. f s ∷ xs) (kept-each change same servers)

  -- a part that both have is the part of the one that is chosen
  pub same-if : (b : Bool) (s t : ServerFacts) (x : B) → f s ≡ x → f t ≡ x → f (cond b s t) ≡ x
  same-if true s t x first second = first
  same-if false s t x first second = second

length-found : (servers : List ServerFacts) (n : ℕ) (change : ServerFacts → ServerFacts) (found : Option ServerFacts)
    → length (changed_at servers n change found) ≡ length servers
length-found servers n change None = refl
length-found servers n change (Some s) = length-set servers n (change s)

pub length-one : (servers : List ServerFacts) (n : ℕ) (change : ServerFacts → ServerFacts)
    → length (with_changed servers n change) ≡ length servers
length-one servers n change = length-found servers n change (slice_get servers n)
