-- What is asked for at paths with a query, and at unknown ones.
use Rattle.std.proofs.Common.{◌≡◌, ℕ, ◌+◌, not, Bool, true, false, cond, List, [], ◌∷◌, codes, ◌++◌, take, Option, Some, None, suc, arith, refl, ap, sym, subst, ◌∙◌}
use Rattle.std.specs.List.{IsDistinct}
use Rattle.std.specs.Map.{keys_of}
use Rattle.std.specs.Option.{IsSome}
use Rattle.std.specs.Str.{bytes_eq}
use Rattle.std.proofs.lemmas.Cmp.{nat_list_eq_equiv}
use Rattle.std.proofs.lemmas.Map.Made.{IsDistinct-from_count}
use Rattle.std.proofs.lemmas.Map.Views.{Contains-keys_from_lookup}
use Rattle.std.proofs.lemmas.Slice.Eq.{bytes_eq-Decides}
use Rattle.rest_message.specs.Targets.{path_of, is_query_sign}
use Rattle.rest_message.specs.declared.verb.Verb.{Verb}
use Rattle.rest_paths.specs.declared.asking.Ask.TheVariants.{NotFound}
use Rattle.rest_paths.specs.declared.resource.Resource.{Resource}
use Rattle.rest_paths.specs.Asking.{ask_of, ask_where}
use Rattle.rest_paths.specs.Laws.{IsKnown}
use Rattle.rest_paths.specs.Paths.{path_table, resource_at}

take-next : (n byte : ℕ) (rest : List ℕ) → take (1 + n) (byte ∷ rest) ≡ byte ∷ take n rest
take-next n byte rest =
    let same : 1 + n ≡ suc n = omega arith in
    rw same refl

path-by : (plain : Bool) (byte n m : ℕ) (longer target : List ℕ) → take n longer ≡ take m target
    → take (cond plain (1 + n) 0) (byte ∷ longer) ≡ take (cond plain (1 + m) 0) (byte ∷ target)
path-by true byte n m longer target same =
    take-next n byte longer ∙ (ap (λ rest. byte ∷ rest) same ∙ sym (take-next m byte target))
path-by false byte n m longer target same = refl

-- the path stands before the first question mark
pub path_of-query : (target query : List ℕ) → path_of (target ++ (codes "?" ++ query)) ≡ path_of target
path_of-query [] query = refl
path_of-query (byte ∷ target) query =
    path-by (not (is_query_sign byte)) byte _ _ (target ++ (codes "?" ++ query)) target (path_of-query target query)

unknown-by : (found : Option Resource) (verb : Verb) (path : List ℕ) → resource_at path ≡ found
    → (IsKnown path → ⊥) → ask_where verb found ≡ NotFound
unknown-by None verb path is unknown = refl
unknown-by (Some resource) verb path is unknown =
    absurd (unknown (Contains-keys_from_lookup (λ x y e. (bytes_eq-Decides x y).0 e) path path_table
    (subst (λ found. IsSome found) (sym is) refl)))

pub ask_of-unknown : (verb : Verb) (path : List ℕ) → (IsKnown path → ⊥) → ask_of verb path ≡ NotFound
ask_of-unknown verb path unknown = unknown-by (resource_at path) verb path refl unknown

pub paths-distinct : IsDistinct bytes_eq (keys_of path_table)
paths-distinct = IsDistinct-from_count nat_list_eq_equiv (keys_of path_table) refl
