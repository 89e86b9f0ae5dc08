-- Whose names are listed.
use Rattle.std.proofs.Common.{arith, inl, inr, ◌≡◌, ◌==◌, ◌≤◌, ℕ, Bool, true, false, List, [], ◌∷◌, length, drop, refl, ap, sym, subst, ◌∙◌}
use Rattle.std.proofs.Math.ListN.{drop_of_length-le}
use Rattle.std.proofs.lemmas.Bool.Decides.{nat_tests}
use Rattle.std.proofs.lemmas.List.Elements.{All-nil, All-cons, All-head, All-tail, All-contains_itself, Contains-push, Contains-append_left, Contains-append_right, Contains-append_cases}
use Rattle.std.proofs.lemmas.Map.Lookups.{CmpEqualImpliesEq, exact_bytes}
use Rattle.std.proofs.lemmas.Map.Views.{All-insert_key}
use Rattle.std.specs.BTreeSet.{insert_key}
use Rattle.std.specs.Int.{bit_at}
use Rattle.std.specs.List.{All, Contains}
use Rattle.std.specs.Ordering.{match_ordering}
use Rattle.std.specs.declared.cmp.Ordering.{Ordering}
use Rattle.std.specs.declared.cmp.Ordering.TheVariants.{Less, Equal, Greater}
use Rattle.pat_base.proofs.Names.{name_bytes-injective}
use Rattle.pat_base.specs.declared.member_set.MemberSet.{MemberSet}
use Rattle.pat_base.specs.declared.name.Name.{Name}
use Rattle.pat_base.specs.Name.{name_bytes}
use Rattle.event_book.specs.declared.member.Member.{Member}
use Rattle.event_book.specs.NameLists.{name_cmp, with_name, with_names, names_of, IsNameIn, IsListOf}
use Rattle.event_book.proofs.RisingNames.{names_of-rises}

pub insert-kept : {K : Type 0} (cmp : K → K → Ordering) (k : K) (xs : List K) (y : K) → Contains xs y
    → Contains (insert_key cmp xs k) y
insert-kept cmp k [] y there = Contains-append_right (k ∷ []) [] y there
insert-kept cmp k (x ∷ xs) y there = go (cmp k x) (insert-kept cmp k xs y)
  where
    go : (r : Ordering) → (Contains xs y → Contains (insert_key cmp xs k) y)
        → Contains (match_ordering r (k ∷ x ∷ xs) (x ∷ xs) (x ∷ insert_key cmp xs k)) y
    go Less more = Contains-append_right (k ∷ []) (x ∷ xs) y there
    go Equal more = there
    go Greater more = elim (Contains-append_cases (x ∷ []) xs y there) [
      | inl h ↦ Contains-append_left (x ∷ []) (insert_key cmp xs k) y h
      | inr h ↦ Contains-append_right (x ∷ []) (insert_key cmp xs k) y (more h)
    ]

pub insert-there : {K : Type 0} (cmp : K → K → Ordering) → CmpEqualImpliesEq cmp → (k : K) (xs : List K)
    → Contains (insert_key cmp xs k) k
insert-there cmp exact k [] = Contains-push [] k
insert-there cmp exact k (x ∷ xs) = go (cmp k x) refl (insert-there cmp exact k xs)
  where
    go : (r : Ordering) → cmp k x ≡ r → Contains (insert_key cmp xs k) k
        → Contains (match_ordering r (k ∷ x ∷ xs) (x ∷ xs) (x ∷ insert_key cmp xs k)) k
    go Less is more = Contains-append_left (k ∷ []) (x ∷ xs) k (Contains-push [] k)
    go Equal is more =
        subst (Contains (x ∷ xs)) (sym (exact k x is)) (Contains-append_left (x ∷ []) xs x (Contains-push [] x))
    go Greater is more = Contains-append_right (x ∷ []) (insert_key cmp xs k) k more

pub name_cmp-exact : CmpEqualImpliesEq name_cmp
name_cmp-exact a b is = name_bytes-injective a b (exact_bytes (name_bytes a) (name_bytes b) is)

with_name-kept : (test : Bool) (name : Name) (names : List Name) (y : Name) → Contains names y
    → Contains (with_name test name names) y
with_name-kept false name names y there = there
with_name-kept true name names y there = insert-kept name_cmp name names y there

with_names-kept : (names : List Name) (set : MemberSet) (members : List Member) (y : Name) → Contains names y
    → Contains (with_names names set members) y
with_names-kept names set [] y there = there
with_names-kept names set (m ∷ ms) y there =
    with_names-kept (with_name (bit_at set.bits m.id.number == 1) m.name names) set ms y
    (with_name-kept (bit_at set.bits m.id.number == 1) m.name names y there)

with_name-there : (bit : ℕ) (name : Name) (names : List Name) → bit ≡ 1
    → Contains (with_name (bit == 1) name names) name
with_name-there bit name names is = subst (λ t. Contains (with_name (t == 1) name names) name) (sym is)
    (insert-there name_cmp name_cmp-exact name names)

with_names-complete : (names : List Name) (set : MemberSet) (members : List Member)
    → All (λ member. bit_at set.bits member.id.number ≡ 1 → Contains (with_names names set members) member.name) members
with_names-complete names set [] = All-nil (λ member. bit_at set.bits member.id.number ≡ 1 → Contains names member.name)
with_names-complete names set (m ∷ ms) =
    All-cons (λ member. bit_at set.bits member.id.number ≡ 1 → Contains (with_names names set (m ∷ ms)) member.name)
    m ms
    (λ is. with_names-kept (with_name (bit_at set.bits m.id.number == 1) m.name names) set ms m.name
    (with_name-there (bit_at set.bits m.id.number) m.name names is))
    (with_names-complete (with_name (bit_at set.bits m.id.number == 1) m.name names) set ms)

is-one : (bit : ℕ) → (bit == 1) ≡ true → bit ≡ 1
is-one bit h = grind (arith, nat_tests)

with_name-named : (set : MemberSet) (members : List Member) (m : Member) (test : Bool) (names : List Name)
    → (bit_at set.bits m.id.number == 1) ≡ test → Contains members m → All (IsNameIn set members) names
    → All (IsNameIn set members) (with_name test m.name names)
with_name-named set members m false names is there named = named
with_name-named set members m true names is there named =
    All-insert_key name_cmp m.name (IsNameIn set members) names named
    (record { member = m; declared = there; chosen = is-one (bit_at set.bits m.id.number) is; named = refl })

with_names-named : (set : MemberSet) (all members : List Member) (names : List Name) → All (Contains all) members
    → All (IsNameIn set all) names → All (IsNameIn set all) (with_names names set members)
with_names-named set all [] names there named = named
with_names-named set all (m ∷ ms) names there named =
    with_names-named set all ms (with_name (bit_at set.bits m.id.number == 1) m.name names)
    (All-tail (Contains all) m ms there)
    (with_name-named set all m (bit_at set.bits m.id.number == 1) names refl (All-head (Contains all) m ms there) named)

names_of-list : (set : MemberSet) (members : List Member) → IsListOf set members (names_of set members)
names_of-list set members = record {
  rises = names_of-rises set members;
  named = with_names-named set members members [] (All-contains_itself members) (All-nil (IsNameIn set members));
  complete = with_names-complete [] set members;
}

-- the names that are gathered when nothing is left
pub gathered : (names : List Name) (set : MemberSet) (members : List Member) (at : ℕ) → length members ≤ at
    → with_names names set (drop at members) ≡ with_names [] set members → IsListOf set members names
gathered names set members at past is =
    subst (IsListOf set members) (sym is ∙ ap (with_names names set) (drop_of_length-le members past))
    (names_of-list set members)
