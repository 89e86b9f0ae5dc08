-- Names in order stay so.
use Rattle.std.proofs.Common.{◌≡◌, ◌==◌, Bool, true, false, List, [], ◌∷◌, refl, ap, ◌∙◌}
use Rattle.std.proofs.lemmas.Cmp.{nat_list_cmp_total}
use Rattle.std.specs.BTreeSet.{insert_key}
use Rattle.std.specs.Cmp.{IsTotalOrder}
use Rattle.std.specs.Int.{bit_at}
use Rattle.std.specs.List.{AllByRecursion}
use Rattle.std.specs.List.Sorted.{IsStrictlySortedBy}
use Rattle.std.specs.Ordering.{match_ordering, ordering_reverse}
use Rattle.std.specs.declared.cmp.Ordering.{Ordering}
use Rattle.std.specs.declared.cmp.Ordering.TheVariants.{Less, Equal, Greater}
use Rattle.pat_base.specs.declared.member_set.MemberSet.{MemberSet}
use Rattle.pat_base.specs.declared.name.Name.{Name}
use Rattle.pat_base.specs.Name.{name_bytes}
use Rattle.event_book.specs.declared.member.Member.{Member}
use Rattle.event_book.specs.NameLists.{name_cmp, with_name, with_names, names_of}

below-insert : {K : Type 0} (cmp : K → K → Ordering) (x k : K) (ys : List K) → cmp x k ≡ Less
    → AllByRecursion (λ y. cmp x y ≡ Less) ys → AllByRecursion (λ y. cmp x y ≡ Less) (insert_key cmp ys k)
below-insert cmp x k [] less below = (less, tt)
below-insert {K} cmp x k (y ∷ ys) less below = go (cmp k y) (below-insert cmp x k ys less below.1)
  where
    go : (r : Ordering) → AllByRecursion (λ z. cmp x z ≡ Less) (insert_key cmp ys k)
        → AllByRecursion (λ z. cmp x z ≡ Less) (match_ordering r (k ∷ y ∷ ys) (y ∷ ys) (y ∷ insert_key cmp ys k))
    go Less more = (less, below)
    go Equal more = below
    go Greater more = (below.0, more)

all-after : {K : Type 0} (cmp : K → K → Ordering) → IsTotalOrder cmp → (k x : K) (ys : List K)
    → cmp k x ≡ Less → AllByRecursion (λ y. cmp x y ≡ Less) ys → AllByRecursion (λ y. cmp k y ≡ Less) ys
all-after cmp total k x [] less below = tt
all-after cmp total k x (y ∷ ys) less below = (total.trans k x y less below.0, all-after cmp total k x ys less below.1)

pub rises-insert : {K : Type 0} (cmp : K → K → Ordering) → IsTotalOrder cmp → (k : K) (xs : List K)
    → IsStrictlySortedBy cmp xs → IsStrictlySortedBy cmp (insert_key cmp xs k)
unfolding IsStrictlySortedBy
rises-insert cmp total k [] rises = (tt, tt)
rises-insert cmp total k (x ∷ xs) rises = go (cmp k x) refl (rises-insert cmp total k xs rises.1)
  where
    go : (r : Ordering) → cmp k x ≡ r → IsStrictlySortedBy cmp (insert_key cmp xs k)
        → IsStrictlySortedBy cmp (match_ordering r (k ∷ x ∷ xs) (x ∷ xs) (x ∷ insert_key cmp xs k))
    go Less is more = ((is, all-after cmp total k x xs is rises.0), rises)
    go Equal is more = rises
    go Greater is more = (below-insert cmp x k xs (total.antisymm x k ∙ ap ordering_reverse is) rises.0, more)

pub name_cmp-total : IsTotalOrder name_cmp
name_cmp-total = record {
  antisymm = λ x y. nat_list_cmp_total.antisymm (name_bytes x) (name_bytes y);
  trans = λ x y z. nat_list_cmp_total.trans (name_bytes x) (name_bytes y) (name_bytes z);
  congr = λ x y z. nat_list_cmp_total.congr (name_bytes x) (name_bytes y) (name_bytes z);
}

with_name-rises : (test : Bool) (name : Name) (names : List Name) → IsStrictlySortedBy name_cmp names
    → IsStrictlySortedBy name_cmp (with_name test name names)
with_name-rises false name names rises = rises
with_name-rises true name names rises = rises-insert name_cmp name_cmp-total name names rises

with_names-rises : (names : List Name) (set : MemberSet) (members : List Member)
    → IsStrictlySortedBy name_cmp names → IsStrictlySortedBy name_cmp (with_names names set members)
with_names-rises names set [] rises = rises
with_names-rises names set (member ∷ members) rises =
    with_names-rises (with_name (bit_at set.bits member.id.number == 1) member.name names) set members
    (with_name-rises (bit_at set.bits member.id.number == 1) member.name names rises)

pub names_of-rises : (set : MemberSet) (members : List Member) → IsStrictlySortedBy name_cmp (names_of set members)
unfolding IsStrictlySortedBy
names_of-rises set members = with_names-rises [] set members tt
