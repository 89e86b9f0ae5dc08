-- Declared members stand at their numbers.
use Rattle.std.proofs.Common.{ℕ, ◌≡◌, ◌<◌, ◌≤◌, ◌+◌, ◌==◌, ◌||◌, nat_lt, zero, suc, Bool, true, false, List, [], ◌∷◌, length, slice_get, Some, refl, ◌∙◌, ap, sym, subst, arith}
use Rattle.std.proofs.Math.ListN.{length-map}
use Rattle.std.proofs.lemmas.Option.{slice_get_within}
use Rattle.std.proofs.lemmas.Bool.Decides.{nat_tests}
use Rattle.pat_base.specs.declared.name.Name.{Name}
use Rattle.event_book.specs.declared.event.Event.{Event}
use Rattle.event_book.specs.declared.member.Member.{Member}
use Rattle.event_book.specs.Members.{members_from, put_first}
use Rattle.pat_base.specs.MemberId.{member_by}
use Rattle.pat_base.specs.declared.member_id.MemberId.{MemberId}
use Rattle.script_model.specs.Script.{HeadText, IsHead, names_of}
use Rattle.cluster_model.specs.Cluster.{cluster_after, cluster_over}
use Rattle.cluster_model.specs.Next.{declared}
use Rattle.cluster_model.specs.State.{Cluster}
use Rattle.lease_model.proofs.Tools.{some-is}
use Rattle.run_promise.specs.Members.{declared_members, member_count, IsDeclared, is_listed}
use Rattle.run_promise.proofs.Upholding.{Each}
use Rattle.cluster_model.proofs.Places.{eq-self, there}
use Rattle.pat_base.specs.declared.member_id.TheConstants.{MOST_MEMBERS}

-- there are few of them
pub few-names : (head : HeadText) → IsHead head → length (names_of head) ≤ MOST_MEMBERS
few-names head is = rw (length-map head.members _) is.few

not-small : (n : ℕ) → nat_lt n MOST_MEMBERS ≡ false → n < MOST_MEMBERS → ⊥
not-small n is small = grind (arith, nat_tests)

-- a member of this name stands first
record StandsFirst (n : ℕ) (name : Name) (members : List Member) (all : List Member) : Type 0 where
  member : Member
  number : member.id.number ≡ n
  named : member.name ≡ name
  is : all ≡ member ∷ members

first-by : (n : ℕ) (test : Bool) (is : nat_lt n MOST_MEMBERS ≡ test) (name : Name) (members : List Member)
    → n < MOST_MEMBERS → StandsFirst n name members (put_first (member_by n test is) name members)
first-by n true is name members small = record {
  member = record { id = record { number = n; below = _ }; name = name };
  number = refl;
  named = refl;
  is = refl;
}
first-by n false is name members small = absurd (not-small n is small)

small-first : (n more : ℕ) → n + suc more ≤ MOST_MEMBERS → n < MOST_MEMBERS
small-first n more few = omega (arith, few)

small-next : (n more : ℕ) → n + suc more ≤ MOST_MEMBERS → (n + 1) + more ≤ MOST_MEMBERS
small-next n more few = omega (arith, few)

next-number : (k n i : ℕ) → k ≡ (n + 1) + i → k ≡ n + suc i
next-number k n i e = omega (arith, e)

at-first : (n : ℕ) (k : ℕ) → k ≡ n → k ≡ n + 0
at-first n k e = omega (arith, e)

none-at : {A : Type 0} (i : ℕ) (x : A) → slice_get [] i ≡ Some x → ⊥
none-at i x e = absurd (omega (arith, slice_get_within [] i x e))

numbered-behind : (n : ℕ) (member m : Member) (members : List Member) → member.id.number ≡ n
    → ((i : ℕ) → slice_get members i ≡ Some m → m.id.number ≡ (n + 1) + i)
    → (i : ℕ) → slice_get (member ∷ members) i ≡ Some m → m.id.number ≡ n + i
numbered-behind n member m members number rest zero is =
    at-first n m.id.number (ap (λ (z : Member). z.id.number) (sym (some-is member m is)) ∙ number)
numbered-behind n member m members number rest (suc i) is = next-number m.id.number n i (rest i is)

numbered-from : (n : ℕ) (names : List Name) → n + length names ≤ MOST_MEMBERS → (i : ℕ) (m : Member)
    → slice_get (members_from n names) i ≡ Some m → m.id.number ≡ n + i
numbered-from n [] few i m is = absurd (none-at i m is)
numbered-from n (name ∷ names) few i m is =
    let first =
    first-by n (nat_lt n MOST_MEMBERS) refl name (members_from (n + 1) names) (small-first n (length names) few) in
    numbered-behind n first.member m (members_from (n + 1) names) first.number
    (λ i is. numbered-from (n + 1) names (small-next n (length names) few) i m is) i
    (sym (ap (λ (ms : List Member). slice_get ms i) first.is) ∙ is)

from-few : (count : ℕ) → count ≤ MOST_MEMBERS → 0 + count ≤ MOST_MEMBERS
from-few count few = omega (arith, few)

named-behind : (name : Name) (names : List Name) (member m : Member) (members : List Member) → member.name ≡ name
    → ((i : ℕ) → slice_get members i ≡ Some m → slice_get names i ≡ Some m.name)
    → (i : ℕ) → slice_get (member ∷ members) i ≡ Some m → slice_get (name ∷ names) i ≡ Some m.name
named-behind name names member m members named rest zero is =
    ap Some (sym named ∙ ap (λ (z : Member). z.name) (some-is member m is))
named-behind name names member m members named rest (suc i) is = rest i is

named-from : (n : ℕ) (names : List Name) → n + length names ≤ MOST_MEMBERS → (i : ℕ) (m : Member)
    → slice_get (members_from n names) i ≡ Some m → slice_get names i ≡ Some m.name
named-from n [] few i m is = absurd (none-at i m is)
named-from n (name ∷ names) few i m is =
    let first =
    first-by n (nat_lt n MOST_MEMBERS) refl name (members_from (n + 1) names) (small-first n (length names) few) in
    named-behind name names first.member m (members_from (n + 1) names) first.named
    (λ i is. named-from (n + 1) names (small-next n (length names) few) i m is) i
    (sym (ap (λ (ms : List Member). slice_get ms i) first.is) ∙ is)

counted-from : (n : ℕ) (names : List Name) → n + length names ≤ MOST_MEMBERS
    → length (members_from n names) ≡ length names
counted-from n [] few = refl
counted-from n (name ∷ names) few =
    let first =
    first-by n (nat_lt n MOST_MEMBERS) refl name (members_from (n + 1) names) (small-first n (length names) few) in
    ap (λ (ms : List Member). length ms) first.is
    ∙ ap suc (counted-from (n + 1) names (small-next n (length names) few))

-- there are as many as the head names
pub counted : (head : HeadText) → length (names_of head) ≤ MOST_MEMBERS
    → length (declared_members head) ≡ member_count head
counted head few = counted-from 0 (names_of head) (from-few (length (names_of head)) few)

from-none : (i : ℕ) → 0 + i ≡ i
from-none i = omega arith

-- the one at a place has that number
pub numbered : (head : HeadText) → length (names_of head) ≤ MOST_MEMBERS → (i : ℕ) (m : Member)
    → slice_get (declared_members head) i ≡ Some m → m.id.number ≡ i
numbered head few i m is = numbered-from 0 (names_of head) (from-few (length (names_of head)) few) i m is ∙ from-none i

-- who stands at some place is declared
pub declared-at : (head : HeadText) → length (names_of head) ≤ MOST_MEMBERS → (i : ℕ) (m : Member)
    → slice_get (declared_members head) i ≡ Some m → IsDeclared head m
declared-at head few i m is = ap (slice_get (declared_members head)) (numbered head few i m is) ∙ is

-- and has a number below how many there are
pub declared-within : (head : HeadText) → length (names_of head) ≤ MOST_MEMBERS → (m : Member)
    → IsDeclared head m → m.id.number < member_count head
declared-within head few m is =
    subst (λ (n : ℕ). m.id.number < n) (counted head few) (slice_get_within (declared_members head) m.id.number m is)

-- and has the name that the head declares at that number
pub declared-named : (head : HeadText) → length (names_of head) ≤ MOST_MEMBERS → (m : Member)
    → IsDeclared head m → slice_get (names_of head) m.id.number ≡ Some m.name
declared-named head few m is = named-from 0 (names_of head) (from-few (length (names_of head)) few) m.id.number m is

-- the members stay
pub members-over : (cluster : Cluster) (events : List Event)
    → (cluster_over cluster events).facts.members ≡ cluster.facts.members
members-over cluster [] = refl
members-over cluster (event ∷ events) = members-over (cluster_after cluster event.kind) events

pub each-at : (P : Member → Type 0) (members : List Member)
    → ((i : ℕ) (m : Member) → slice_get members i ≡ Some m → P m) → Each P members
each-at P [] all = tt
each-at P (m ∷ members) all = (all 0 m refl, each-at P members (λ i n is. all (suc i) n is))

-- what holds of declared members holds of each in the list
pub each-declared : (head : HeadText) → length (names_of head) ≤ MOST_MEMBERS → (P : Member → Type 0)
    → ((m : Member) → IsDeclared head m → P m) → Each P (declared_members head)
each-declared head few P all = each-at P (declared_members head) (λ i m is. all m (declared-at head few i m is))

or-second : (a b : Bool) → b ≡ true → (a || b) ≡ true
or-second true b e = refl
or-second false b e = e

listed-at : (m : ℕ) (members : List Member) (i : ℕ) (member : Member) → slice_get members i ≡ Some member
    → member.id.number ≡ m → is_listed m members ≡ true
listed-at m [] i member is number = absurd (none-at i member is)
listed-at m (first ∷ members) zero member is number =
    ap (λ b. b || is_listed m members)
    (ap (λ n. m == n) (ap (λ (z : Member). z.id.number) (some-is first member is) ∙ number) ∙ eq-self m)
listed-at m (first ∷ members) (suc i) member is number =
    or-second (m == first.id.number) (is_listed m members) (listed-at m members i member is number)

-- each number below that is listed
pub listed : (head : HeadText) → length (names_of head) ≤ MOST_MEMBERS → (m : ℕ) → m < member_count head
    → is_listed m (declared_members head) ≡ true
listed head few m small =
    let found = there (declared_members head) m (subst (λ (n : ℕ). m < n) (sym (counted head few)) small) in
    listed-at m (declared_members head) m found.0 found.1 (numbered head few m found.0 found.1)

-- where the members are those that a head declares, each is declared
pub declared-in : (head : HeadText) → length (names_of head) ≤ MOST_MEMBERS → (cluster : Cluster)
    → cluster.facts.members ≡ declared_members head
    → (i : ℕ) (m : Member) → slice_get cluster.facts.members i ≡ Some m → IsDeclared head m
declared-in head few cluster members i m is =
    declared-at head few i m (sym (ap (λ (ms : List Member). slice_get ms i) members) ∙ is)

-- who is found by a number among the declared members is declared
pub declared-now : (head : HeadText) → length (names_of head) ≤ MOST_MEMBERS → (cluster : Cluster)
    → cluster.facts.members ≡ declared_members head
    → (id : MemberId) (m : Member) → declared cluster id ≡ Some m → IsDeclared head m
declared-now head few cluster members id m is = declared-in head few cluster members id.number m is
