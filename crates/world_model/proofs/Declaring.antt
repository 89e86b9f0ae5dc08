-- The declared members are those of the script's head.
use Rattle.std.proofs.Common.{◌≡◌, ℕ, ◌+◌, ◌<◌, ◌≤◌, nat_lt, Bool, true, false, List, [], ◌∷◌, length, arith, refl, ◌∙◌, ap}
use Rattle.std.proofs.lemmas.Bool.Decides.{nat_tests}
use Rattle.std.proofs.lemmas.List.{length-map}
use Rattle.pat_base.specs.declared.name.Name.{Name}
use Rattle.pat_base.specs.MemberId.{member_by}
use Rattle.script_model.specs.Script.{HeadText, MemberText, names_of}
use Rattle.event_book.specs.declared.member.Member.{Member}
use Rattle.event_book.specs.Members.{members_from, put_first}
use Rattle.cluster_model.specs.Starting.{cluster_of}
use Rattle.cluster_model.specs.Steps.{names_in}
use Rattle.pat_base.specs.declared.member_id.TheConstants.{MOST_MEMBERS}

not-past : (n : ℕ) → nat_lt n MOST_MEMBERS ≡ false → n < MOST_MEMBERS → ⊥
not-past n is below = grind (arith, nat_tests)

put-named : (n : ℕ) (test : Bool) (is : nat_lt n MOST_MEMBERS ≡ test) (name : Name) (members : List Member)
    → n < MOST_MEMBERS → names_in (put_first (member_by n test is) name members) ≡ name ∷ names_in members
put-named n true is name members below = refl
put-named n false is name members below = absurd (not-past n is below)

named-from : (number : ℕ) (names : List Name) → number + length names ≤ MOST_MEMBERS
    → names_in (members_from number names) ≡ names
named-from number [] few = refl
named-from number (name ∷ names) few =
    put-named number (nat_lt number MOST_MEMBERS) refl name (members_from (number + 1) names) (omega (arith, few))
    ∙ ap (λ (ns : List Name). name ∷ ns) (named-from (number + 1) names (omega (arith, few)))

-- before the first event the declared members have the names of the head
pub names-start : (head : HeadText) → length head.members ≤ MOST_MEMBERS
    → names_in (cluster_of head).facts.members ≡ names_of head
names-start head few =
    named-from 0 (names_of head) (omega (arith, few, length-map head.members (λ (m : MemberText). m.name)))
