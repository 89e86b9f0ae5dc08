-- Members found by their names, from a place on.
use Rattle.std.proofs.Common.{◌≡◌, ◌≤◌, ◌<◌, ◌+◌, ℕ, inl, inr, zero, suc, Bool, true, false, List, [], ◌∷◌, drop, length, Option, Some, None, refl, sym, ap, arith, ◌∙◌}
use Rattle.std.specs.Prelude.{option_and_then, slice_get}
use Rattle.std.specs.List.{position_from}
use Rattle.std.proofs.lemmas.Iterator.Adapters.{position_from-zero}
use Rattle.std.proofs.lemmas.List.{drop_all}
use Rattle.std.proofs.lemmas.Option.{slice_get_cases}
use Rattle.pat_base.specs.declared.member_id.MemberId.{MemberId}
use Rattle.pat_base.specs.MemberId.{member_of}
use Rattle.script_model.specs.Script.{HeadText, MemberText}
use Rattle.command_line.specs.Members.{is_named, member_named}

-- the member of this name among those from a place on
abbrev pub named_from : List ℕ → List MemberText → ℕ → Option MemberId
named_from name members place = option_and_then member_of (position_from (is_named name) place (drop place members))

rest-from : (members : List MemberText) (place : ℕ) (member : MemberText)
    → slice_get members place ≡ Some member → drop place members ≡ member ∷ drop (suc place) members
rest-from [] place member is = cc
rest-from (first ∷ members) zero member is = ap (λ (m : MemberText). m ∷ members) (same is)
  where
    same : Some first ≡ Some member → first ≡ member
    same e = cc
rest-from (first ∷ members) (suc place) member is = rest-from members place member is

-- from the beginning on it is that of all
pub named-all : (name : List ℕ) (head : HeadText) → named_from name head.members 0 ≡ member_named head name
named-all name head = ap (option_and_then member_of) (sym (position_from-zero (is_named name) head.members))

-- whether the member at this place has the name
abbrev pub TellsName : List ℕ → List MemberText → ℕ → Bool → Type 0
TellsName name members place told =
    (member : MemberText) → slice_get members place ≡ Some member → told ≡ is_named name member

-- it is the one at the place, where that has the name
pub named-here : (name : List ℕ) (members : List MemberText) (place : ℕ) (told : Bool) → place < length members
    → TellsName name members place told → told ≡ true → named_from name members place ≡ member_of place
named-here name members place told within tells named = elim ((slice_get_cases members place).1) [
  | inl (member, inside, is, same) ↦ rw (rest-from members place member is, sym (tells member is) ∙ named) refl
  | inr (past, none) ↦ absurd (omega (arith, past, within))
]

-- and else one behind it
pub named-behind : (name : List ℕ) (members : List MemberText) (place : ℕ) (told : Bool)
    → place < length members → TellsName name members place told → told ≡ false
    → named_from name members place ≡ named_from name members (place + 1)
named-behind name members place told within tells other = elim ((slice_get_cases members place).1) [
  | inl (member, inside, is, same) ↦
      ap (λ (l : List MemberText). option_and_then member_of (position_from (is_named name) place l))
      (rest-from members place member is ∙ ap (λ (n : ℕ). member ∷ drop n members) next)
      ∙ rw (sym (tells member is) ∙ other) refl
  | inr (past, none) ↦ absurd (omega (arith, past, within))
]
  where
    next : suc place ≡ place + 1
    next = omega arith

-- past the end there is none
pub named-past : (name : List ℕ) (members : List MemberText) (place : ℕ) → length members ≤ place
    → named_from name members place ≡ None
named-past name members place past =
    ap (λ (l : List MemberText). option_and_then member_of (position_from (is_named name) place l))
    (drop_all place members past)

-- what was found by the name in a head that is this one
pub found-in : (head shown : HeadText) (name : List ℕ) (found same : Option MemberId) → shown ≡ head
    → found ≡ member_named shown name → found ≡ same → member_named head name ≡ same
found-in head shown name found same is so e = ap (λ (h : HeadText). member_named h name) (sym is) ∙ (sym so ∙ e)
