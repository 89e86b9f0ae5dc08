-- The members that a head declares.
use Rattle.std.specs.Prelude.{ℕ, ◌≡◌, ◌==◌, ◌||◌, Bool, false, List, [], ◌∷◌, Some, length, slice_get}
use Rattle.script_model.specs.Script.{HeadText, names_of}
use Rattle.event_book.specs.declared.member.Member.{Member}
use Rattle.event_book.specs.Members.{members_from}

-- how many members a head declares
abbrev pub member_count : HeadText → ℕ
member_count head = length (names_of head)

-- the members that a head declares, with their numbers
abbrev pub declared_members : HeadText → List Member
declared_members head = members_from 0 (names_of head)

-- this member is declared, and stands at its number
abbrev pub IsDeclared : HeadText → Member → Type 0
IsDeclared head member = slice_get (declared_members head) member.id.number ≡ Some member

-- whether one of these members has this number
abbrev pub is_listed : ℕ → List Member → Bool
is_listed m [] = false
is_listed m (member ∷ members) = (m == member.id.number) || is_listed m members
