-- The names of the members of a set, as lines list them.
use Rattle.std.specs.Prelude.{◌≡◌, ◌==◌, Bool, true, false, List, [], ◌∷◌}
use Rattle.std.specs.BTreeSet.{insert_key}
use Rattle.std.specs.Cmp.Lexicographic.{slice_cmp}
use Rattle.std.specs.Int.{bit_at}
use Rattle.std.specs.List.{All, Contains}
use Rattle.std.specs.List.Sorted.{IsStrictlySortedBy}
use Rattle.std.specs.Ordering.{nat_cmp}
use Rattle.std.specs.declared.cmp.Ordering.{Ordering}
use Rattle.pat_base.specs.declared.member_set.MemberSet.{MemberSet}
use Rattle.pat_base.specs.declared.name.Name.{Name}
use Rattle.pat_base.specs.Name.{name_bytes}
use Rattle.event_book.specs.declared.member.Member.{Member}

-- the order of names by their bytes
abbrev pub name_cmp : Name → Name → Ordering
name_cmp a b = slice_cmp nat_cmp (name_bytes a) (name_bytes b)

-- names in order, with this one at its place where it belongs to them
abbrev pub with_name : Bool → Name → List Name → List Name
with_name false name names = names
with_name true name names = insert_key name_cmp names name

-- names in order, with those of the members of a set at their places
abbrev pub with_names : List Name → MemberSet → List Member → List Name
with_names names set [] = names
with_names names set (member ∷ members) =
    with_names (with_name (bit_at set.bits member.id.number == 1) member.name names) set members

-- the names of the members of a set, in byte order
abbrev pub names_of : MemberSet → List Member → List Name
names_of set members = with_names [] set members

-- a declared member of the set has this name
pub record IsNameIn (set : MemberSet) (members : List Member) (name : Name) : Type 0 where
  pub member : Member
  pub declared : Contains members member
  pub chosen : bit_at set.bits member.id.number ≡ 1
  pub named : member.name ≡ name

-- the names of the declared members of the set and no others, in byte order, each once
pub record IsListOf (set : MemberSet) (members : List Member) (names : List Name) : Type 0 where
  pub rises : IsStrictlySortedBy name_cmp names
  pub named : All (IsNameIn set members) names
  pub complete : All (λ member. bit_at set.bits member.id.number ≡ 1 → Contains names member.name) members
