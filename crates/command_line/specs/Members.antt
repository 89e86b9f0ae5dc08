-- Members by their names.
use Rattle.std.specs.Prelude.{ℕ, Bool, List, Option, option_and_then, position}
use Rattle.std.specs.Str.{bytes_eq}
use Rattle.pat_base.specs.declared.member_id.MemberId.{MemberId}
use Rattle.pat_base.specs.MemberId.{member_of}
use Rattle.pat_base.specs.Name.{name_bytes}
use Rattle.script_model.specs.Script.{HeadText, MemberText}

-- a declared member has this name
abbrev pub is_named : List ℕ → MemberText → Bool
is_named name member = bytes_eq (name_bytes member.name) name

-- the number of the member with this name, where it is declared
abbrev pub member_named : HeadText → List ℕ → Option MemberId
member_named head name = option_and_then member_of (position (is_named name) head.members)
