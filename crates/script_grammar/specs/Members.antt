-- Members by name and by number.
use Rattle.std.specs.Prelude.{ℕ, if◌then◌else◌, List, [], ◌∷◌, Option, Some, None}
use Rattle.std.specs.Option.{option_and_then}
use Rattle.std.specs.Str.{bytes_eq}
use Rattle.pat_base.specs.MemberId.{member_of}
use Rattle.pat_base.specs.Name.{name_bytes}
use Rattle.pat_base.specs.declared.name.Name.{Name}
use Rattle.pat_base.specs.declared.member_id.MemberId.{MemberId}
use Rattle.script_words.specs.Lines.{one_more}

-- the place of the member of this name
abbrev pub place_of : List Name → Name → Option ℕ
place_of [] name = None
place_of (member ∷ members) name =
    if bytes_eq (name_bytes member) (name_bytes name) then Some 0 else one_more (place_of members name)

-- the member of this name
abbrev pub member_named : List Name → Name → Option MemberId
member_named members name = option_and_then member_of (place_of members name)
