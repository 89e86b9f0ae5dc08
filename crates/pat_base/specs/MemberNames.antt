-- Members by their names.
use Rattle.std.specs.Prelude.{ℕ, Bool, List, Option, option_and_then, position}
use Rattle.std.specs.Str.{bytes_eq}
use Rattle.pat_base.specs.MemberId.{member_of}
use Rattle.pat_base.specs.Name.{name_bytes}
use Rattle.pat_base.specs.declared.host.Host.{Host}
use Rattle.pat_base.specs.declared.member_id.MemberId.{MemberId}
use Rattle.pat_base.specs.declared.name.Name.{Name}

-- a member has this text as its name
abbrev pub has_name : List ℕ → Name × Host → Bool
has_name text member = bytes_eq (name_bytes member.0) text

-- the member of this name, if there is one
abbrev pub member_named : List (Name × Host) → List ℕ → Option MemberId
member_named members text = option_and_then member_of (position (has_name text) members)
