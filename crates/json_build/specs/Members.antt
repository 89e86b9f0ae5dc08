-- Members of JSON objects, some of which are there at times.
use Rattle.std.specs.Prelude.{ℕ, ℤ, Bool, true, false, List}
use Rattle.serde_json.specs.Data.{Data, boolean, number, unsigned, Members, put}
use Rattle.serde_json.specs.Find.{of_integer}

-- the members, with a value at a name where it is so
abbrev pub where_so : Bool → List ℕ → Data → Members → Members
where_so true name value members = put name value members
where_so false name value members = members

-- the members, with true at a name where it is so
abbrev pub with_flag : List ℕ → Bool → Members → Members
with_flag name flag members = where_so flag name (boolean true) members

-- a number from 0 on
abbrev pub natural : ℕ → Data
natural n = number (unsigned n)

-- a number with its sign
abbrev pub integer : ℤ → Data
integer n = number (of_integer n)
