-- What laws of what is asked for say.
use Rattle.std.specs.Prelude.{ℕ, Bool, true, false, List, Contains, IsTrue}
use Rattle.std.specs.Map.{keys_of}
use Rattle.rest_message.specs.declared.verb.Verb.{Verb}
use Rattle.rest_message.specs.declared.verb.Verb.TheVariants.{Get, Head, Options}
use Rattle.rest_paths.specs.declared.asking.Ask.{Ask}
use Rattle.rest_paths.specs.declared.asking.Ask.TheVariants.{Change}
use Rattle.rest_paths.specs.Paths.{path_table}

-- a path is one of the table
abbrev pub IsKnown : List ℕ → Type 0
IsKnown path = Contains (keys_of path_table) path

-- whether a method is safe (RFC 9110, section 9.2.1)
abbrev pub is_safe : Verb → Bool
is_safe Get = true
is_safe Head = true
is_safe Options = true
is_safe _ = false

-- a method is safe
abbrev pub IsSafe : Verb → Type 0
IsSafe verb = IsTrue (is_safe verb)

-- whether something is to be changed
abbrev pub changes_something : Ask → Bool
changes_something (Change change) = true
changes_something _ = false
