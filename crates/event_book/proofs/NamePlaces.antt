-- Looking for the place of a name.
use Rattle.std.proofs.Common.{◌≡◌, ℕ, ◌≤◌, ◌++◌, List, length, take, drop}
use Rattle.std.specs.BTreeSet.{insert_key}
use Rattle.pat_base.specs.declared.name.Name.{Name}
use Rattle.event_book.specs.NameLists.{name_cmp}

-- the names in front of this place come before the name
pub record Passed (name : Name) (names : List Name) (at : ℕ) : Type 0 where
  pub within : at ≤ length names
  pub puts : insert_key name_cmp names name ≡ take at names ++ insert_key name_cmp (drop at names) name
