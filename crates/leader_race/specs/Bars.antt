-- What bars a member, by rules of which the first that applies counts.
use Rattle.std.specs.Prelude.{Bool, true, false, List, [], ◌∷◌, Option, Some, None}
use Rattle.pat_base.specs.declared.ineligibility.Ineligibility.{Ineligibility}

-- this bars, where it is so
abbrev pub bar_where : Bool → Ineligibility → Option Ineligibility
bar_where false bar = None
bar_where true bar = Some bar

-- what bars by the first of these rules that applies, if one does
abbrev pub first_bar : List (Option Ineligibility) → Option Ineligibility
first_bar [] = None
first_bar (None ∷ rules) = first_bar rules
first_bar (Some bar ∷ rules) = Some bar
