-- Lines that are printed only while messages are traced.
use Rattle.std.specs.Prelude.{ℕ, Bool, true, false, List, Option, Some, None}

-- a line that is printed while messages are traced
abbrev pub traced : Bool → List ℕ → Option (List ℕ)
traced false line = None
traced true line = Some line
