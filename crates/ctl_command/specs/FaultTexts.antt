-- How faults are printed.
use Rattle.std.specs.Prelude.{ℕ, List, ◌++◌, codes}
use Rattle.ctl_command.specs.Tables.{needed_text}
use Rattle.ctl_command.specs.Texts.{FaultText}
use Rattle.ctl_command.specs.Texts as texts

-- what is printed of a fault
abbrev pub fault_text : FaultText → List ℕ
fault_text texts.NoCommand = codes "NoCommand"
fault_text (texts.Unknown word) = codes "Unknown(" ++ (word ++ codes ")")
fault_text (texts.Missing needed) = codes "Missing(" ++ (needed_text needed ++ codes ")")
fault_text (texts.Extra word) = codes "Extra(" ++ (word ++ codes ")")
