-- What is said and what is at fault, with the texts that they name.
use Rattle.std.specs.Prelude.{ℕ, Bool, List, Option}
use Rattle.pat_base.specs.declared.member_id.MemberId.{MemberId}
use Rattle.ctl_command.specs.declared.ctl_fault.Needed.{Needed}
use Rattle.ctl_command.specs.declared.said.Place.{Place}

-- a setting, by its key and its value
pub record SettingText : Type 0 where
  pub key : List ℕ
  pub value : List ℕ

-- what the words behind a command say
pub record SaidText : Type 0 where
  pub cluster : Bool
  pub member : Option MemberId
  pub leader : Option MemberId
  pub candidate : Option MemberId
  pub setting : Option SettingText
  pub force : Bool
  pub place : Place

-- why words are no command
pub data FaultText : Type 0 where
  NoCommand : FaultText
  Unknown : (word : List ℕ) → FaultText
  Missing : (needed : Needed) → FaultText
  Extra : (word : List ℕ) → FaultText
