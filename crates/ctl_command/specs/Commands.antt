-- What a line asks for.
use Rattle.std.specs.Prelude.{Option}
use Rattle.pat_base.specs.declared.member_id.MemberId.{MemberId}
use Rattle.ctl_command.specs.Texts.{SettingText}

-- a command, with the texts that it names
pub data CommandText : Type 0 where
  List : CommandText
  History : CommandText
  ShowConfig : CommandText
  Pause : CommandText
  Resume : CommandText
  EditConfig : (setting : SettingText) → CommandText
  Switchover : (leader : MemberId) → (candidate : Option MemberId) → CommandText
  Failover : (candidate : MemberId) → CommandText
  Restart : (member : MemberId) → CommandText
  Reinit : (member : MemberId) → CommandText
