-- What a command, a fault and what is said stand for: their texts.
use Rattle.std.specs.Prelude.{option_map, Result, Ok, Err}
use Rattle.ctl_command.specs.Commands.{CommandText}
use Rattle.ctl_command.specs.Commands as commands
use Rattle.ctl_command.specs.Settings.{setting_text}
use Rattle.ctl_command.specs.Texts.{SaidText, FaultText}
use Rattle.ctl_command.specs.Texts as texts
use Rattle.ctl_command.specs.declared.command.Command.{Command}
use Rattle.ctl_command.specs.declared.command.Command.TheVariants as words
use Rattle.ctl_command.specs.declared.ctl_fault.CtlFault.{CtlFault}
use Rattle.ctl_command.specs.declared.ctl_fault.CtlFault.TheVariants as faults
use Rattle.ctl_command.specs.declared.said.Said.{Said}

-- what is said
abbrev pub seen_said : Said → SaidText
seen_said said = record {
  cluster = said.cluster;
  member = said.member;
  leader = said.leader;
  candidate = said.candidate;
  setting = option_map setting_text said.setting;
  force = said.force;
  place = said.place;
}

-- a fault
abbrev pub seen_fault : CtlFault → FaultText
seen_fault faults.NoCommand = texts.NoCommand
seen_fault (faults.Unknown word) = texts.Unknown word.now
seen_fault (faults.Missing needed) = texts.Missing needed
seen_fault (faults.Extra word) = texts.Extra word.now

-- a command
abbrev pub seen_command : Command → CommandText
seen_command words.List = commands.List
seen_command words.History = commands.History
seen_command words.ShowConfig = commands.ShowConfig
seen_command words.Pause = commands.Pause
seen_command words.Resume = commands.Resume
seen_command (words.EditConfig setting) = commands.EditConfig (setting_text setting)
seen_command (words.Switchover leader candidate) = commands.Switchover leader candidate
seen_command (words.Failover candidate) = commands.Failover candidate
seen_command (words.Restart member) = commands.Restart member
seen_command (words.Reinit member) = commands.Reinit member

-- what is said, or a fault
abbrev pub seen_outcome : Result Said CtlFault → Result SaidText FaultText
seen_outcome (Ok said) = Ok (seen_said said)
seen_outcome (Err fault) = Err (seen_fault fault)

-- a command, or a fault
abbrev pub seen_result : Result Command CtlFault → Result CommandText FaultText
seen_result (Ok command) = Ok (seen_command command)
seen_result (Err fault) = Err (seen_fault fault)
