-- The table of commands and that of options.
use Rattle.std.specs.Prelude.{ℕ, Bool, true, false, if◌then◌else◌, List, [], ◌∷◌, Option, Some, option_map, codes}
use Rattle.std.specs.List.{find}
use Rattle.std.specs.Str.{bytes_eq}
use Rattle.ctl_command.specs.declared.command_name.CommandName.{CommandName}
use Rattle.ctl_command.specs.declared.command_name.CommandName.TheVariants as names
use Rattle.ctl_command.specs.declared.ctl_fault.Needed.{Needed}
use Rattle.ctl_command.specs.declared.ctl_fault.Needed.TheVariants as needs
use Rattle.ctl_command.specs.declared.option_name.OptionName.{OptionName}
use Rattle.ctl_command.specs.declared.option_name.OptionName.TheVariants as options
use Rattle.ctl_command.specs.declared.option_name.ValueOption.{ValueOption}
use Rattle.ctl_command.specs.declared.option_name.ValueOption.TheVariants as values

-- all commands
abbrev pub commands : List CommandName
commands = names.List ∷ names.History ∷ names.ShowConfig ∷ names.Pause ∷ names.Resume ∷ names.EditConfig
    ∷ names.Switchover ∷ names.Failover ∷ names.Restart ∷ names.Reinit ∷ []

-- the word of a command
abbrev pub command_text : CommandName → List ℕ
command_text names.List = codes "list"
command_text names.History = codes "history"
command_text names.ShowConfig = codes "show-config"
command_text names.Pause = codes "pause"
command_text names.Resume = codes "resume"
command_text names.EditConfig = codes "edit-config"
command_text names.Switchover = codes "switchover"
command_text names.Failover = codes "failover"
command_text names.Restart = codes "restart"
command_text names.Reinit = codes "reinit"

-- the command of a word
abbrev pub command_named : List ℕ → Option CommandName
command_named word = find (λ command. bytes_eq word (command_text command)) commands

-- the options with a value that a command takes
abbrev pub value_options : CommandName → List ValueOption
value_options names.EditConfig = values.Set ∷ []
value_options names.Switchover = values.Leader ∷ values.Candidate ∷ []
value_options names.Failover = values.Candidate ∷ []
value_options _ = []

-- a command takes the name of a member behind that of the cluster, and needs both
abbrev pub takes_member : CommandName → Bool
takes_member names.Restart = true
takes_member names.Reinit = true
takes_member _ = false

-- the word of an option that takes a value
abbrev pub option_text : ValueOption → List ℕ
option_text values.Leader = codes "--leader"
option_text values.Candidate = codes "--candidate"
option_text values.Set = codes "--set"

-- the word of the option that every command takes
abbrev pub force_text : List ℕ
force_text = codes "--force"

-- the option with a value that a command takes under a name
abbrev pub value_option_named : CommandName → List ℕ → Option ValueOption
value_option_named command name = find (λ option. bytes_eq name (option_text option)) (value_options command)

-- the option that a command takes under a name
abbrev pub option_named : CommandName → List ℕ → Option OptionName
option_named command name = if bytes_eq name force_text then Some options.Force
    else option_map (λ option. options.Value option) (value_option_named command name)

-- what lacks, as the usage of a command names it
abbrev pub needed_text : Needed → List ℕ
needed_text needs.Cluster = codes "CLUSTER"
needed_text needs.Member = codes "M"
needed_text (needs.Value option) = option_text option
