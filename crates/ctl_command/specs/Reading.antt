-- What the words of a line ask for, or the first of them that is at fault, or else what they lack.
use Rattle.std.specs.Prelude.{ℕ, nat_eq, ◌&&◌, not, Bool, true, false, if◌then◌else◌, List, [], ◌∷◌, Option, Some, None, is_some, is_none, Result, Ok, Err, codes}
use Rattle.std.specs.List.{starts_with}
use Rattle.std.specs.Str.{bytes_eq}
use Rattle.pat_base.specs.Name.{name_bytes}
use Rattle.pat_base.specs.declared.host.Host.{Host}
use Rattle.pat_base.specs.declared.member_id.MemberId.{MemberId}
use Rattle.pat_base.specs.declared.name.Name.{Name}
use Rattle.pat_base.specs.MemberNames.{member_named}
use Rattle.ctl_command.specs.Commands.{CommandText}
use Rattle.ctl_command.specs.Commands as commands
use Rattle.ctl_command.specs.Settings.{setting_in}
use Rattle.ctl_command.specs.Tables.{command_named, option_named, takes_member}
use Rattle.ctl_command.specs.Texts.{SettingText, SaidText, FaultText, Unknown, Missing, Extra, NoCommand}
use Rattle.ctl_command.specs.Words.{equals_sign, cut_once}
use Rattle.ctl_command.specs.declared.command_name.CommandName.{CommandName}
use Rattle.ctl_command.specs.declared.command_name.CommandName.TheVariants as names
use Rattle.ctl_command.specs.declared.ctl_fault.Needed.TheVariants as needs
use Rattle.ctl_command.specs.declared.option_name.OptionName.{OptionName}
use Rattle.ctl_command.specs.declared.option_name.OptionName.TheVariants as options
use Rattle.ctl_command.specs.declared.option_name.ValueOption.{ValueOption}
use Rattle.ctl_command.specs.declared.option_name.ValueOption.TheVariants as values
use Rattle.ctl_command.specs.declared.said.Place.{Place}
use Rattle.ctl_command.specs.declared.said.Place.TheVariants as places

-- a word is an option, known or not
abbrev pub is_option : List ℕ → Bool
is_option word = starts_with nat_eq word (codes "--")

-- something is said by an option
abbrev pub is_said : ValueOption → SaidText → Bool
is_said values.Leader said = is_some said.leader
is_said values.Candidate said = is_some said.candidate
is_said values.Set said = is_some said.setting

-- who leads
abbrev pub with_leader : SaidText → List ℕ → Option MemberId → Result SaidText FaultText
with_leader said value None = Err (Unknown value)
with_leader said value (Some member) = Ok (record said { leader = Some member; place = places.Options })

-- who is to lead
abbrev pub with_candidate : SaidText → List ℕ → Option MemberId → Result SaidText FaultText
with_candidate said value None = Err (Unknown value)
with_candidate said value (Some member) = Ok (record said { candidate = Some member; place = places.Options })

-- what is changed
abbrev pub with_setting : SaidText → List ℕ → Option SettingText → Result SaidText FaultText
with_setting said value None = Err (Unknown value)
with_setting said value (Some setting) = Ok (record said { setting = Some setting; place = places.Options })

-- the value of an option; a bad one is named alone
abbrev pub with_value : List (Name × Host) → ValueOption → SaidText → List ℕ → Result SaidText FaultText
with_value members values.Leader said value = with_leader said value (member_named members value)
with_value members values.Candidate said value = with_candidate said value (member_named members value)
with_value members values.Set said value = with_setting said value (setting_in value)

-- the next word is the value of an option
abbrev pub awaiting : ValueOption → SaidText → SaidText
awaiting option said = record said { place = places.Value option }

-- an option, with its value where that stands in the same word
abbrev pub with_new_option : List (Name × Host) → ValueOption → SaidText → Option (List ℕ) → Result SaidText FaultText
with_new_option members option said None = Ok (awaiting option said)
with_new_option members option said (Some value) = with_value members option said value

-- the same, where it may stand there again
abbrev pub with_value_option : List (Name × Host) → ValueOption → SaidText → List ℕ → Option (List ℕ)
    → Result SaidText FaultText
with_value_option members option said word value =
    if is_said option said then Err (Extra word) else with_new_option members option said value

-- '--force', which has no value and stands there once
abbrev pub with_force : SaidText → List ℕ → Option (List ℕ) → Result SaidText FaultText
with_force said word (Some value) = Err (Unknown word)
with_force said word None =
    if said.force then Err (Extra word) else Ok (record said { force = true; place = places.Options })

-- an option that the command takes, or none
abbrev pub with_known_option : List (Name × Host) → Option OptionName → SaidText → List ℕ → Option (List ℕ)
    → Result SaidText FaultText
with_known_option members None said word value = Err (Unknown word)
with_known_option members (Some options.Force) said word value = with_force said word value
with_known_option members (Some (options.Value option)) said word value =
    with_value_option members option said word value

-- a word that is an option, known or not
abbrev pub with_option : CommandName → List (Name × Host) → SaidText → List ℕ → Result SaidText FaultText
with_option command members said word = with_known_option members
    (option_named command (cut_once equals_sign word).0) said word (cut_once equals_sign word).1

-- the cluster's name
abbrev pub with_cluster : Name → SaidText → List ℕ → Result SaidText FaultText
with_cluster cluster said word =
    if bytes_eq word (name_bytes cluster) then Ok (record said { cluster = true }) else Err (Unknown word)

-- the member's name
abbrev pub with_member : SaidText → List ℕ → Option MemberId → Result SaidText FaultText
with_member said word None = Err (Unknown word)
with_member said word (Some member) = Ok (record said { member = Some member })

-- the next name is that of a member
abbrev pub awaits_member : CommandName → SaidText → Bool
awaits_member command said = takes_member command && is_none said.member

-- a word behind the cluster's name, before the first option
abbrev pub behind_cluster : CommandName → List (Name × Host) → SaidText → List ℕ → Result SaidText FaultText
behind_cluster command members said word =
    if awaits_member command said then with_member said word (member_named members word) else Err (Extra word)

-- a word that is no option, before the first option
abbrev pub with_name : CommandName → Name → List (Name × Host) → SaidText → List ℕ → Result SaidText FaultText
with_name command cluster members said word =
    if said.cluster then behind_cluster command members said word else with_cluster cluster said word

-- a word before the first option, or that option
abbrev pub among_names : CommandName → Name → List (Name × Host) → SaidText → List ℕ → Result SaidText FaultText
among_names command cluster members said word =
    if is_option word then with_option command members said word else with_name command cluster members said word

-- a word behind an option, and not as its value
abbrev pub among_options : CommandName → List (Name × Host) → SaidText → List ℕ → Result SaidText FaultText
among_options command members said word =
    if is_option word then with_option command members said word else Err (Extra word)

-- a word at a place
abbrev pub at_place : CommandName → Name → List (Name × Host) → Place → SaidText → List ℕ → Result SaidText FaultText
at_place command cluster members places.Names said word = among_names command cluster members said word
at_place command cluster members places.Options said word = among_options command members said word
at_place command cluster members (places.Value option) said word = with_value members option said word

-- one more word
abbrev pub with_word : CommandName → Name → List (Name × Host) → SaidText → List ℕ → Result SaidText FaultText
with_word command cluster members said word = at_place command cluster members said.place said word

-- one more word, where no word before is at fault
abbrev pub with_next : CommandName → Name → List (Name × Host) → Result SaidText FaultText → List ℕ
    → Result SaidText FaultText
with_next command cluster members (Err fault) word = Err fault
with_next command cluster members (Ok said) word = with_word command cluster members said word

-- more words
abbrev pub with_words : CommandName → Name → List (Name × Host) → Result SaidText FaultText → List (List ℕ)
    → Result SaidText FaultText
with_words command cluster members outcome [] = outcome
with_words command cluster members outcome (word ∷ words) =
    with_words command cluster members (with_next command cluster members outcome word) words

-- no word says anything
abbrev pub nothing_said : SaidText
nothing_said = record {
  cluster = false;
  member = None;
  leader = None;
  candidate = None;
  setting = None;
  force = false;
  place = places.Names;
}

-- what the words behind a command say
abbrev pub said_in : CommandName → Name → List (Name × Host) → List (List ℕ) → Result SaidText FaultText
said_in command cluster members words = with_words command cluster members (Ok nothing_said) words

-- 'edit-config' needs a setting
abbrev pub edit_config : Option SettingText → Result CommandText FaultText
edit_config None = Err (Missing (needs.Value values.Set))
edit_config (Some setting) = Ok (commands.EditConfig setting)

-- 'switchover' needs a leader
abbrev pub switchover : Option MemberId → Option MemberId → Result CommandText FaultText
switchover None candidate = Err (Missing (needs.Value values.Leader))
switchover (Some leader) candidate = Ok (commands.Switchover leader candidate)

-- 'failover' needs a candidate
abbrev pub failover : Option MemberId → Result CommandText FaultText
failover None = Err (Missing (needs.Value values.Candidate))
failover (Some candidate) = Ok (commands.Failover candidate)

-- 'restart' needs a member
abbrev pub restart : Option MemberId → Result CommandText FaultText
restart None = Err (Missing needs.Member)
restart (Some member) = Ok (commands.Restart member)

-- 'reinit' needs a member
abbrev pub reinit : Option MemberId → Result CommandText FaultText
reinit None = Err (Missing needs.Member)
reinit (Some member) = Ok (commands.Reinit member)

-- the command of what is said
abbrev pub built : CommandName → SaidText → Result CommandText FaultText
built names.List said = Ok commands.List
built names.History said = Ok commands.History
built names.ShowConfig said = Ok commands.ShowConfig
built names.Pause said = Ok commands.Pause
built names.Resume said = Ok commands.Resume
built names.EditConfig said = edit_config said.setting
built names.Switchover said = switchover said.leader said.candidate
built names.Failover said = failover said.candidate
built names.Restart said = restart said.member
built names.Reinit said = reinit said.member

-- the cluster's name is required, and lacks
abbrev pub lacks_cluster : CommandName → SaidText → Bool
lacks_cluster command said = takes_member command && not said.cluster

-- a command, if no option stands at the end without its value
abbrev pub at_end : Place → CommandText → Result CommandText FaultText
at_end places.Names command = Ok command
at_end places.Options command = Ok command
at_end (places.Value option) command = Err (Missing (needs.Value option))

-- a command that lacks nothing else
abbrev pub ended : Place → Result CommandText FaultText → Result CommandText FaultText
ended place (Err fault) = Err fault
ended place (Ok command) = at_end place command

-- the command of what is said, or the first thing that it lacks
abbrev pub finished : CommandName → SaidText → Result CommandText FaultText
finished command said =
    if lacks_cluster command said then Err (Missing needs.Cluster) else ended said.place (built command said)

-- what is asked for, where no word is at fault
abbrev pub if_said : CommandName → Result SaidText FaultText → Result CommandText FaultText
if_said command (Err fault) = Err fault
if_said command (Ok said) = finished command said

-- a command, if the first word is one
abbrev pub command_by : Name → List (Name × Host) → Option CommandName → List ℕ → List (List ℕ)
    → Result CommandText FaultText
command_by cluster members None word words = Err (Unknown word)
command_by cluster members (Some command) word words = if_said command (said_in command cluster members words)

-- what the words ask for
abbrev pub command_of : Name → List (Name × Host) → List (List ℕ) → Result CommandText FaultText
command_of cluster members [] = Err NoCommand
command_of cluster members (word ∷ words) = command_by cluster members (command_named word) word words
