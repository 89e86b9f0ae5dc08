-- What the options of a member's line say, and how they are spelled.
use Rattle.std.specs.Prelude.{ℕ, ℤ, pos, negsuc, ◌*◌, ◌≡◌, ◌==◌, Bool, true, false, if◌then◌else◌, List, [], ◌∷◌, ◌++◌, Option, Some, None, codes}
use Rattle.std.specs.Fmt.{decimal, signed_decimal}
use Rattle.std.specs.List.{filter, flat_map}
use Rattle.std.specs.Str.{bytes_eq}
use Rattle.pat_base.specs.Host.{host_bytes, local_host}
use Rattle.pat_base.specs.declared.host.Host.{Host}
use Rattle.pat_base.specs.declared.tags.Tags.{Tags}
use Rattle.pat_base.specs.declared.ticks.Ticks.{Ticks}
use Rattle.pat_base.specs.declared.ticks.TheConstants.{TICKS_OF_SECOND}
use Rattle.leader_key.specs.declared.watchdog.Mode.{Mode}
use Rattle.leader_key.specs.declared.watchdog.Mode.TheVariants as modes
use Rattle.member_options.specs.Margins.{unsaid_margin}
use Rattle.member_options.specs.Priorities.{unsaid_priority}
use Rattle.member_options.specs.Ranges.{default_priority, default_margin}
use Rattle.member_options.specs.declared.member_option.MemberOptions.{MemberOptions}
use Rattle.member_options.specs.declared.member_option.MemberOption.{MemberOption}
use Rattle.member_options.specs.declared.member_option.MemberOption.TheVariants as options
use Rattle.member_options.specs.declared.member_option.SaidOptions.{SaidOptions}
use Rattle.member_options.specs.declared.option_name.OptionName.{OptionName}
use Rattle.member_options.specs.declared.option_name.OptionName.TheVariants as names
use Rattle.member_options.specs.declared.ranges.Priority.{Priority}
use Rattle.member_options.specs.declared.ranges.SafetyMargin.{SafetyMargin}
use Rattle.member_options.specs.declared.ranges.SafetyMargin.TheVariants as margins

-- the name of an option
abbrev pub option_name_text : OptionName → List ℕ
option_name_text names.Host = codes "host"
option_name_text names.NoFailover = codes "nofailover"
option_name_text names.NoSync = codes "nosync"
option_name_text names.NoLoadBalance = codes "noloadbalance"
option_name_text names.Priority = codes "priority"
option_name_text names.Watchdog = codes "watchdog"
option_name_text names.Device = codes "device"
option_name_text names.Margin = codes "margin"

-- the word of a mode
abbrev pub mode_text : Mode → List ℕ
mode_text modes.Off = codes "off"
mode_text modes.Automatic = codes "automatic"
mode_text modes.Required = codes "required"

-- the word of a device that works, or doesn't
abbrev pub device_text : Bool → List ℕ
device_text true = codes "ok"
device_text false = codes "broken"

-- the word of a margin: its seconds, or '-1' for half of the lease
abbrev pub margin_text : SafetyMargin → List ℕ
margin_text margins.HalfOfLease = codes "-1"
margin_text (margins.Seconds margin) = decimal margin.seconds

-- a name, '=' and a value
abbrev pub name_and_value : OptionName → List ℕ → List ℕ
name_and_value name value = option_name_text name ++ (61 ∷ value)

-- the word of an option
abbrev pub option_text : MemberOption → List ℕ
option_text (options.Host host) = name_and_value names.Host (host_bytes host)
option_text options.NoFailover = name_and_value names.NoFailover (codes "true")
option_text options.NoSync = name_and_value names.NoSync (codes "true")
option_text options.NoLoadBalance = name_and_value names.NoLoadBalance (codes "true")
option_text (options.Priority priority) = name_and_value names.Priority (signed_decimal priority.number)
option_text (options.Watchdog mode) = name_and_value names.Watchdog (mode_text mode)
option_text (options.Device works) = name_and_value names.Device (device_text works)
option_text (options.Margin margin) = name_and_value names.Margin (margin_text margin)

-- words, each behind one blank
abbrev pub behind_blanks : List (List ℕ) → List ℕ
behind_blanks [] = []
behind_blanks (word ∷ words) = 32 ∷ (word ++ behind_blanks words)

-- what an option is about
abbrev pub name_of_option : MemberOption → OptionName
name_of_option (options.Host host) = names.Host
name_of_option options.NoFailover = names.NoFailover
name_of_option options.NoSync = names.NoSync
name_of_option options.NoLoadBalance = names.NoLoadBalance
name_of_option (options.Priority priority) = names.Priority
name_of_option (options.Watchdog mode) = names.Watchdog
name_of_option (options.Device works) = names.Device
name_of_option (options.Margin margin) = names.Margin

-- all names of options, in order
abbrev pub option_names : List OptionName
option_names = names.Host ∷ names.NoFailover ∷ names.NoSync ∷ names.NoLoadBalance ∷ names.Priority
    ∷ names.Watchdog ∷ names.Device ∷ names.Margin ∷ []

-- the place of a name in that order
abbrev pub option_place : OptionName → ℕ
option_place names.Host = 0
option_place names.NoFailover = 1
option_place names.NoSync = 2
option_place names.NoLoadBalance = 3
option_place names.Priority = 4
option_place names.Watchdog = 5
option_place names.Device = 6
option_place names.Margin = 7

-- two names are one
abbrev pub same_option_name : OptionName → OptionName → Bool
same_option_name first second = option_place first == option_place second

-- the options of this name, in order
abbrev pub options_of_name : OptionName → List MemberOption → List MemberOption
options_of_name name words = filter (λ option. same_option_name name (name_of_option option)) words

-- the option that says this, where anything is said
abbrev pub option_said : {A : Type 0} → (A → MemberOption) → Option A → List MemberOption
option_said option None = []
option_said option (Some x) = option x ∷ []

-- the option of a flag, where it is set
abbrev pub flag_said : MemberOption → Bool → List MemberOption
flag_said option true = option ∷ []
flag_said option false = []

-- the option that says what is said under this name, if anything is
abbrev pub said_by : OptionName → SaidOptions → List MemberOption
said_by names.Host said = option_said options.Host said.host
said_by names.NoFailover said = flag_said options.NoFailover said.nofailover
said_by names.NoSync said = flag_said options.NoSync said.nosync
said_by names.NoLoadBalance said = flag_said options.NoLoadBalance said.noloadbalance
said_by names.Priority said = option_said options.Priority said.priority
said_by names.Watchdog said = option_said options.Watchdog said.watchdog
said_by names.Device said = option_said options.Device said.device_works
said_by names.Margin said = option_said options.Margin said.margin

-- options in any order that say this, each at most once: under each name stands the one option that says it, or none
abbrev pub SayOnce : List MemberOption → SaidOptions → Type 0
SayOnce words said = (name : OptionName) → options_of_name name words ≡ said_by name said

-- no option says anything
abbrev pub nothing_said : SaidOptions
nothing_said = record {
  host = None;
  nofailover = false;
  nosync = false;
  noloadbalance = false;
  priority = None;
  watchdog = None;
  device_works = None;
  margin = None;
}

-- the host that is said, or the default
abbrev pub host_or_default : Option Host → Host
host_or_default None = local_host
host_or_default (Some host) = host

-- the priority that is said, or the default
abbrev pub priority_or_default : Option Priority → Priority
priority_or_default None = default_priority
priority_or_default (Some priority) = priority

-- tags with this priority
abbrev pub tags_with : SaidOptions → Priority → Tags
tags_with said priority = record {
  nofailover = said.nofailover;
  nosync = said.nosync;
  noloadbalance = said.noloadbalance;
  failover_priority = priority.number;
  lowest = priority.lowest;
  highest = priority.highest;
}

-- the tags that are said: no flag and priority 1 where nothing is said of them
abbrev pub tags_or_default : SaidOptions → Tags
tags_or_default said = tags_with said (priority_or_default said.priority)

-- the mode that is said, or the default
abbrev pub mode_or_default : Option Mode → Mode
mode_or_default None = modes.Automatic
mode_or_default (Some mode) = mode

-- whether the device works: as is said, and where nothing is said it does
abbrev pub works_or_default : Option Bool → Bool
works_or_default None = true
works_or_default (Some works) = works

-- the margin of a member whose line says none
abbrev pub default_safety_margin : SafetyMargin
default_safety_margin = margins.Seconds default_margin

-- the margin that is said, or the default
abbrev pub margin_or_default : Option SafetyMargin → SafetyMargin
margin_or_default None = default_safety_margin
margin_or_default (Some margin) = margin

-- what a line declares whose options say this
abbrev pub options_or_default : SaidOptions → MemberOptions
options_or_default said = record {
  host = host_or_default said.host;
  tags = tags_or_default said;
  watchdog = mode_or_default said.watchdog;
  device_works = works_or_default said.device_works;
  margin = margin_or_default said.margin;
}

-- what a line declares without options
abbrev pub unsaid_options : MemberOptions
unsaid_options = options_or_default nothing_said

-- what has to be said of a host: any but the default
abbrev pub host_to_say : Host → Option Host
host_to_say host = if bytes_eq (host_bytes host) (host_bytes local_host) then None else Some host

-- a priority is the default
abbrev pub is_default_priority : ℤ → Bool
is_default_priority (pos number) = number == unsaid_priority
is_default_priority (negsuc less) = false

-- the priority of tags
abbrev pub priority_of : Tags → Priority
priority_of tags = record { number = tags.failover_priority; lowest = tags.lowest; highest = tags.highest }

-- what has to be said of a priority: any but the default
abbrev pub priority_to_say : Priority → Option Priority
priority_to_say priority = if is_default_priority priority.number then None else Some priority

-- what has to be said of a mode: any but the default
abbrev pub mode_to_say : Mode → Option Mode
mode_to_say modes.Off = Some modes.Off
mode_to_say modes.Automatic = None
mode_to_say modes.Required = Some modes.Required

-- what has to be said of a device: that it doesn't work
abbrev pub device_to_say : Bool → Option Bool
device_to_say true = None
device_to_say false = Some false

-- a margin is the default
abbrev pub is_default_margin : SafetyMargin → Bool
is_default_margin margins.HalfOfLease = false
is_default_margin (margins.Seconds margin) = margin.seconds == unsaid_margin

-- what has to be said of a margin: any but the default
abbrev pub margin_to_say : SafetyMargin → Option SafetyMargin
margin_to_say margin = if is_default_margin margin then None else Some margin

-- a margin in ticks, none where it is half of the lease
abbrev pub margin_span : SafetyMargin → Option Ticks
margin_span margins.HalfOfLease = None
margin_span (margins.Seconds margin) = Some (record { 0 = TICKS_OF_SECOND * margin.seconds })

-- what has to be said of what is declared
abbrev pub to_say : MemberOptions → SaidOptions
to_say declared = record {
  host = host_to_say declared.host;
  nofailover = declared.tags.nofailover;
  nosync = declared.tags.nosync;
  noloadbalance = declared.tags.noloadbalance;
  priority = priority_to_say (priority_of declared.tags);
  watchdog = mode_to_say declared.watchdog;
  device_works = device_to_say declared.device_works;
  margin = margin_to_say declared.margin;
}

-- the options that say this, in order
abbrev pub options_saying : SaidOptions → List MemberOption
options_saying said = flat_map (λ name. said_by name said) option_names

-- the options that have to be said, in order
abbrev pub options_to_say : MemberOptions → List MemberOption
options_to_say declared = options_saying (to_say declared)
