-- What the words behind a member's name say, or the first of their faults in the order of faults.
use Rattle.std.specs.Prelude.{ℕ, ◌==◌, nat_lt, ◌&&◌, not, Bool, true, false, if◌then◌else◌, List, [], ◌∷◌, Option, Some, None, is_some, Result, Ok, Err, codes, length}
use Rattle.std.specs.Char.{is_ascii_digit}
use Rattle.std.specs.List.{find, list_all}
use Rattle.std.specs.Option.{ok_or, option_and_then}
use Rattle.std.specs.Str.{bytes_eq}
use Rattle.pat_base.specs.declared.host.Host.{Host}
use Rattle.leader_key.specs.declared.watchdog.Mode.{Mode}
use Rattle.leader_key.specs.declared.watchdog.Mode.TheVariants as modes
use Rattle.script_words.specs.Faults.{on_ok, both}
use Rattle.member_options.specs.Hosts.{host_of}
use Rattle.script_words.specs.Lines.{push_byte, first_at}
use Rattle.script_words.specs.Numbers.{number}
use Rattle.member_options.specs.Options.{option_name_text, option_names, name_of_option, nothing_said, options_or_default}
use Rattle.member_options.specs.Ranges.{margin_of, priority_from_zero, priority_below_zero}
use Rattle.script_words.specs.Words.{cut_at}
use Rattle.script_words.specs.declared.fault.Fault.{Fault}
use Rattle.script_words.specs.declared.fault.Fault.TheVariants as faults
use Rattle.member_options.specs.declared.member_option.MemberOptions.{MemberOptions}
use Rattle.member_options.specs.declared.member_option.MemberOption.{MemberOption}
use Rattle.member_options.specs.declared.member_option.MemberOption.TheVariants as options
use Rattle.member_options.specs.declared.member_option.SaidOptions.{SaidOptions}
use Rattle.member_options.specs.declared.option_name.OptionName.{OptionName}
use Rattle.member_options.specs.declared.option_name.OptionName.TheVariants as names
use Rattle.member_options.specs.declared.ranges.Margin.{Margin}
use Rattle.member_options.specs.declared.ranges.Priority.{Priority}
use Rattle.member_options.specs.declared.ranges.SafetyMargin.{SafetyMargin}
use Rattle.member_options.specs.declared.ranges.SafetyMargin.TheVariants as margins

-- the words between blanks, of which there is always one
abbrev pub words_in : List ℕ → List (List ℕ)
words_in [] = [] ∷ []
words_in (b ∷ bs) = if b == 32 then [] ∷ words_in bs else push_byte b (words_in bs)

-- the words behind a name, if a blank stands behind it
abbrev pub option_words : Option (List ℕ) → List (List ℕ)
option_words None = []
option_words (Some words) = words_in words

-- the option of this name
abbrev pub option_name_of : List ℕ → Option OptionName
option_name_of word = find (λ name. bytes_eq word (option_name_text name)) option_names

-- the bytes before the first '=', and what stands behind it, if there is one
abbrev pub cut_name : List ℕ → List ℕ × Option (List ℕ)
cut_name word = cut_at word (first_at 61 word)

-- a host
abbrev pub host_in : List ℕ → Result Host Fault
host_in value = ok_or (host_of value) faults.BadOption

-- an option whose one value is 'true'
abbrev pub flag_in : MemberOption → List ℕ → Result MemberOption Fault
flag_in option value = if bytes_eq value (codes "true") then Ok option else Err faults.BadOption

-- 'off', 'automatic' or 'required'
abbrev pub mode_in : List ℕ → Result Mode Fault
mode_in value = if bytes_eq value (codes "off") then Ok modes.Off else if bytes_eq value (codes "automatic")
    then Ok modes.Automatic else if bytes_eq value (codes "required") then Ok modes.Required else Err faults.BadOption

-- 'ok' or 'broken'
abbrev pub device_in : List ℕ → Result Bool Fault
device_in value = if bytes_eq value (codes "ok") then Ok true else if bytes_eq value (codes "broken")
    then Ok false else Err faults.BadOption

-- more bytes behind a first digit '0'
abbrev pub has_leading_zero : List ℕ → Bool
has_leading_zero [] = false
has_leading_zero (b ∷ bs) = (b == 48) && nat_lt 0 (length bs)

-- digits, however many
abbrev pub are_digits : List ℕ → Bool
are_digits word = list_all is_ascii_digit word

-- digits without a leading zero, however many
abbrev pub is_decimal : List ℕ → Bool
is_decimal word = nat_lt 0 (length word) && (are_digits word && not (has_leading_zero word))

-- a whole number, however long: digits without a leading zero, or a minus sign and such that aren't '0'
abbrev pub is_whole : List ℕ → Bool
is_whole [] = false
is_whole (b ∷ bs) = if b == 45 then is_decimal bs && not (bytes_eq bs (codes "0")) else is_decimal (b ∷ bs)

-- why a value is no number in its range: whole numbers are out of it
abbrev pub no_number : List ℕ → Fault
no_number value = if is_whole value then faults.BadNumber else faults.BadOption

-- the priority that a value is, if it is one: a number, or a minus sign and one above 0
abbrev pub priority_found : List ℕ → Option Priority
priority_found [] = None
priority_found (b ∷ bs) = if b == 45 then option_and_then priority_below_zero (number bs)
    else option_and_then priority_from_zero (number (b ∷ bs))

-- a number in the range of priorities
abbrev pub priority_in : List ℕ → Result Priority Fault
priority_in value = ok_or (priority_found value) (no_number value)

-- a margin in seconds, from its number
abbrev pub seconds_by_number : List ℕ → Option ℕ → Result Margin Fault
seconds_by_number value None = Err (no_number value)
seconds_by_number value (Some n) = ok_or (margin_of n) faults.BadNumber

-- a number of seconds in the range of margins
abbrev pub seconds_in : List ℕ → Result Margin Fault
seconds_in value = seconds_by_number value (number value)

-- a margin: '-1' for half of the lease, or a number of seconds
abbrev pub margin_in : List ℕ → Result SafetyMargin Fault
margin_in value = if bytes_eq value (codes "-1") then Ok margins.HalfOfLease
    else on_ok (seconds_in value) (λ margin. Ok (margins.Seconds margin))

-- the option of this name and this value
abbrev pub option_of : OptionName → List ℕ → Result MemberOption Fault
option_of names.Host value = on_ok (host_in value) (λ host. Ok (options.Host host))
option_of names.NoFailover value = flag_in options.NoFailover value
option_of names.NoSync value = flag_in options.NoSync value
option_of names.NoLoadBalance value = flag_in options.NoLoadBalance value
option_of names.Priority value = on_ok (priority_in value) (λ priority. Ok (options.Priority priority))
option_of names.Watchdog value = on_ok (mode_in value) (λ mode. Ok (options.Watchdog mode))
option_of names.Device value = on_ok (device_in value) (λ works. Ok (options.Device works))
option_of names.Margin value = on_ok (margin_in value) (λ margin. Ok (options.Margin margin))

-- an option, if its name is known and '=' stands behind it
abbrev pub known_option : Option OptionName → Option (List ℕ) → Result MemberOption Fault
known_option None value = Err faults.BadOption
known_option (Some name) None = Err faults.BadOption
known_option (Some name) (Some value) = option_of name value

-- the option that a word is
abbrev pub option_in : List ℕ → Result MemberOption Fault
option_in word = known_option (option_name_of (cut_name word).0) (cut_name word).1

-- something is said under this name
abbrev pub is_said : OptionName → SaidOptions → Bool
is_said names.Host said = is_some said.host
is_said names.NoFailover said = said.nofailover
is_said names.NoSync said = said.nosync
is_said names.NoLoadBalance said = said.noloadbalance
is_said names.Priority said = is_some said.priority
is_said names.Watchdog said = is_some said.watchdog
is_said names.Device said = is_some said.device_works
is_said names.Margin said = is_some said.margin

-- what is said, with what this option says
abbrev pub saying : MemberOption → SaidOptions → SaidOptions
saying (options.Host host) said = record said { host = Some host }
saying options.NoFailover said = record said { nofailover = true }
saying options.NoSync said = record said { nosync = true }
saying options.NoLoadBalance said = record said { noloadbalance = true }
saying (options.Priority priority) said = record said { priority = Some priority }
saying (options.Watchdog mode) said = record said { watchdog = Some mode }
saying (options.Device works) said = record said { device_works = Some works }
saying (options.Margin margin) said = record said { margin = Some margin }

-- one more option behind what is said
abbrev pub with_option : SaidOptions → MemberOption → Result SaidOptions Fault
with_option said option = if is_said (name_of_option option) said then Err faults.Duplicate else Ok (saying option said)

-- one more word behind others
abbrev pub with_word : Result SaidOptions Fault → List ℕ → Result SaidOptions Fault
with_word outcome word = on_ok (both outcome (option_in word)) (λ p. with_option p.0 p.1)

-- more words behind others
abbrev pub with_words : Result SaidOptions Fault → List (List ℕ) → Result SaidOptions Fault
with_words outcome [] = outcome
with_words outcome (word ∷ words) = with_words (with_word outcome word) words

-- what the words behind a name say
abbrev pub said_in : Option (List ℕ) → Result SaidOptions Fault
said_in rest = with_words (Ok nothing_said) (option_words rest)

-- what a member's line declares beside the name
abbrev pub options_in : Option (List ℕ) → Result MemberOptions Fault
options_in rest = on_ok (said_in rest) (λ said. Ok (options_or_default said))
