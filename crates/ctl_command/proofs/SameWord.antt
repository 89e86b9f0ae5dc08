-- An option with its value in one word or in two.
use Rattle.std.proofs.Common.{◌≡◌, ℕ, ◌<◌, nat_lt, true, false, cond, List, [], ◌∷◌, ◌++◌, length, Option, Some, None, option_map, Ok, Err, refl, ◌∙◌, ap, sym, arith, length-append}
use Rattle.std.specs.List.{list_any, position_or_len}
use Rattle.std.proofs.Math.Seq.{take-append_seam, drop-append-add}
use Rattle.std.proofs.lemmas.Bool.{lt-ltb}
use Rattle.pat_base.specs.declared.host.Host.{Host}
use Rattle.pat_base.specs.declared.member_id.MemberId.{MemberId}
use Rattle.pat_base.specs.declared.name.Name.{Name}
use Rattle.ctl_command.specs.Laws.{awaits_value, joined}
use Rattle.pat_base.specs.MemberNames.{member_named}
use Rattle.ctl_command.specs.Reading.{is_option, is_said, with_leader, with_candidate, with_setting, with_value, with_value_option, awaiting, with_known_option, with_option, with_word, with_next, with_words, said_in, if_said, command_of}
use Rattle.ctl_command.specs.Settings.{setting_in}
use Rattle.ctl_command.specs.Tables.{command_named, option_named, value_option_named, option_text}
use Rattle.ctl_command.specs.Texts.{SettingText, SaidText, Extra}
use Rattle.ctl_command.specs.Words.{equals_sign, is_byte, cut_once}
use Rattle.ctl_command.proofs.ForceAtEnd.{neither}
use Rattle.ctl_command.proofs.OptionOrder.{place-option, behind-front}
use Rattle.ctl_command.specs.declared.command_name.CommandName.{CommandName}
use Rattle.ctl_command.specs.declared.option_name.OptionName.TheVariants as options
use Rattle.ctl_command.specs.declared.option_name.ValueOption.{ValueOption}
use Rattle.ctl_command.specs.declared.option_name.ValueOption.TheVariants as values

-- where '=' stands behind a name that has none
mark-place : (name value : List ℕ) → list_any (is_byte equals_sign) name ≡ false
    → position_or_len (is_byte equals_sign) (name ++ equals_sign ∷ value) ≡ length name
mark-place [] value h = refl
mark-place (b ∷ name) value h =
    let parts = neither (is_byte equals_sign b) (list_any (is_byte equals_sign) name) h in
    rw (parts.0, mark-place name value parts.1) (omega arith)

-- a name without '=' and a value, cut apart again
cut-mark : (name value : List ℕ) → list_any (is_byte equals_sign) name ≡ false
    → cut_once equals_sign (name ++ equals_sign ∷ value) ≡ (name, Some value)
cut-mark name value h =
    let whole : List ℕ = name ++ equals_sign ∷ value in
    let place : position_or_len (is_byte equals_sign) whole ≡ length name = mark-place name value h in
    let within : length name < length whole = omega (arith, length-append name (equals_sign ∷ value)) in
    let test : nat_lt (length name) (length whole) ≡ true = lt-ltb (length name) (length whole) within in
    rw (place, test, take-append_seam name (equals_sign ∷ value), drop-append-add name (equals_sign ∷ value) 1) refl

unmarked : (option : ValueOption) → list_any (is_byte equals_sign) (option_text option) ≡ false
unmarked values.Leader = refl
unmarked values.Candidate = refl
unmarked values.Set = refl

text-option : (option : ValueOption) → is_option (option_text option) ≡ true
text-option values.Leader = refl
text-option values.Candidate = refl
text-option values.Set = refl

joined-option : (option : ValueOption) (value : List ℕ) → is_option (joined option value) ≡ true
joined-option values.Leader value = refl
joined-option values.Candidate value = refl
joined-option values.Set value = refl

cut-text : (option : ValueOption) → cut_once equals_sign (option_text option) ≡ (option_text option, None)
cut-text values.Leader = refl
cut-text values.Candidate = refl
cut-text values.Set = refl

text-named : (command : CommandName) (option : ValueOption)
    → value_option_named command (option_text option) ≡ Some option
    → option_named command (option_text option) ≡ Some (options.Value option)
text-named command values.Leader h = ap (option_map (λ o. options.Value o)) h
text-named command values.Candidate h = ap (option_map (λ o. options.Value o)) h
text-named command values.Set h = ap (option_map (λ o. options.Value o)) h

-- an option that is cut like this, where it isn't there yet
cut-read : (command : CommandName) (members : List (Name × Host)) (option : ValueOption) (said : SaidText)
    (word : List ℕ) (value : Option (List ℕ)) → value_option_named command (option_text option) ≡ Some option
    → cut_once equals_sign word ≡ (option_text option, value)
    → with_option command members said word ≡ with_value_option members option said word value
cut-read command members option said word value named cut =
    ap (λ c. with_known_option members (option_named command c.0) said word c.1) cut
    ∙ ap (λ o. with_known_option members o said word value) (text-named command option named)

leader-place : (option : ValueOption) (said : SaidText) (value : List ℕ) (member : Option MemberId)
    → with_leader (awaiting option said) value member ≡ with_leader said value member
leader-place option said value None = refl
leader-place option said value (Some member) = refl

candidate-place : (option : ValueOption) (said : SaidText) (value : List ℕ) (member : Option MemberId)
    → with_candidate (awaiting option said) value member ≡ with_candidate said value member
candidate-place option said value None = refl
candidate-place option said value (Some member) = refl

setting-place : (option : ValueOption) (said : SaidText) (value : List ℕ) (setting : Option SettingText)
    → with_setting (awaiting option said) value setting ≡ with_setting said value setting
setting-place option said value None = refl
setting-place option said value (Some setting) = refl

value-place : (members : List (Name × Host)) (option : ValueOption) (said : SaidText) (value : List ℕ)
    → with_value members option (awaiting option said) value ≡ with_value members option said value
value-place members values.Leader said value = leader-place values.Leader said value (member_named members value)
value-place members values.Candidate said value =
    candidate-place values.Candidate said value (member_named members value)
value-place members values.Set said value = setting-place values.Set said value (setting_in value)

-- an option, then its value
apart-read : (command : CommandName) (cluster : Name) (members : List (Name × Host)) (option : ValueOption)
    (said : SaidText) (value : List ℕ) → value_option_named command (option_text option) ≡ Some option
    → awaits_value said.place ≡ false → is_said option said ≡ false
    → with_next command cluster members (with_word command cluster members said (option_text option)) value
    ≡ with_value members option said value
apart-read command cluster members option said value named k anew =
    ap (λ o. with_next command cluster members o value)
    (place-option command cluster members said.place said (option_text option) (text-option option) k
    ∙ cut-read command members option said (option_text option) None named (cut-text option)
    ∙ ap (λ test. cond test (Err (Extra (option_text option))) (Ok (awaiting option said))) anew)
    ∙ value-place members option said value

-- an option with its value
joined-read : (command : CommandName) (cluster : Name) (members : List (Name × Host)) (option : ValueOption)
    (said : SaidText) (value : List ℕ) → value_option_named command (option_text option) ≡ Some option
    → awaits_value said.place ≡ false → is_said option said ≡ false
    → with_word command cluster members said (joined option value) ≡ with_value members option said value
joined-read command cluster members option said value named k anew =
    place-option command cluster members said.place said (joined option value) (joined-option option value) k
    ∙ cut-read command members option said (joined option value) (Some value) named
    (cut-mark (option_text option) value (unmarked option))
    ∙ ap (λ test. cond test (Err (Extra (joined option value))) (with_value members option said value)) anew

pub same-word : (cluster : Name) (members : List (Name × Host)) (command : CommandName) (word : List ℕ)
    (front back : List (List ℕ)) (option : ValueOption) (value : List ℕ) (said : SaidText)
    → command_named word ≡ Some command → value_option_named command (option_text option) ≡ Some option
    → said_in command cluster members front ≡ Ok said → awaits_value said.place ≡ false → is_said option said ≡ false
    → command_of cluster members (word ∷ (front ++ option_text option ∷ value ∷ back))
    ≡ command_of cluster members (word ∷ (front ++ joined option value ∷ back))
same-word cluster members command word front back option value said is named read k anew =
    behind-front command cluster members word front (option_text option ∷ value ∷ back) said is read
    ∙ ap (λ o. if_said command (with_words command cluster members o back))
    (apart-read command cluster members option said value named k anew)
    ∙ sym (ap (λ o. if_said command (with_words command cluster members o back))
    (joined-read command cluster members option said value named k anew))
    ∙ sym (behind-front command cluster members word front (joined option value ∷ back) said is read)
