-- '--force' at the end of a line.
use Rattle.std.proofs.Common.{◌≡◌, ℕ, ◌||◌, Bool, true, false, cond, List, [], ◌∷◌, ◌++◌, Option, Some, None, Result, Ok, Err, refl, ◌∙◌, ap, sym, option_map}
use Rattle.std.specs.Str.{bytes_eq}
use Rattle.std.proofs.lemmas.Slice.Eq.{bytes_eq-Decides}
use Rattle.pat_base.specs.declared.host.Host.{Host}
use Rattle.pat_base.specs.declared.member_id.MemberId.{MemberId}
use Rattle.pat_base.specs.declared.name.Name.{Name}
use Rattle.pat_base.specs.Name.{name_bytes}
use Rattle.ctl_command.specs.Commands.{CommandText}
use Rattle.ctl_command.specs.Laws.{is_among, awaits_value}
use Rattle.pat_base.specs.MemberNames.{member_named}
use Rattle.ctl_command.specs.Reading.{is_option, is_said, with_leader, with_candidate, with_setting, with_value, with_new_option, with_force, with_known_option, with_option, with_member, awaits_member, with_name, at_place, with_next, with_words, nothing_said, said_in, built, lacks_cluster, ended, finished, if_said, command_by, command_of}
use Rattle.ctl_command.specs.Settings.{setting_in}
use Rattle.ctl_command.specs.Tables.{command_named, option_named, value_option_named, force_text}
use Rattle.ctl_command.specs.Texts.{SettingText, SaidText, FaultText, Missing, Extra}
use Rattle.ctl_command.specs.Words.{equals_sign, cut_once}
use Rattle.ctl_command.proofs.WordByWord.{with_words-append}
use Rattle.ctl_command.specs.declared.command_name.CommandName.{CommandName}
use Rattle.ctl_command.specs.declared.command_name.CommandName.TheVariants as names
use Rattle.ctl_command.specs.declared.ctl_fault.Needed.TheVariants as needs
use Rattle.ctl_command.specs.declared.option_name.OptionName.{OptionName}
use Rattle.ctl_command.specs.declared.option_name.OptionName.TheVariants as options
use Rattle.ctl_command.specs.declared.option_name.ValueOption.{ValueOption}
use Rattle.ctl_command.specs.declared.option_name.ValueOption.TheVariants as values
use Rattle.ctl_command.specs.declared.said.Place.{Place}
use Rattle.ctl_command.specs.declared.said.Place.TheVariants as places

-- '--force' is said
abbrev has_force : Result SaidText FaultText → Bool
has_force (Ok said) = said.force
has_force (Err fault) = false

keeps-test : (test : Bool) (first second : Result SaidText FaultText) → has_force first ≡ false
    → has_force second ≡ false → has_force (cond test first second) ≡ false
keeps-test true first second h k = h
keeps-test false first second h k = k

leader-keeps : (said : SaidText) (value : List ℕ) (member : Option MemberId) → said.force ≡ false
    → has_force (with_leader said value member) ≡ false
leader-keeps said value None h = refl
leader-keeps said value (Some member) h = h

candidate-keeps : (said : SaidText) (value : List ℕ) (member : Option MemberId) → said.force ≡ false
    → has_force (with_candidate said value member) ≡ false
candidate-keeps said value None h = refl
candidate-keeps said value (Some member) h = h

setting-keeps : (said : SaidText) (value : List ℕ) (setting : Option SettingText) → said.force ≡ false
    → has_force (with_setting said value setting) ≡ false
setting-keeps said value None h = refl
setting-keeps said value (Some setting) h = h

value-keeps : (members : List (Name × Host)) (option : ValueOption) (said : SaidText) (value : List ℕ)
    → said.force ≡ false → has_force (with_value members option said value) ≡ false
value-keeps members values.Leader said value h = leader-keeps said value (member_named members value) h
value-keeps members values.Candidate said value h = candidate-keeps said value (member_named members value) h
value-keeps members values.Set said value h = setting-keeps said value (setting_in value) h

new-option-keeps : (members : List (Name × Host)) (option : ValueOption) (said : SaidText) (value : Option (List ℕ))
    → said.force ≡ false → has_force (with_new_option members option said value) ≡ false
new-option-keeps members option said None h = h
new-option-keeps members option said (Some value) h = value-keeps members option said value h

force-keeps : (said : SaidText) (word : List ℕ) (value : Option (List ℕ)) → (value ≡ None → ⊥)
    → has_force (with_force said word value) ≡ false
force-keeps said word None k = absurd (k refl)
force-keeps said word (Some value) k = refl

known-keeps : (members : List (Name × Host)) (option : Option OptionName) (said : SaidText) (word : List ℕ)
    (value : Option (List ℕ)) → (option ≡ Some options.Force → value ≡ None → ⊥) → said.force ≡ false
    → has_force (with_known_option members option said word value) ≡ false
known-keeps members None said word value k h = refl
known-keeps members (Some options.Force) said word value k h = force-keeps said word value (k refl)
known-keeps members (Some (options.Value option)) said word value k h =
    keeps-test (is_said option said) _ _ refl (new-option-keeps members option said value h)

uncut-by : (test : Bool) (before behind word : List ℕ) → let cut : List ℕ × Option (List ℕ) =
    cond test (before, Some behind) (word, None) in cut.1 ≡ None → cut.0 ≡ word
uncut-by true before behind word h = cc
uncut-by false before behind word h = refl

-- a word without '=' is its own name
uncut : (word : List ℕ) → (cut_once equals_sign word).1 ≡ None → (cut_once equals_sign word).0 ≡ word
uncut word h = uncut-by _ _ _ word h

force-by : (test : Bool) (option : Option ValueOption)
    → cond test (Some options.Force) (option_map (λ o. options.Value o) option) ≡ Some options.Force → test ≡ true
force-by true option h = refl
force-by false None h = cc
force-by false (Some option) h = cc

not-force : (word : List ℕ) → bytes_eq force_text word ≡ false → bytes_eq word force_text ≡ true → ⊥
not-force word h k =
    let same : word ≡ force_text = (bytes_eq-Decides word force_text).0 k in
    let back : bytes_eq force_text word ≡ true = (bytes_eq-Decides force_text word).1 (sym same) in
    cc

option-keeps : (command : CommandName) (members : List (Name × Host)) (said : SaidText) (word : List ℕ)
    → bytes_eq force_text word ≡ false → said.force ≡ false → has_force (with_option command members said word) ≡ false
option-keeps command members said word k h =
    known-keeps members (option_named command (cut_once equals_sign word).0) said word (cut_once equals_sign word).1
    (λ named none. not-force word k
    (ap (λ w. bytes_eq w force_text) (sym (uncut word none))
    ∙ force-by _ (value_option_named command (cut_once equals_sign word).0) named))
    h

member-keeps : (said : SaidText) (word : List ℕ) (member : Option MemberId) → said.force ≡ false
    → has_force (with_member said word member) ≡ false
member-keeps said word None h = refl
member-keeps said word (Some member) h = h

name-keeps : (command : CommandName) (cluster : Name) (members : List (Name × Host)) (said : SaidText) (word : List ℕ)
    → said.force ≡ false → has_force (with_name command cluster members said word) ≡ false
name-keeps command cluster members said word h =
    keeps-test said.cluster _ _
    (keeps-test (awaits_member command said) _ _ (member-keeps said word (member_named members word) h) refl)
    (keeps-test (bytes_eq word (name_bytes cluster)) _ _ h refl)

place-keeps : (command : CommandName) (cluster : Name) (members : List (Name × Host)) (place : Place)
    (said : SaidText) (word : List ℕ) → bytes_eq force_text word ≡ false → said.force ≡ false
    → has_force (at_place command cluster members place said word) ≡ false
place-keeps command cluster members places.Names said word k h = keeps-test (is_option word) _ _
    (option-keeps command members said word k h) (name-keeps command cluster members said word h)
place-keeps command cluster members places.Options said word k h =
    keeps-test (is_option word) _ _ (option-keeps command members said word k h) refl
place-keeps command cluster members (places.Value option) said word k h = value-keeps members option said word h

next-keeps : (command : CommandName) (cluster : Name) (members : List (Name × Host))
    (outcome : Result SaidText FaultText) (word : List ℕ) → bytes_eq force_text word ≡ false
    → has_force outcome ≡ false → has_force (with_next command cluster members outcome word) ≡ false
next-keeps command cluster members (Ok said) word k h = place-keeps command cluster members said.place said word k h
next-keeps command cluster members (Err fault) word k h = refl

pub neither : (first second : Bool) → (first || second) ≡ false → (first ≡ false) × (second ≡ false)
neither true second h = absurd (let never : ⊥ = cc in never)
neither false second h = (refl, h)

words-keep : (command : CommandName) (cluster : Name) (members : List (Name × Host))
    (outcome : Result SaidText FaultText) (words : List (List ℕ)) → is_among force_text words ≡ false
    → has_force outcome ≡ false → has_force (with_words command cluster members outcome words) ≡ false
words-keep command cluster members outcome [] k h = h
words-keep command cluster members outcome (word ∷ words) k h =
    let parts = neither (bytes_eq force_text word) (is_among force_text words) k in
    words-keep command cluster members (with_next command cluster members outcome word) words parts.1
    (next-keeps command cluster members outcome word parts.0 h)

-- what is said, and '--force' besides
abbrev forced : SaidText → SaidText
forced said = record said { force = true; place = places.Options }

ended-forced : (place : Place) (read : Result CommandText FaultText) (asked : CommandText)
    → ended place read ≡ Ok asked → (awaits_value place ≡ false) × (ended places.Options read ≡ Ok asked)
ended-forced place (Err fault) asked h = absurd (let never : ⊥ = cc in never)
ended-forced places.Names (Ok command) asked h = (refl, h)
ended-forced places.Options (Ok command) asked h = (refl, h)
ended-forced (places.Value option) (Ok command) asked h = absurd (let never : ⊥ = cc in never)

built-forced : (command : CommandName) (said : SaidText) → built command (forced said) ≡ built command said
built-forced names.List said = refl
built-forced names.History said = refl
built-forced names.ShowConfig said = refl
built-forced names.Pause said = refl
built-forced names.Resume said = refl
built-forced names.EditConfig said = refl
built-forced names.Switchover said = refl
built-forced names.Failover said = refl
built-forced names.Restart said = refl
built-forced names.Reinit said = refl

lacking-forced : (test : Bool) (place : Place) (read : Result CommandText FaultText) (asked : CommandText)
    → cond test (Err (Missing needs.Cluster)) (ended place read) ≡ Ok asked
    → (awaits_value place ≡ false) × (cond test (Err (Missing needs.Cluster)) (ended places.Options read) ≡ Ok asked)
lacking-forced true place read asked h = absurd (let never : ⊥ = cc in never)
lacking-forced false place read asked h = ended-forced place read asked h

finished-forced : (command : CommandName) (said : SaidText) (asked : CommandText) → finished command said ≡ Ok asked
    → (awaits_value said.place ≡ false) × (finished command (forced said) ≡ Ok asked)
finished-forced command said asked h =
    let parts = lacking-forced (lacks_cluster command said) said.place (built command said) asked h in
    (parts.0, rw (built-forced command said) parts.1)

place-forced : (command : CommandName) (cluster : Name) (members : List (Name × Host)) (place : Place) (said : SaidText)
    → said.force ≡ false → awaits_value place ≡ false
    → at_place command cluster members place said force_text ≡ Ok (forced said)
place-forced command cluster members places.Names said h k =
    ap (λ test. cond test (Err (Extra force_text)) (Ok (forced said))) h
place-forced command cluster members places.Options said h k =
    ap (λ test. cond test (Err (Extra force_text)) (Ok (forced said))) h
place-forced command cluster members (places.Value option) said h k = absurd (let never : ⊥ = cc in never)

said-forced : (command : CommandName) (cluster : Name) (members : List (Name × Host))
    (outcome : Result SaidText FaultText) (asked : CommandText) → has_force outcome ≡ false
    → if_said command outcome ≡ Ok asked
    → if_said command (with_next command cluster members outcome force_text) ≡ Ok asked
said-forced command cluster members (Err fault) asked h is = cc
said-forced command cluster members (Ok said) asked h is =
    let parts = finished-forced command said asked is in
    rw (place-forced command cluster members said.place said h parts.0) parts.1

by-forced : (cluster : Name) (members : List (Name × Host)) (command : Option CommandName) (word : List ℕ)
    (words : List (List ℕ)) (asked : CommandText) → is_among force_text words ≡ false
    → command_by cluster members command word words ≡ Ok asked
    → command_by cluster members command word (words ++ force_text ∷ []) ≡ Ok asked
by-forced cluster members None word words asked k is = cc
by-forced cluster members (Some command) word words asked k is =
    ap (if_said command) (with_words-append command cluster members (Ok nothing_said) words (force_text ∷ []))
    ∙ said-forced command cluster members (said_in command cluster members words) asked
    (words-keep command cluster members (Ok nothing_said) words k refl) is

pub force-at-end : (cluster : Name) (members : List (Name × Host)) (words : List (List ℕ)) (asked : CommandText)
    → is_among force_text words ≡ false → command_of cluster members words ≡ Ok asked
    → command_of cluster members (words ++ force_text ∷ []) ≡ Ok asked
force-at-end cluster members [] asked k is = cc
force-at-end cluster members (word ∷ words) asked k is = by-forced cluster members
    (command_named word) word words asked (neither (bytes_eq force_text word) (is_among force_text words) k).1 is
