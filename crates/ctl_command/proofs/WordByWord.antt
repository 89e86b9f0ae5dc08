-- Words one after another, and the word that a fault names.
use Rattle.std.proofs.Common.{◌≡◌, ℕ, Bool, true, false, cond, List, [], ◌∷◌, ◌++◌, Option, Some, None, Result, Ok, Err, refl, ◌∙◌, ap, subst}
use Rattle.std.specs.Str.{bytes_eq}
use Rattle.std.proofs.Math.Bool.{or-true}
use Rattle.std.proofs.lemmas.Slice.Eq.{bytes_eq-Decides}
use Rattle.pat_base.specs.declared.host.Host.{Host}
use Rattle.pat_base.specs.declared.member_id.MemberId.{MemberId}
use Rattle.pat_base.specs.declared.name.Name.{Name}
use Rattle.pat_base.specs.Name.{name_bytes}
use Rattle.ctl_command.specs.Commands.{CommandText}
use Rattle.ctl_command.specs.Laws.{is_among, is_word_or_value, is_word_or_value_among, is_at_word}
use Rattle.pat_base.specs.MemberNames.{member_named}
use Rattle.ctl_command.specs.Reading.{is_option, is_said, with_leader, with_candidate, with_setting, with_value, with_new_option, with_force, with_known_option, with_option, with_member, awaits_member, with_name, at_place, with_word, with_next, with_words, nothing_said, said_in, edit_config, switchover, failover, restart, reinit, built, lacks_cluster, ended, finished, if_said, command_by, command_of}
use Rattle.ctl_command.specs.Settings.{setting_in}
use Rattle.ctl_command.specs.Tables.{command_named, option_named}
use Rattle.ctl_command.specs.Texts.{SettingText, SaidText, FaultText, NoCommand, Unknown, Missing, Extra}
use Rattle.ctl_command.specs.Words.{equals_sign, cut_once}
use Rattle.ctl_command.specs.declared.command_name.CommandName.{CommandName}
use Rattle.ctl_command.specs.declared.command_name.CommandName.TheVariants as names
use Rattle.ctl_command.specs.declared.option_name.OptionName.{OptionName}
use Rattle.ctl_command.specs.declared.option_name.OptionName.TheVariants as options
use Rattle.ctl_command.specs.declared.option_name.ValueOption.{ValueOption}
use Rattle.ctl_command.specs.declared.option_name.ValueOption.TheVariants as values
use Rattle.ctl_command.specs.declared.said.Place.{Place}
use Rattle.ctl_command.specs.declared.said.Place.TheVariants as places

-- words behind words
pub with_words-append : (command : CommandName) (cluster : Name) (members : List (Name × Host))
    (outcome : Result SaidText FaultText) (words more : List (List ℕ))
    → with_words command cluster members outcome (words ++ more)
    ≡ with_words command cluster members (with_words command cluster members outcome words) more
with_words-append command cluster members outcome [] more = refl
with_words-append command cluster members outcome (word ∷ words) more =
    with_words-append command cluster members (with_next command cluster members outcome word) words more

-- words behind a fault
pub with_words-fault : (command : CommandName) (cluster : Name) (members : List (Name × Host)) (fault : FaultText)
    (words : List (List ℕ)) → with_words command cluster members (Err fault) words ≡ Err fault
with_words-fault command cluster members fault [] = refl
with_words-fault command cluster members fault (word ∷ words) = with_words-fault command cluster members fault words

-- a fault at a word names it, or what stands behind its '='
abbrev is_of : List ℕ → Result SaidText FaultText → Bool
is_of word (Ok said) = true
is_of word (Err NoCommand) = false
is_of word (Err (Unknown text)) = is_word_or_value text word
is_of word (Err (Missing needed)) = false
is_of word (Err (Extra text)) = bytes_eq text word

same-bytes : (word : List ℕ) → bytes_eq word word ≡ true
same-bytes word = (bytes_eq-Decides word word).1 refl

itself : (word : List ℕ) → is_word_or_value word word ≡ true
itself word = rw (same-bytes word) refl

its-value : (word value : List ℕ) → (cut_once equals_sign word).1 ≡ Some value → is_word_or_value value word ≡ true
its-value word value h = rw (h, same-bytes value) (or-true (bytes_eq value word))

of-test : (word : List ℕ) (test : Bool) (first second : Result SaidText FaultText) → is_of word first ≡ true
    → is_of word second ≡ true → is_of word (cond test first second) ≡ true
of-test word true first second h k = h
of-test word false first second h k = k

leader-of : (word : List ℕ) (said : SaidText) (value : List ℕ) (member : Option MemberId)
    → is_word_or_value value word ≡ true → is_of word (with_leader said value member) ≡ true
leader-of word said value None h = h
leader-of word said value (Some member) h = refl

candidate-of : (word : List ℕ) (said : SaidText) (value : List ℕ) (member : Option MemberId)
    → is_word_or_value value word ≡ true → is_of word (with_candidate said value member) ≡ true
candidate-of word said value None h = h
candidate-of word said value (Some member) h = refl

setting-of : (word : List ℕ) (said : SaidText) (value : List ℕ) (setting : Option SettingText)
    → is_word_or_value value word ≡ true → is_of word (with_setting said value setting) ≡ true
setting-of word said value None h = h
setting-of word said value (Some setting) h = refl

value-of : (word : List ℕ) (members : List (Name × Host)) (option : ValueOption) (said : SaidText) (value : List ℕ)
    → is_word_or_value value word ≡ true → is_of word (with_value members option said value) ≡ true
value-of word members values.Leader said value h = leader-of word said value (member_named members value) h
value-of word members values.Candidate said value h = candidate-of word said value (member_named members value) h
value-of word members values.Set said value h = setting-of word said value (setting_in value) h

new-option-of : (word : List ℕ) (members : List (Name × Host)) (option : ValueOption) (said : SaidText)
    (value : Option (List ℕ)) → (cut_once equals_sign word).1 ≡ value
    → is_of word (with_new_option members option said value) ≡ true
new-option-of word members option said None h = refl
new-option-of word members option said (Some value) h = value-of word members option said value (its-value word value h)

force-of : (word : List ℕ) (said : SaidText) (value : Option (List ℕ)) → is_of word (with_force said word value) ≡ true
force-of word said None = of-test word said.force _ _ (same-bytes word) refl
force-of word said (Some value) = itself word

known-of : (word : List ℕ) (members : List (Name × Host)) (option : Option OptionName) (said : SaidText)
    → is_of word (with_known_option members option said word (cut_once equals_sign word).1) ≡ true
known-of word members None said = itself word
known-of word members (Some options.Force) said = force-of word said (cut_once equals_sign word).1
known-of word members (Some (options.Value option)) said = of-test word (is_said option said) _ _
    (same-bytes word) (new-option-of word members option said (cut_once equals_sign word).1 refl)

option-of : (word : List ℕ) (command : CommandName) (members : List (Name × Host)) (said : SaidText)
    → is_of word (with_option command members said word) ≡ true
option-of word command members said = known-of word members (option_named command (cut_once equals_sign word).0) said

member-of : (word : List ℕ) (said : SaidText) (member : Option MemberId)
    → is_of word (with_member said word member) ≡ true
member-of word said None = itself word
member-of word said (Some member) = refl

name-of : (word : List ℕ) (command : CommandName) (cluster : Name) (members : List (Name × Host)) (said : SaidText)
    → is_of word (with_name command cluster members said word) ≡ true
name-of word command cluster members said =
    of-test word said.cluster _ _
    (of-test word (awaits_member command said) _ _ (member-of word said (member_named members word)) (same-bytes word))
    (of-test word (bytes_eq word (name_bytes cluster)) _ _ refl (itself word))

place-of : (word : List ℕ) (command : CommandName) (cluster : Name) (members : List (Name × Host))
    (place : Place) (said : SaidText) → is_of word (at_place command cluster members place said word) ≡ true
place-of word command cluster members places.Names said =
    of-test word (is_option word) _ _ (option-of word command members said) (name-of word command cluster members said)
place-of word command cluster members places.Options said =
    of-test word (is_option word) _ _ (option-of word command members said) (same-bytes word)
place-of word command cluster members (places.Value option) said = value-of word members option said word (itself word)

-- the same of a fault at one of several words
abbrev is_of_one : List (List ℕ) → Result SaidText FaultText → Bool
is_of_one words (Ok said) = true
is_of_one words (Err NoCommand) = false
is_of_one words (Err (Unknown text)) = is_word_or_value_among text words
is_of_one words (Err (Missing needed)) = false
is_of_one words (Err (Extra text)) = is_among text words

of-first : (word : List ℕ) (words : List (List ℕ)) (fault : FaultText) → is_of word (Err fault) ≡ true
    → is_of_one (word ∷ words) (Err fault) ≡ true
of-first word words NoCommand h = h
of-first word words (Unknown text) h = rw h refl
of-first word words (Missing needed) h = h
of-first word words (Extra text) h = rw h refl

of-later : (word : List ℕ) (words : List (List ℕ)) (outcome : Result SaidText FaultText)
    → is_of_one words outcome ≡ true → is_of_one (word ∷ words) outcome ≡ true
of-later word words (Ok said) h = refl
of-later word words (Err NoCommand) h = h
of-later word words (Err (Unknown text)) h = rw h (or-true (is_word_or_value text word))
of-later word words (Err (Missing needed)) h = h
of-later word words (Err (Extra text)) h = rw h (or-true (bytes_eq text word))

of-next : (command : CommandName) (cluster : Name) (members : List (Name × Host))
    (outcome : Result SaidText FaultText) (word : List ℕ) (words : List (List ℕ))
    → ((said : SaidText) → is_of_one words (with_words command cluster members (Ok said) words) ≡ true)
    → is_of word outcome ≡ true → is_of_one (word ∷ words) (with_words command cluster members outcome words) ≡ true
of-next command cluster members (Ok said) word words later h = of-later word words _ (later said)
of-next command cluster members (Err fault) word words later h =
    rw (with_words-fault command cluster members fault words) (of-first word words fault h)

of-words : (command : CommandName) (cluster : Name) (members : List (Name × Host)) (said : SaidText)
    (words : List (List ℕ)) → is_of_one words (with_words command cluster members (Ok said) words) ≡ true
of-words command cluster members said [] = refl
of-words command cluster members said (word ∷ words) =
    of-next command cluster members (with_word command cluster members said word) word words
    (λ next. of-words command cluster members next words) (place-of word command cluster members said.place said)

-- what is lacking is at no word
abbrev lacks : Result CommandText FaultText → Bool
lacks (Ok command) = false
lacks (Err fault) = is_at_word fault

lacks-test : (test : Bool) (first second : Result CommandText FaultText) → lacks first ≡ false
    → lacks second ≡ false → lacks (cond test first second) ≡ false
lacks-test true first second h k = h
lacks-test false first second h k = k

edit-lacks : (setting : Option SettingText) → lacks (edit_config setting) ≡ false
edit-lacks None = refl
edit-lacks (Some setting) = refl

switchover-lacks : (leader candidate : Option MemberId) → lacks (switchover leader candidate) ≡ false
switchover-lacks None candidate = refl
switchover-lacks (Some leader) candidate = refl

failover-lacks : (candidate : Option MemberId) → lacks (failover candidate) ≡ false
failover-lacks None = refl
failover-lacks (Some candidate) = refl

restart-lacks : (member : Option MemberId) → lacks (restart member) ≡ false
restart-lacks None = refl
restart-lacks (Some member) = refl

reinit-lacks : (member : Option MemberId) → lacks (reinit member) ≡ false
reinit-lacks None = refl
reinit-lacks (Some member) = refl

built-lacks : (command : CommandName) (said : SaidText) → lacks (built command said) ≡ false
built-lacks names.List said = refl
built-lacks names.History said = refl
built-lacks names.ShowConfig said = refl
built-lacks names.Pause said = refl
built-lacks names.Resume said = refl
built-lacks names.EditConfig said = edit-lacks said.setting
built-lacks names.Switchover said = switchover-lacks said.leader said.candidate
built-lacks names.Failover said = failover-lacks said.candidate
built-lacks names.Restart said = restart-lacks said.member
built-lacks names.Reinit said = reinit-lacks said.member

ended-lacks : (place : Place) (read : Result CommandText FaultText) → lacks read ≡ false
    → lacks (ended place read) ≡ false
ended-lacks place (Err fault) h = h
ended-lacks places.Names (Ok command) h = refl
ended-lacks places.Options (Ok command) h = refl
ended-lacks (places.Value option) (Ok command) h = refl

finished-lacks : (command : CommandName) (said : SaidText) → lacks (finished command said) ≡ false
finished-lacks command said = lacks-test (lacks_cluster command said) _ _ refl
    (ended-lacks said.place (built command said) (built-lacks command said))

never-at-word : (read : Result CommandText FaultText) (fault : FaultText) → lacks read ≡ false
    → read ≡ Err fault → is_at_word fault ≡ true → ⊥
never-at-word (Ok command) fault h is at = cc
never-at-word (Err other) fault h is at = cc

-- a fault of a word among the words behind a command
at-one : (command : CommandName) (words : List (List ℕ)) (outcome : Result SaidText FaultText) (fault : FaultText)
    → is_of_one words outcome ≡ true → is_at_word fault ≡ true → if_said command outcome ≡ Err fault
    → is_of_one words (Err fault) ≡ true
at-one command words (Ok said) fault of at is =
    absurd (never-at-word (finished command said) fault (finished-lacks command said) is at)
at-one command words (Err other) fault of at is =
    let e : other ≡ fault = cc in
    subst (λ f. is_of_one words (Err f) ≡ true) e of

by-command : (cluster : Name) (members : List (Name × Host)) (command : Option CommandName) (word : List ℕ)
    (words : List (List ℕ)) (fault : FaultText) → is_at_word fault ≡ true
    → command_by cluster members command word words ≡ Err fault → is_of_one (word ∷ words) (Err fault) ≡ true
by-command cluster members None word words fault at is =
    let e : Unknown word ≡ fault = cc in
    subst (λ f. is_of_one (word ∷ words) (Err f) ≡ true) e (of-first word words (Unknown word) (itself word))
by-command cluster members (Some command) word words fault at is =
    of-later word words (Err fault)
    (at-one command words (said_in command cluster members words) fault
    (of-words command cluster members nothing_said words) at is)

named : (cluster : Name) (members : List (Name × Host)) (words : List (List ℕ)) (fault : FaultText)
    → is_at_word fault ≡ true → command_of cluster members words ≡ Err fault → is_of_one words (Err fault) ≡ true
named cluster members [] fault at is = cc
named cluster members (word ∷ words) fault at is =
    by-command cluster members (command_named word) word words fault at is

pub unknown-named : (cluster : Name) (members : List (Name × Host)) (words : List (List ℕ)) (text : List ℕ)
    → command_of cluster members words ≡ Err (Unknown text) → is_word_or_value_among text words ≡ true
unknown-named cluster members words text is = named cluster members words (Unknown text) refl is

pub extra-named : (cluster : Name) (members : List (Name × Host)) (words : List (List ℕ)) (text : List ℕ)
    → command_of cluster members words ≡ Err (Extra text) → is_among text words ≡ true
extra-named cluster members words text is = named cluster members words (Extra text) refl is

-- a fault of a word stays, whatever follows
said-stays : (command : CommandName) (cluster : Name) (members : List (Name × Host))
    (outcome : Result SaidText FaultText) (more : List (List ℕ)) (fault : FaultText) → is_at_word fault ≡ true
    → if_said command outcome ≡ Err fault
    → if_said command (with_words command cluster members outcome more) ≡ Err fault
said-stays command cluster members (Ok said) more fault at is =
    absurd (never-at-word (finished command said) fault (finished-lacks command said) is at)
said-stays command cluster members (Err other) more fault at is =
    rw (with_words-fault command cluster members other more) is

by-stays : (cluster : Name) (members : List (Name × Host)) (command : Option CommandName) (word : List ℕ)
    (words more : List (List ℕ)) (fault : FaultText) → is_at_word fault ≡ true
    → command_by cluster members command word words ≡ Err fault
    → command_by cluster members command word (words ++ more) ≡ Err fault
by-stays cluster members None word words more fault at is = is
by-stays cluster members (Some command) word words more fault at is =
    ap (if_said command) (with_words-append command cluster members (Ok nothing_said) words more)
    ∙ said-stays command cluster members (said_in command cluster members words) more fault at is

pub first-counts : (cluster : Name) (members : List (Name × Host)) (words more : List (List ℕ)) (fault : FaultText)
    → is_at_word fault ≡ true → command_of cluster members words ≡ Err fault
    → command_of cluster members (words ++ more) ≡ Err fault
first-counts cluster members [] more fault at is = cc
first-counts cluster members (word ∷ words) more fault at is =
    by-stays cluster members (command_named word) word words more fault at is
