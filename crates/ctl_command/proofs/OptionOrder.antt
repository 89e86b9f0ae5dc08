-- Options in any order.
use Rattle.std.proofs.Common.{◌≡◌, ◌⊎◌, inl, inr, ℕ, Bool, true, false, cond, List, ◌∷◌, ◌++◌, Option, Some, None, is_some, Result, Ok, Err, refl, ◌∙◌, ap, sym, subst}
use Rattle.pat_base.specs.declared.host.Host.{Host}
use Rattle.pat_base.specs.declared.member_id.MemberId.{MemberId}
use Rattle.pat_base.specs.declared.name.Name.{Name}
use Rattle.ctl_command.specs.Commands.{CommandText}
use Rattle.ctl_command.specs.Laws.{awaits_value, IsWholeOption}
use Rattle.pat_base.specs.MemberNames.{member_named}
use Rattle.ctl_command.specs.Reading.{is_option, with_leader, with_candidate, with_setting, with_value_option, with_known_option, with_option, with_name, at_place, with_word, with_next, with_words, nothing_said, said_in, if_said, command_by, command_of}
use Rattle.ctl_command.specs.Settings.{setting_in}
use Rattle.ctl_command.specs.Tables.{command_named, option_named, force_text}
use Rattle.ctl_command.specs.Texts.{SettingText, SaidText, FaultText, Extra}
use Rattle.ctl_command.specs.Words.{equals_sign, cut_once}
use Rattle.ctl_command.proofs.WordByWord.{with_words-append, with_words-fault}
use Rattle.ctl_command.specs.declared.command_name.CommandName.{CommandName}
use Rattle.ctl_command.specs.declared.option_name.OptionName.{OptionName}
use Rattle.ctl_command.specs.declared.option_name.OptionName.TheVariants as options
use Rattle.ctl_command.specs.declared.option_name.ValueOption.{ValueOption}
use Rattle.ctl_command.specs.declared.option_name.ValueOption.TheVariants as values
use Rattle.ctl_command.specs.declared.said.Place.{Place}
use Rattle.ctl_command.specs.declared.said.Place.TheVariants as places

-- what an option by itself adds to what is said
data Change : Type 0 where
  Forces : Change
  Leads : (member : MemberId) → Change
  Follows : (member : MemberId) → Change
  Sets : (setting : SettingText) → Change

abbrev apply : Change → SaidText → SaidText
apply Forces said = record said { force = true; place = places.Options }
apply (Leads member) said = record said { leader = Some member; place = places.Options }
apply (Follows member) said = record said { candidate = Some member; place = places.Options }
apply (Sets setting) said = record said { setting = Some setting; place = places.Options }

abbrev has : Change → SaidText → Bool
has Forces said = said.force
has (Leads member) said = is_some said.leader
has (Follows member) said = is_some said.candidate
has (Sets setting) said = is_some said.setting

-- two that are made one after the other may be made the other way round
record Commute (first second : Change) (said : SaidText) : Type 0 where
  second_anew : has second said ≡ false
  first_anew : has first (apply second said) ≡ false
  same : apply second (apply first said) ≡ apply first (apply second said)

never : {A : Type 0} → true ≡ false → A
never h = absurd (let contrary : ⊥ = cc in contrary)

commute : (first second : Change) (said : SaidText) → has first said ≡ false
    → has second (apply first said) ≡ false → Commute first second said
commute Forces Forces said h k = never k
commute Forces (Leads m) said h k = record { second_anew = k; first_anew = h; same = refl }
commute Forces (Follows m) said h k = record { second_anew = k; first_anew = h; same = refl }
commute Forces (Sets s) said h k = record { second_anew = k; first_anew = h; same = refl }
commute (Leads m) Forces said h k = record { second_anew = k; first_anew = h; same = refl }
commute (Leads m) (Leads n) said h k = never k
commute (Leads m) (Follows n) said h k = record { second_anew = k; first_anew = h; same = refl }
commute (Leads m) (Sets s) said h k = record { second_anew = k; first_anew = h; same = refl }
commute (Follows m) Forces said h k = record { second_anew = k; first_anew = h; same = refl }
commute (Follows m) (Leads n) said h k = record { second_anew = k; first_anew = h; same = refl }
commute (Follows m) (Follows n) said h k = never k
commute (Follows m) (Sets s) said h k = record { second_anew = k; first_anew = h; same = refl }
commute (Sets s) Forces said h k = record { second_anew = k; first_anew = h; same = refl }
commute (Sets s) (Leads n) said h k = record { second_anew = k; first_anew = h; same = refl }
commute (Sets s) (Follows n) said h k = record { second_anew = k; first_anew = h; same = refl }
commute (Sets s) (Sets t) said h k = never k

apply-place : (change : Change) (said : SaidText) → (apply change said).place ≡ places.Options
apply-place Forces said = refl
apply-place (Leads m) said = refl
apply-place (Follows m) said = refl
apply-place (Sets s) said = refl

-- one change is made wherever a word is read, and it was made here
record Makes (reads : SaidText → Result SaidText FaultText) (said next : SaidText) : Type 0 where
  change : Change
  anew : has change said ≡ false
  made : next ≡ apply change said
  always : (other : SaidText) → has change other ≡ false → reads other ≡ Ok (apply change other)

passed : (test : Bool) (fault : FaultText) (outcome : Result SaidText FaultText) (next : SaidText)
    → cond test (Err fault) outcome ≡ Ok next → (test ≡ false) × (outcome ≡ Ok next)
passed true fault outcome next h = absurd (let contrary : ⊥ = cc in contrary)
passed false fault outcome next h = (refl, h)

force-makes : (word : List ℕ) (said next : SaidText)
    → cond said.force (Err (Extra word)) (Ok (apply Forces said)) ≡ Ok next
    → Makes (λ s. cond s.force (Err (Extra word)) (Ok (apply Forces s))) said next
force-makes word said next h =
    let parts = passed said.force (Extra word) (Ok (apply Forces said)) next h in
    let same : apply Forces said ≡ next = cc in
    record {
      change = Forces;
      anew = parts.0;
      made = sym same;
      always = λ other k. ap (λ test. cond test (Err (Extra word)) (Ok (apply Forces other))) k;
    }

leader-makes : (word value : List ℕ) (member : Option MemberId) (said next : SaidText)
    → is_some said.leader ≡ false → with_leader said value member ≡ Ok next
    → Makes (λ s. cond (is_some s.leader) (Err (Extra word)) (with_leader s value member)) said next
leader-makes word value None said next k h = absurd (let contrary : ⊥ = cc in contrary)
leader-makes word value (Some member) said next k h =
    let same : apply (Leads member) said ≡ next = cc in
    record {
      change = Leads member;
      anew = k;
      made = sym same;
      always = λ other a. ap (λ test. cond test (Err (Extra word)) (Ok (apply (Leads member) other))) a;
    }

candidate-makes : (word value : List ℕ) (member : Option MemberId) (said next : SaidText)
    → is_some said.candidate ≡ false → with_candidate said value member ≡ Ok next
    → Makes (λ s. cond (is_some s.candidate) (Err (Extra word)) (with_candidate s value member)) said next
candidate-makes word value None said next k h = absurd (let contrary : ⊥ = cc in contrary)
candidate-makes word value (Some member) said next k h =
    let same : apply (Follows member) said ≡ next = cc in
    record {
      change = Follows member;
      anew = k;
      made = sym same;
      always = λ other a. ap (λ test. cond test (Err (Extra word)) (Ok (apply (Follows member) other))) a;
    }

setting-makes : (word value : List ℕ) (setting : Option SettingText) (said next : SaidText)
    → is_some said.setting ≡ false → with_setting said value setting ≡ Ok next
    → Makes (λ s. cond (is_some s.setting) (Err (Extra word)) (with_setting s value setting)) said next
setting-makes word value None said next k h = absurd (let contrary : ⊥ = cc in contrary)
setting-makes word value (Some setting) said next k h =
    let same : apply (Sets setting) said ≡ next = cc in
    record {
      change = Sets setting;
      anew = k;
      made = sym same;
      always = λ other a. ap (λ test. cond test (Err (Extra word)) (Ok (apply (Sets setting) other))) a;
    }

value-makes : (members : List (Name × Host)) (option : ValueOption) (word value : List ℕ) (said next : SaidText)
    → with_value_option members option said word (Some value) ≡ Ok next
    → Makes (λ s. with_value_option members option s word (Some value)) said next
value-makes members values.Leader word value said next h =
    let parts =
    passed (is_some said.leader) (Extra word) (with_leader said value (member_named members value)) next h in
    leader-makes word value (member_named members value) said next parts.0 parts.1
value-makes members values.Candidate word value said next h =
    let parts =
    passed (is_some said.candidate) (Extra word) (with_candidate said value (member_named members value)) next h in
    candidate-makes word value (member_named members value) said next parts.0 parts.1
value-makes members values.Set word value said next h =
    let parts = passed (is_some said.setting) (Extra word) (with_setting said value (setting_in value)) next h in
    setting-makes word value (setting_in value) said next parts.0 parts.1

-- the name and the value of an option by itself
abbrev IsWhole : Option OptionName → Option (List ℕ) → Type 0
IsWhole option value = (option ≡ Some options.Force) ⊎ ((text : List ℕ) × (value ≡ Some text))

no-value : (option : ValueOption) → IsWhole (Some (options.Value option)) None → ⊥
no-value option (inl h) = cc
no-value option (inr h) = let none = h.1 in cc

known-makes : (members : List (Name × Host)) (option : Option OptionName) (value : Option (List ℕ)) (word : List ℕ)
    (said next : SaidText) → IsWhole option value → with_known_option members option said word value ≡ Ok next
    → Makes (λ s. with_known_option members option s word value) said next
known-makes members None value word said next whole h = absurd (let contrary : ⊥ = cc in contrary)
known-makes members (Some options.Force) None word said next whole h = force-makes word said next h
known-makes members (Some options.Force) (Some value) word said next whole h =
    absurd (let contrary : ⊥ = cc in contrary)
known-makes members (Some (options.Value option)) None word said next whole h = absurd (no-value option whole)
known-makes members (Some (options.Value option)) (Some value) word said next whole h =
    value-makes members option word value said next h

whole-cut : (command : CommandName) (word : List ℕ)
    → (word ≡ force_text) ⊎ ((value : List ℕ) × ((cut_once equals_sign word).1 ≡ Some value))
    → IsWhole (option_named command (cut_once equals_sign word).0) (cut_once equals_sign word).1
whole-cut command word (inl same) = inl (ap (λ w. option_named command (cut_once equals_sign w).0) same)
whole-cut command word (inr value) = inr value

option-makes : (command : CommandName) (members : List (Name × Host)) (word : List ℕ) (said next : SaidText)
    → IsWholeOption word → with_option command members said word ≡ Ok next
    → Makes (λ s. with_option command members s word) said next
option-makes command members word said next is h =
    known-makes members (option_named command (cut_once equals_sign word).0)
    (cut_once equals_sign word).1 word said next (whole-cut command word is.whole) h

-- a word that is an option, where no value is awaited
pub place-option : (command : CommandName) (cluster : Name) (members : List (Name × Host)) (place : Place)
    (said : SaidText) (word : List ℕ) → is_option word ≡ true → awaits_value place ≡ false
    → at_place command cluster members place said word ≡ with_option command members said word
place-option command cluster members places.Names said word h k =
    ap (λ test. cond test (with_option command members said word) (with_name command cluster members said word)) h
place-option command cluster members places.Options said word h k =
    ap (λ test. cond test (with_option command members said word) (Err (Extra word))) h
place-option command cluster members (places.Value option) said word h k = never k

-- two options that were read may be read the other way round
record Swapped (command : CommandName) (members : List (Name × Host)) (first second : List ℕ)
    (said last : SaidText) : Type 0 where
  between : SaidText
  second_read : with_option command members said second ≡ Ok between
  first_read : with_option command members between first ≡ Ok last
  at_options : between.place ≡ places.Options

swap : (command : CommandName) (members : List (Name × Host)) (first second : List ℕ) (said next last : SaidText)
    → IsWholeOption first → IsWholeOption second
    → with_option command members said first ≡ Ok next → with_option command members next second ≡ Ok last
    → Swapped command members first second said last
swap command members first second said next last one two h k =
    let a = option-makes command members first said next one h in
    let b = option-makes command members second next last two k in
    let fresh : has b.change (apply a.change said) ≡ false = subst (λ s. has b.change s ≡ false) a.made b.anew in
    let c = commute a.change b.change said a.anew fresh in
    let ends : apply a.change (apply b.change said) ≡ last = sym c.same ∙ sym (ap (apply b.change) a.made)
    ∙ sym b.made in
    record {
      between = apply b.change said;
      second_read = b.always said c.second_anew;
      first_read = a.always (apply b.change said) c.first_anew ∙ ap (λ s. Ok s) ends;
      at_options = apply-place b.change said;
    }

options-place : (command : CommandName) (members : List (Name × Host)) (word : List ℕ) (said next : SaidText)
    → IsWholeOption word → with_option command members said word ≡ Ok next → next.place ≡ places.Options
options-place command members word said next is h =
    let a = option-makes command members word said next is h in
    ap (λ s. s.place) a.made ∙ apply-place a.change said

word-option : (command : CommandName) (cluster : Name) (members : List (Name × Host)) (said : SaidText) (word : List ℕ)
    → IsWholeOption word → awaits_value said.place ≡ false
    → with_word command cluster members said word ≡ with_option command members said word
word-option command cluster members said word is k =
    place-option command cluster members said.place said word is.option k

fault-ends : (command : CommandName) (cluster : Name) (members : List (Name × Host)) (fault : FaultText)
    (back : List (List ℕ)) (asked : CommandText)
    → if_said command (with_words command cluster members (Err fault) back) ≡ Ok asked → ⊥
fault-ends command cluster members fault back asked h =
    let stays = with_words-fault command cluster members fault back in
    let told : if_said command (Err fault) ≡ Ok asked = sym (ap (if_said command) stays) ∙ h in
    cc

second-by : (command : CommandName) (cluster : Name) (members : List (Name × Host)) (said next : SaidText)
    (first second : List ℕ) (back : List (List ℕ)) (asked : CommandText) (outcome : Result SaidText FaultText)
    → IsWholeOption first → IsWholeOption second → awaits_value said.place ≡ false
    → with_option command members said first ≡ Ok next → with_word command cluster members next second ≡ outcome
    → if_said command (with_words command cluster members outcome back) ≡ Ok asked
    → if_said command (with_words command cluster members (Ok said) (second ∷ first ∷ back)) ≡ Ok asked
second-by command cluster members said next first second back asked (Err fault) one two k h is asks =
    absurd (fault-ends command cluster members fault back asked asks)
second-by command cluster members said next first second back asked (Ok last) one two k h is asks =
    let options = ap awaits_value (options-place command members first said next one h) in
    let s = swap command members first second said next last one two h
    (sym (word-option command cluster members next second two options) ∙ is) in
    let there : with_word command cluster members said second ≡ Ok s.between =
    word-option command cluster members said second two k ∙ s.second_read in
    let then : with_word command cluster members s.between first ≡ Ok last =
    word-option command cluster members s.between first one (ap awaits_value s.at_options) ∙ s.first_read in
    ap (λ o. if_said command (with_words command cluster members (with_next command cluster members o first) back))
    there
    ∙ ap (λ o. if_said command (with_words command cluster members o back)) then
    ∙ asks

first-by : (command : CommandName) (cluster : Name) (members : List (Name × Host)) (said : SaidText)
    (first second : List ℕ) (back : List (List ℕ)) (asked : CommandText) (outcome : Result SaidText FaultText)
    → IsWholeOption first → IsWholeOption second → awaits_value said.place ≡ false
    → with_option command members said first ≡ outcome
    → if_said command (with_words command cluster members (with_next command cluster members outcome second) back)
    ≡ Ok asked
    → if_said command (with_words command cluster members (Ok said) (second ∷ first ∷ back)) ≡ Ok asked
first-by command cluster members said first second back asked (Err fault) one two k h asks =
    absurd (fault-ends command cluster members fault back asked asks)
first-by command cluster members said first second back asked (Ok next) one two k h asks = second-by command cluster
    members said next first second back asked (with_word command cluster members next second) one two k h refl asks

-- words behind words that were read
pub behind-front : (command : CommandName) (cluster : Name) (members : List (Name × Host)) (word : List ℕ)
    (front more : List (List ℕ)) (said : SaidText) → command_named word ≡ Some command
    → said_in command cluster members front ≡ Ok said
    → command_of cluster members (word ∷ (front ++ more))
    ≡ if_said command (with_words command cluster members (Ok said) more)
behind-front command cluster members word front more said named is =
    ap (λ c. command_by cluster members c word (front ++ more)) named
    ∙ ap (if_said command) (with_words-append command cluster members (Ok nothing_said) front more)
    ∙ ap (λ o. if_said command (with_words command cluster members o more)) is

pub any-order : (cluster : Name) (members : List (Name × Host)) (command : CommandName) (word : List ℕ)
    (front back : List (List ℕ)) (option other : List ℕ) (said : SaidText) (asked : CommandText)
    → command_named word ≡ Some command → said_in command cluster members front ≡ Ok said
    → awaits_value said.place ≡ false → IsWholeOption option → IsWholeOption other
    → command_of cluster members (word ∷ (front ++ option ∷ other ∷ back)) ≡ Ok asked
    → command_of cluster members (word ∷ (front ++ other ∷ option ∷ back)) ≡ Ok asked
any-order cluster members command word front back option other said asked named is k one two asks =
    behind-front command cluster members word front (other ∷ option ∷ back) said named is
    ∙ first-by command cluster members said option other back asked
    (with_option command members said option) one two k refl
    (ap (λ o. if_said command (with_words command cluster members (with_next command cluster members o other) back))
    (sym (word-option command cluster members said option one k))
    ∙ sym (behind-front command cluster members word front (option ∷ other ∷ back) said named is)
    ∙ asks)
