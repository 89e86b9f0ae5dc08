-- What one option says: what is said under its name, and nothing else.
use Rattle.std.proofs.Common.{◌≡◌, ◌≤◌, Bool, true, false, cond, List, [], ◌∷◌, ◌++◌, length, Option, Some, None, is_some, refl, ◌∙◌, ap, sym, arith, length-append}
use Rattle.std.proofs.lemmas.Bool.Decides.{nat_tests}
use Rattle.member_options.specs.Options.{name_of_option, same_option_name, options_of_name, option_said, flag_said, said_by, nothing_said}
use Rattle.member_options.specs.OptionReading.{is_said, saying}
use Rattle.member_options.specs.declared.member_option.MemberOption.{MemberOption}
use Rattle.member_options.specs.declared.member_option.MemberOption.TheVariants as options
use Rattle.member_options.specs.declared.member_option.SaidOptions.{SaidOptions}
use Rattle.member_options.specs.declared.option_name.OptionName.{OptionName}
use Rattle.member_options.specs.declared.option_name.OptionName.TheVariants as names

-- names of one place are one
same-name : (first second : OptionName) → same_option_name first second ≡ true → first ≡ second
same-name names.Host names.Host e = refl
same-name names.NoFailover names.NoFailover e = refl
same-name names.NoSync names.NoSync e = refl
same-name names.NoLoadBalance names.NoLoadBalance e = refl
same-name names.Priority names.Priority e = refl
same-name names.Watchdog names.Watchdog e = refl
same-name names.Device names.Device e = refl
same-name names.Margin names.Margin e = refl
same-name _ _ e = cc

own-name : (name : OptionName) → same_option_name name name ≡ true
own-name name = grind (arith, nat_tests)

-- an option is what is said under its name then, and nothing changes under another
said-with : (name : OptionName) (option : MemberOption) (said : SaidOptions)
    → said_by name (saying option said)
    ≡ cond (same_option_name name (name_of_option option)) (option ∷ []) (said_by name said)
said-with names.Host (options.Host host) said = refl
said-with names.NoFailover options.NoFailover said = refl
said-with names.NoSync options.NoSync said = refl
said-with names.NoLoadBalance options.NoLoadBalance said = refl
said-with names.Priority (options.Priority priority) said = refl
said-with names.Watchdog (options.Watchdog mode) said = refl
said-with names.Device (options.Device works) said = refl
said-with names.Margin (options.Margin margin) said = refl
said-with _ _ said = refl

-- no option says what isn't said
no-option : {A : Type 0} (option : A → MemberOption) (o : Option A) → is_some o ≡ false → option_said option o ≡ []
no-option option None e = refl
no-option option (Some x) e = cc

unsaid : (name : OptionName) (said : SaidOptions) → is_said name said ≡ false → said_by name said ≡ []
unsaid names.Host said e = no-option options.Host said.host e
unsaid names.NoFailover said e = ap (flag_said options.NoFailover) e
unsaid names.NoSync said e = ap (flag_said options.NoSync) e
unsaid names.NoLoadBalance said e = ap (flag_said options.NoLoadBalance) e
unsaid names.Priority said e = no-option options.Priority said.priority e
unsaid names.Watchdog said e = no-option options.Watchdog said.watchdog e
unsaid names.Device said e = no-option options.Device said.device_works e
unsaid names.Margin said e = no-option options.Margin said.margin e

-- one option says what is
an-option : {A : Type 0} (option : A → MemberOption) (o : Option A) → is_some o ≡ true
    → length (option_said option o) ≡ 1
an-option option None e = cc
an-option option (Some x) e = refl

a-flag : (option : MemberOption) (set : Bool) → set ≡ true → length (flag_said option set) ≡ 1
a-flag option set e = ap (λ t. length (flag_said option t)) e

pub said-one : (name : OptionName) (said : SaidOptions) → is_said name said ≡ true → length (said_by name said) ≡ 1
said-one names.Host said e = an-option options.Host said.host e
said-one names.NoFailover said e = a-flag options.NoFailover said.nofailover e
said-one names.NoSync said e = a-flag options.NoSync said.nosync e
said-one names.NoLoadBalance said e = a-flag options.NoLoadBalance said.noloadbalance e
said-one names.Priority said e = an-option options.Priority said.priority e
said-one names.Watchdog said e = an-option options.Watchdog said.watchdog e
said-one names.Device said e = an-option options.Device said.device_works e
said-one names.Margin said e = an-option options.Margin said.margin e

few-by : (t : Bool) (name : OptionName) (said : SaidOptions) → is_said name said ≡ t → length (said_by name said) ≤ 1
few-by true name said is = omega (arith, said-one name said is)
few-by false name said is = omega (arith, ap length (unsaid name said is))

pub said-few : (name : OptionName) (said : SaidOptions) → length (said_by name said) ≤ 1
said-few name said = few-by (is_said name said) name said refl

pub none-said : (name : OptionName) → said_by name nothing_said ≡ []
none-said names.Host = refl
none-said names.NoFailover = refl
none-said names.NoSync = refl
none-said names.NoLoadBalance = refl
none-said names.Priority = refl
none-said names.Watchdog = refl
none-said names.Device = refl
none-said names.Margin = refl

-- options behind what is said, with which all of this is said, each at most once
abbrev pub SayMore : SaidOptions → List MemberOption → SaidOptions → Type 0
SayMore said os all = (name : OptionName) → said_by name said ++ options_of_name name os ≡ said_by name all

-- an option whose name says nothing yet is said, in place of the first that follows
moved-by : (t : Bool) (option : MemberOption) (before os : List MemberOption) → (t ≡ true → before ≡ [])
    → before ++ cond t (option ∷ os) os ≡ cond t (option ∷ []) before ++ os
moved-by true option before os none = ap (λ xs. xs ++ (option ∷ os)) (none refl)
moved-by false option before os none = refl

pub moved : (said : SaidOptions) (option : MemberOption) (os : List MemberOption) (name : OptionName)
    → is_said (name_of_option option) said ≡ false
    → said_by name said ++ options_of_name name (option ∷ os)
    ≡ said_by name (saying option said) ++ options_of_name name os
moved said option os name none =
    moved-by (same_option_name name (name_of_option option)) option (said_by name said) (options_of_name name os)
    (λ same. ap (λ n. said_by n said) (same-name name (name_of_option option) same)
    ∙ unsaid (name_of_option option) said none)
    ∙ ap (λ xs. xs ++ options_of_name name os) (sym (said-with name option said))

-- an option that is said behind others wasn't said before
room : (t : Bool) (said all : SaidOptions) (option : MemberOption) (os : List MemberOption)
    → is_said (name_of_option option) said ≡ t → SayMore said (option ∷ os) all → t ≡ false
room true said all option os is more =
    let name = name_of_option option in
    let own : options_of_name name (option ∷ os) ≡ option ∷ options_of_name name os =
    ap (λ t. cond t (option ∷ options_of_name name os) (options_of_name name os)) (own-name name) in
    let all_is : said_by name said ++ (option ∷ options_of_name name os) ≡ said_by name all =
    ap (λ xs. said_by name said ++ xs) (sym own) ∙ more name in
    absurd (omega (
      arith,
      ap length all_is,
      length-append (said_by name said) (option ∷ options_of_name name os),
      said-one name said is,
      said-few name all,
    ))
room false said all option os is more = refl

pub said-first : (said all : SaidOptions) (option : MemberOption) (os : List MemberOption)
    → SayMore said (option ∷ os) all → is_said (name_of_option option) said ≡ false
said-first said all option os more = room (is_said (name_of_option option) said) said all option os refl more
