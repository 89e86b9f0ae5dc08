-- Options that say each thing at most once are read as what they say.
use Rattle.std.proofs.Common.{◌≡◌, ℕ, Bool, true, false, cond, List, [], ◌∷◌, ◌++◌, map, Option, Some, None, Ok, Err, refl, ◌∙◌, ap, sym, append-nil}
use Rattle.pat_base.specs.declared.host.Host.{Host}
use Rattle.leader_key.specs.declared.watchdog.Mode.{Mode}
use Rattle.script_words.specs.Faults.{on_ok, both}
use Rattle.script_words.specs.declared.fault.Fault.TheVariants as faults
use Rattle.member_options.specs.Options.{options_of_name, option_text, option_said, flag_said, said_by, SayOnce, nothing_said, options_or_default}
use Rattle.member_options.specs.OptionReading.{option_words, saying, with_option, with_words, options_in}
use Rattle.member_options.specs.declared.member_option.MemberOption.{MemberOption}
use Rattle.member_options.specs.declared.member_option.MemberOption.TheVariants as options
use Rattle.member_options.specs.declared.member_option.SaidOptions.{SaidOptions}
use Rattle.member_options.specs.declared.option_name.OptionName.{OptionName}
use Rattle.member_options.specs.declared.option_name.OptionName.TheVariants as names
use Rattle.member_options.specs.declared.ranges.SafetyMargin.{SafetyMargin}
use Rattle.member_options.specs.declared.ranges.Priority.{Priority}
use Rattle.member_options.proofs.OptionWords.{option_in-again}
use Rattle.member_options.proofs.SaidLaws.{SayMore, moved, none-said, said-first}

-- what options say is told by them
host_said : MemberOption → Option Host
host_said (options.Host host) = Some host
host_said _ = None

priority_said : MemberOption → Option Priority
priority_said (options.Priority priority) = Some priority
priority_said _ = None

mode_said : MemberOption → Option Mode
mode_said (options.Watchdog mode) = Some mode
mode_said _ = None

device_said : MemberOption → Option Bool
device_said (options.Device works) = Some works
device_said _ = None

margin_said : MemberOption → Option SafetyMargin
margin_said (options.Margin margin) = Some margin
margin_said _ = None

first_said : {A : Type 0} → (MemberOption → Option A) → List MemberOption → Option A
first_said say [] = None
first_said say (option ∷ os) = say option

told : {A : Type 0} (option : A → MemberOption) (say : MemberOption → Option A)
    → ((x : A) → say (option x) ≡ Some x) → (o : Option A) → first_said say (option_said option o) ≡ o
unfolding first_said
told option say is None = refl
told option say is (Some x) = is x

same-option : {A : Type 0} (option : A → MemberOption) (say : MemberOption → Option A)
    → ((x : A) → say (option x) ≡ Some x) → (first second : Option A)
    → option_said option first ≡ option_said option second → first ≡ second
same-option option say is first second e =
    sym (told option say is first) ∙ ap (first_said say) e ∙ told option say is second

same-flag : (option : MemberOption) (first second : Bool) → flag_said option first ≡ flag_said option second
    → first ≡ second
same-flag option true true e = refl
same-flag option true false e = cc
same-flag option false true e = cc
same-flag option false false e = refl

same-said : (said all : SaidOptions) → ((name : OptionName) → said_by name said ≡ said_by name all) → said ≡ all
unfolding host_said priority_said mode_said device_said margin_said
same-said said all same = λ i. record {
  host = same-option options.Host host_said (λ x. refl) said.host all.host (same names.Host) i;
  nofailover = same-flag options.NoFailover said.nofailover all.nofailover (same names.NoFailover) i;
  nosync = same-flag options.NoSync said.nosync all.nosync (same names.NoSync) i;
  noloadbalance = same-flag options.NoLoadBalance said.noloadbalance all.noloadbalance (same names.NoLoadBalance) i;
  priority = same-option options.Priority priority_said (λ x. refl) said.priority all.priority (same names.Priority) i;
  watchdog = same-option options.Watchdog mode_said (λ x. refl) said.watchdog all.watchdog (same names.Watchdog) i;
  device_works =
      same-option options.Device device_said (λ x. refl) said.device_works all.device_works (same names.Device) i;
  margin = same-option options.Margin margin_said (λ x. refl) said.margin all.margin (same names.Margin) i;
}

words-again : (os : List MemberOption) (said all : SaidOptions) → SayMore said os all
    → with_words (Ok said) (map option_text os) ≡ Ok all
words-again [] said all more = ap Ok (same-said said all (λ name. sym (append-nil (said_by name said)) ∙ more name))
words-again (option ∷ os) said all more =
    let first = said-first said all option os more in
    ap (λ r. with_words (on_ok (both (Ok said) r) (λ p. with_option p.0 p.1)) (map option_text os))
    (option_in-again option)
    ∙ ap (λ t. with_words (cond t (Err faults.Duplicate) (Ok (saying option said))) (map option_text os)) first
    ∙ words-again os (saying option said) all (λ name. sym (moved said option os name first) ∙ more name)

pub options_in-again : (rest : Option (List ℕ)) (os : List MemberOption) (said : SaidOptions)
    → option_words rest ≡ map option_text os → SayOnce os said → options_in rest ≡ Ok (options_or_default said)
options_in-again rest os said text once =
    ap (λ ws. on_ok (with_words (Ok nothing_said) ws) (λ s. Ok (options_or_default s))) text
    ∙ ap (λ r. on_ok r (λ s. Ok (options_or_default s)))
    (words-again os nothing_said said (λ name. ap (λ xs. xs ++ options_of_name name os) (none-said name) ∙ once name))
