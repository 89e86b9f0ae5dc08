-- The options that have to be said of a member say what is declared of it.
use Rattle.std.proofs.Common.{◌≡◌, ◌≤◌, ◌==◌, Bool, true, false, cond, List, [], ◌∷◌, ◌++◌, length, Option, Some, None, refl, ◌∙◌, ap, sym, arith, append-nil, length-append}
use Rattle.std.specs.List.{flat_map}
use Rattle.std.specs.Str.{bytes_eq}
use Rattle.std.proofs.lemmas.Bool.{eqb-true}
use Rattle.std.proofs.lemmas.List.Elements.{filter-append}
use Rattle.std.proofs.lemmas.Slice.Eq.{bytes_eq-Decides}
use Rattle.pat_base.specs.Host.{host_bytes, local_host}
use Rattle.pat_base.specs.declared.host.Host.{Host}
use Rattle.pat_base.proofs.Hosts.{host_bytes-injective}
use Rattle.leader_key.specs.declared.watchdog.Mode.{Mode}
use Rattle.leader_key.specs.declared.watchdog.Mode.TheVariants as modes
use Rattle.member_options.specs.Margins.{unsaid_margin}
use Rattle.member_options.specs.Options.{name_of_option, option_names, same_option_name, options_of_name, option_said, flag_said, said_by, SayOnce, host_or_default, priority_or_default, tags_with, mode_or_default, works_or_default, margin_or_default, options_or_default, is_default_margin, is_default_priority, priority_of, mode_to_say, device_to_say, to_say, options_saying, options_to_say}
use Rattle.member_options.specs.Ranges.{default_margin}
use Rattle.member_options.specs.declared.member_option.MemberOptions.{MemberOptions}
use Rattle.member_options.specs.declared.member_option.MemberOption.{MemberOption}
use Rattle.member_options.specs.declared.member_option.MemberOption.TheVariants as options
use Rattle.member_options.specs.declared.member_option.SaidOptions.{SaidOptions}
use Rattle.member_options.specs.declared.option_name.OptionName.{OptionName}
use Rattle.member_options.specs.declared.option_name.OptionName.TheVariants as names
use Rattle.member_options.specs.declared.ranges.SafetyMargin.{SafetyMargin}
use Rattle.member_options.specs.declared.ranges.SafetyMargin.TheVariants as margins
use Rattle.member_options.specs.declared.ranges.Priority.{Priority}
use Rattle.member_options.proofs.PriorityLaws.{default-is}
use Rattle.member_options.proofs.RangeLaws.{same_margin, default-seconds}
use Rattle.member_options.proofs.SaidLaws.{said-few}

-- what is said under one name has no option of another
none-either : (t : Bool) → ◌≡◌ {A = List MemberOption} [] (cond t [] [])
none-either true = refl
none-either false = refl

named-option : {A : Type 0} (name other : OptionName) (option : A → MemberOption) (o : Option A)
    → ((x : A) → name_of_option (option x) ≡ other)
    → options_of_name name (option_said option o) ≡ cond (same_option_name name other) (option_said option o) []
named-option name other option None is = none-either (same_option_name name other)
named-option name other option (Some x) is = ap (λ n. cond (same_option_name name n) (option x ∷ []) []) (is x)

named-flag : (name : OptionName) (option : MemberOption) (set : Bool)
    → options_of_name name (flag_said option set)
    ≡ cond (same_option_name name (name_of_option option)) (flag_said option set) []
named-flag name option true = refl
named-flag name option false = none-either (same_option_name name (name_of_option option))

named-said : (name other : OptionName) (said : SaidOptions)
    → options_of_name name (said_by other said) ≡ cond (same_option_name name other) (said_by other said) []
named-said name names.Host said = named-option name names.Host options.Host said.host (λ x. refl)
named-said name names.NoFailover said = named-flag name options.NoFailover said.nofailover
named-said name names.NoSync said = named-flag name options.NoSync said.nosync
named-said name names.NoLoadBalance said = named-flag name options.NoLoadBalance said.noloadbalance
named-said name names.Priority said = named-option name names.Priority options.Priority said.priority (λ x. refl)
named-said name names.Watchdog said = named-option name names.Watchdog options.Watchdog said.watchdog (λ x. refl)
named-said name names.Device said = named-option name names.Device options.Device said.device_works (λ x. refl)
named-said name names.Margin said = named-option name names.Margin options.Margin said.margin (λ x. refl)

named-all : (name : OptionName) (said : SaidOptions) (others : List OptionName)
    → options_of_name name (flat_map (λ n. said_by n said) others)
    ≡ flat_map (λ n. cond (same_option_name name n) (said_by n said) []) others
named-all name said [] = refl
named-all name said (n ∷ ns) =
    filter-append (λ option. same_option_name name (name_of_option option)) (said_by n said)
    (flat_map (λ m. said_by m said) ns)
    ∙ (λ i. named-said name n said i ++ named-all name said ns i)

-- each name stands once among all
once-among : (name : OptionName) (said : SaidOptions)
    → flat_map (λ n. cond (same_option_name name n) (said_by n said) []) option_names ≡ said_by name said
once-among names.Host said = append-nil (said_by names.Host said)
once-among names.NoFailover said = append-nil (said_by names.NoFailover said)
once-among names.NoSync said = append-nil (said_by names.NoSync said)
once-among names.NoLoadBalance said = append-nil (said_by names.NoLoadBalance said)
once-among names.Priority said = append-nil (said_by names.Priority said)
once-among names.Watchdog said = append-nil (said_by names.Watchdog said)
once-among names.Device said = append-nil (said_by names.Device said)
once-among names.Margin said = append-nil (said_by names.Margin said)

say-once : (said : SaidOptions) → SayOnce (options_saying said) said
say-once said name = named-all name said option_names ∙ once-among name said

-- there are no more of them than names
few-of : (said : SaidOptions) (some : List OptionName) → length (flat_map (λ n. said_by n said) some) ≤ length some
few-of said [] = omega arith
few-of said (n ∷ ns) =
    omega (arith, length-append (said_by n said) (flat_map (λ m. said_by m said) ns), said-few n said, few-of said ns)

pub few-options : (declared : MemberOptions) → length (options_to_say declared) ≤ 8
few-options declared = few-of (to_say declared) option_names

-- the options that have to be said say what is declared
pub record AreEnough (declared : MemberOptions) (os : List MemberOption) : Type 0 where
  pub said : SaidOptions
  pub once : SayOnce os said
  pub is : options_or_default said ≡ declared

host-again : (host : Host) (t : Bool) → bytes_eq (host_bytes host) (host_bytes local_host) ≡ t
    → host_or_default (cond t None (Some host)) ≡ host
host-again host true is =
    host_bytes-injective local_host host (sym ((bytes_eq-Decides (host_bytes host) (host_bytes local_host)).0 is))
host-again host false is = refl

priority-again : (priority : Priority) (t : Bool) → is_default_priority priority.number ≡ t
    → priority_or_default (cond t None (Some priority)) ≡ priority
priority-again priority true is = default-is priority is
priority-again priority false is = refl

mode-again : (mode : Mode) → mode_or_default (mode_to_say mode) ≡ mode
mode-again modes.Off = refl
mode-again modes.Automatic = refl
mode-again modes.Required = refl

device-again : (works : Bool) → works_or_default (device_to_say works) ≡ works
device-again true = refl
device-again false = refl

margin-again : (margin : SafetyMargin) (t : Bool) → is_default_margin margin ≡ t
    → margin_or_default (cond t None (Some margin)) ≡ margin
margin-again margins.HalfOfLease true is = cc
margin-again (margins.Seconds margin) true is = ap margins.Seconds
    (same_margin default_margin margin (default-seconds ∙ sym (eqb-true margin.seconds unsaid_margin is)))
margin-again margin false is = refl

pub options-enough : (declared : MemberOptions) → AreEnough declared (options_to_say declared)
options-enough declared = record {
  said = to_say declared;
  once = say-once (to_say declared);
  is = λ i. record {
    host = host-again declared.host (bytes_eq (host_bytes declared.host) (host_bytes local_host)) refl i;
    tags = tags_with (to_say declared)
        (priority-again (priority_of declared.tags) (is_default_priority declared.tags.failover_priority) refl i);
    watchdog = mode-again declared.watchdog i;
    device_works = device-again declared.device_works i;
    margin = margin-again declared.margin (is_default_margin declared.margin) refl i;
  };
}
