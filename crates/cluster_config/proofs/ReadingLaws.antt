-- What is written as the text of a configuration is read as that configuration.
use Rattle.std.proofs.Common.{◌≡◌, ℕ, List, Bool, true, false, not, cond, Option, Some, None, option_map, find, Ok, refl, sym, ap, ◌∙◌}
use Rattle.std.specs.Str.{is_utf8}
use Rattle.store_keys.specs.declared.config.Config.{Config}
use Rattle.serde_json.specs.Data.{Data, null, boolean, number, string, array, object}
use Rattle.serde_json.specs.Read.{read}
use Rattle.serde_json.specs.Written.{compact_text, has_float}
use Rattle.cluster_config.specs.declared.config_fault.ConfigFault.{ConfigFault}
use Rattle.cluster_config.specs.declared.config_fault.ConfigFault.TheVariants as faults
use Rattle.cluster_config.specs.ConfigFaults.{is_bad, is_low, keeps_times, or_next, fault_if, fault_of}
use Rattle.cluster_config.specs.ConfigReading.{on_ok, unless_fault, object_in, object_if_json, judged, config_read, with_patch}
use Rattle.cluster_config.specs.SettingTable.{settings_in_order}
use Rattle.cluster_config.specs.SettingValues.{config_in}

-- a text that is this object is read as what the object is
pub config_read-object : (text : List ℕ) (d : Data) → is_utf8 text ≡ true → read text ≡ Some d
    → object_in d ≡ Ok d → config_read text ≡ judged d
config_read-object text d utf8 is there =
    ap (λ (t : Bool). on_ok (object_if_json (cond t (read text) None)) judged) utf8
    ∙ ap (λ (o : Option Data). on_ok (object_if_json o) judged) is
    ∙ ap (λ r. on_ok r judged) there

pub none_after : (first next : Option ConfigFault) → or_next first next ≡ None → next ≡ None
none_after None next none = none
none_after (Some fault) next none = absurd (no_fault fault none)
  where
    no_fault : (fault : ConfigFault) → Some fault ≡ None → ⊥
    no_fault fault e = cc

pub unless_broken : (broken : Bool) (fault : ConfigFault) (next : Option ConfigFault)
    → or_next (fault_if broken fault) next ≡ None → broken ≡ false
unless_broken true fault next none = absurd (no_fault fault none)
  where
    no_fault : (fault : ConfigFault) → Some fault ≡ None → ⊥
    no_fault fault e = cc
unless_broken false fault next none = refl

none-broken : (broken : Bool) (fault : ConfigFault) → fault_if broken fault ≡ None → broken ≡ false
none-broken true fault none = absurd (no_fault fault none)
  where
    no_fault : (fault : ConfigFault) → Some fault ≡ None → ⊥
    no_fault fault e = cc
none-broken false fault none = refl

-- a value without fault has no float
pub has_float-faultless : (d : Data) (config : Config) → fault_of d config ≡ None → has_float d ≡ false
has_float-faultless d config none =
    let fraction = fault_if (has_float d) faults.Fraction in
    let times = or_next (fault_if (not (keeps_times config)) faults.TimesRule) fraction in
    let low = or_next (option_map faults.BelowMinimum (find (is_low d) settings_in_order)) times in
    none-broken (has_float d) faults.Fraction
    (none_after (fault_if (not (keeps_times config)) faults.TimesRule) fraction
    (none_after (option_map faults.BelowMinimum (find (is_low d) settings_in_order)) times
    (none_after (option_map faults.BadValue (find (is_bad d) settings_in_order)) low none)))

-- a value without fault is the configuration of its text
pub judged-faultless : (d : Data) (text : List ℕ) → fault_of d (config_in d) ≡ None → text ≡ compact_text d
    → judged d ≡ Ok (record { text = text; config = config_in d })
judged-faultless d text none is =
    ap (λ (o : Option ConfigFault). unless_fault o (record { text = compact_text d; config = config_in d })) none
    ∙ ap (λ (t : List ℕ). Ok (record { text = t; config = config_in d })) (sym is)

-- a patch that is an object leaves an object
pub object_in-with_patch : (present : Option Data) (d : Data) → object_in d ≡ Ok d
    → object_in (with_patch present d) ≡ Ok (with_patch present d)
object_in-with_patch present null is = is
object_in-with_patch present (boolean b) is = is
object_in-with_patch present (number n) is = is
object_in-with_patch present (string s) is = is
object_in-with_patch present (array ds) is = is
object_in-with_patch present (object ms) is = refl
