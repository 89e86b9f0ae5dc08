-- What is known of each configuration that is read.
use Rattle.std.proofs.Common.{◌≡◌, ℕ, ◌+◌, ◌*◌, ◌≤◌, List, Bool, true, false, not, Option, Some, None, option_map, find, Result, Ok, Err, refl, sym, ap, subst}
use Rattle.std.proofs.lemmas.Bool.{leb-true}
use Rattle.store_keys.specs.Settings.{Settings}
use Rattle.store_keys.specs.declared.config.Config.{Config}
use Rattle.serde_json.specs.Data.{Data}
use Rattle.serde_json.specs.Written.{has_float}
use Rattle.cluster_config.specs.declared.config_fault.ConfigFault.{ConfigFault}
use Rattle.cluster_config.specs.declared.config_fault.ConfigFault.TheVariants as faults
use Rattle.cluster_config.specs.ConfigFaults.{is_bad, is_low, keeps_times, or_next, fault_if, fault_of}
use Rattle.cluster_config.specs.ConfigReading.{on_ok, unless_fault, object_of, judged, config_read}
use Rattle.cluster_config.specs.SettingTable.{settings_in_order}
use Rattle.cluster_config.specs.SettingValues.{config_in}
use Rattle.cluster_config.proofs.ReadingLaws.{none_after, unless_broken}

pub err-not-ok : {A : Type 0} (fault : ConfigFault) (x : A) → Err fault ≡ Ok x → ⊥
err-not-ok fault x e = cc

same-ok : (r : Result Settings ConfigFault) (x y : Settings) → r ≡ Ok x → r ≡ Ok y → x ≡ y
same-ok r x y e f = cc

pub was-judged : (r : Result Data ConfigFault) (s : Settings) → on_ok r judged ≡ Ok s → (d : Data) × (judged d ≡ Ok s)
was-judged (Ok d) s e = (d, e)
was-judged (Err fault) s e = absurd (err-not-ok fault s e)

pub had-no-fault : (o : Option ConfigFault) (x s : Settings) → unless_fault o x ≡ Ok s → (o ≡ None) × (x ≡ s)
had-no-fault None x s e = (refl, same-ok (Ok x) x s refl e)
had-no-fault (Some fault) x s e = absurd (err-not-ok fault s e)

not-false : (b : Bool) → not b ≡ false → b ≡ true
not-false true e = refl
not-false false e = sym e

kept-times : (d : Data) (config : Config) → fault_of d config ≡ None → keeps_times config ≡ true
kept-times d config none =
    let fraction = fault_if (has_float d) faults.Fraction in
    let times = or_next (fault_if (not (keeps_times config)) faults.TimesRule) fraction in
    let low = or_next (option_map faults.BelowMinimum (find (is_low d) settings_in_order)) times in
    not-false (keeps_times config) (unless_broken (not (keeps_times config)) faults.TimesRule fraction
    (none_after (option_map faults.BelowMinimum (find (is_low d) settings_in_order)) times
    (none_after (option_map faults.BadValue (find (is_bad d) settings_in_order)) low none)))

-- a configuration that is read keeps the rule on times
pub read-keeps_times : (bytes : List ℕ) (s : Settings) → config_read bytes ≡ Ok s
    → s.config.loop_wait + 2 * s.config.retry_timeout ≤ s.config.ttl
read-keeps_times bytes s e =
    let was : (d : Data) × (judged d ≡ Ok s) = was-judged (object_of bytes) s e in
    let parts = had-no-fault (fault_of was.0 (config_in was.0)) _ s was.1 in
    let config : config_in was.0 ≡ s.config = ap (λ (x : Settings). x.config) parts.1 in
    subst (λ (c : Config). c.loop_wait + 2 * c.retry_timeout ≤ c.ttl) config
    (leb-true _ _ (kept-times was.0 (config_in was.0) parts.0))
