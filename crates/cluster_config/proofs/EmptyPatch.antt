-- The patch `{}` leaves a configuration as it is.
use Rattle.std.proofs.Common.{◌≡◌, List, [], ◌∷◌, Bool, true, false, cond, codes, Option, Some, None, option_map, find, Result, Ok, lit<, refl, ap, ◌∙◌}
use Rattle.std.proofs.lemmas.Str.{is_utf8-from_IsUtf8, IsUtf8-from_ascii}
use Rattle.std.proofs.lemmas.Str.Ascii.{IsAscii-cons, IsAscii-nil}
use Rattle.std.specs.Str.{is_utf8}
use Rattle.store_keys.specs.Settings.{Settings}
use Rattle.store_keys.specs.declared.config.Config.{Config}
use Rattle.serde_json.specs.Data.{Data, null, boolean, number, string, array, object, Members, no_members}
use Rattle.serde_json.specs.Read.{read}
use Rattle.serde_json.proofs.OnLiterals.{serde_json_on_literals}
use Rattle.cluster_config.specs.declared.config_fault.ConfigFault.{ConfigFault}
use Rattle.cluster_config.specs.declared.config_fault.ConfigFault.TheVariants as faults
use Rattle.cluster_config.specs.declared.setting.Setting.{Setting}
use Rattle.cluster_config.specs.declared.setting.Setting.TheVariants as settings
use Rattle.cluster_config.specs.ConfigFaults.{is_changed, is_switched}
use Rattle.cluster_config.specs.ConfigReading.{on_ok, unless_fault, json_of, object_if_json, object_of, judged, config_patched, in_place_of, with_patch, IsConfiguration}
use Rattle.cluster_config.specs.SettingTable.{settings_in_order}
use Rattle.cluster_config.proofs.ConfigFacts.{err-not-ok}

-- what is read as a configuration is an object
was-object : (o : Option Data) (s : Settings) → on_ok (object_if_json o) judged ≡ Ok s
    → (ms : Members) × (o ≡ Some (object ms)) × (judged (object ms) ≡ Ok s)
was-object None s e = absurd (err-not-ok faults.NotJson s e)
was-object (Some null) s e = absurd (err-not-ok faults.NotObject s e)
was-object (Some (boolean b)) s e = absurd (err-not-ok faults.NotObject s e)
was-object (Some (number n)) s e = absurd (err-not-ok faults.NotObject s e)
was-object (Some (string t)) s e = absurd (err-not-ok faults.NotObject s e)
was-object (Some (array ds)) s e = absurd (err-not-ok faults.NotObject s e)
was-object (Some (object ms)) s e = (ms, refl, e)

not-switched : (on : Bool) → is_switched on on ≡ false
not-switched true = refl
not-switched false = refl

unchanged : (c : Config) (setting : Setting) → is_changed c c setting ≡ false
unchanged c settings.FailsafeMode = not-switched c.failsafe_mode
unchanged c settings.LoopWait = refl
unchanged c settings.MaximumLagOnFailover = refl
unchanged c settings.Pause = refl
unchanged c settings.UsePgRewind = refl
unchanged c settings.PrimaryStartTimeout = refl
unchanged c settings.RetryTimeout = refl
unchanged c settings.StandbyCluster = refl
unchanged c settings.SynchronousMode = not-switched c.quorum
unchanged c settings.SynchronousModeStrict = refl
unchanged c settings.SynchronousNodeCount = refl
unchanged c settings.Ttl = refl

none-passes : (p : Setting → Bool) → ((setting : Setting) → p setting ≡ false) → (all : List Setting)
    → find p all ≡ None
none-passes p fails [] = refl
none-passes p fails (setting ∷ all) =
    ap (λ (b : Bool). cond b (Some setting) (find p all)) (fails setting) ∙ none-passes p fails all

-- a configuration may stand in its own place
in-its-place : (s : Settings) → in_place_of s.config s ≡ Ok s
in-its-place s = ap (λ (o : Option Setting). unless_fault (option_map faults.NotBuilt o) s)
    (none-passes (is_changed s.config s.config) (unchanged s.config) settings_in_order)

empty-utf8 : is_utf8 (codes "{}") ≡ true
empty-utf8 = is_utf8-from_IsUtf8 (codes "{}")
    (IsUtf8-from_ascii (codes "{}") (IsAscii-cons 123 (125 ∷ []) (lit< tt) (IsAscii-cons 125 [] (lit< tt) IsAscii-nil)))

empty-read : read (codes "{}") ≡ Some (object no_members)
unfolding serde_json_on_literals
empty-read = refl

pub empty-object : object_of (codes "{}") ≡ Ok (object no_members)
empty-object =
    ap (λ (t : Bool). object_if_json (cond t (read (codes "{}")) None)) empty-utf8
    ∙ ap object_if_json empty-read

pub config_patched-empty : (s : Settings) → IsConfiguration s → config_patched s (codes "{}") ≡ Ok s
config_patched-empty s is =
    let was : (ms : Members) × (json_of s.text ≡ Some (object ms)) × (judged (object ms) ≡ Ok s) =
    was-object (json_of s.text) s is.reads_back in
    ap (λ (r : Result Data ConfigFault).
    on_ok (on_ok r (λ patch. judged (with_patch (json_of s.text) patch))) (in_place_of s.config))
    empty-object
    ∙ ap (λ (o : Option Data). on_ok (judged (with_patch o (object no_members))) (in_place_of s.config)) was.1
    ∙ ap (λ (r : Result Settings ConfigFault). on_ok r (in_place_of s.config)) was.2
    ∙ in-its-place s
