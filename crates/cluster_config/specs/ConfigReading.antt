-- Reading, patching and replacing a configuration.
use Rattle.std.specs.Prelude.{◌≡◌, ◌≢◌, ℕ, List, if◌then◌else◌, Option, Some, None, Result, Ok, Err, option_map, find}
use Rattle.std.specs.Str.{is_utf8}
use Rattle.store_keys.specs.Settings.{Settings}
use Rattle.store_keys.specs.declared.config.Config.{Config}
use Rattle.serde_json.specs.Data.{Data, null, boolean, number, string, array, object}
use Rattle.serde_json.specs.Read.{read}
use Rattle.serde_json.specs.Written.{compact_text}
use Rattle.cluster_config.specs.declared.config_fault.ConfigFault.{ConfigFault}
use Rattle.cluster_config.specs.declared.config_fault.ConfigFault.TheVariants as faults
use Rattle.cluster_config.specs.ConfigFaults.{fault_of, is_changed}
use Rattle.cluster_config.specs.ConfigMerging.{onto}
use Rattle.cluster_config.specs.SettingTable.{settings_in_order}
use Rattle.cluster_config.specs.SettingValues.{config_in}

-- what follows what went well
abbrev pub on_ok : {A B : Type 0} → Result A ConfigFault → (A → Result B ConfigFault) → Result B ConfigFault
on_ok (Ok x) next = next x
on_ok (Err fault) next = Err fault

-- what went well, unless there is a fault
abbrev pub unless_fault : {A : Type 0} → Option ConfigFault → A → Result A ConfigFault
unless_fault None x = Ok x
unless_fault (Some fault) x = Err fault

-- the JSON value that bytes are; none where they are no JSON, aren't UTF-8 or nest too deep
abbrev pub json_of : List ℕ → Option Data
json_of bytes = if is_utf8 bytes then read bytes else None

-- a value that is an object
abbrev pub object_in : Data → Result Data ConfigFault
object_in null = Err faults.NotObject
object_in (boolean b) = Err faults.NotObject
object_in (number n) = Err faults.NotObject
object_in (string s) = Err faults.NotObject
object_in (array ds) = Err faults.NotObject
object_in (object ms) = Ok (object ms)

-- the object that a value is, if there is one
abbrev pub object_if_json : Option Data → Result Data ConfigFault
object_if_json None = Err faults.NotJson
object_if_json (Some d) = object_in d

-- the object that bytes are
abbrev pub object_of : List ℕ → Result Data ConfigFault
object_of bytes = object_if_json (json_of bytes)

-- a configuration that sets this, or its first fault. Its text is compact, and its names are in order
abbrev pub judged_as : Data → Config → Result Settings ConfigFault
judged_as d config = unless_fault (fault_of d config) (record { text = compact_text d; config = config })

-- an object as a configuration, or its first fault
abbrev pub judged : Data → Result Settings ConfigFault
judged d = judged_as d (config_in d)

-- the configuration that bytes are, or their first fault
abbrev pub config_read : List ℕ → Result Settings ConfigFault
config_read bytes = on_ok (object_of bytes) judged

-- a configuration in place of another, unless it changes what may not be changed
abbrev pub in_place_of : Config → Settings → Result Settings ConfigFault
in_place_of present next =
    unless_fault (option_map faults.NotBuilt (find (is_changed present next.config) settings_in_order)) next

-- the configuration that bytes are, in place of another
abbrev pub config_replaced : Settings → List ℕ → Result Settings ConfigFault
config_replaced present bytes = on_ok (config_read bytes) (in_place_of present.config)

-- an object, with a patch merged into it
abbrev pub with_patch : Option Data → Data → Data
with_patch present null = null
with_patch present (boolean b) = boolean b
with_patch present (number n) = number n
with_patch present (string s) = string s
with_patch present (array ds) = array ds
with_patch present (object patch) = object (onto present patch)

-- a configuration with a patch merged into it, or the first fault
abbrev pub config_patched : Settings → List ℕ → Result Settings ConfigFault
config_patched present bytes = on_ok
    (on_ok (object_of bytes) (λ patch. judged (with_patch (json_of present.text) patch))) (in_place_of present.config)

-- a call answers this, unless there was no memory
abbrev pub Answers : {A : Type 0} → Result A ConfigFault → Result A ConfigFault → Type 0
Answers result answer = result ≢ Err faults.Memory → result ≡ answer

-- a configuration that is what its text says
pub record IsConfiguration (settings : Settings) : Type 0 where
  pub reads_back : config_read settings.text ≡ Ok settings
