-- The body of the request that changes a setting (Patroni documentation, "patronictl", "patronictl edit-config").
use Rattle.std.specs.Prelude.{ℕ, is_some, if◌then◌else◌, List, ◌++◌, codes, length, replicate}
use Rattle.std.specs.List.{flat_map}
use Rattle.serde_json.specs.Data.{string}
use Rattle.serde_json.specs.Read.{read}
use Rattle.serde_json.specs.Written.{compact_text}
use Rattle.ctl_command.specs.Settings.{parts_of}
use Rattle.ctl_command.specs.Texts.{SettingText}

-- a text as JSON has it
abbrev pub quoted : List ℕ → List ℕ
quoted text = compact_text (string text)

-- a value as it is written, where that is JSON, and else as a text
abbrev pub value_text : List ℕ → List ℕ
value_text value = if is_some (read value) then value else quoted value

-- the beginning of an object, up to the value at this name
abbrev pub opened : List ℕ → List ℕ
opened name = codes "{" ++ (quoted name ++ codes ":")

-- an object for each name, each in the one before, and the value in the last
abbrev pub nested : List (List ℕ) → List ℕ → List ℕ
nested path value = flat_map opened path ++ (value ++ replicate (length path) 125)

-- the body that changes a setting
abbrev pub setting_body : SettingText → List ℕ
setting_body setting = nested (parts_of setting.key) (value_text setting.value)
