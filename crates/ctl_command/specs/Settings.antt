-- Settings as KEY=VALUE.
use Rattle.std.specs.Prelude.{ℕ, ◌==◌, Bool, if◌then◌else◌, List, Option, Some, None, length}
use Rattle.std.specs.List.{list_any}
use Rattle.ctl_command.specs.Texts.{SettingText}
use Rattle.ctl_command.specs.Words.{equals_sign, cut_once, parts_between}
use Rattle.ctl_command.specs.declared.setting.Setting.{Setting}

-- the key and the value of a setting
abbrev pub setting_text : Setting → SettingText
setting_text setting = record { key = setting.key.now; value = setting.value.now }

-- the parts of a key between its dots
abbrev pub parts_of : List ℕ → List (List ℕ)
parts_of key = parts_between 46 key

-- a text without bytes
abbrev pub is_empty_text : List ℕ → Bool
is_empty_text text = length text == 0

-- one of the parts of a key is empty
abbrev pub has_empty_part : List ℕ → Bool
has_empty_part key = list_any is_empty_text (parts_of key)

-- the setting of a key and a value, if there is a value and no part of the key is empty
abbrev pub setting_by : List ℕ → Option (List ℕ) → Option SettingText
setting_by key None = None
setting_by key (Some value) = if has_empty_part key then None else Some (record { key = key; value = value })

-- the setting that KEY=VALUE is; the value begins behind the first '='
abbrev pub setting_in : List ℕ → Option SettingText
setting_in text = setting_by (cut_once equals_sign text).0 (cut_once equals_sign text).1
