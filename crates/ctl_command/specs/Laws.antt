-- What laws of commands and options say.
use Rattle.std.specs.Prelude.{◌≡◌, ◌⊎◌, ℕ, ◌||◌, Bool, true, false, List, ◌∷◌, ◌++◌, Option, Some, None}
use Rattle.std.specs.List.{list_any}
use Rattle.std.specs.Str.{bytes_eq}
use Rattle.ctl_command.specs.Reading.{is_option}
use Rattle.ctl_command.specs.Tables.{force_text, option_text}
use Rattle.ctl_command.specs.Texts.{FaultText}
use Rattle.ctl_command.specs.Texts as texts
use Rattle.ctl_command.specs.Words.{equals_sign, cut_once}
use Rattle.ctl_command.specs.declared.option_name.ValueOption.{ValueOption}
use Rattle.ctl_command.specs.declared.said.Place.{Place}
use Rattle.ctl_command.specs.declared.said.Place.TheVariants as places

-- a word is among these
abbrev pub is_among : List ℕ → List (List ℕ) → Bool
is_among word words = list_any (bytes_eq word) words

-- a text is the value, if there is one
abbrev pub is_value : List ℕ → Option (List ℕ) → Bool
is_value text None = false
is_value text (Some value) = bytes_eq text value

-- a text is a word, or what stands behind its '='
abbrev pub is_word_or_value : List ℕ → List ℕ → Bool
is_word_or_value text word = bytes_eq text word || is_value text (cut_once equals_sign word).1

-- a text is one of these words, or what stands behind the '=' of one
abbrev pub is_word_or_value_among : List ℕ → List (List ℕ) → Bool
is_word_or_value_among text words = list_any (is_word_or_value text) words

-- a fault names a word
abbrev pub is_at_word : FaultText → Bool
is_at_word texts.NoCommand = false
is_at_word (texts.Unknown word) = true
is_at_word (texts.Missing needed) = false
is_at_word (texts.Extra word) = true

-- the next word is the value of an option
abbrev pub awaits_value : Place → Bool
awaits_value places.Names = false
awaits_value places.Options = false
awaits_value (places.Value option) = true

-- a word is an option by itself: '--force', or one that has its value behind '='
pub record IsWholeOption (word : List ℕ) : Type 0 where
  pub option : is_option word ≡ true
  pub whole : (word ≡ force_text) ⊎ ((value : List ℕ) × ((cut_once equals_sign word).1 ≡ Some value))

-- an option and its value in one word
abbrev pub joined : ValueOption → List ℕ → List ℕ
joined option value = option_text option ++ (equals_sign ∷ value)
