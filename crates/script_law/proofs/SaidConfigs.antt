-- A configuration that a script says is what its text says, and the
-- line of that text is short, since it is no longer than what was read.
use Rattle.std.proofs.Common.{ℕ, ◌≡◌, Bool, true, false, cond, List, [], ◌∷◌, ◌++◌, map, Option, Some, None, Result, Ok, refl, subst, arith}
use Rattle.store_keys.specs.Settings.{Settings}
use Rattle.cluster_config.specs.ConfigReading.{config_read, IsConfiguration}
use Rattle.cluster_config.specs.declared.config_fault.ConfigFault.{ConfigFault}
use Rattle.cluster_config.proofs.LineLaws.{default-IsConfiguration}
use Rattle.cluster_config.proofs.TextLaws.{config_read-length, config_read-IsConfiguration}
use Rattle.script_words.specs.Lines.{lines_in, is_skipped, counted_lines}
use Rattle.script_model.specs.Script.{ScriptText, config_text, config_or_default, IsShort}
use Rattle.script_model.specs.Spelling.{HeadLine, ConfigLine, BaseLine, MembersLine, head_line_text, configs_said, read_at_most_once, AllInForm, Spells}

-- the lines that count are in form where all are
counted-one : (t : Bool) (line : List ℕ) (lines : List (List ℕ)) → AllInForm (line ∷ lines) → AllInForm lines
    → AllInForm (cond t lines (line ∷ lines))
counted-one true line lines h k = k
counted-one false line lines h k = (h.0, k)

counted-AllInForm : (lines : List (List ℕ)) → AllInForm lines → AllInForm (counted_lines lines)
counted-AllInForm [] h = tt
counted-AllInForm (line ∷ lines) h = counted-one (is_skipped line) line (counted_lines lines)
    (h.0, counted-AllInForm lines h.1) (counted-AllInForm lines h.1)

-- and so are the first of them
first-AllInForm : (xs ys : List (List ℕ)) → AllInForm (xs ++ ys) → AllInForm xs
first-AllInForm [] ys h = tt
first-AllInForm (x ∷ xs) ys h = (h.0, first-AllInForm xs ys h.1)

-- the bytes that a configuration was read from, on a line that is short
record IsReadFrom (config : Settings) (bytes : List ℕ) : Type 0 where
  pub read : config_read bytes ≡ Ok config
  pub short : IsShort (config_text bytes)

none-said : (rs : List (Result Settings ConfigFault)) (config : Settings) → rs ≡ [] → rs ≡ Ok config ∷ [] → ⊥
none-said rs config is e = cc

one-said : (r : Result Settings ConfigFault) (rs : List (Result Settings ConfigFault)) (config : Settings)
    → r ∷ rs ≡ Ok config ∷ [] → r ≡ Ok config
one-said r rs config e = cc

said-from : (said : List HeadLine) (config : Settings) → AllInForm (map head_line_text said)
    → configs_said said ≡ Ok config ∷ [] → (bytes : List ℕ) × IsReadFrom config bytes
said-from [] config h e = absurd (none-said [] config refl e)
said-from (ConfigLine bytes ∷ said) config h e =
    (bytes, record { read = one-said (config_read bytes) _ config e; short = h.0.short })
said-from (BaseLine base ∷ said) config h e = said-from said config h.1 e
said-from (MembersLine line ∷ said) config h e = said-from said config h.1 e

-- what is known of the configuration of a script that was read
pub record IsSaid (config : Settings) : Type 0 where
  pub configuration : IsConfiguration config
  pub short : IsShort (config_text config.text)

read-IsSaid : (config : Settings) (bytes : List ℕ) → IsReadFrom config bytes → IsSaid config
read-IsSaid config bytes h = record {
  configuration = config_read-IsConfiguration bytes config h.read;
  short = omega (arith, h.short, config_read-length bytes config h.read);
}

said-IsSaid : (said : List HeadLine) (o : Option Settings) → AllInForm (map head_line_text said)
    → configs_said said ≡ read_at_most_once o → IsSaid (config_or_default o)
said-IsSaid said None h e = record { configuration = default-IsConfiguration; short = omega arith }
said-IsSaid said (Some config) h e = let from = said-from said config h e in read-IsSaid config from.0 from.1

-- the configuration of a script that bytes spell
pub spelled-IsSaid : (bytes : List ℕ) (s : ScriptText) → Spells bytes s → IsSaid s.head.config
spelled-IsSaid bytes s h =
    let counted : AllInForm (h.head ++ h.body) = subst AllInForm h.lines (counted-AllInForm (lines_in bytes) h.form) in
    let head = subst AllInForm h.says.order (first-AllInForm h.head h.body counted) in
    subst IsSaid h.says.config_is (said-IsSaid h.says.said h.says.config head.1 h.says.configs)
