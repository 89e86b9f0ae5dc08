-- The text of a configuration that is read is no longer than the bytes
-- that it is read from, and is read as that configuration.
use Rattle.std.proofs.Common.{◌≡◌, ℕ, ◌≤◌, Bool, true, false, cond, List, length, Option, Some, None, Ok, refl, sym, ap, ◌∙◌, subst}
use Rattle.std.specs.Str.{is_utf8}
use Rattle.store_keys.specs.Settings.{Settings}
use Rattle.serde_json.specs.Data.{Data, null, boolean, number, string, array, object}
use Rattle.serde_json.specs.Read.{read}
use Rattle.serde_json.specs.Written.{compact_text}
use Rattle.json_text.proofs.Outlines.{compact-is-read}
use Rattle.json_text.proofs.Texts.{read-length}
use Rattle.cluster_config.specs.declared.config_fault.ConfigFault.TheVariants as faults
use Rattle.cluster_config.specs.ConfigFaults.{fault_of}
use Rattle.cluster_config.specs.ConfigReading.{on_ok, object_in, object_if_json, judged, config_read, IsConfiguration}
use Rattle.cluster_config.specs.SettingValues.{config_in}
use Rattle.cluster_config.proofs.ConfigFacts.{err-not-ok, had-no-fault}
use Rattle.cluster_config.proofs.ReadingLaws.{config_read-object, has_float-faultless}

-- the object that was read, where a configuration was
record IsReadAs (utf8 : Bool) (o : Option Data) (s : Settings) : Type 0 where
  json : Data
  is_utf8 : utf8 ≡ true
  is_json : o ≡ Some json
  is_object : object_in json ≡ Ok json
  was_judged : judged json ≡ Ok s

object-read : (d : Data) (s : Settings) → on_ok (object_in d) judged ≡ Ok s → IsReadAs true (Some d) s
object-read null s e = absurd (err-not-ok faults.NotObject s e)
object-read (boolean b) s e = absurd (err-not-ok faults.NotObject s e)
object-read (number x) s e = absurd (err-not-ok faults.NotObject s e)
object-read (string t) s e = absurd (err-not-ok faults.NotObject s e)
object-read (array ds) s e = absurd (err-not-ok faults.NotObject s e)
object-read (object ms) s e =
    record { json = object ms; is_utf8 = refl; is_json = refl; is_object = refl; was_judged = e }

json-read : (utf8 : Bool) (o : Option Data) (s : Settings)
    → on_ok (object_if_json (cond utf8 o None)) judged ≡ Ok s → IsReadAs utf8 o s
json-read false o s e = absurd (err-not-ok faults.NotJson s e)
json-read true None s e = absurd (err-not-ok faults.NotJson s e)
json-read true (Some d) s e = object-read d s e

-- what was judged has the object's text, and the object has no fault
record IsJudged (d : Data) (s : Settings) : Type 0 where
  faultless : fault_of d (config_in d) ≡ None
  text : compact_text d ≡ s.text

judged-text : (d : Data) (s : Settings) → judged d ≡ Ok s → IsJudged d s
judged-text d s e =
    let faultless =
    had-no-fault (fault_of d (config_in d)) (record { text = compact_text d; config = config_in d }) s e in
    record { faultless = faultless.0; text = ap (λ (x : Settings). x.text) faultless.1 }

pub config_read-length : (bytes : List ℕ) (s : Settings) → config_read bytes ≡ Ok s → length s.text ≤ length bytes
config_read-length bytes s e =
    let was = json-read (is_utf8 bytes) (read bytes) s e in
    subst (λ (text : List ℕ). length text ≤ length bytes) (judged-text was.json s was.was_judged).text
    (read-length bytes was.json was.is_json)

pub config_read-IsConfiguration : (bytes : List ℕ) (s : Settings) → config_read bytes ≡ Ok s → IsConfiguration s
config_read-IsConfiguration bytes s e =
    let was = json-read (is_utf8 bytes) (read bytes) s e in
    let d = was.json in
    let is = judged-text d s was.was_judged in
    let again = compact-is-read bytes d was.is_utf8 was.is_json (has_float-faultless d (config_in d) is.faultless) in
    record {
      reads_back = ap config_read (sym is.text)
          ∙ config_read-object (compact_text d) d again.0 again.1 was.is_object ∙ was.was_judged;
    }
