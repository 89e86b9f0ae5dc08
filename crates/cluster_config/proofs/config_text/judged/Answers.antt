use Rattle.std.proofs.Common.{◌≡◌, None, Ok, string_bytes, sym, ap, ◌∙◌}
use Rattle.std.proofs.lemmas.Str.{is_utf8-from_IsUtf8, IsUtf8-string_bytes}
use Rattle.store_keys.specs.declared.config.Config.{Config}
use Rattle.store_keys.specs.Settings.{Settings}
use Rattle.serde_json.specs.View.{view}
use Rattle.serde_json.specs.Written.{compact_text}
use Rattle.cluster_config.specs.ConfigFaults.{fault_of}
use Rattle.cluster_config.specs.ConfigReading.{judged, config_read}
use Rattle.cluster_config.specs.SettingValues.{config_in}
use Rattle.cluster_config.proofs.ReadingLaws.{config_read-object, has_float-faultless, judged-faultless}
use Rattle.cluster_config.proofs.config_text.judged.Goals as goal

pub returns : goal.returns
returns c =
    let d = view c.args.object.now in
    let text = string_bytes c.in_ok-text.text in
    let none : fault_of d (config_in d) ≡ None = ap (fault_of d) (sym c.config_in-config.ensures)
    ∙ sym c.fault_of.ensures ∙ c.in_default.is in
    let written : text ≡ compact_text d = c.in_ok-text.ensures.text (has_float-faultless d (config_in d) none) in
    let is : judged d ≡ Ok c.new.result =
    judged-faultless d text none written
    ∙ ap (λ (config : Config). Ok (record { text = text; config = config })) (sym c.config_in-config.ensures)
    ∙ ap Ok (sym c.new.ensures) in
    record {
      answers = λ _. sym is;
      reads_back = record {
        reads_back = ap (λ (s : Settings). config_read s.text) c.new.ensures
            ∙ config_read-object text d (is_utf8-from_IsUtf8 text (IsUtf8-string_bytes c.in_ok-text.text))
            (c.in_ok-text.ensures.reads_back c.requires.nests) c.requires.object
            ∙ is;
      };
    }
