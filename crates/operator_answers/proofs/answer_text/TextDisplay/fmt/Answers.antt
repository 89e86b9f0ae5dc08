use Rattle.std.proofs.Common.{◌≡◌, ℕ, List, refl, subst}
use Rattle.std.specs.Fmt.{HasWritten}
use Rattle.pat_base.specs.declared.name.Name.{Name}
use Rattle.cluster_config.specs.declared.config_fault.ConfigFault.{ConfigFault}
use Rattle.operator_answers.specs.declared.answer_text.Text.{Text}
use Rattle.operator_answers.specs.declared.answer_text.Text.TheVariants as texts
use Rattle.operator_answers.specs.AnswerTexts.{answer_text, IfFixed}
use Rattle.operator_answers.proofs.answer_text.TextDisplay.fmt.Goals as goal

fixed-told : (text : Text) (P : Type 0) → ((name : Name) → text ≡ texts.SwitchedOver name → ⊥)
    → ((name : Name) → text ≡ texts.FailedOver name → ⊥)
    → ((fault : ConfigFault) → text ≡ texts.BadConfiguration fault → ⊥) → IfFixed text P → P
fixed-told (texts.SwitchedOver name) P switched failed bad told = absurd (switched name refl)
fixed-told (texts.FailedOver name) P switched failed bad told = absurd (failed name refl)
fixed-told (texts.BadConfiguration fault) P switched failed bad told = absurd (bad fault refl)
fixed-told _ P switched failed bad told = told

pub returns-in_default : goal.returns-in_default
returns-in_default g c =
    let told = fixed-told c.args.self.now (c.fixed_words.result.now ≡ answer_text c.args.self.now)
    c.in_default.not-SwitchedOver c.in_default.not-FailedOver c.in_default.not-BadConfiguration c.fixed_words.ensures in
    record {
      writes = λ plain ok.
          subst (λ (text : List ℕ).
          HasWritten {W = g.row.W.Denot} g.W.Write.write_str_gives c.args.f.now text c.write_str.new.self)
          told (c.write_str.ensures.writes plain ok);
      styled = tt;
    }
