use Rattle.std.proofs.Common.{◌≡◌, Bool, true, false, refl, sym}
use Rattle.std.specs.Str.{is_utf8}
use Rattle.std.proofs.lemmas.Str.{is_utf8-from_IsUtf8, IsUtf8-from_is_utf8}
use Rattle.script_words.proofs.lines.is_text.Goals as goal

refused : (t : Bool) → (t ≡ true → ⊥) → false ≡ t
refused true h = absurd (h refl)
refused false h = refl

pub returns-in-Ok : goal.returns-in-Ok
returns-in-Ok c = sym (is_utf8-from_IsUtf8 c.args.line.now c.in-Ok.ensures.cases.1)

pub returns-in-Err : goal.returns-in-Err
returns-in-Err c =
    refused (is_utf8 c.args.line.now) (λ e. c.in-Err.ensures.cases.0 (IsUtf8-from_is_utf8 c.args.line.now e))
