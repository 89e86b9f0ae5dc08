use Rattle.std.proofs.Common.{◌≡◌, Bool, true, false, cond, Option, None, refl, sym}
use Rattle.std.proofs.lemmas.Str.{is_utf8-from_IsUtf8, IsUtf8-from_is_utf8}
use Rattle.std.specs.Str.{is_utf8}
use Rattle.serde_json.specs.Data.{Data}
use Rattle.serde_json.specs.Read.{read}
use Rattle.operator_keys.proofs.body.json_of.Goals as goal

no_json : (text : Bool) (d : Option Data) → (text ≡ true → d ≡ None) → None ≡ cond text d None
no_json true d none = sym (none refl)
no_json false d none = refl

pub returns-in-Ok : goal.returns-in-Ok
returns-in-Ok c = rw (is_utf8-from_IsUtf8 c.args.bytes.now c.in-Ok.ensures.ok.0) (sym c.in-Ok.ensures.ok.1)

pub returns-in_default : goal.returns-in_default
returns-in_default c =
    no_json (is_utf8 c.args.bytes.now) (read c.args.bytes.now)
    (λ e. c.in-Err.ensures.err (λ memory. c.in_default.not-Memory (c.classify.ensures.memory.1 memory))
    (IsUtf8-from_is_utf8 c.args.bytes.now e))
