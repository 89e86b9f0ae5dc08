-- A draft that is whole.
use Rattle.std.proofs.Common.{◌≡◌, ℕ, List, [], ◌∷◌, length, Option, Some, Ok, refl, ap}
use Rattle.pat_base.specs.declared.name.Name.{Name}
use Rattle.store_keys.specs.Settings.{Settings}
use Rattle.script_grammar.specs.Draft.{draft_of}
use Rattle.script_grammar.specs.Reading.{finished}
use Rattle.script_model.specs.Script.{MemberText, ScriptText, IsScript, config_or_default, base_or_default}
use Rattle.script_model.specs.declared.line.Line.{Line}

pub finished-IsScript : (o : Option Name) (cluster : Name) (config : Option Settings) (base : Option ℕ)
    (members : List MemberText) (body : List Line) → o ≡ Some cluster → (length members ≡ 0 → ⊥)
    → ((text : ScriptText) → finished (draft_of o config base members body) ≡ Ok text → IsScript text)
    → IsScript (record {
      head = record {
        cluster = cluster;
        config = config_or_default config;
        base = base_or_default base;
        members = members;
      };
      body = body;
    })
finished-IsScript o cluster config base [] body is some law = absurd (some refl)
finished-IsScript o cluster config base (m ∷ members) body is some law =
    law (record {
      head = record {
        cluster = cluster;
        config = config_or_default config;
        base = base_or_default base;
        members = m ∷ members;
      };
      body = body;
    }) (ap (λ c. finished (draft_of c config base (m ∷ members) body)) is)

pub finished-is : (o : Option Name) (cluster : Name) (config : Option Settings) (base : Option ℕ)
    (members : List MemberText) (body : List Line) → o ≡ Some cluster → (length members ≡ 0 → ⊥)
    → finished (draft_of o config base members body) ≡ Ok (record {
      head = record {
        cluster = cluster;
        config = config_or_default config;
        base = base_or_default base;
        members = members;
      };
      body = body;
    })
finished-is o cluster config base [] body is some = absurd (some refl)
finished-is o cluster config base (m ∷ members) body is some =
    ap (λ c. finished (draft_of c config base (m ∷ members) body)) is
