-- What one more line makes of a draft's parts.
use Rattle.std.proofs.Common.{◌≡◌, ℕ, true, false, cond, List, Option, Some, None, is_none, Result, Ok, Err, refl, ap, ◌∙◌}
use Rattle.pat_base.specs.declared.name.Name.{Name}
use Rattle.store_keys.specs.Settings.{Settings}
use Rattle.script_grammar.specs.Draft.{DraftText, draft_of}
use Rattle.script_words.specs.Faults.{on_ok}
use Rattle.script_grammar.specs.Reading.{known_addition, next_config, is_config, with_config, with_other, base_after, members_after, body_after, after_counted}
use Rattle.script_model.specs.Script.{MemberText, member_names}
use Rattle.script_grammar.specs.FirstWords.{keyword_of}
use Rattle.script_words.specs.Words.{cut_word}
use Rattle.script_words.specs.declared.fault.Fault.{Fault}
use Rattle.script_model.specs.declared.line.Line.{Line}

twice : {A B C : Type 0} (r : Result A Fault) (f : A → B) (g : B → C)
    → on_ok (on_ok r (λ x. Ok (f x))) (λ y. Ok (g y)) ≡ on_ok r (λ x. Ok (g (f x)))
twice (Ok x) f g = refl
twice (Err e) f g = refl

-- a line 'config' behind the cluster's
pub counted-config : (o : Option Name) (config : Option Settings) (base : Option ℕ) (members : List MemberText)
    (body : List Line) (line : List ℕ) → is_none o ≡ false → is_config (keyword_of (cut_word line).0) ≡ true
    → after_counted (draft_of o config base members body) line
    ≡ on_ok (next_config config body (cut_word line).1) (λ c. Ok (draft_of o (Some c) base members body))
counted-config None config base members body line some is = cc
counted-config (Some cluster) config base members body line some is =
    let d : DraftText = record { cluster = cluster; config = config; base = base; members = members; body = body } in
    ap (λ t.
    on_ok (cond t (with_config d (cut_word line).1) (with_other d (keyword_of (cut_word line).0) (cut_word line).1))
    (λ e. Ok (Some e)))
    is
    ∙ twice (next_config config body (cut_word line).1) (λ c. record d { config = Some c }) (λ (e : DraftText). Some e)

-- another
pub counted-other : (o : Option Name) (config : Option Settings) (base : Option ℕ) (members : List MemberText)
    (body : List Line) (line : List ℕ) → is_none o ≡ false → is_config (keyword_of (cut_word line).0) ≡ false
    → after_counted (draft_of o config base members body) line
    ≡ on_ok (known_addition base (member_names members) body (keyword_of (cut_word line).0) (cut_word line).1)
    (λ added. Ok (draft_of o config (base_after base added) (members_after members added) (body_after body added)))
counted-other None config base members body line some is = cc
counted-other (Some cluster) config base members body line some is =
    let d : DraftText = record { cluster = cluster; config = config; base = base; members = members; body = body } in
    ap (λ t.
    on_ok (cond t (with_config d (cut_word line).1) (with_other d (keyword_of (cut_word line).0) (cut_word line).1))
    (λ e. Ok (Some e)))
    is
    ∙ twice (known_addition base (member_names members) body (keyword_of (cut_word line).0) (cut_word line).1)
    (λ added. record {
      cluster = cluster;
      config = config;
      base = base_after base added;
      members = members_after members added;
      body = body_after body added;
    }) (λ (e : DraftText). Some e)
