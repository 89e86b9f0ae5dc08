-- The head of a generated script is one.
use Rattle.std.proofs.Common.{◌≡◌, Bool, List, [], ◌∷◌, ◌++◌, None, refl, ap, ◌∙◌, sym, subst, lit≤, lit<}
use Rattle.std.specs.Bool.{Decides}
use Rattle.indexmap.specs.IndexMap.{insert_entry}
use Rattle.script_grammar.specs.Members.{place_of}
use Rattle.script_grammar.proofs.MemberLaws.{members-insert_entry}
use Rattle.member_options.specs.declared.member_option.MemberOptions.{MemberOptions}
use Rattle.script_model.specs.Script.{MemberText, member_names, member_of_entry, members_in, default_base, IsHead, AreDifferent}
use Rattle.pat_base.specs.declared.name.Name.{Name}
use Rattle.script_grammar.proofs.NameLaws.{AreDifferent-push}
use Rattle.generator_model.specs.Opening.{first_name, second_name, third_name, generated_options, generated_member, generated_members, generated_head}
use Rattle.store_keys.specs.Settings.{Settings}

none-AreDifferent : AreDifferent []
none-AreDifferent i j name p q = cc

-- a head of these members is one
pub generated-IsHead : (cluster : Name) (config : Settings) (members : List MemberText) → members ≡ generated_members
    → IsHead (record { cluster = cluster; config = config; base = default_base; members = members })
generated-IsHead cluster config members is =
    subst (λ (ms : List MemberText).
    IsHead (record { cluster = cluster; config = config; base = default_base; members = ms }))
    (sym is)
    (record {
      base_least = lit≤ tt;
      base_most = lit≤ tt;
      some = lit< tt;
      few = lit≤ tt;
      different = AreDifferent-push (first_name ∷ second_name ∷ []) third_name
          (AreDifferent-push (first_name ∷ []) second_name
          (AreDifferent-push [] first_name none-AreDifferent refl) refl)
          refl;
    })

pub generated_head-IsHead : IsHead generated_head
generated_head-IsHead = generated-IsHead generated_head.cluster generated_head.config generated_members refl

-- a member that is put behind others
pub member-put : (p : Name → Name → Bool) → ((n m : Name) → Decides (p n m) (n ≡ m))
    → (es after : List (Name × MemberOptions)) (ms : List MemberText) (name wanted : Name) (options : MemberOptions)
    → after ≡ insert_entry p es name options → members_in es ≡ ms → name ≡ wanted → options ≡ generated_options
    → place_of (member_names ms) wanted ≡ None → members_in after ≡ ms ++ generated_member wanted ∷ []
member-put p decides es after ms name wanted options put was is declared none =
    ap (λ (l : List (Name × MemberOptions)). members_in l) put
    ∙ members-insert_entry p name options (decides name) es
    (ap (λ (l : List MemberText). place_of (member_names l) name) was ∙ ap (place_of (member_names ms)) is ∙ none)
    ∙ (λ i. was i ++ member_of_entry (is i, declared i) ∷ [])
