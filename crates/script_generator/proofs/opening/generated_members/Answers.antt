use Rattle.std.proofs.Common.{[], ◌∷◌, refl, ap}
use Rattle.pat_base.proofs.Names.{name_bytes-injective, same_fields-Decides}
use Rattle.script_model.specs.Script.{members_in}
use Rattle.generator_model.specs.Opening.{first_name, second_name, third_name, generated_member}
use Rattle.generator_model.proofs.HeadLaws.{member-put}
use Rattle.script_generator.proofs.opening.generated_members.Goals as goal

pub returns : goal.returns
returns c =
    let first = member-put _ same_fields-Decides _ _ [] c.name.result first_name c.generated_options.result
    c.in_ok-insert.ensures.entries (ap (λ es. members_in es) c.new-members.ensures.empty)
    (name_bytes-injective c.name.result first_name c.name.ensures) c.generated_options.ensures refl in
    let second = member-put _ same_fields-Decides _ _ (generated_member first_name ∷ []) c.name-2.result
    second_name c.generated_options-2.result c.in_ok-insert-2.ensures.entries first
    (name_bytes-injective c.name-2.result second_name c.name-2.ensures) c.generated_options-2.ensures refl in
    member-put _ same_fields-Decides _ _ (generated_member first_name ∷ generated_member second_name ∷ [])
    c.name-3.result third_name c.generated_options-3.result c.in_ok-insert-3.ensures.entries second
    (name_bytes-injective c.name-3.result third_name c.name-3.ensures) c.generated_options-3.ensures refl
