use Rattle.std.proofs.Common.{◌≡◌, Some, rules, sym, ◌∙◌, refl, length, ap}
use Rattle.std.specs.List.{slice_get}
use Rattle.std.specs.Option.{option_map}
use Rattle.std.proofs.lemmas.Option.{slice_get_read}
use Rattle.pat_base.specs.declared.host.Host.{Host}
use Rattle.pat_base.specs.declared.name.Name.{Name}
use Rattle.agent_model.specs.Operators.{name_in}
use Rattle.agent_upkeep.proofs.operators.name_in.Goals as goal

pub returns-in-Some : goal.returns-in-Some
returns-in-Some c =
    let found : slice_get c.args.members.now c.in_ok-member.member.number ≡ Some c.in-Some.known.now =
    slice_get_read c.args.members.now
    (length c.args.members.now) c.in_ok-member.member.number c.in-Some.known.now refl (search rules) (search rules) in
    ap (option_map (λ (known : Name × Host). known.0)) (sym found)
    ∙ ap (name_in c.args.members.now) (sym c.in_ok-member.was)
