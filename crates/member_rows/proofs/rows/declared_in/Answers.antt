use Rattle.std.proofs.Common.{◌≡◌, ◌∙◌, ap, arith, option_copied, slice_get}
use Rattle.std.proofs.lemmas.Grind.{common_steps}
use Rattle.std.proofs.lemmas.Option.{gets}
use Rattle.member_rows.proofs.rows.declared_in.Goals as goal

pub returns : goal.returns
returns c =
    let there : option_copied c.get.result ≡ slice_get c.members.result.now c.args.member.number =
    grind (arith, common_steps, gets) in
    c.copied.ensures ∙ there ∙ ap (λ members. slice_get members c.args.member.number) c.members.ensures
