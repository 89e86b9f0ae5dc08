use Rattle.std.proofs.Common.{◌≡◌, ◌∙◌, ap, arith, option_copied, slice_get}
use Rattle.std.proofs.lemmas.Grind.{common_steps}
use Rattle.std.proofs.lemmas.Option.{gets}
use Rattle.sync_state.specs.Candidates.{name_by}
use Rattle.quorum_commit.proofs.candidates.name_of.Goals as goal

pub returns : goal.returns
returns c =
    let there : option_copied c.get.result ≡ slice_get c.members.result.now c.args.member.number =
    grind (arith, common_steps, gets) in
    c.name_by.ensures ∙ ap name_by there
    ∙ ap (λ members. name_by (slice_get members c.args.member.number)) c.members.ensures
