use Rattle.std.proofs.Common.{◌<◌, ◌∙◌, refl, length, ap, add-one, arith}
use Rattle.std.specs.Prelude.{slice_set}
use Rattle.std.proofs.lemmas.Option.{slice_get_read}
use Rattle.summary.proofs.Filling.{filled-more}
use Rattle.summary.proofs.head.margins_of.Goals as goal

pub loop-place-preserved : goal.loop-place-preserved
loop-place-preserved c =
    let member = c.index-members-place.result in
    let within : c.loop-place.place < length c.args.members.now = c.loop-place-test.true in
    rw add-one (ap (λ xs. slice_set xs c.loop-place.place member.margin) c.loop-place.invariant
    ∙ filled-more _ c.args.members.now c.loop-place.place member (omega (arith, within, c.requires))
    (slice_get_read c.args.members.now
    (length c.args.members.now) c.loop-place.place member refl within c.index-members-place.is))
