use Rattle.std.proofs.Common.{ℕ, ◌∙◌, get_or, string_bytes}
use Rattle.std.proofs.lemmas.List.{get_or_default}
use Rattle.svg.specs.declared.paint.Paint.{Paint}
use Rattle.svg.specs.declared.paint.Paint.TheVariants.{Replica}
use Rattle.picture.proofs.Steps.{keys-step}
use Rattle.picture.specs.declared.legend.TheConstants.{KEYS}
use Rattle.picture.proofs.legend.push_keys.Goals as goal

pub loop-place-preserved : goal.loop-place-preserved
loop-place-preserved c =
    let place : ℕ = c.loop-place.place in
    let paint : Paint = get_or KEYS place Replica in
    keys-step place c.args.y KEYS paint (string_bytes c.loop-place.out) (string_bytes c.push_key.new.out)
    c.loop-place-test.true (get_or_default KEYS place Replica paint c.loop-place-test.true) c.in_ok-push_key.ensures
    ∙ c.loop-place.invariant
