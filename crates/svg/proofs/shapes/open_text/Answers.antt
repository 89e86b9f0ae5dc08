use Rattle.std.proofs.Common.{ℕ, List, ◌++◌, ◌∙◌, ap, string_bytes}
use Rattle.svg.proofs.Texts.{label-text}
use Rattle.svg.proofs.shapes.open_text.Goals as goal

pub returns : goal.returns
returns c =
    let had : List ℕ = string_bytes c.args.out.now in
    c.in_ok-write.ensures.bytes
    ∙ ap (λ t. had ++ t)
    (label-text c.args.x c.args.y c.args.paint c.class_word-class.result.now c.class_word-class.ensures
    c.ranges.x.fits c.ranges.y.fits)
