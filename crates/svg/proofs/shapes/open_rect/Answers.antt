use Rattle.std.proofs.Common.{ℕ, List, ◌++◌, ◌∙◌, ap, string_bytes}
use Rattle.svg.proofs.Texts.{rect-text}
use Rattle.svg.proofs.shapes.open_rect.Goals as goal

pub returns : goal.returns
returns c =
    let had : List ℕ = string_bytes c.args.out.now in
    c.in_ok-write.ensures.bytes
    ∙ ap (λ t. had ++ t)
    (rect-text c.args.x c.args.y c.args.width c.args.height c.args.paint c.class_word-class.result.now
    c.class_word-class.ensures c.ranges.x.fits c.ranges.y.fits c.ranges.width.fits c.ranges.height.fits)
