use Rattle.std.proofs.Common.{ℕ, List, ◌++◌, ◌∙◌, ap, string_bytes}
use Rattle.svg.proofs.Texts.{root-text}
use Rattle.svg.proofs.shapes.open_root.Goals as goal

pub returns : goal.returns
returns c =
    let had : List ℕ = string_bytes c.args.out.now in
    c.in_ok-write.ensures.bytes
    ∙ ap (λ t. had ++ t) (root-text c.args.width c.args.height c.ranges.width.fits c.ranges.height.fits)
