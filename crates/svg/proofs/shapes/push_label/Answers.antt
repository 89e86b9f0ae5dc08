use Rattle.std.proofs.Common.{ℕ, List, ◌++◌, ◌∙◌, ap, codes, string_bytes}
use Rattle.svg.specs.Escaping.{escaped}
use Rattle.svg.specs.Shapes.{label_opening}
use Rattle.svg.proofs.Texts.{worded}
use Rattle.svg.proofs.shapes.push_label.Goals as goal

pub returns : goal.returns
returns c =
    let had : List ℕ = string_bytes c.args.out.now in
    let spot = c.args.spot in
    c.in_ok-push_str.ensures.bytes
    ∙ ap (λ t. t ++ codes "</text>\n")
    (c.in_ok-push_escaped.ensures ∙ ap (λ t. t ++ escaped c.args.text.now) c.in_ok-open_text.ensures)
    ∙ worded had (label_opening spot.x spot.y c.args.paint) (escaped c.args.text.now) (codes "</text>\n")
