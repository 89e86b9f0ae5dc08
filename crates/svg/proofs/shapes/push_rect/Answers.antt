use Rattle.std.proofs.Common.{ℕ, List, ◌++◌, ◌∙◌, ap, codes, string_bytes}
use Rattle.svg.specs.Escaping.{escaped}
use Rattle.svg.specs.Shapes.{rect_opening}
use Rattle.svg.proofs.Texts.{titled}
use Rattle.svg.proofs.shapes.push_rect.Goals as goal

pub returns : goal.returns
returns c =
    let had : List ℕ = string_bytes c.args.out.now in
    let area = c.args.area in
    c.in_ok-push_str-2.ensures.bytes
    ∙ ap (λ t. t ++ codes "</title>\n</rect>\n")
    (c.in_ok-push_escaped.ensures ∙ ap (λ t. t ++ escaped c.args.title.now)
    (c.in_ok-push_str.ensures.bytes ∙ ap (λ t. t ++ codes "<title>") c.in_ok-open_rect.ensures))
    ∙ titled had (rect_opening area.x area.y area.width area.height c.args.paint) (codes "<title>")
    (escaped c.args.title.now) (codes "</title>\n") (codes "</rect>\n")
