use Rattle.std.proofs.Common.{ℕ, List, ◌∙◌, ap, take}
use Rattle.std.proofs.lemmas.List.{take_min}
use Rattle.picture.specs.Marks.{label_of, words_behind}
use Rattle.picture.specs.declared.marks.TheConstants.{LONGEST_LABEL}
use Rattle.picture.proofs.marks.label_of.Goals as goal

pub returns-clause-text : goal.returns-clause-text
unfolding label_of
returns-clause-text c =
    let words : List ℕ = c.words_behind-words.result.now in
    ap (λ n. take n words) c.min.ensures ∙ take_min LONGEST_LABEL words
    ∙ ap (take LONGEST_LABEL)
    (c.words_behind-words.ensures ∙ ap (λ lane. words_behind lane c.line.result.now) c.lane.ensures
    ∙ ap (words_behind c.args.sight.now.lane) c.line.ensures)
