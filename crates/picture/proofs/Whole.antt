-- The whole picture, put together of its parts.
use Rattle.std.proofs.Common.{◌≡◌, ℕ, ◌+◌, ◌*◌, List, [], ◌++◌, length, ◌∙◌, ap}
use Rattle.pat_base.specs.declared.name.Name.{Name}
use Rattle.run_reading.specs.Runs.{AnswerText, RunText, SightText}
use Rattle.svg.specs.Forests.{beside, closing_tag_text, forest_text}
use Rattle.svg.specs.Shapes.{root_opening}
use Rattle.svg.specs.declared.tag.Tag.TheVariants.{Root}
use Rattle.svg.proofs.Growing.{grew_by_both, grew_within}
use Rattle.picture.specs.Frames.{frame_end}
use Rattle.picture.specs.Legend.{legend_tree}
use Rattle.picture.specs.Pictures.{content_of, content_tree, height_of, lanes_height, lower_tree, picture_text, picture_tree, upper_tree}
use Rattle.picture.specs.declared.frame.TheConstants.{WIDTH}
use Rattle.picture.specs.declared.lanes.TheConstants.{TOP}
use Rattle.picture.specs.declared.legend.TheConstants.{LINE}

-- what was written with the parts of a run
pub record IsWritten (run : RunText) (had upper lower new : List ℕ) (end height : ℕ) (names : List Name)
    (sights : List SightText) (others : List SightText) (answers : List AnswerText) (shown : List AnswerText)
    (left_out : ℕ) : Type 0 where
  pub end_is : end ≡ frame_end run
  pub height_is : height ≡ lanes_height (length run.names)
  pub names_are : names ≡ run.names
  pub sights_are : sights ≡ run.sights
  pub others_are : others ≡ run.sights
  pub answers_are : answers ≡ run.answers
  pub shown_are : shown ≡ run.answers
  pub left_is : left_out ≡ run.left_out
  pub upper_is : upper ≡ had ++ forest_text (upper_tree end height names sights)
  pub lower_is : lower ≡ upper ++ forest_text (lower_tree end height others answers)
  pub new_is : new ≡ lower ++ forest_text (legend_tree (TOP + height + 2 * LINE) shown left_out)

pub content-grew : (run : RunText) (had upper lower new : List ℕ) (end height : ℕ) (names : List Name)
    (sights others : List SightText) (answers shown : List AnswerText) (left_out : ℕ)
    → IsWritten run had upper lower new end height names sights others answers shown left_out
    → new ≡ had ++ forest_text (content_tree run)
unfolding content_of
content-grew run had upper lower new end height names sights others answers shown left_out w =
    let e : ℕ = frame_end run in
    let h : ℕ = lanes_height (length run.names) in
    let u : upper_tree end height names sights ≡ upper_tree e h run.names run.sights =
    cc (w.end_is, w.height_is, w.names_are, w.sights_are) in
    let l : lower_tree end height others answers ≡ lower_tree e h run.sights run.answers =
    cc (w.end_is, w.height_is, w.others_are, w.answers_are) in
    let g : legend_tree (TOP + height + 2 * LINE) shown left_out
    ≡ legend_tree (TOP + h + 2 * LINE) run.answers run.left_out = cc (w.height_is, w.shown_are, w.left_is) in
    grew_by_both had lower new (beside (upper_tree e h run.names run.sights) (lower_tree e h run.sights run.answers))
    (legend_tree (TOP + h + 2 * LINE) run.answers run.left_out)
    (grew_by_both had upper lower (upper_tree e h run.names run.sights) (lower_tree e h run.sights run.answers)
    (w.upper_is ∙ ap (λ t. had ++ forest_text t) u) (w.lower_is ∙ ap (λ t. upper ++ forest_text t) l))
    (w.new_is ∙ ap (λ t. lower ++ forest_text t) g)

pub picture-grew : (run : RunText) (empty opened new closed : List ℕ) (height : ℕ) (names : List Name)
    (answers : List AnswerText) → empty ≡ [] → names ≡ run.names → answers ≡ run.answers
    → height ≡ height_of (length names) (length answers) → opened ≡ empty ++ root_opening WIDTH height
    → new ≡ opened ++ forest_text (content_tree run) → closed ≡ new ++ closing_tag_text Root → closed ≡ picture_text run
unfolding picture_text picture_tree
picture-grew run empty opened new closed height names answers none n a h o e f =
    let same : height ≡ height_of (length run.names) (length run.answers) = h
    ∙ ap (λ ns. height_of (length ns) (length answers)) n ∙ ap (λ ls. height_of (length run.names) (length ls)) a in
    grew_within [] opened new closed (root_opening WIDTH (height_of (length run.names) (length run.answers)))
    (closing_tag_text Root) (content_tree run)
    (o ∙ ap (λ t. t ++ root_opening WIDTH height) none ∙ ap (λ t. [] ++ root_opening WIDTH t) same) e f
