-- One step of each loop.
use Rattle.std.proofs.Common.{◌≡◌, ℕ, ◌+◌, ◌-◌, ◌*◌, ◌<◌, List, ◌∷◌, ◌++◌, length, drop, get_or, Option, Some, ◌∙◌, ap, sym}
use Rattle.std.proofs.lemmas.List.{drop_more}
use Rattle.pat_base.specs.Name.{name_bytes}
use Rattle.pat_base.specs.declared.name.Name.{Name}
use Rattle.run_reading.specs.Runs.{AnswerText, SightText}
use Rattle.svg.specs.Forests.{forest_text}
use Rattle.svg.specs.declared.paint.Paint.{Paint}
use Rattle.svg.proofs.Growing.{grew_by_both, left_by_one}
use Rattle.picture.specs.Alarms.{alarm_if, alarm_of, alarms_tree}
use Rattle.picture.specs.Axis.{room_after, time_if, times_tree}
use Rattle.picture.specs.Bands.{paint_in}
use Rattle.picture.specs.Bars.{bar_if, bars_tree, until_if, until_in}
use Rattle.picture.specs.Frames.{x_at}
use Rattle.picture.specs.Lanes.{lane_tree, lane_y, lanes_tree}
use Rattle.picture.specs.Legend.{answer_tree, answers_from, key_tree, keys_from}
use Rattle.picture.specs.Marks.{is_shown, mark_if, marks_tree, rows_if}
use Rattle.picture.specs.Stretches.{stretch_if, stretches_tree}
use Rattle.picture.specs.declared.bars.Row.{Row}
use Rattle.picture.specs.declared.legend.TheConstants.{LINE}

-- what is left from a place on begins with what stands there
pub left_at : {X : Type 0} (xs : List X) (i : ℕ) (x : X) → i < length xs → x ≡ get_or xs i x
    → drop i xs ≡ x ∷ drop (i + 1) xs
left_at xs i x h is = drop_more xs i x h ∙ ap (λ y. y ∷ drop (i + 1) xs) (sym is)

pub times-step : (end y free later i : ℕ) (sights : List SightText) (s : SightText) (out new : List ℕ)
    → i < length sights → s ≡ get_or sights i s → new ≡ out ++ forest_text (time_if free (x_at end s.offset) y s.tick)
    → later ≡ room_after free (x_at end s.offset)
    → new ++ forest_text (times_tree end y later (drop (i + 1) sights))
    ≡ out ++ forest_text (times_tree end y free (drop i sights))
times-step end y free later i sights s out new h is e l =
    ap (λ f. new ++ forest_text (times_tree end y f (drop (i + 1) sights))) l
    ∙ left_by_one out new (time_if free (x_at end s.offset) y s.tick)
    (times_tree end y (room_after free (x_at end s.offset)) (drop (i + 1) sights)) e
    ∙ ap (λ r. out ++ forest_text (times_tree end y free r)) (sym (left_at sights i s h is))

pub stretches-step : (end height last later i : ℕ) (sights : List SightText) (s : SightText) (out new : List ℕ)
    → i < length sights → s ≡ get_or sights i s
    → new ≡ out ++ forest_text (stretch_if end height s (s.tick - last)) → later ≡ s.tick
    → new ++ forest_text (stretches_tree end height later (drop (i + 1) sights))
    ≡ out ++ forest_text (stretches_tree end height last (drop i sights))
stretches-step end height last later i sights s out new h is e l =
    ap (λ t. new ++ forest_text (stretches_tree end height t (drop (i + 1) sights))) l
    ∙ left_by_one out new (stretch_if end height s (s.tick - last))
    (stretches_tree end height s.tick (drop (i + 1) sights)) e
    ∙ ap (λ r. out ++ forest_text (stretches_tree end height last r)) (sym (left_at sights i s h is))

pub marks-step : (end : ℕ) (lane : Option ℕ) (y : ℕ) (free later : List ℕ) (i : ℕ) (sights : List SightText)
    (s : SightText) (out new : List ℕ) → i < length sights → s ≡ get_or sights i s
    → new ≡ out ++ forest_text (mark_if end y free s (is_shown lane s)) → later ≡ rows_if end free s (is_shown lane s)
    → new ++ forest_text (marks_tree end lane y later (drop (i + 1) sights))
    ≡ out ++ forest_text (marks_tree end lane y free (drop i sights))
marks-step end lane y free later i sights s out new h is e l =
    ap (λ f. new ++ forest_text (marks_tree end lane y f (drop (i + 1) sights))) l
    ∙ left_by_one out new (mark_if end y free s (is_shown lane s))
    (marks_tree end lane y (rows_if end free s (is_shown lane s)) (drop (i + 1) sights)) e
    ∙ ap (λ r. out ++ forest_text (marks_tree end lane y free r)) (sym (left_at sights i s h is))

pub alarms-step : (end height : ℕ) (sights : List SightText) (i : ℕ) (answers : List AnswerText)
    (a : AnswerText) (out new : List ℕ) → i < length answers → a ≡ get_or answers i a
    → new ≡ out ++ forest_text (alarm_if end height sights a (alarm_of a))
    → new ++ forest_text (alarms_tree end height sights (drop (i + 1) answers))
    ≡ out ++ forest_text (alarms_tree end height sights (drop i answers))
alarms-step end height sights i answers a out new h is e =
    left_by_one out new (alarm_if end height sights a (alarm_of a))
    (alarms_tree end height sights (drop (i + 1) answers)) e
    ∙ ap (λ r. out ++ forest_text (alarms_tree end height sights r)) (sym (left_at answers i a h is))

pub lanes-step : (end i : ℕ) (names : List Name) (sights : List SightText) (name : Name) (out new : List ℕ)
    → i < length names → name ≡ get_or names i name
    → new ≡ out ++ forest_text (lane_tree end (Some i) (lane_y i) (name_bytes name) sights)
    → new ++ forest_text (lanes_tree end (i + 1) (drop (i + 1) names) sights)
    ≡ out ++ forest_text (lanes_tree end i (drop i names) sights)
lanes-step end i names sights name out new h is e =
    left_by_one out new (lane_tree end (Some i) (lane_y i) (name_bytes name) sights)
    (lanes_tree end (i + 1) (drop (i + 1) names) sights) e
    ∙ ap (λ r. out ++ forest_text (lanes_tree end i r sights)) (sym (left_at names i name h is))

pub keys-step : (i y : ℕ) (paints : List Paint) (paint : Paint) (out new : List ℕ) → i < length paints
    → paint ≡ get_or paints i paint → new ≡ out ++ forest_text (key_tree i y paint)
    → new ++ forest_text (keys_from (i + 1) y (drop (i + 1) paints))
    ≡ out ++ forest_text (keys_from i y (drop i paints))
keys-step i y paints paint out new h is e =
    left_by_one out new (key_tree i y paint) (keys_from (i + 1) y (drop (i + 1) paints)) e
    ∙ ap (λ r. out ++ forest_text (keys_from i y r)) (sym (left_at paints i paint h is))

pub answers-step : (i y : ℕ) (answers : List AnswerText) (a : AnswerText) (out new : List ℕ)
    → i < length answers → a ≡ get_or answers i a → new ≡ out ++ forest_text (answer_tree (y + i * LINE) a)
    → new ++ forest_text (answers_from (i + 1) y (drop (i + 1) answers))
    ≡ out ++ forest_text (answers_from i y (drop i answers))
answers-step i y answers a out new h is e =
    left_by_one out new (answer_tree (y + i * LINE) a) (answers_from (i + 1) y (drop (i + 1) answers)) e
    ∙ ap (λ r. out ++ forest_text (answers_from i y r)) (sym (left_at answers i a h is))

-- the bars of one more line
pub bars-step : (end : ℕ) (row : Row) (i left until later : ℕ) (sights : List SightText) (s : SightText)
    (had out new : List ℕ) → i < length sights → left ≡ i + 1 → s ≡ get_or sights i s
    → out ≡ had ++ forest_text (bars_tree end row (drop left sights)) → until ≡ until_in end row (drop left sights)
    → new ≡ out ++ forest_text (bar_if end row s until (paint_in row.band row.lane s))
    → new ≡ had ++ forest_text (bars_tree end row (drop i sights))
bars-step end row i left until later sights s had out new h one is e u f =
    grew_by_both had out new (bars_tree end row (drop (i + 1) sights))
    (bar_if end row s (until_in end row (drop (i + 1) sights)) (paint_in row.band row.lane s))
    (e ∙ ap (λ n. had ++ forest_text (bars_tree end row (drop n sights))) one)
    (f ∙ ap (λ t. out ++ forest_text (bar_if end row s t (paint_in row.band row.lane s)))
    (u ∙ ap (λ n. until_in end row (drop n sights)) one))
    ∙ ap (λ r. had ++ forest_text (bars_tree end row r)) (sym (left_at sights i s h is))

pub until-step : (end : ℕ) (row : Row) (i left until later : ℕ) (sights : List SightText) (s : SightText)
    → i < length sights → left ≡ i + 1 → s ≡ get_or sights i s → until ≡ until_in end row (drop left sights)
    → later ≡ until_if (paint_in row.band row.lane s) s until → later ≡ until_in end row (drop i sights)
until-step end row i left until later sights s h one is u l =
    l
    ∙ ap (λ t. until_if (paint_in row.band row.lane s) s t) (u ∙ ap (λ n. until_in end row (drop n sights)) one)
    ∙ ap (until_in end row) (sym (left_at sights i s h is))
