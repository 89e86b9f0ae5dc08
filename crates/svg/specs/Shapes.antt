-- Shapes and labels as elements.
use Rattle.std.specs.Prelude.{ℕ, List, [], ◌∷◌, ◌++◌, codes}
use Rattle.std.specs.Fmt.{decimal}
use Rattle.svg.specs.declared.key.Key.{Key}
use Rattle.svg.specs.declared.key.Key.TheVariants as keys
use Rattle.svg.specs.declared.paint.Paint.{Paint}
use Rattle.svg.specs.declared.paint.Paint.TheVariants as paints
use Rattle.svg.specs.declared.shapes.Area.{Area}
use Rattle.svg.specs.declared.shapes.Spot.{Spot}
use Rattle.svg.specs.declared.tag.Tag.TheVariants as tags
use Rattle.svg.specs.Forests.{Attribute, Forest, nothing, characters, element, opening_text}

-- the class of a paint
abbrev pub class_word : Paint → List ℕ
class_word paints.Replica = codes "replica"
class_word paints.Starting = codes "starting"
class_word paints.Primary = codes "primary"
class_word paints.Stopping = codes "stopping"
class_word paints.Crashed = codes "crashed"
class_word paints.Wiped = codes "wiped"
class_word paints.Holder = codes "holder"
class_word paints.Held = codes "held"
class_word paints.Killed = codes "killed"
class_word paints.Paused = codes "paused"
class_word paints.Ground = codes "ground"
class_word paints.Shortened = codes "shortened"
class_word paints.Mark = codes "mark"
class_word paints.Commit = codes "commit"
class_word paints.Alarm = codes "alarm"
class_word paints.Heading = codes "heading"
class_word paints.Label = codes "label"

-- an attribute that is a number of pixels
abbrev pub pixels : Key → ℕ → Attribute
pixels key count = record { key = key; value = decimal count }

-- what is painted so
abbrev pub painted : Paint → Attribute
painted paint = record { key = keys.Class; value = class_word paint }

-- the title of an element, which a browser shows
abbrev pub title_tree : List ℕ → Forest
title_tree title = element tags.Title [] (characters title nothing) nothing

-- where a rectangle stands, how large it is, and what it is painted as
abbrev pub rect_attributes : ℕ → ℕ → ℕ → ℕ → Paint → List Attribute
rect_attributes x y width height paint =
    pixels keys.X x ∷ pixels keys.Y y ∷ pixels keys.Width width ∷ pixels keys.Height height ∷ painted paint ∷ []

-- the beginning of a rectangle
abbrev pub rect_opening : ℕ → ℕ → ℕ → ℕ → Paint → List ℕ
rect_opening x y width height paint = opening_text tags.Rect (rect_attributes x y width height paint)

-- a rectangle with its title
abbrev pub rect_tree : Area → Paint → List ℕ → Forest
rect_tree area paint title =
    element tags.Rect (rect_attributes area.x area.y area.width area.height paint) (title_tree title) nothing

-- where a text begins, and what it is painted as
abbrev pub label_attributes : ℕ → ℕ → Paint → List Attribute
label_attributes x y paint = pixels keys.X x ∷ pixels keys.Y y ∷ painted paint ∷ []

-- the beginning of a text
abbrev pub label_opening : ℕ → ℕ → Paint → List ℕ
label_opening x y paint = opening_text tags.Text (label_attributes x y paint)

-- text that begins at a spot
abbrev pub label_tree : Spot → Paint → List ℕ → Forest
label_tree spot paint text = element tags.Text (label_attributes spot.x spot.y paint) (characters text nothing) nothing

-- the visible part of the root: so wide and so high
abbrev pub view_box : ℕ → ℕ → List ℕ
view_box width height = codes "0 0 " ++ (decimal width ++ (32 ∷ decimal height))

-- what a picture of this width and height says of itself
abbrev pub root_attributes : ℕ → ℕ → List Attribute
root_attributes width height =
    record { key = keys.Namespace; value = codes "http://www.w3.org/2000/svg" } ∷ pixels keys.Width width
    ∷ pixels keys.Height height ∷ record { key = keys.ViewBox; value = view_box width height } ∷ []

-- its beginning
abbrev pub root_opening : ℕ → ℕ → List ℕ
root_opening width height = opening_text tags.Root (root_attributes width height)

-- a picture of this width and height
abbrev pub root_tree : ℕ → ℕ → Forest → Forest
root_tree width height inner = element tags.Root (root_attributes width height) inner nothing

-- a style sheet
abbrev pub style_tree : List ℕ → Forest
style_tree sheet = element tags.Style [] (characters sheet nothing) nothing

-- a group
abbrev pub group_tree : Forest → Forest
group_tree inner = element tags.Group [] inner nothing
