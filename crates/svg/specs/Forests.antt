-- Elements of a document, and their text.
use Rattle.std.specs.Prelude.{ℕ, List, [], ◌∷◌, ◌++◌, codes}
use Rattle.std.specs.List.{flat_map}
use Rattle.svg.specs.declared.tag.Tag.{Tag}
use Rattle.svg.specs.declared.tag.Tag.TheVariants as tags
use Rattle.svg.specs.declared.key.Key.{Key}
use Rattle.svg.specs.declared.key.Key.TheVariants as keys
use Rattle.svg.specs.Escaping.{escaped}

-- what an element is called
abbrev pub tag_text : Tag → List ℕ
tag_text tags.Root = codes "svg"
tag_text tags.Style = codes "style"
tag_text tags.Group = codes "g"
tag_text tags.Rect = codes "rect"
tag_text tags.Text = codes "text"
tag_text tags.Title = codes "title"

-- what an attribute is called
abbrev pub key_word : Key → List ℕ
key_word keys.X = codes "x"
key_word keys.Y = codes "y"
key_word keys.Width = codes "width"
key_word keys.Height = codes "height"
key_word keys.Class = codes "class"
key_word keys.ViewBox = codes "viewBox"
key_word keys.Namespace = codes "xmlns"

pub record Attribute : Type 0 where
  pub key : Key
  pub value : List ℕ

-- an attribute, behind a blank
abbrev pub attribute_text : Attribute → List ℕ
attribute_text attribute = 32 ∷ (key_word attribute.key ++ (61 ∷ 34 ∷ (escaped attribute.value ++ (34 ∷ []))))

-- an element's beginning
abbrev pub opening_text : Tag → List Attribute → List ℕ
opening_text tag attributes = 60 ∷ (tag_text tag ++ (flat_map attribute_text attributes ++ (62 ∷ [])))

-- an element's end, with a line feed
abbrev pub closing_tag_text : Tag → List ℕ
closing_tag_text tag = 60 ∷ 47 ∷ (tag_text tag ++ (62 ∷ 10 ∷ []))

-- elements and characters that stand one behind another
pub data Forest : Type 0 where
  nothing : Forest
  -- characters, and what stands behind them
  characters : List ℕ → Forest → Forest
  -- an element with its attributes and what stands in it, and what stands behind it
  element : Tag → List Attribute → Forest → Forest → Forest

-- the text of a forest
abbrev pub forest_text : Forest → List ℕ
forest_text nothing = []
forest_text (characters bytes behind) = escaped bytes ++ forest_text behind
forest_text (element tag attributes inner behind) =
    opening_text tag attributes ++ (forest_text inner ++ (closing_tag_text tag ++ forest_text behind))

-- one forest behind another
abbrev pub beside : Forest → Forest → Forest
beside nothing second = second
beside (characters bytes behind) second = characters bytes (beside behind second)
beside (element tag attributes inner behind) second = element tag attributes inner (beside behind second)
