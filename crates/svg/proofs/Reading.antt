-- What a reader of markup makes of the text of a forest.
use Rattle.std.proofs.Common.{◌≡◌, ℕ, ◌==◌, ◌&&◌, nat_le, Bool, true, false, List, [], ◌∷◌, ◌++◌, refl, ◌∙◌, ap, append_assoc}
use Rattle.std.specs.Prelude.{if◌then◌else◌, codes}
use Rattle.std.specs.List.{flat_map}
use Rattle.svg.specs.Escaping.{escape, escaped}
use Rattle.svg.specs.Forests.{Attribute, Forest, nothing, characters, element, attribute_text, closing_tag_text, forest_text, key_word, opening_text, tag_text}
use Rattle.svg.specs.Markup.{Place, between, begun, opening, within, quoted, read_on, step}
use Rattle.svg.specs.declared.key.Key.{Key}
use Rattle.svg.specs.declared.key.Key.TheVariants as keys
use Rattle.svg.specs.declared.tag.Tag.{Tag}
use Rattle.svg.specs.declared.tag.Tag.TheVariants as tags

-- bytes are read one part behind the other
pub read_on-append : (place : Place) (xs ys : List ℕ) → read_on place (xs ++ ys) ≡ read_on (read_on place xs) ys
read_on-append place [] ys = refl
read_on-append place (x ∷ xs) ys = read_on-append (step place x) xs ys

-- no byte of a text is markup
byte-between : (names : List (List ℕ)) (b : ℕ) (t u v w x : Bool) → (b == 38) ≡ t → (b == 60) ≡ u
    → (b == 62) ≡ v → (b == 34) ≡ w → (nat_le 32 b && nat_le b 126) ≡ x
    → read_on (between names)
    (if t then codes "&amp;" else if u then codes "&lt;" else if v then codes "&gt;" else if w
    then codes "&quot;" else if x then b ∷ [] else codes "?")
    ≡ between names
byte-between names b true u v w x d e f g h = refl
byte-between names b false true v w x d e f g h = refl
byte-between names b false false true w x d e f g h = refl
byte-between names b false false false true x d e f g h = refl
byte-between names b false false false false true d e f g h = rw (e, f, d) refl
byte-between names b false false false false false d e f g h = refl

pub escaped-between : (names : List (List ℕ)) (bytes : List ℕ) → read_on (between names) (escaped bytes) ≡ between names
escaped-between names [] = refl
escaped-between names (b ∷ bs) =
    read_on-append (between names) (escape b) (escaped bs)
    ∙ ap (λ place. read_on place (escaped bs))
    (byte-between names b (b == 38) (b == 60) (b == 62) (b == 34)
    (nat_le 32 b && nat_le b 126) refl refl refl refl refl)
    ∙ escaped-between names bs

-- nor is one of a value
byte-quoted : (names : List (List ℕ)) (name : List ℕ) (b : ℕ) (t u v w x : Bool) → (b == 38) ≡ t
    → (b == 60) ≡ u → (b == 62) ≡ v → (b == 34) ≡ w → (nat_le 32 b && nat_le b 126) ≡ x
    → read_on (quoted names name)
    (if t then codes "&amp;" else if u then codes "&lt;" else if v then codes "&gt;" else if w
    then codes "&quot;" else if x then b ∷ [] else codes "?")
    ≡ quoted names name
byte-quoted names name b true u v w x d e f g h = refl
byte-quoted names name b false true v w x d e f g h = refl
byte-quoted names name b false false true w x d e f g h = refl
byte-quoted names name b false false false true x d e f g h = refl
byte-quoted names name b false false false false true d e f g h = rw (g, e, d) refl
byte-quoted names name b false false false false false d e f g h = refl

escaped-quoted : (names : List (List ℕ)) (name bytes : List ℕ)
    → read_on (quoted names name) (escaped bytes) ≡ quoted names name
escaped-quoted names name [] = refl
escaped-quoted names name (b ∷ bs) =
    read_on-append (quoted names name) (escape b) (escaped bs)
    ∙ ap (λ place. read_on place (escaped bs))
    (byte-quoted names name b (b == 38) (b == 60) (b == 62) (b == 34)
    (nat_le 32 b && nat_le b 126) refl refl refl refl refl)
    ∙ escaped-quoted names name bs

end-apart : (xs ys : List ℕ) → (xs ++ ys) ++ (62 ∷ []) ≡ xs ++ (ys ++ (62 ∷ []))
end-apart xs ys = append_assoc xs ys (62 ∷ [])

-- what an attribute is called is read within a tag
key-within : (names : List (List ℕ)) (name : List ℕ) (key : Key)
    → read_on (within names name) (key_word key) ≡ within names name
key-within names name keys.X = refl
key-within names name _ = refl

-- a value with its quotation marks
value-within : (names : List (List ℕ)) (name value : List ℕ)
    → read_on (within names name) (61 ∷ 34 ∷ (escaped value ++ (34 ∷ []))) ≡ within names name
value-within names name value =
    read_on-append (quoted names name) (escaped value) (34 ∷ [])
    ∙ ap (λ place. read_on place (34 ∷ [])) (escaped-quoted names name value)

-- an attribute behind its blank
behind-blank : (names : List (List ℕ)) (name : List ℕ) (attribute : Attribute)
    → read_on (within names name) (key_word attribute.key ++ (61 ∷ 34 ∷ (escaped attribute.value ++ (34 ∷ []))))
    ≡ within names name
behind-blank names name attribute =
    read_on-append (within names name) (key_word attribute.key) (61 ∷ 34 ∷ (escaped attribute.value ++ (34 ∷ [])))
    ∙ ap (λ place. read_on place (61 ∷ 34 ∷ (escaped attribute.value ++ (34 ∷ []))))
    (key-within names name attribute.key)
    ∙ value-within names name attribute.value

attributes-within : (names : List (List ℕ)) (name : List ℕ) (attributes : List Attribute)
    → read_on (within names name) (flat_map attribute_text attributes ++ (62 ∷ [])) ≡ between (name ∷ names)
attributes-within names name [] = refl
attributes-within names name (attribute ∷ attributes) =
    ap (read_on (within names name)) (end-apart (attribute_text attribute) (flat_map attribute_text attributes))
    ∙ read_on-append (within names name) (attribute_text attribute) (flat_map attribute_text attributes ++ (62 ∷ []))
    ∙ ap (λ place. read_on place (flat_map attribute_text attributes ++ (62 ∷ []))) (behind-blank names name attribute)
    ∙ attributes-within names name attributes

attributes-opening : (names : List (List ℕ)) (name : List ℕ) (attributes : List Attribute)
    → read_on (opening names name) (flat_map attribute_text attributes ++ (62 ∷ [])) ≡ between (name ∷ names)
attributes-opening names name [] = refl
attributes-opening names name (attribute ∷ attributes) =
    ap (read_on (opening names name)) (end-apart (attribute_text attribute) (flat_map attribute_text attributes))
    ∙ read_on-append (opening names name) (attribute_text attribute) (flat_map attribute_text attributes ++ (62 ∷ []))
    ∙ ap (λ place. read_on place (flat_map attribute_text attributes ++ (62 ∷ []))) (behind-blank names name attribute)
    ∙ attributes-within names name attributes

-- the name of a tag
tag-begun : (names : List (List ℕ)) (tag : Tag) → read_on (begun names) (tag_text tag) ≡ opening names (tag_text tag)
tag-begun names tags.Root = refl
tag-begun names _ = refl

opening-between : (names : List (List ℕ)) (tag : Tag) (attributes : List Attribute)
    → read_on (between names) (opening_text tag attributes) ≡ between (tag_text tag ∷ names)
opening-between names tag attributes =
    read_on-append (begun names) (tag_text tag) (flat_map attribute_text attributes ++ (62 ∷ []))
    ∙ ap (λ place. read_on place (flat_map attribute_text attributes ++ (62 ∷ []))) (tag-begun names tag)
    ∙ attributes-opening names (tag_text tag) attributes

closing-between : (names : List (List ℕ)) (tag : Tag)
    → read_on (between (tag_text tag ∷ names)) (closing_tag_text tag) ≡ between names
closing-between names tags.Root = refl
closing-between names _ = refl

-- a reader stands behind a forest where it stood before it
pub forest-between : (names : List (List ℕ)) (forest : Forest)
    → read_on (between names) (forest_text forest) ≡ between names
forest-between names nothing = refl
forest-between names (characters bytes behind) =
    read_on-append (between names) (escaped bytes) (forest_text behind)
    ∙ ap (λ place. read_on place (forest_text behind)) (escaped-between names bytes)
    ∙ forest-between names behind
forest-between names (element tag attributes inner behind) =
    read_on-append (between names) (opening_text tag attributes)
    (forest_text inner ++ (closing_tag_text tag ++ forest_text behind))
    ∙ ap (λ place. read_on place (forest_text inner ++ (closing_tag_text tag ++ forest_text behind)))
    (opening-between names tag attributes)
    ∙ read_on-append (between (tag_text tag ∷ names)) (forest_text inner) (closing_tag_text tag ++ forest_text behind)
    ∙ ap (λ place. read_on place (closing_tag_text tag ++ forest_text behind))
    (forest-between (tag_text tag ∷ names) inner)
    ∙ read_on-append (between (tag_text tag ∷ names)) (closing_tag_text tag) (forest_text behind)
    ∙ ap (λ place. read_on place (forest_text behind)) (closing-between names tag)
    ∙ forest-between names behind
