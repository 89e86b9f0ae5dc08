-- What a reader of markup makes of bytes.
use Rattle.std.specs.Prelude.{ℕ, ◌==◌, ◌≡◌, if◌then◌else◌, List, [], ◌∷◌, ◌++◌}
use Rattle.std.specs.Str.{bytes_eq}

-- where a reader stands, with the names of the elements that are open, the innermost first
pub data Place : Type 0 where
  -- among characters and elements
  between : List (List ℕ) → Place
  -- behind the ampersand of an entity
  entity : List (List ℕ) → Place
  -- behind `<`
  begun : List (List ℕ) → Place
  -- in the name of an element that opens
  opening : List (List ℕ) → List ℕ → Place
  -- behind the name of an element that opens
  within : List (List ℕ) → List ℕ → Place
  -- in the value of one of its attributes
  quoted : List (List ℕ) → List ℕ → Place
  -- behind an ampersand in such a value
  quoted_entity : List (List ℕ) → List ℕ → Place
  -- in the name of an element that closes
  closing : List (List ℕ) → List ℕ → Place
  -- the bytes are no markup
  broken : Place

-- an element of this name closes: it is the innermost that is open
abbrev pub closed : List (List ℕ) → List ℕ → Place
closed [] name = broken
closed (innermost ∷ open_names) name = if bytes_eq innermost name then between open_names else broken

-- where the reader stands behind one more byte
abbrev pub step : Place → ℕ → Place
step (between open_names) byte = if byte == 60 then begun open_names else if byte == 62 then broken
    else if byte == 38 then entity open_names else between open_names
step (entity open_names) byte = if byte == 59 then between open_names else if byte == 60 then broken
    else if byte == 38 then broken else entity open_names
step (begun open_names) byte = if byte == 47 then closing open_names [] else if byte == 62 then broken
    else if byte == 60 then broken else opening open_names (byte ∷ [])
step (opening open_names name) byte = if byte == 62 then between (name ∷ open_names) else if byte == 32
    then within open_names name else if byte == 60 then broken else opening open_names (name ++ byte ∷ [])
step (within open_names name) byte = if byte == 62 then between (name ∷ open_names) else if byte == 34
    then quoted open_names name else if byte == 60 then broken else within open_names name
step (quoted open_names name) byte = if byte == 34 then within open_names name else if byte == 60 then broken
    else if byte == 38 then quoted_entity open_names name else quoted open_names name
step (quoted_entity open_names name) byte = if byte == 59 then quoted open_names name else if byte == 34
    then broken else if byte == 60 then broken else if byte == 38 then broken else quoted_entity open_names name
step (closing open_names name) byte =
    if byte == 62 then closed open_names name else if byte == 60 then broken else closing open_names (name ++ byte ∷ [])
step broken byte = broken

-- where the reader stands behind these bytes
abbrev pub read_on : Place → List ℕ → Place
read_on place [] = place
read_on place (byte ∷ bytes) = read_on (step place byte) bytes

-- each element that is opened is closed, in the order of its nesting, and no byte breaks the markup
abbrev pub IsWellFormed : List ℕ → Type 0
IsWellFormed bytes = read_on (between []) bytes ≡ between []
