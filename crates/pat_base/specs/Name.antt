-- Names as bytes.
use Rattle.std.specs.Prelude.{ℕ, ◌≡◌, Bool, true, false, IsTrue, List, Option, Some, None, refl}
use Rattle.pat_base.specs.Bounded.{take-padded, is_text-fits, is_text-ascii}
use Rattle.pat_base.specs.NameText.{is_name, is_name_byte, is_name_byte-ascii}
use Rattle.pat_base.specs.ShortText.{text_bytes, short_text}
use Rattle.pat_base.specs.declared.name.Name.{Name}

-- the text of a name
abbrev pub name_bytes : Name → List ℕ
name_bytes name = text_bytes name.text

-- the name of bytes that are one
abbrev pub name_from : (bytes : List ℕ) → IsTrue (is_name bytes) → Name
name_from bytes is = record {
  text = short_text 32 bytes (is_text-fits 32 is_name_byte bytes is)
      (is_text-ascii 32 is_name_byte is_name_byte-ascii bytes is);
  legal = rw (take-padded 32 bytes) is;
}

-- the name of bytes, by their test
unfoldable pub name_by : (bytes : List ℕ) (test : Bool) → is_name bytes ≡ test → Option Name
name_by bytes true is = Some (name_from bytes is)
name_by bytes false is = None

-- the name of these bytes, if they are one; laws about it stand in proofs/Names.antt
unfoldable pub name_of : List ℕ → Option Name
name_of bytes = name_by bytes (is_name bytes) refl
