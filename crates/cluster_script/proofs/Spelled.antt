-- Members by the bytes of their names.
use Rattle.std.proofs.Common.{◌≡◌, ℕ, ◌+◌, Bool, true, false, List, [], ◌∷◌, Option, Some, None, refl, ◌∙◌, ap, sym, position}
use Rattle.std.specs.List.{position_from}
use Rattle.std.specs.Option.{option_and_then}
use Rattle.std.specs.Str.{bytes_eq}
use Rattle.std.proofs.lemmas.Iterator.Adapters.{position_from-zero}
use Rattle.std.proofs.lemmas.Slice.Eq.{bytes_eq-Decides}
use Rattle.pat_base.specs.Name.{name_bytes, name_of}
use Rattle.pat_base.specs.declared.name.Name.{Name}
use Rattle.pat_base.proofs.Names.{name_bytes-injective, name_of-is, name_of-text}
use Rattle.script_grammar.specs.Members.{place_of}
use Rattle.script_grammar.proofs.Places.{place_of-position}

-- whether bytes are a name's
abbrev pub spells : List ℕ → Name → Bool
spells word name = bytes_eq (name_bytes name) word

named : (members : List Name) (word : List ℕ) (name : Name) → name_bytes name ≡ word
    → position (spells word) members ≡ place_of members name
named members word name is =
    place_of-position (spells word) name
    (λ m. (
      (λ e. sym (name_bytes-injective m name ((bytes_eq-Decides (name_bytes m) word).0 e ∙ sym is))),
      (λ e. (bytes_eq-Decides (name_bytes m) word).1 (ap name_bytes (sym e) ∙ is)),
    ))
    members

other : (word : List ℕ) (m : Name) (t : Bool) → name_of word ≡ None → spells word m ≡ t → t ≡ false
other word m true none e =
    let some : name_of word ≡ Some m = name_of-is word m ((bytes_eq-Decides (name_bytes m) word).0 e) in cc
other word m false none e = refl

nobody : (members : List Name) (word : List ℕ) (i : ℕ) → name_of word ≡ None
    → position_from (spells word) i members ≡ None
nobody [] word i none = refl
nobody (m ∷ members) word i none = rw (other word m (spells word m) none refl) (nobody members word (i + 1) none)

by_name : (members : List Name) (word : List ℕ) (o : Option Name) → name_of word ≡ o
    → position (spells word) members ≡ option_and_then (place_of members) o
by_name members word None is = position_from-zero (spells word) members ∙ nobody members word 0 is
by_name members word (Some name) is = named members word name (name_of-text word name is)

-- the place of the name that bytes are
pub place-spelled : (members : List Name) (word : List ℕ)
    → position (spells word) members ≡ option_and_then (place_of members) (name_of word)
place-spelled members word = by_name members word (name_of word) refl
