-- Where a name stands among names.
use Rattle.std.proofs.Common.{◌≡◌, ℕ, ◌+◌, Bool, true, false, cond, List, [], ◌∷◌, Option, Some, None, arith, refl, ◌∙◌, ap, sym, position, if◌then◌else◌, option_map}
use Rattle.std.specs.List.{position_from}
use Rattle.std.proofs.lemmas.Bool.Decides.{same_from_decides}
use Rattle.std.proofs.lemmas.Iterator.Adapters.{position_from-zero}
use Rattle.std.specs.Str.{bytes_eq}
use Rattle.std.proofs.lemmas.Slice.Eq.{bytes_eq-Decides}
use Rattle.pat_base.specs.Name.{name_bytes}
use Rattle.pat_base.specs.declared.name.Name.{Name}
use Rattle.pat_base.proofs.Names.{name_bytes-injective}
use Rattle.std.specs.Bool.{Decides}
use Rattle.script_words.specs.Lines.{one_more}
use Rattle.script_grammar.specs.Members.{place_of}

-- the first place, from the test of each name
abbrev first_place : (Name → Bool) → List Name → Option ℕ
first_place p [] = None
first_place p (m ∷ members) = if p m then Some 0 else one_more (first_place p members)

from-step : (t : Bool) (r o : Option ℕ) (i : ℕ) → r ≡ option_map (λ n. (i + 1) + n) o
    → cond t (Some i) r ≡ option_map (λ n. i + n) (cond t (Some 0) (one_more o))
from-step true r o i e = ap Some (omega arith)
from-step false r None i e = e
from-step false r (Some k) i e = e ∙ ap Some (omega arith)

from : (p : Name → Bool) (members : List Name) (i : ℕ)
    → position_from p i members ≡ option_map (λ n. i + n) (first_place p members)
from p [] i = refl
from p (m ∷ members) i =
    from-step (p m) (position_from p (i + 1) members) (first_place p members) i (from p members (i + 1))

zero-more : (o : Option ℕ) → option_map (λ n. 0 + n) o ≡ o
zero-more None = refl
zero-more (Some n) = ap Some (omega arith)

same-test : (p : Name → Bool) (name : Name) → ((m : Name) → p m ≡ bytes_eq (name_bytes m) (name_bytes name))
    → (members : List Name) → first_place p members ≡ place_of members name
same-test p name h [] = refl
same-test p name h (m ∷ members) = rw (h m, same-test p name h members) refl

pub same_text : (p : Name → Bool) (name : Name) → ((m : Name) → Decides (p m) (name ≡ m)) → (m : Name)
    → p m ≡ bytes_eq (name_bytes m) (name_bytes name)
same_text p name h m = same_from_decides (p m) (bytes_eq (name_bytes m) (name_bytes name)) (h m) (
  (λ e. sym (name_bytes-injective m name ((bytes_eq-Decides (name_bytes m) (name_bytes name)).0 e))),
  (λ e. (bytes_eq-Decides (name_bytes m) (name_bytes name)).1 (ap name_bytes (sym e))),
)

-- the first place by a test that holds at that name alone
pub place_of-position : (p : Name → Bool) (name : Name) → ((m : Name) → Decides (p m) (name ≡ m))
    → (members : List Name) → position p members ≡ place_of members name
place_of-position p name h members =
    position_from-zero p members ∙ from p members 0 ∙ zero-more (first_place p members)
    ∙ same-test p name (same_text p name h) members
