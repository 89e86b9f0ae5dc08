-- The bytes of a short text tell which one it is.
use Rattle.std.proofs.Common.{◌≡◌, ℕ, ◌≤◌, ◌&&◌, List, length, take, arith, ◌∙◌, sym, ap, subst, eq-eqb, ◌==◌}
use Rattle.std.specs.Bool.{Decides}
use Rattle.std.specs.Str.{IsAscii, bytes_eq}
use Rattle.std.proofs.lemmas.Bool.{and_parts, and_from, eqb-true}
use Rattle.std.proofs.lemmas.Slice.Eq.{bytes_eq-Decides}
use Rattle.std.proofs.lemmas.List.{length-take-le}
use Rattle.std.proofs.Math.Bridge.{le_prop}
use denote.Struct.Props.{props}
use Rattle.pat_base.specs.Bounded.{padded}
use Rattle.pat_base.specs.ShortText.{text_bytes}
use Rattle.pat_base.specs.declared.short_text.ShortText.{ShortText}

-- each ghost field has one proof at most
alike : (room : ℕ) (bytes : List ℕ) (len : ℕ) (f g : length bytes ≡ room) (s t : len ≤ room)
    (x y : IsAscii (take len bytes)) (z w : bytes ≡ padded room (take len bytes))
    → ◌≡◌ {A = ShortText room} (record { bytes = bytes; len = len; full = f; fits = s; ascii = x; zeros = z })
    (record { bytes = bytes; len = len; full = g; fits = t; ascii = y; zeros = w })
alike room bytes len f g s t x y z w =
    ap (λ (f : length bytes ≡ room). record { bytes = bytes; len = len; full = f; fits = s; ascii = x; zeros = z })
    (let one : IsProp (length bytes ≡ room) = hlevel props in one f g)
    ∙ ap (λ (s : len ≤ room). record { bytes = bytes; len = len; full = g; fits = s; ascii = x; zeros = z })
    (le_prop s t)
    ∙ ap (λ (x : IsAscii (take len bytes)).
    record { bytes = bytes; len = len; full = g; fits = t; ascii = x; zeros = z })
    (let one : IsProp (IsAscii (take len bytes)) = hlevel props in one x y)
    ∙ ap (λ (z : bytes ≡ padded room (take len bytes)).
    record { bytes = bytes; len = len; full = g; fits = t; ascii = y; zeros = z })
    (let one : IsProp (bytes ≡ padded room (take len bytes)) = hlevel props in one z w)

same-parts : (room : ℕ) (a b : ShortText room) → a.bytes ≡ b.bytes → a.len ≡ b.len → a ≡ b
same-parts room a b p q =
    subst
    (λ (len : ℕ). (f : length b.bytes ≡ room) (s : len ≤ room) (x : IsAscii (take len b.bytes))
    (z : b.bytes ≡ padded room (take len b.bytes)) →
    ◌≡◌ {A = ShortText room} a (record { bytes = b.bytes; len = len; full = f; fits = s; ascii = x; zeros = z }))
    q
    (subst
    (λ (bytes : List ℕ). (f : length bytes ≡ room) (s : a.len ≤ room) (x : IsAscii (take a.len bytes))
    (z : bytes ≡ padded room (take a.len bytes)) →
    ◌≡◌ {A = ShortText room} a (record { bytes = bytes; len = a.len; full = f; fits = s; ascii = x; zeros = z }))
    p
    (λ f s x z. alike room a.bytes a.len a.full f a.fits s a.ascii x a.zeros z))
    b.full b.fits b.ascii b.zeros

len-is : (room : ℕ) (a : ShortText room) → length (text_bytes a) ≡ a.len
len-is room a = length-take-le a.len a.bytes (omega (arith, a.full, a.fits))

-- texts of the same bytes are one
pub text_bytes-injective : (room : ℕ) (a b : ShortText room) → text_bytes a ≡ text_bytes b → a ≡ b
text_bytes-injective room a b e =
    same-parts room a b (a.zeros ∙ ap (padded room) e ∙ sym b.zeros) (sym (len-is room a) ∙ ap length e ∙ len-is room b)

-- the derived `==` says whether two texts are one
pub same_text-Decides : (room : ℕ) (a b : ShortText room)
    → Decides (bytes_eq a.bytes b.bytes && (a.len == b.len)) (a ≡ b)
same_text-Decides room a b = (
  (λ e. let both = and_parts (bytes_eq a.bytes b.bytes) (a.len == b.len) e in
      same-parts room a b ((bytes_eq-Decides a.bytes b.bytes).0 both.0) (eqb-true a.len b.len both.1)),
  (λ e. and_from (bytes_eq a.bytes b.bytes) (a.len == b.len)
      ((bytes_eq-Decides a.bytes b.bytes).1 (ap (λ (n : ShortText room). n.bytes) e))
      (eq-eqb a.len b.len (ap (λ (n : ShortText room). n.len) e))),
)
