-- A name is text, and its bytes tell which one it is.
use Rattle.std.proofs.Common.{◌≡◌, ℕ, ◌&&◌, Bool, true, false, List, IsTrue, Option, Some, None, refl, ◌∙◌, sym, ap, subst, ◌==◌}
use Rattle.std.specs.Bool.{Decides}
use Rattle.std.specs.Str.{bytes_eq}
use denote.Struct.Props.{props}
use Rattle.pat_base.specs.Bounded.{take-padded}
use Rattle.pat_base.specs.NameText.{is_name}
use Rattle.pat_base.specs.ShortText.{text_bytes}
use Rattle.pat_base.specs.Name.{name_bytes, name_from, name_by, name_of}
use Rattle.pat_base.specs.declared.name.Name.{Name}
use Rattle.pat_base.specs.declared.short_text.ShortText.{ShortText}
use Rattle.pat_base.proofs.Texts.{text_bytes-injective, same_text-Decides}

-- a name is its text
same-text : (a b : Name) → a.text ≡ b.text → a ≡ b
same-text a b e =
    subst
    (λ (text : ShortText 32). (legal : IsTrue (is_name (text_bytes text))) →
    ◌≡◌ {A = Name} a (record { text = text; legal = legal }))
    e
    (λ legal. ap (λ (x : IsTrue (is_name (text_bytes a.text))). record { text = a.text; legal = x })
    (let one : IsProp (IsTrue (is_name (text_bytes a.text))) = hlevel props in one a.legal legal))
    b.legal

-- names of the same bytes are one
pub name_bytes-injective : (a b : Name) → name_bytes a ≡ name_bytes b → a ≡ b
name_bytes-injective a b e = same-text a b (text_bytes-injective 32 a.text b.text e)

some-is : (a b : Name) → ◌≡◌ {A = Option Name} (Some a) (Some b) → a ≡ b
some-is a b e = cc

named : (bytes : List ℕ) (test : Bool) (is : is_name bytes ≡ test) (name : Name) → name_bytes name ≡ bytes
    → name_by bytes test is ≡ Some name
unfolding name_by
named bytes true is name e = ap Some (name_bytes-injective (name_from bytes is) name (take-padded 32 bytes ∙ sym e))
named bytes false is name e =
    let text : is_name bytes ≡ true = subst (λ (t : List ℕ). is_name t ≡ true) e name.legal in cc

-- bytes that are the text of a name are that name
pub name_of-is : (bytes : List ℕ) (name : Name) → name_bytes name ≡ bytes → name_of bytes ≡ Some name
unfolding name_of
name_of-is bytes name e = named bytes (is_name bytes) refl name e

pub name_of-name_bytes : (name : Name) → name_of (name_bytes name) ≡ Some name
name_of-name_bytes name = name_of-is (name_bytes name) name refl

unnamed : (bytes : List ℕ) (test : Bool) (is : is_name bytes ≡ test) → test ≡ false → name_by bytes test is ≡ None
unfolding name_by
unnamed bytes true is e = cc
unnamed bytes false is e = refl

-- other bytes are no name
pub name_of-none : (bytes : List ℕ) → is_name bytes ≡ false → name_of bytes ≡ None
unfolding name_of
name_of-none bytes e = unnamed bytes (is_name bytes) refl e

texted : (bytes : List ℕ) (test : Bool) (is : is_name bytes ≡ test) (name : Name)
    → name_by bytes test is ≡ Some name → name_bytes name ≡ bytes
unfolding name_by
texted bytes true is name e = ap name_bytes (sym (some-is (name_from bytes is) name e)) ∙ take-padded 32 bytes
texted bytes false is name e = cc

-- a name that bytes are has them as its text
pub name_of-text : (bytes : List ℕ) (name : Name) → name_of bytes ≡ Some name → name_bytes name ≡ bytes
unfolding name_of
name_of-text bytes name e = texted bytes (is_name bytes) refl name e

-- the derived `==` says whether two names are one
pub same_fields-Decides : (a b : Name)
    → Decides (bytes_eq a.text.bytes b.text.bytes && (a.text.len == b.text.len)) (a ≡ b)
same_fields-Decides a b = (
  (λ e. same-text a b ((same_text-Decides 32 a.text b.text).0 e)),
  (λ e. (same_text-Decides 32 a.text b.text).1 (ap (λ (n : Name). n.text) e)),
)
