-- A host is text, and its bytes tell which one it is.
use Rattle.std.proofs.Common.{◌≡◌, IsTrue, ap, subst}
use denote.Struct.Props.{props}
use Rattle.pat_base.specs.HostText.{is_host}
use Rattle.pat_base.specs.ShortText.{text_bytes}
use Rattle.pat_base.specs.Host.{host_bytes}
use Rattle.pat_base.specs.declared.host.Host.{Host}
use Rattle.pat_base.specs.declared.short_text.ShortText.{ShortText}
use Rattle.pat_base.proofs.Texts.{text_bytes-injective}

-- a host is its text
same-text : (a b : Host) → a.text ≡ b.text → a ≡ b
same-text a b e =
    subst
    (λ (text : ShortText 40). (legal : IsTrue (is_host (text_bytes text))) →
    ◌≡◌ {A = Host} a (record { text = text; legal = legal }))
    e
    (λ legal. ap (λ (x : IsTrue (is_host (text_bytes a.text))). record { text = a.text; legal = x })
    (let one : IsProp (IsTrue (is_host (text_bytes a.text))) = hlevel props in one a.legal legal))
    b.legal

-- hosts of the same bytes are one
pub host_bytes-injective : (a b : Host) → host_bytes a ≡ host_bytes b → a ≡ b
host_bytes-injective a b e = same-text a b (text_bytes-injective 40 a.text b.text e)
