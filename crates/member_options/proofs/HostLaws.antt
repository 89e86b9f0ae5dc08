-- Hosts and their text.
use Rattle.std.proofs.Common.{◌≡◌, ◌↔◌, ℕ, ◌==◌, Bool, true, false, List, [], ◌∷◌, Option, Some, None, IsSome, IsTrue, refl, ◌∙◌, ap, sym, subst, arith}
use Rattle.std.specs.List.{list_all}
use Rattle.std.proofs.lemmas.Bool.{and_parts}
use Rattle.std.proofs.lemmas.Bool.Decides.{nat_tests}
use Rattle.pat_base.specs.Bounded.{is_text-bytes, take-padded}
use Rattle.pat_base.specs.Host.{host_bytes, host_from}
use Rattle.pat_base.specs.HostText.{is_host, is_host_byte}
use Rattle.pat_base.specs.declared.host.Host.{Host}
use Rattle.pat_base.proofs.Hosts.{host_bytes-injective}
use Rattle.member_options.specs.Hosts.{host_by, host_of}
use Rattle.script_words.specs.Lines.{first_at}
use Rattle.script_words.proofs.Outcomes.{some_is, none_is}

hosted : (bytes : List ℕ) (test : Bool) (is : is_host bytes ≡ test) (host : Host) → host_bytes host ≡ bytes
    → host_by bytes test is ≡ Some host
unfolding host_by
hosted bytes true is host e = ap Some (host_bytes-injective (host_from bytes is) host (take-padded 40 bytes ∙ sym e))
hosted bytes false is host e =
    let text : is_host bytes ≡ true = subst (λ (t : List ℕ). is_host t ≡ true) e host.legal in cc

-- bytes that are the text of a host are that host
pub host_of-Some : (bytes : List ℕ) (host : Host) → host_bytes host ≡ bytes → host_of bytes ≡ Some host
unfolding host_of
host_of-Some bytes host e = hosted bytes (is_host bytes) refl host e

unhosted : (bytes : List ℕ) (test : Bool) (is : is_host bytes ≡ test) → test ≡ false → host_by bytes test is ≡ None
unfolding host_by
unhosted bytes true is e = cc
unhosted bytes false is e = refl

-- other bytes are no host
pub host_of-None : (bytes : List ℕ) → is_host bytes ≡ false → host_of bytes ≡ None
unfolding host_of
host_of-None bytes e = unhosted bytes (is_host bytes) refl e

no-host : (result : Option Host) (test : Bool) → result ≡ None → IsSome result ↔ IsTrue test → test ≡ false
no-host result true none found =
    let some : IsSome {T = Host} None = subst (λ (o : Option Host). IsSome o) none (found.1 refl) in cc
no-host result false none found = refl

-- where nothing is found there is none
pub none-host : (bytes : List ℕ) (result : Option Host) → result ≡ None
    → IsSome result ↔ IsTrue (is_host bytes) → host_of bytes ≡ None
none-host bytes result none found = host_of-None bytes (no-host result (is_host bytes) none found)

texted : (bytes : List ℕ) (test : Bool) (is : is_host bytes ≡ test) (host : Host)
    → host_by bytes test is ≡ Some host → host_bytes host ≡ bytes
unfolding host_by
texted bytes true is host e = ap host_bytes (sym (some_is (host_from bytes is) host e)) ∙ take-padded 40 bytes
texted bytes false is host e = absurd (none_is host e)

-- a host that bytes are has them as its text
pub host_of-text : (bytes : List ℕ) (host : Host) → host_of bytes ≡ Some host → host_bytes host ≡ bytes
unfolding host_of
host_of-text bytes host e = texted bytes (is_host bytes) refl host e

-- no blank stands in a host
byte-other : (b : ℕ) → is_host_byte b ≡ true → (b == 32) ≡ false
byte-other b h = grind (arith, nat_tests)

first_at-bytes : (v : List ℕ) → list_all is_host_byte v ≡ true → first_at 32 v ≡ None
first_at-bytes [] h = refl
first_at-bytes (b ∷ bs) h =
    let both = and_parts (is_host_byte b) (list_all is_host_byte bs) h in
    rw (byte-other b both.0, first_at-bytes bs both.1) refl

first_at-text : (v : List ℕ) → is_host v ≡ true → first_at 32 v ≡ None
first_at-text v h = first_at-bytes v (is_text-bytes 40 is_host_byte v h)

pub first_at-host : (host : Host) → first_at 32 (host_bytes host) ≡ None
first_at-host host = first_at-text (host_bytes host) host.legal
