-- What is known of a request after a list of answers.
use Rattle.std.proofs.Common.{◌≡◌, ◌==◌, ◌&&◌, ◌||◌, not, ℕ, zero, suc, ◌≤◌, ◌<◌, ◌^◌, Bool, true, false, is_some, List, [], ◌∷◌, Option, Some, None, ◌⊎◌, inl, inr, refl, sym, ap, ◌∙◌, arith, pow-suc}
use Rattle.std.specs.Prelude.{nat_lt, if◌then◌else◌}
use Rattle.std.specs.Int.{bit_at}
use Rattle.std.proofs.lemmas.Bool.{cases_eq, cases_lt}
use Rattle.std.proofs.lemmas.Bool.Decides.{nat_tests}
use Rattle.std.proofs.lemmas.Nat.Bits.{bit_at_above}
use Rattle.pat_base.specs.declared.member_id.MemberId.{MemberId}
use Rattle.pat_base.specs.declared.member_set.MemberSet.{MemberSet}
use Rattle.pat_base.specs.declared.ticks.Ticks.{Ticks}
use Rattle.failsafe.specs.declared.asks.Ask.{Ask}
use Rattle.failsafe.specs.Asks.{has, with_member, is_within, asked, is_awaited, earlier, counts, with_acknowledgement, heard, earliest_or, moment_of_all}
use Rattle.failsafe.specs.Hearings.{Hearing, heard_all, is_yes_of, first_yes, AllSaidYes}
use Rattle.failsafe.proofs.Members.{numbers-same, has-with, has-nobody, within-has, has-within}

no : true ≡ false → ⊥
no e = cc

some-is : {X : Type 0} (a b : X) → ◌≡◌ {A = Option X} (Some a) (Some b) → a ≡ b
some-is a b e = cc

none-some : {X : Type 0} (a : X) → ◌≡◌ {A = Option X} None (Some a) → ⊥
none-some a e = cc

by-test : {X : Type 0} (P : X → Type 0) (test : Bool) (x y : X) → (test ≡ true → P x) → (test ≡ false → P y)
    → P (if test then x else y)
by-test P true x y so other = so refl
by-test P false x y so other = other refl

both : (a b : Bool) → (a && b) ≡ true → (a ≡ true) × (b ≡ true)
both true true e = (refl, refl)
both true false e = absurd (no (sym e))
both false b e = absurd (no (sym e))

-- ---- one answer
abbrev one : Ask → Hearing → Ask
one ask h = heard ask h.member h.accepted h.at

pub members-one : (ask : Ask) (h : Hearing) → (one ask h).members ≡ ask.members
members-one ask h = by-test (λ (a : Ask). a.members ≡ ask.members) (counts ask h.member h.accepted)
    (with_acknowledgement ask h.member h.at) ask (λ e. refl) (λ e. refl)

made-one : (ask : Ask) (h : Hearing) → (one ask h).made ≡ ask.made
made-one ask h = by-test (λ (a : Ask). a.made ≡ ask.made) (counts ask h.member h.accepted)
    (with_acknowledgement ask h.member h.at) ask (λ e. refl) (λ e. refl)

-- who has said yes after it
abbrev said : Ask → Hearing → ℕ → Bool
said ask h k = has ask.acknowledged k || (has ask.members k && is_yes_of k h)

yes-one : (ask : Ask) (h : Hearing) (k : ℕ) → has (one ask h).acknowledged k ≡ said ask h k
yes-one ask h k =
    by-test (λ (a : Ask). has a.acknowledged k ≡ said ask h k) (counts ask h.member h.accepted)
    (with_acknowledgement ask h.member h.at) ask
    (λ e. has-with ask.acknowledged h.member k ∙ counted (h.member.number == k) refl e)
    (λ e. uncounted (h.member.number == k) refl e)
  where
    or-with : (y m t : Bool) → m ≡ true → (y || t) ≡ (y || (m && (true && t)))
    or-with y true t e = refl
    or-with y false t e = absurd (no (sym e))

    counted : (t : Bool) → (h.member.number == k) ≡ t → (counts ask h.member h.accepted) ≡ true
        → (has ask.acknowledged k || t) ≡ (has ask.acknowledged k || (has ask.members k && (h.accepted && t)))
    counted false is e = unsaid (has ask.acknowledged k) (has ask.members k) h.accepted
      where
        unsaid : (y m s : Bool) → (y || false) ≡ (y || (m && (s && false)))
        unsaid true m s = refl
        unsaid false true true = refl
        unsaid false true false = refl
        unsaid false false s = refl
    counted true is e =
        let so : h.accepted ≡ true = (both h.accepted (is_awaited ask h.member) e).0 in
        let member : has ask.members h.member.number ≡ true =
        (both (has ask.members h.member.number) (not (has ask.acknowledged h.member.number))
        (both h.accepted (is_awaited ask h.member) e).1).0 in
        or-with (has ask.acknowledged k) (has ask.members k) true
        (ap (has ask.members) (sym (numbers-same h.member.number k is)) ∙ member)
        ∙ ap (λ s. has ask.acknowledged k || (has ask.members k && (s && true))) (sym so)

    silent : (s y m : Bool) → (s && (m && not y)) ≡ false → y ≡ (y || (m && (s && true)))
    silent s true m e = refl
    silent true false true e = absurd (no e)
    silent true false false e = refl
    silent false false true e = refl
    silent false false false e = refl

    other : (s y m : Bool) → y ≡ (y || (m && (s && false)))
    other s true m = refl
    other true false true = refl
    other true false false = refl
    other false false true = refl
    other false false false = refl

    uncounted : (t : Bool) → (h.member.number == k) ≡ t → (counts ask h.member h.accepted) ≡ false
        → has ask.acknowledged k ≡ (has ask.acknowledged k || (has ask.members k && (h.accepted && t)))
    uncounted false is e = other h.accepted (has ask.acknowledged k) (has ask.members k)
    uncounted true is e =
        silent h.accepted (has ask.acknowledged k) (has ask.members k)
        (ap (λ n. h.accepted && (has ask.members n && not (has ask.acknowledged n)))
        (sym (numbers-same h.member.number k is)) ∙ e)

-- ---- all answers
members-all : (ask : Ask) (hs : List Hearing) → (heard_all ask hs).members ≡ ask.members
members-all ask [] = refl
members-all ask (h ∷ hs) = members-all (one ask h) hs ∙ members-one ask h

made-all : (ask : Ask) (hs : List Hearing) → (heard_all ask hs).made ≡ ask.made
made-all ask [] = refl
made-all ask (h ∷ hs) = made-all (one ask h) hs ∙ made-one ask h

yes-all : (ask : Ask) (hs : List Hearing) (k : ℕ)
    → has (heard_all ask hs).acknowledged k
    ≡ (has ask.acknowledged k || (has ask.members k && is_some (first_yes k hs)))
yes-all ask [] k = none (has ask.acknowledged k) (has ask.members k)
  where
    none : (y m : Bool) → y ≡ (y || (m && false))
    none true m = refl
    none false true = refl
    none false false = refl
yes-all ask (h ∷ hs) k =
    yes-all (one ask h) hs k
    ∙ ap (λ (y : Bool). y || (has (one ask h).members k && is_some (first_yes k hs))) (yes-one ask h k)
    ∙ ap (λ (set : MemberSet). said ask h k || (has set k && is_some (first_yes k hs))) (members-one ask h)
    ∙ joined (has ask.acknowledged k) (has ask.members k) (is_yes_of k h)
  where
    joined : (y m t : Bool)
        → ((y || (m && t)) || (m && is_some (first_yes k hs)))
        ≡ (y || (m && is_some (if t then Some h.at else first_yes k hs)))
    joined true m t = refl
    joined false true true = refl
    joined false true false = refl
    joined false false t = refl

-- ---- moments
-- an earliest moment that is at most this one
abbrev IsBy : Ticks → Option Ticks → Type 0
IsBy at earliest = (e : Ticks) × (earliest ≡ Some e) × (e.0 ≤ at.0)

earlier-by : (before : Option Ticks) (at : Ticks) → (earlier before at).0 ≤ at.0
earlier-by None at = omega arith
earlier-by (Some before) at = by-test (λ (t : Ticks). t.0 ≤ at.0)
    (nat_lt before.0 at.0) before at (λ is. below before.0 at.0 is) (λ is. omega arith)
  where
    below : (a b : ℕ) → nat_lt a b ≡ true → a ≤ b
    below a b is = grind (arith, nat_tests)

earlier-falls : (before at : Ticks) → (earlier (Some before) at).0 ≤ before.0
earlier-falls before at = by-test (λ (t : Ticks). t.0 ≤ before.0)
    (nat_lt before.0 at.0) before at (λ is. omega arith) (λ is. above before.0 at.0 is)
  where
    above : (a b : ℕ) → nat_lt a b ≡ false → b ≤ a
    above a b is = grind (arith, nat_tests)

earlier-is : (before : Option Ticks) (at : Ticks) → (before ≡ Some (earlier before at)) ⊎ (earlier before at ≡ at)
earlier-is None at = inr refl
earlier-is (Some before) at = by-test (λ (t : Ticks). (◌≡◌ {A = Option Ticks} (Some before) (Some t)) ⊎ (t ≡ at))
    (nat_lt before.0 at.0) before at (λ is. inl refl) (λ is. inr refl)

falls-one : (ask : Ask) (h : Hearing) (at : Ticks) → IsBy at ask.earliest → IsBy at (one ask h).earliest
falls-one ask h at (e, is, le) =
    by-test (λ (a : Ask). IsBy at a.earliest) (counts ask h.member h.accepted)
    (with_acknowledgement ask h.member h.at) ask
    (λ so. (earlier ask.earliest h.at, refl, below)) (λ silent. (e, is, le))
  where
    falls : (before : Option Ticks) → before ≡ Some e → (earlier before h.at).0 ≤ at.0
    falls None g = absurd (none-some e g)
    falls (Some b) g = omega (arith, earlier-falls b h.at, ap (λ (t : Ticks). t.0) (some-is b e g), le)

    below : (earlier ask.earliest h.at).0 ≤ at.0
    below = falls ask.earliest is

falls-all : (ask : Ask) (hs : List Hearing) (at : Ticks) → IsBy at ask.earliest → IsBy at (heard_all ask hs).earliest
falls-all ask [] at by = by
falls-all ask (h ∷ hs) at by = falls-all (one ask h) hs at (falls-one ask h at by)

-- a yes that counts makes the moment early enough
counts-one : (ask : Ask) (h : Hearing) (k : ℕ) → has ask.acknowledged k ≡ false → has ask.members k ≡ true
    → is_yes_of k h ≡ true → IsBy h.at (one ask h).earliest
counts-one ask h k fresh member is =
    by-test (λ (a : Ask). IsBy h.at a.earliest) (counts ask h.member h.accepted)
    (with_acknowledgement ask h.member h.at) ask
    (λ so. (earlier ask.earliest h.at, refl, earlier-by ask.earliest h.at))
    (λ silent. absurd (no (sym counted ∙ silent)))
  where
    so : (h.accepted ≡ true) × ((h.member.number == k) ≡ true)
    so = both h.accepted (h.member.number == k) is

    all : (s m y : Bool) → s ≡ true → m ≡ true → y ≡ false → (s && (m && not y)) ≡ true
    all true true false e f g = refl
    all true true true e f g = absurd (no g)
    all true false y e f g = absurd (no (sym f))
    all false m y e f g = absurd (no (sym e))

    counted : (counts ask h.member h.accepted) ≡ true
    counted = all h.accepted (has ask.members h.member.number) (has ask.acknowledged h.member.number) so.0
        (ap (has ask.members) (numbers-same h.member.number k so.1) ∙ member)
        (ap (has ask.acknowledged) (numbers-same h.member.number k so.1) ∙ fresh)

early-all : (ask : Ask) (hs : List Hearing) (k : ℕ) (at : Ticks) → has ask.acknowledged k ≡ false
    → has ask.members k ≡ true → first_yes k hs ≡ Some at → IsBy at (heard_all ask hs).earliest
early-all ask [] k at fresh member is = absurd (none-some at is)
early-all ask (h ∷ hs) k at fresh member is =
    by (is_yes_of k h) refl is (λ fresh' member' is'. early-all (one ask h) hs k at fresh' member' is')
  where
    still : (y m t : Bool) → y ≡ false → t ≡ false → (y || (m && t)) ≡ false
    still true m t e f = absurd (no e)
    still false true true e f = absurd (no f)
    still false true false e f = refl
    still false false t e f = refl

    Later : Type 0
    Later = has (one ask h).acknowledged k ≡ false → has (one ask h).members k ≡ true
        → first_yes k hs ≡ Some at → IsBy at (heard_all (one ask h) hs).earliest

    by : (t : Bool) → is_yes_of k h ≡ t → (if t then Some h.at else first_yes k hs) ≡ Some at → Later
        → IsBy at (heard_all (one ask h) hs).earliest
    by true so g later = falls-all (one ask h) hs at (moved (some-is h.at at g) (counts-one ask h k fresh member so))
      where
        moved : h.at ≡ at → IsBy h.at (one ask h).earliest → IsBy at (one ask h).earliest
        moved e (m, is', le) = (m, is', omega (arith, le, ap (λ (t : Ticks). t.0) e))
    by false other g later =
        later (yes-one ask h k ∙ still (has ask.acknowledged k) (has ask.members k) (is_yes_of k h) fresh other)
        (ap (λ (set : MemberSet). has set k) (members-one ask h) ∙ member) g

-- the moment is that of a first yes, or was there before
abbrev IsFrom : Ask → List Hearing → Ticks → Type 0
IsFrom ask hs e = (ask.earliest ≡ Some e)
    ⊎ ((k : ℕ) × (has ask.members k ≡ true) × (has ask.acknowledged k ≡ false) × (first_yes k hs ≡ Some e))

from-one : (ask : Ask) (h : Hearing) (e : Ticks) → (one ask h).earliest ≡ Some e
    → (ask.earliest ≡ Some e)
    ⊎ ((has ask.members h.member.number ≡ true) × (has ask.acknowledged h.member.number ≡ false) ×
    (h.accepted ≡ true) × (h.at ≡ e))
from-one ask h e =
    by-test (λ (a : Ask). a.earliest ≡ Some e → (ask.earliest ≡ Some e) ⊎
    ((has ask.members h.member.number ≡ true) × (has ask.acknowledged h.member.number ≡ false) ×
    (h.accepted ≡ true) × (h.at ≡ e)))
    (counts ask h.member h.accepted) (with_acknowledgement ask h.member h.at) ask
    (λ so g. counted so (earlier-is ask.earliest h.at) (some-is (earlier ask.earliest h.at) e g)) (λ silent g. inl g)
  where
    not-true : (y : Bool) → not y ≡ true → y ≡ false
    not-true true f = absurd (no (sym f))
    not-true false f = refl

    counted : (counts ask h.member h.accepted) ≡ true
        → (ask.earliest ≡ Some (earlier ask.earliest h.at)) ⊎ (earlier ask.earliest h.at ≡ h.at)
        → earlier ask.earliest h.at ≡ e
        → (ask.earliest ≡ Some e)
        ⊎ ((has ask.members h.member.number ≡ true) × (has ask.acknowledged h.member.number ≡ false) ×
        (h.accepted ≡ true) × (h.at ≡ e))
    counted so (inl was) is = inl (was ∙ ap Some is)
    counted so (inr new) is =
        let parts = both h.accepted (is_awaited ask h.member) so in
        let awaited = both (has ask.members h.member.number) (not (has ask.acknowledged h.member.number)) parts.1 in
        inr (awaited.0, not-true (has ask.acknowledged h.member.number) awaited.1, parts.0, sym new ∙ is)

from-all : (ask : Ask) (hs : List Hearing) (e : Ticks) → (heard_all ask hs).earliest ≡ Some e → IsFrom ask hs e
from-all ask [] e is = inl is
from-all ask (h ∷ hs) e is = by (from-all (one ask h) hs e is)
  where
    first : (t : Bool) (k : ℕ) → is_yes_of k h ≡ t → t ≡ true → h.at ≡ e
        → (if t then Some h.at else first_yes k hs) ≡ Some e
    first true k is' so at = ap Some at
    first false k is' so at = absurd (no (sym so))

    own : (h.accepted ≡ true) → is_yes_of h.member.number h ≡ true
    own so = both-true h.accepted (h.member.number == h.member.number) so (same h.member.number)
      where
        both-true : (a b : Bool) → a ≡ true → b ≡ true → (a && b) ≡ true
        both-true true true f g = refl
        both-true true false f g = absurd (no (sym g))
        both-true false b f g = absurd (no (sym f))

        same : (n : ℕ) → (n == n) ≡ true
        same n = grind (arith, nat_tests)

    not-said : (y m t : Bool) → (y || (m && t)) ≡ false → m ≡ true → (y ≡ false) × (t ≡ false)
    not-said true m t f g = absurd (no f)
    not-said false true true f g = absurd (no f)
    not-said false true false f g = (refl, refl)
    not-said false false t f g = absurd (no (sym g))

    later : (t : Bool) (k : ℕ) → t ≡ false → first_yes k hs ≡ Some e
        → (if t then Some h.at else first_yes k hs) ≡ Some e
    later true k f g = absurd (no f)
    later false k f g = g

    by-first : (ask.earliest ≡ Some e)
        ⊎ ((has ask.members h.member.number ≡ true) × (has ask.acknowledged h.member.number ≡ false) ×
        (h.accepted ≡ true) × (h.at ≡ e))
        → IsFrom ask (h ∷ hs) e
    by-first (inl was) = inl was
    by-first (inr (member, fresh, so, at)) =
        inr (h.member.number, member, fresh, first (is_yes_of h.member.number h) h.member.number refl (own so) at)

    by : IsFrom (one ask h) hs e → IsFrom ask (h ∷ hs) e
    by (inl was) = by-first (from-one ask h e was)
    by (inr (k, member, fresh, is')) =
        let listed : has ask.members k ≡ true = ap (λ (set : MemberSet). has set k) (sym (members-one ask h))
        ∙ member in
        let parts =
        not-said (has ask.acknowledged k) (has ask.members k) (is_yes_of k h) (sym (yes-one ask h k) ∙ fresh) listed in
        inr (k, listed, parts.0, later (is_yes_of k h) k parts.1 is')

-- ---- the laws
abbrev after : MemberSet → Ticks → List Hearing → Ask
after members made hs = heard_all (asked members made) hs

told-yes : (members : MemberSet) (made : Ticks) (hs : List Hearing) (k : ℕ) → has members k ≡ true
    → has (after members made hs).acknowledged k ≡ is_some (first_yes k hs)
told-yes members made hs k member = yes-all (asked members made) hs k
    ∙ by (has (record { bits = 0 }) k) (has members k) (is_some (first_yes k hs)) (has-nobody k) member
  where
    by : (y m t : Bool) → y ≡ false → m ≡ true → (y || (m && t)) ≡ t
    by true m t f g = absurd (no f)
    by false true t f g = refl
    by false false t f g = absurd (no (sym g))

is-some : {X : Type 0} (x : Option X) → is_some x ≡ true → (a : X) × (x ≡ Some a)
is-some None e = absurd (no (sym e))
is-some (Some a) e = (a, refl)

is-none : {X : Type 0} (x : Option X) → is_some x ≡ false → x ≡ None
is-none None e = refl
is-none (Some a) e = absurd (no e)

all-is : (ask : Ask) (moment : Ticks) → moment_of_all ask ≡ Some moment
    → (is_within ask.members ask.acknowledged ≡ true) × (earliest_or ask.made ask.earliest ≡ moment)
all-is ask moment =
    by-test (λ (x : Option Ticks). x ≡ Some moment →
    (is_within ask.members ask.acknowledged ≡ true) × (earliest_or ask.made ask.earliest ≡ moment))
    (is_within ask.members ask.acknowledged) (Some (earliest_or ask.made ask.earliest)) None
    (λ is g. (is, some-is (earliest_or ask.made ask.earliest) moment g)) (λ is g. absurd (none-some moment g))

all-said : (members : MemberSet) (made : Ticks) (hs : List Hearing)
    → is_within (after members made hs).members (after members made hs).acknowledged ≡ true → (k : ℕ)
    → has members k ≡ true → (at : Ticks) × (first_yes k hs ≡ Some at)
all-said members made hs within k member =
    is-some (first_yes k hs)
    (sym (told-yes members made hs k member)
    ∙ within-has (after members made hs).members (after members made hs).acknowledged within k
    (ap (λ (set : MemberSet). has set k) (members-all (asked members made) hs) ∙ member))

pub counts-once : (members : MemberSet) (made : Ticks) (hs : List Hearing) (moment : Ticks)
    → moment_of_all (after members made hs) ≡ Some moment → AllSaidYes members made hs moment
counts-once members made hs moment is = record {
  each = λ k member. each k member (said k member);
  one = one-of (after members made hs).earliest refl;
}
  where
    parts : (is_within (after members made hs).members (after members made hs).acknowledged ≡ true)
        × (earliest_or (after members made hs).made (after members made hs).earliest ≡ moment)
    parts = all-is (after members made hs) moment is

    said : (k : ℕ) → has members k ≡ true → (at : Ticks) × (first_yes k hs ≡ Some at)
    said = all-said members made hs parts.0

    early : (k : ℕ) (at : Ticks) → has members k ≡ true → first_yes k hs ≡ Some at
        → IsBy at (after members made hs).earliest
    early k at member so = early-all (asked members made) hs k at (has-nobody k) member so

    at-most : (at : Ticks) → IsBy at (after members made hs).earliest → moment.0 ≤ at.0
    at-most at (e, e-is, le) =
        omega (arith, le, ap (λ (t : Ticks). t.0) (sym (ap (earliest_or (after members made hs).made) e-is) ∙ parts.1))

    each : (k : ℕ) → has members k ≡ true → ((at : Ticks) × (first_yes k hs ≡ Some at))
        → (at : Ticks) × (first_yes k hs ≡ Some at) × (moment.0 ≤ at.0)
    each k member (at, so) = (at, so, at-most at (early k at member so))

    nobody : (after members made hs).earliest ≡ None → (k : ℕ) → has members k ≡ true
        → ((at : Ticks) × (first_yes k hs ≡ Some at)) → ⊥
    nobody none k member (at, so) = impossible (early k at member so)
      where
        impossible : IsBy at (after members made hs).earliest → ⊥
        impossible (e, e-is, le) = none-some e (sym none ∙ e-is)

    from : (e : Ticks) → earliest_or (after members made hs).made (Some e) ≡ moment → IsFrom (asked members made) hs e
        → ((k : ℕ) × (has members k ≡ true) × (first_yes k hs ≡ Some moment))
        ⊎ (((k : ℕ) → has members k ≡ true → ⊥) × (moment ≡ made))
    from e is' (inl was) = absurd (none-some e was)
    from e is' (inr (k, member, fresh, so)) = inl (k, member, so ∙ ap Some is')

    one-of : (earliest : Option Ticks) → (after members made hs).earliest ≡ earliest
        → ((k : ℕ) × (has members k ≡ true) × (first_yes k hs ≡ Some moment))
        ⊎ (((k : ℕ) → has members k ≡ true → ⊥) × (moment ≡ made))
    one-of None none = inr (
      (λ k member. nobody none k member (said k member)),
      sym (sym (made-all (asked members made) hs) ∙ sym (ap (earliest_or (after members made hs).made) none) ∙ parts.1),
    )
    one-of (Some e) some = from e (sym (ap (earliest_or (after members made hs).made) some) ∙ parts.1)
        (from-all (asked members made) hs e some)

-- a member that was asked and didn't say yes
abbrev IsSilent : MemberSet → List Hearing → Type 0
IsSilent members hs = (k : ℕ) × (has members k ≡ true) × (first_yes k hs ≡ None)

pub silent-enough : (members : MemberSet) (made : Ticks) (hs : List Hearing) → IsSilent members hs
    → moment_of_all (after members made hs) ≡ None
silent-enough members made hs (k, member, none) =
    by-test (λ (x : Option Ticks). x ≡ None)
    (is_within (after members made hs).members (after members made hs).acknowledged)
    (Some (earliest_or (after members made hs).made (after members made hs).earliest)) None
    (λ within. impossible (all-said members made hs within k member)) (λ other. refl)
  where
    impossible : {P : Type 0} → ((at : Ticks) × (first_yes k hs ≡ Some at)) → P
    impossible (at, so) = absurd (none-some at (sym none ∙ so))

lt-pow : (n : ℕ) → n < 2 ^ n
lt-pow zero = omega arith
lt-pow (suc n) = omega (arith, lt-pow n, pow-suc 2 n)

-- no bit of a number stands as high as the number
no-bit : (n k : ℕ) → n ≤ k → bit_at n k ≡ 0
no-bit n k le = bit_at_above n n k (lt-pow n) le

silent-or : (members : MemberSet) (hs : List Hearing) (n : ℕ)
    → ((k : ℕ) → k < n → has members k ≡ true → is_some (first_yes k hs) ≡ true) ⊎ IsSilent members hs
silent-or members hs zero = inl (λ k below member. absurd (omega (arith, below)))
silent-or members hs (suc n) = next (silent-or members hs n) (has members n) refl (first_yes n hs) refl
  where
    AllBelow : ℕ → Type 0
    AllBelow m = (k : ℕ) → k < m → has members k ≡ true → is_some (first_yes k hs) ≡ true

    more : AllBelow n → (has members n ≡ true → is_some (first_yes n hs) ≡ true) → AllBelow (suc n)
    more all here k below member = elim (cases_eq k n) [
      | inl e ↦ ap (λ i. is_some (first_yes i hs)) e ∙ here (ap (has members) (sym e) ∙ member)
      | inr ne ↦ all k (omega (arith, below, ne)) member
    ]

    next : AllBelow n ⊎ IsSilent members hs → (m : Bool) → has members n ≡ m → (so : Option Ticks)
        → first_yes n hs ≡ so → AllBelow (suc n) ⊎ IsSilent members hs
    next (inr silent) m is so f = inr silent
    next (inl all) false is so f = inl (more all (λ member. absurd (no (sym member ∙ is))))
    next (inl all) true is None f = inr (n, is, f)
    next (inl all) true is (Some at) f = inl (more all (λ member. ap is_some f))

pub silent-found : (members : MemberSet) (made : Ticks) (hs : List Hearing)
    → moment_of_all (after members made hs) ≡ None → IsSilent members hs
silent-found members made hs none = by (silent-or members hs members.bits)
  where
    outside : (k : ℕ) → has members k ≡ true → members.bits ≤ k → ⊥
    outside k member le = omega (arith, no-bit members.bits k le, numbers-same (bit_at members.bits k) 1 member)

    whole : ((k : ℕ) → k < members.bits → has members k ≡ true → is_some (first_yes k hs) ≡ true) → (k : ℕ)
        → has members k ≡ true → has (after members made hs).acknowledged k ≡ true
    whole all k member = told-yes members made hs k member ∙ elim (cases_lt k members.bits) [
      | inl lt ↦ all k lt member
      | inr ge ↦ absurd (outside k member ge)
    ]

    within : ((k : ℕ) → k < members.bits → has members k ≡ true → is_some (first_yes k hs) ≡ true)
        → is_within (after members made hs).members (after members made hs).acknowledged ≡ true
    within all = has-within (after members made hs).members (after members made hs).acknowledged
        (λ k member.
        whole all k (ap (λ (set : MemberSet). has set k) (sym (members-all (asked members made) hs)) ∙ member))

    some : (t : Bool) → t ≡ true
        → (if t then Some (earliest_or (after members made hs).made (after members made hs).earliest) else None) ≡ None
        → ⊥
    some true f g = none-some (earliest_or (after members made hs).made (after members made hs).earliest) (sym g)
    some false f g = no (sym f)

    by : ((k : ℕ) → k < members.bits → has members k ≡ true → is_some (first_yes k hs) ≡ true) ⊎ IsSilent members hs
        → IsSilent members hs
    by (inr silent) = silent
    by (inl all) =
        absurd (some (is_within (after members made hs).members (after members made hs).acknowledged) (within all) none)
