-- The rules that bar, and answers in the order of the script.
use Rattle.std.proofs.Common.{◌≡◌, ℕ, zero, ◌++◌, ◌≤◌, suc, ◌+◌, ◌<◌, Bool, true, false, cond, List, [], ◌∷◌, length, get_or, drop, Option, Some, None, refl, sym, ap, subst, ◌∙◌, arith}
use Rattle.std.specs.Prelude.{nat_lt, Contains}
use Rattle.std.specs.Option.{option_map}
use Rattle.std.proofs.lemmas.Bool.Decides.{nat_tests}
use Rattle.std.proofs.lemmas.List.{drop_more, drop_all}
use Rattle.pat_base.specs.declared.member_id.MemberId.{MemberId}
use Rattle.pat_base.specs.declared.ineligibility.Ineligibility.{Ineligibility}
use Rattle.pat_base.specs.declared.peer_answer.PeerAnswer.{PeerAnswer}
use Rattle.leader_race.specs.Bars.{bar_where, first_bar}
use Rattle.leader_race.specs.Peers.{member_where, earlier, first_of}

pub no : true ≡ false → ⊥
no e = cc

pub no-bar : {X : Type 0} (x : X) → Some x ≡ None → ⊥
no-bar x e = cc

-- where nothing bars, no rule applies
pub first_bar-none : (rule : Option Ineligibility) (rules : List (Option Ineligibility))
    → first_bar (rule ∷ rules) ≡ None → (rule ≡ None) × (first_bar rules ≡ None)
first_bar-none None rules e = (refl, e)
first_bar-none (Some bar) rules e = absurd (no-bar bar e)

pub bar_where-none : (applies : Bool) (bar : Ineligibility) → bar_where applies bar ≡ None → applies ≡ false
bar_where-none false bar e = refl
bar_where-none true bar e = absurd (no-bar bar e)

pub option_map-none : {X Y : Type 0} (f : X → Y) (o : Option X) → option_map f o ≡ None → o ≡ None
option_map-none f None e = refl
option_map-none f (Some x) e = absurd (no-bar (f x) e)

-- ---- of two members the first
some-if : (t : Bool) (x y : MemberId) → cond t (Some y) (Some x) ≡ None → ⊥
some-if true x y e = no-bar y e
some-if false x y e = no-bar x e

earlier-none : (x y : Option MemberId) → earlier x y ≡ None → (x ≡ None) × (y ≡ None)
earlier-none None y e = (refl, e)
earlier-none (Some x) None e = absurd (no-bar x e)
earlier-none (Some x) (Some y) e = absurd (some-if (nat_lt y.number x.number) x y e)

earlier-kept : (t : Bool) (x y : MemberId) → earlier (cond t (Some y) (Some x)) None ≡ cond t (Some y) (Some x)
earlier-kept true x y = refl
earlier-kept false x y = refl

falling : (x y z : ℕ) → nat_lt y x ≡ true → nat_lt z y ≡ true → nat_lt z x ≡ false → ⊥
falling x y z p q r = grind (arith, nat_tests)

rising : (x y z : ℕ) → nat_lt y x ≡ false → nat_lt z y ≡ false → nat_lt z x ≡ true → ⊥
rising x y z p q r = grind (arith, nat_tests)

three : (x y z : MemberId) (t u v : Bool) → nat_lt y.number x.number ≡ t → nat_lt z.number y.number ≡ u
    → nat_lt z.number x.number ≡ v
    → earlier (cond t (Some y) (Some x)) (Some z) ≡ earlier (Some x) (cond u (Some z) (Some y))
three x y z true true true p q r = rw (q, r) refl
three x y z true true false p q r = absurd (falling x.number y.number z.number p q r)
three x y z true false v p q r = rw (q, p) refl
three x y z false true v p q r = refl
three x y z false false true p q r = absurd (rising x.number y.number z.number p q r)
three x y z false false false p q r = rw (r, p) refl

earlier-earlier : (x y z : Option MemberId) → earlier (earlier x y) z ≡ earlier x (earlier y z)
earlier-earlier None y z = refl
earlier-earlier (Some x) None z = refl
earlier-earlier (Some x) (Some y) None = earlier-kept (nat_lt y.number x.number) x y
earlier-earlier (Some x) (Some y) (Some z) =
    three x y z (nat_lt y.number x.number) (nat_lt z.number y.number) (nat_lt z.number x.number) refl refl refl

earlier-nobody : (x : Option MemberId) → earlier x None ≡ x
earlier-nobody None = refl
earlier-nobody (Some x) = refl

-- ---- the first of whom an answer passes
pub first_of-more : (passes : PeerAnswer → Bool) (answers : List PeerAnswer) (i : ℕ) (d : PeerAnswer)
    (first next whole : Option MemberId) → i < length answers
    → next ≡ earlier first (member_where (passes (get_or answers i d)) (get_or answers i d).member)
    → earlier first (first_of passes (drop i answers)) ≡ whole
    → earlier next (first_of passes (drop (i + 1) answers)) ≡ whole
first_of-more passes answers i d first next whole within is so_far =
    let x = get_or answers i d in
    let rest = first_of passes (drop (i + 1) answers) in
    ap (λ o. earlier o rest) is
    ∙ earlier-earlier first (member_where (passes x) x.member) rest
    ∙ sym (ap (λ t. earlier first (first_of passes t)) (drop_more answers i d within))
    ∙ so_far

pub first_of-end : (passes : PeerAnswer → Bool) (answers : List PeerAnswer) (i : ℕ) (first whole : Option MemberId)
    → length answers ≡ i → earlier first (first_of passes (drop i answers)) ≡ whole → first ≡ whole
first_of-end passes answers i first whole end so_far =
    sym (earlier-nobody first)
    ∙ ap (λ t. earlier first (first_of passes t)) (sym (drop_all i answers (omega (arith, end)))) ∙ so_far

member_where-none : (t : Bool) (member : MemberId) → member_where t member ≡ None → t ≡ false
member_where-none false member e = refl
member_where-none true member e = absurd (no-bar member e)

none-at : (passes : PeerAnswer → Bool) (answers : List PeerAnswer) (k : ℕ) (x : PeerAnswer)
    → first_of passes answers ≡ None → k < length answers → get_or answers k x ≡ x → passes x ≡ false
none-at passes [] k x e within is = absurd (omega (arith, within))
none-at passes (y ∷ answers) zero x e within is =
    ap passes (sym is)
    ∙ member_where-none (passes y) y.member
    (earlier-none (member_where (passes y) y.member) (first_of passes answers) e).0
none-at passes (y ∷ answers) (suc k) x e within is =
    none-at passes answers k x (earlier-none (member_where (passes y) y.member) (first_of passes answers) e).1
    (omega (arith, within)) is

-- where there is no first one, no answer passes
pub first_of-none : (passes : PeerAnswer → Bool) (answers : List PeerAnswer) (x : PeerAnswer)
    → first_of passes answers ≡ None → Contains answers x → passes x ≡ false
first_of-none passes answers x e there = none-at passes answers there.0 x e there.1 there.2

pub first_of-skip : (passes : PeerAnswer → Bool) (x : PeerAnswer) (answers : List PeerAnswer)
    → passes x ≡ false → first_of passes (x ∷ answers) ≡ first_of passes answers
first_of-skip passes x answers e = ap (λ t. earlier (member_where t x.member) (first_of passes answers)) e

-- wherever an answer stands that doesn't pass
pub first_of-skip_at : (passes : PeerAnswer → Bool) (before : List PeerAnswer) (x : PeerAnswer)
    (after : List PeerAnswer) → passes x ≡ false
    → first_of passes (before ++ x ∷ after) ≡ first_of passes (before ++ after)
first_of-skip_at passes [] x after e = first_of-skip passes x after e
first_of-skip_at passes (y ∷ before) x after e =
    ap (earlier (member_where (passes y) y.member)) (first_of-skip_at passes before x after e)

-- ---- the first one is declared before all others
same-some : (x y : MemberId) → Some x ≡ Some y → x ≡ y
same-some x y e = cc

not-below : (m n : ℕ) → nat_lt n m ≡ false → m ≤ n
not-below m n e = grind (arith, nat_tests)

is-below : (m n : ℕ) → nat_lt n m ≡ true → n ≤ m
is-below m n e = grind (arith, nat_tests)

at-most : (x y : MemberId) → x ≡ y → y.number ≤ x.number
at-most x y e = subst (λ (z : MemberId). z.number ≤ x.number) e (omega arith)

either-least : (t : Bool) (x y m : MemberId) → nat_lt y.number x.number ≡ t
    → cond t (Some y) (Some x) ≡ Some m → (m.number ≤ x.number) × (m.number ≤ y.number)
either-least true x y m e is =
    let own = at-most y m (same-some y m is) in
    let other = is-below x.number y.number e in
    (omega arith, own)
either-least false x y m e is =
    let own = at-most x m (same-some x m is) in
    let other = not-below x.number y.number e in
    (own, omega arith)

left-least : (x : MemberId) (y : Option MemberId) (m : MemberId) → earlier (Some x) y ≡ Some m → m.number ≤ x.number
left-least x None m e = at-most x m (same-some x m e)
left-least x (Some y) m e = (either-least (nat_lt y.number x.number) x y m refl e).0

right-least : (x : Option MemberId) (y m : MemberId) → earlier x (Some y) ≡ Some m → m.number ≤ y.number
right-least None y m e = at-most y m (same-some y m e)
right-least (Some x) y m e = (either-least (nat_lt y.number x.number) x y m refl e).1

rest-least : (passes : PeerAnswer → Bool) (answers : List PeerAnswer) (k : ℕ) (x : PeerAnswer)
    (first rest : Option MemberId) (m : MemberId) → first_of passes answers ≡ rest
    → earlier first rest ≡ Some m → k < length answers → get_or answers k x ≡ x → passes x ≡ true
    → ((r : MemberId) → first_of passes answers ≡ Some r → r.number ≤ x.member.number) → m.number ≤ x.member.number
rest-least passes answers k x first None m none e within is passing more =
    absurd (no (sym passing ∙ none-at passes answers k x none within is))
rest-least passes answers k x first (Some r) m some e within is passing more =
    let here = right-least first r m e in
    let there = more r some in
    omega arith

least-at : (passes : PeerAnswer → Bool) (answers : List PeerAnswer) (k : ℕ) (x : PeerAnswer) (m : MemberId)
    → first_of passes answers ≡ Some m → k < length answers → get_or answers k x ≡ x → passes x ≡ true
    → m.number ≤ x.member.number
least-at passes [] k x m e within is passing = absurd (omega (arith, within))
least-at passes (y ∷ answers) zero x m e within is passing =
    let same : passes y ≡ true = ap passes is ∙ passing in
    let left : earlier (Some y.member) (first_of passes answers) ≡ Some m =
    ap (λ t. earlier (member_where t y.member) (first_of passes answers)) (sym same) ∙ e in
    subst (λ (z : PeerAnswer). m.number ≤ z.member.number) is (left-least y.member (first_of passes answers) m left)
least-at passes (y ∷ answers) (suc k) x m e within is passing =
    rest-least passes answers k x (member_where (passes y) y.member) (first_of passes answers) m refl e
    (omega (arith, within)) is passing
    (λ r some. least-at passes answers k x r some (omega (arith, within)) is passing)

pub first_of-least : (passes : PeerAnswer → Bool) (answers : List PeerAnswer) (x : PeerAnswer) (m : MemberId)
    → first_of passes answers ≡ Some m → Contains answers x → passes x ≡ true → m.number ≤ x.member.number
first_of-least passes answers x m e there passing = least-at passes answers there.0 x m e there.1 there.2 passing
