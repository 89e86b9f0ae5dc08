-- The words of several options are those of each in turn.
use Rattle.std.proofs.Common.{◌≡◌, ℕ, ◌<◌, ◌^◌, ℤ, pos, negsuc, Bool, false, cond, nat_eq, eq-eqb, of_z, w64, Some, None, List, [], ◌∷◌, ◌++◌, append_assoc, append-nil, refl, ap, ◌∙◌, sym, arith}
use lib.Signed.{mag}
use Rattle.std.proofs.lemmas.Bool.Decides.{nat_tests}
use Rattle.member_options.specs.Options.{option_text, is_default_priority}
use Rattle.member_options.specs.Ranges.{default_priority}
use Rattle.member_options.specs.declared.ranges.Priority.{Priority}
use Rattle.member_options.proofs.PriorityLaws.{default-number}
use Rattle.member_options.specs.declared.member_option.MemberOption.{MemberOption}
use Rattle.script_printing.specs.OptionWords.{words_of}

pub words_of-append : (front back : List MemberOption) → words_of (front ++ back) ≡ words_of front ++ words_of back
words_of-append [] back = refl
words_of-append (o ∷ os) back = ap (λ (t : List ℕ). 32 ∷ t)
    (ap (λ (t : List ℕ). option_text o ++ t) (words_of-append os back)
    ∙ sym (append_assoc (option_text o) (words_of os) (words_of back)))

-- the test of the default priority
default-test : (number unsaid : ℤ) → mag number < 2 ^ 63 → unsaid ≡ pos 1
    → nat_eq (of_z w64 number) (of_z w64 unsaid) ≡ is_default_priority number
default-test (pos n) unsaid fits is = ap (λ (z : ℤ). nat_eq n (of_z w64 z)) is
default-test (negsuc m) unsaid fits is =
    ap (λ (z : ℤ). nat_eq (of_z w64 (negsuc m)) (of_z w64 z)) is ∙ grind (arith, nat_tests)

pub priority-test : (number : ℤ) (unsaid : Priority) → mag number < 2 ^ 63 → unsaid ≡ default_priority
    → nat_eq (of_z w64 number) (of_z w64 unsaid.number) ≡ is_default_priority number
priority-test number unsaid fits is =
    default-test number unsaid.number fits (ap (λ (p : Priority). p.number) is ∙ default-number)

-- some options behind one that was written
one-behind : (before after : List ℕ) (written rest : List MemberOption) → after ≡ before ++ words_of written
    → after ++ words_of rest ≡ before ++ words_of (written ++ rest)
one-behind before after written rest is =
    ap (λ (t : List ℕ). t ++ words_of rest) is ∙ append_assoc before (words_of written) (words_of rest)
    ∙ sym (ap (λ (t : List ℕ). before ++ t) (words_of-append written rest))

-- one behind another, they are the words of all
pub written-in-turn : (t0 t1 t2 t3 t4 t5 t6 t7 t8 : List ℕ) (o1 o2 o3 o4 o5 o6 o7 o8 : List MemberOption)
    → t1 ≡ t0 ++ words_of o1
    → t2 ≡ t1 ++ words_of o2
    → t3 ≡ t2 ++ words_of o3
    → t4 ≡ t3 ++ words_of o4
    → t5 ≡ t4 ++ words_of o5
    → t6 ≡ t5 ++ words_of o6
    → t7 ≡ t6 ++ words_of o7
    → t8 ≡ t7 ++ words_of o8
    → t8 ≡ t0 ++ words_of (o1 ++ (o2 ++ (o3 ++ (o4 ++ (o5 ++ (o6 ++ (o7 ++ (o8 ++ []))))))))
written-in-turn t0 t1 t2 t3 t4 t5 t6 t7 t8 o1 o2 o3 o4 o5 o6 o7 o8 e1 e2 e3 e4 e5 e6 e7 e8 =
    sym (append-nil t8)
    ∙ one-behind t7 t8 o8 [] e8
    ∙ one-behind t6 t7 o7 (o8 ++ []) e7
    ∙ one-behind t5 t6 o6 (o7 ++ (o8 ++ [])) e6
    ∙ one-behind t4 t5 o5 (o6 ++ (o7 ++ (o8 ++ []))) e5
    ∙ one-behind t3 t4 o4 (o5 ++ (o6 ++ (o7 ++ (o8 ++ [])))) e4
    ∙ one-behind t2 t3 o3 (o4 ++ (o5 ++ (o6 ++ (o7 ++ (o8 ++ []))))) e3
    ∙ one-behind t1 t2 o2 (o3 ++ (o4 ++ (o5 ++ (o6 ++ (o7 ++ (o8 ++ [])))))) e2
    ∙ one-behind t0 t1 o1 (o2 ++ (o3 ++ (o4 ++ (o5 ++ (o6 ++ (o7 ++ (o8 ++ []))))))) e1
