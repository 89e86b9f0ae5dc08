-- Numbers of commands with a range, and their numbers.
use Rattle.std.proofs.Common.{◌≡◌, ℕ, ◌≤◌, nat_le, Bool, true, false, Some, None, refl, ap, sym, subst}
use Rattle.std.proofs.lemmas.Bool.{leb-true}
use Rattle.std.proofs.Math.Bridge.{le_prop}
use Rattle.script_words.proofs.Outcomes.{some_is, none_is}
use Rattle.member_options.proofs.RangeLaws.{not_within}
use Rattle.script_model.specs.Bounds.{longest_commit, longest_delay}
use Rattle.script_model.specs.Ranges.{commit_size_by, commit_size_of, delay_by, delay_of}
use Rattle.script_model.specs.declared.ranges.CommitSize.{CommitSize}
use Rattle.script_model.specs.declared.ranges.Delay.{Delay}

-- the length of a commit is its number
same_commit_size : (a b : CommitSize) → a.bytes ≡ b.bytes → a ≡ b
same_commit_size a b e =
    subst
    (λ (n : ℕ). (least : 1 ≤ n) (most : n ≤ longest_commit) →
    ◌≡◌ {A = CommitSize} a (record { bytes = n; least = least; most = most }))
    e
    (λ least most. λ i. record { bytes = a.bytes; least = le_prop a.least least i; most = le_prop a.most most i })
    b.least
    b.most

some-commit : (n : ℕ) (size : CommitSize) (low high : Bool) (least : nat_le 1 n ≡ low)
    (most : nat_le n longest_commit ≡ high) → size.bytes ≡ n → commit_size_by n low high least most ≡ Some size
unfolding commit_size_by
some-commit n size true true least most e = ap Some (same_commit_size _ size (sym e))
some-commit n size true false least most e =
    absurd (not_within n longest_commit most (subst (λ (k : ℕ). k ≤ longest_commit) e size.most))
some-commit n size false high least most e = absurd (not_within 1 n least (subst (λ (k : ℕ). 1 ≤ k) e size.least))

no-commit : (n : ℕ) (low high : Bool) (least : nat_le 1 n ≡ low) (most : nat_le n longest_commit ≡ high)
    → (1 ≤ n → n ≤ longest_commit → ⊥) → commit_size_by n low high least most ≡ None
unfolding commit_size_by
no-commit n true true least most out = absurd (out (leb-true 1 n least) (leb-true n longest_commit most))
no-commit n true false least most out = refl
no-commit n false high least most out = refl

commit-bytes : (n : ℕ) (size : CommitSize) (low high : Bool) (least : nat_le 1 n ≡ low)
    (most : nat_le n longest_commit ≡ high) → commit_size_by n low high least most ≡ Some size → size.bytes ≡ n
unfolding commit_size_by
commit-bytes n size true true least most e = ap (λ (x : CommitSize). x.bytes) (sym (some_is _ size e))
commit-bytes n size true false least most e = absurd (none_is size e)
commit-bytes n size false high least most e = absurd (none_is size e)

pub commit_size_of-Some : (n : ℕ) (size : CommitSize) → size.bytes ≡ n → commit_size_of n ≡ Some size
unfolding commit_size_of
commit_size_of-Some n size e = some-commit n size (nat_le 1 n) (nat_le n longest_commit) refl refl e

pub commit_size_of-None : (n : ℕ) → (1 ≤ n → n ≤ longest_commit → ⊥) → commit_size_of n ≡ None
unfolding commit_size_of
commit_size_of-None n out = no-commit n (nat_le 1 n) (nat_le n longest_commit) refl refl out

pub commit_size_of-bytes : (n : ℕ) (size : CommitSize) → commit_size_of n ≡ Some size → size.bytes ≡ n
unfolding commit_size_of
commit_size_of-bytes n size e = commit-bytes n size (nat_le 1 n) (nat_le n longest_commit) refl refl e

-- a delay is its number
same_delay : (a b : Delay) → a.ticks ≡ b.ticks → a ≡ b
same_delay a b e =
    subst
    (λ (n : ℕ). (most : n ≤ longest_delay) → ◌≡◌ {A = Delay} a (record { ticks = n; most = most }))
    e
    (λ most. ap (λ (x : a.ticks ≤ longest_delay). record { ticks = a.ticks; most = x }) (le_prop a.most most))
    b.most

some-delay : (n : ℕ) (delay : Delay) (high : Bool) (most : nat_le n longest_delay ≡ high) → delay.ticks ≡ n
    → delay_by n high most ≡ Some delay
unfolding delay_by
some-delay n delay true most e = ap Some (same_delay _ delay (sym e))
some-delay n delay false most e =
    absurd (not_within n longest_delay most (subst (λ (k : ℕ). k ≤ longest_delay) e delay.most))

no-delay : (n : ℕ) (high : Bool) (most : nat_le n longest_delay ≡ high) → (n ≤ longest_delay → ⊥)
    → delay_by n high most ≡ None
unfolding delay_by
no-delay n true most out = absurd (out (leb-true n longest_delay most))
no-delay n false most out = refl

delay-ticks : (n : ℕ) (delay : Delay) (high : Bool) (most : nat_le n longest_delay ≡ high)
    → delay_by n high most ≡ Some delay → delay.ticks ≡ n
unfolding delay_by
delay-ticks n delay true most e = ap (λ (x : Delay). x.ticks) (sym (some_is _ delay e))
delay-ticks n delay false most e = absurd (none_is delay e)

pub delay_of-Some : (n : ℕ) (delay : Delay) → delay.ticks ≡ n → delay_of n ≡ Some delay
unfolding delay_of
delay_of-Some n delay e = some-delay n delay (nat_le n longest_delay) refl e

pub delay_of-None : (n : ℕ) → (n ≤ longest_delay → ⊥) → delay_of n ≡ None
unfolding delay_of
delay_of-None n out = no-delay n (nat_le n longest_delay) refl out

pub delay_of-ticks : (n : ℕ) (delay : Delay) → delay_of n ≡ Some delay → delay.ticks ≡ n
unfolding delay_of
delay_of-ticks n delay e = delay-ticks n delay (nat_le n longest_delay) refl e
