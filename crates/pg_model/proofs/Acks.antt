-- Whom a commit waits for.
use Rattle.std.proofs.Common.{◌≡◌, ℕ, zero, suc, ◌+◌, ◌<◌, ◌==◌, ◌||◌, not, Bool, true, false, IsTrue, List, [], ◌∷◌, length, get_or, Option, Some, None, refl, subst, arith}
use Rattle.std.specs.Prelude.{Any}
use Rattle.std.specs.List.{list_any}
use Rattle.std.specs.Int.{bit_at}
use Rattle.std.proofs.lemmas.Bool.{and_parts, and_from, leb-true, le-leb}
use Rattle.std.proofs.lemmas.Bool.Decides.{nat_tests}
use Rattle.std.proofs.lemmas.List.Folds.{Any-from_list_any, list_any-from_Any}
use Rattle.pat_base.specs.declared.lsn.Lsn.{Lsn}
use Rattle.pat_base.specs.declared.member_set.MemberSet.{MemberSet}
use Rattle.pat_base.specs.declared.server_state.Required.{Required}
use Rattle.pat_base.specs.declared.server_state.Required.TheVariants as required
use Rattle.pg_model.specs.Replication.{reaches, is_free, all_reach, sure_count, is_met, Reaches, MeetsRequired}
use Rattle.pg_model.proofs.Enough.{enough-to, enough-from}
use Rattle.pg_model.proofs.Reaching.{reaches-to, reaches-from}

any-to : (end : Lsn) (cs : List (Option Lsn)) → list_any (reaches end) cs ≡ true → Any (Reaches end) cs
any-to end cs h =
    let found = Any-from_list_any (reaches end) cs h in
    (found.0, found.1, found.2, found.3, reaches-to end found.1 found.4)

any-from : (end : Lsn) (cs : List (Option Lsn)) → Any (Reaches end) cs → list_any (reaches end) cs ≡ true
any-from end cs found =
    list_any-from_Any (reaches end) cs (found.0, found.1, found.2, found.3, reaches-from end found.1 found.4)

-- a member of the set is free only where it has confirmed the end
free-to : (bit : ℕ) (reached : Bool) → bit ≡ 1 → (not (bit == 1) || reached) ≡ true → reached ≡ true
free-to bit true e h = refl
free-to bit false e h = grind (arith, nat_tests)

free-from : (bit : ℕ) (reached : Bool) → (bit ≡ 1 → reached ≡ true) → (not (bit == 1) || reached) ≡ true
free-from bit true h = or-true (not (bit == 1))
  where
    or-true : (b : Bool) → (b || true) ≡ true
    or-true true = refl
    or-true false = refl
free-from bit false h = grind (arith, nat_tests)

all-to : (number : ℕ) (members : MemberSet) (end : Lsn) (cs : List (Option Lsn))
    → all_reach number members end cs ≡ true → (k : ℕ) → k < length cs → bit_at members.bits (number + k) ≡ 1
    → Reaches end (get_or cs k None)
all-to number members end (c ∷ cs) h zero lt bit =
    let here : bit_at members.bits number ≡ 1 = subst (λ (n : ℕ). bit_at members.bits n ≡ 1) (omega arith) bit in
    reaches-to end c
    (free-to (bit_at members.bits number) (reaches end c) here
    (and_parts (is_free members number end c) (all_reach (number + 1) members end cs) h).0)
all-to number members end (c ∷ cs) h (suc k) lt bit =
    let there : bit_at members.bits ((number + 1) + k) ≡ 1 =
    subst (λ (n : ℕ). bit_at members.bits n ≡ 1) (omega arith) bit in
    all-to (number + 1) members end cs
    (and_parts (is_free members number end c) (all_reach (number + 1) members end cs) h).1 k (omega (arith, lt)) there
all-to number members end [] h k lt bit = absurd (omega (arith, lt))

all-from : (number : ℕ) (members : MemberSet) (end : Lsn) (cs : List (Option Lsn))
    → ((k : ℕ) → k < length cs → bit_at members.bits (number + k) ≡ 1 → Reaches end (get_or cs k None))
    → all_reach number members end cs ≡ true
all-from number members end [] h = refl
all-from number members end (c ∷ cs) h =
    let here : is_free members number end c ≡ true = free-from (bit_at members.bits number) (reaches end c)
    (λ bit. reaches-from end c (h 0 (omega arith) (subst (λ (n : ℕ). bit_at members.bits n ≡ 1) (omega arith) bit))) in
    let there : all_reach (number + 1) members end cs ≡ true = all-from (number + 1) members end cs
    (λ k lt bit. h (suc k) (omega (arith, lt)) (subst (λ (n : ℕ). bit_at members.bits n ≡ 1) (omega arith) bit)) in
    and_from (is_free members number end c) (all_reach (number + 1) members end cs) here there

pub is_met-to : (list : Required) (end : Lsn) (cs : List (Option Lsn)) → IsTrue (is_met list end cs)
    → MeetsRequired list end cs
is_met-to required.Nobody end cs h = tt
is_met-to required.AnyOne end cs h = any-to end cs h
is_met-to (required.All members) end cs h =
    λ k lt bit. all-to 0 members end cs h k lt (subst (λ (n : ℕ). bit_at members.bits n ≡ 1) (omega arith) bit)
is_met-to (required.AtLeast number of) end cs h =
    enough-to number of end cs (leb-true number (sure_count 0 of end cs) h)

pub is_met-from : (list : Required) (end : Lsn) (cs : List (Option Lsn)) → MeetsRequired list end cs
    → IsTrue (is_met list end cs)
is_met-from required.Nobody end cs h = refl
is_met-from required.AnyOne end cs h = any-from end cs h
is_met-from (required.All members) end cs h =
    all-from 0 members end cs (λ k lt bit. h k lt (subst (λ (n : ℕ). bit_at members.bits n ≡ 1) (omega arith) bit))
is_met-from (required.AtLeast number of) end cs h =
    le-leb number (sure_count 0 of end cs) (enough-from number of end cs h)
