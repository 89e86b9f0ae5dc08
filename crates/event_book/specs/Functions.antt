-- Functions of numbers: one that changes at one place, and who is in a set.
use Rattle.std.specs.Prelude.{ℕ, ◌==◌, if◌then◌else◌, Bool}
use Rattle.std.specs.Int.{bit_at}
use Rattle.pat_base.specs.declared.member_set.MemberSet.{MemberSet}

-- f with another value at k
abbrev pub put_at : {A : Type 0} → (ℕ → A) → ℕ → A → ℕ → A
put_at f k x m = if m == k then x else f m

-- who is in the set, by the numbers of members
abbrev pub set_members : MemberSet → ℕ → Bool
set_members set p = bit_at set.bits p == 1
