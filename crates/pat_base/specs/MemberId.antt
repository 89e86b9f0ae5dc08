-- Members by number.
use Rattle.std.specs.Prelude.{ℕ, ◌≡◌, ◌<◌, nat_lt, Bool, true, false, Option, Some, None, refl}
use Rattle.std.proofs.Common.{arith}
use Rattle.std.proofs.lemmas.Bool.Decides.{nat_tests}
use Rattle.pat_base.specs.declared.member_id.MemberId.{MemberId}
use Rattle.pat_base.specs.declared.member_id.TheConstants.{MOST_MEMBERS}

pub below-from : (n : ℕ) → nat_lt n MOST_MEMBERS ≡ true → n < MOST_MEMBERS
below-from n is = grind (arith, nat_tests)

-- the member of a number, by the test of that number
abbrev pub member_by : (n : ℕ) (test : Bool) → nat_lt n MOST_MEMBERS ≡ test → Option MemberId
member_by n true is = Some (record { number = n; below = below-from n is })
member_by n false is = None

-- the member of this number, if a cluster may have so many
abbrev pub member_of : ℕ → Option MemberId
member_of n = member_by n (nat_lt n MOST_MEMBERS) refl
