-- Sets of members by their bits.
use Rattle.std.specs.Prelude.{◌==◌, bit_and, bit_or, Bool, List}
use Rattle.std.specs.Simd.Lanes.{mask_l}
use Rattle.pat_base.specs.declared.member_set.MemberSet.{MemberSet}

-- the set of nobody
abbrev pub nobody : MemberSet
nobody = record { bits = 0 }

-- the set of the members for whom a list has true, by their numbers:
-- of its bits as a number the first in the list is the lowest
abbrev pub set_of : List Bool → MemberSet
set_of members = record { bits = mask_l members }

-- the members of both sets
abbrev pub both : MemberSet → MemberSet → MemberSet
both one other = record { bits = bit_and one.bits other.bits }

-- the members of either set
abbrev pub either : MemberSet → MemberSet → MemberSet
either one other = record { bits = bit_or one.bits other.bits }

-- each member of the first set is in the other
abbrev pub is_within : MemberSet → MemberSet → Bool
is_within one other = (both one other).bits == one.bits

-- both sets have the same members
abbrev pub are_same : MemberSet → MemberSet → Bool
are_same one other = one.bits == other.bits
