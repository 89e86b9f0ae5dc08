-- The standbys that are published, whom commits wait for, and when the two overlap.
use Rattle.std.specs.Prelude.{ℕ, ◌+◌, ◌&&◌, ◌||◌, nat_le, nat_lt, ◌-◌, bit_and, count_ones, Bool}
use Rattle.pat_base.specs.declared.member_set.MemberSet.{MemberSet}
use Rattle.sync_state.specs.Sets.{either}
use Rattle.quorum_commit.specs.declared.quorums.Need.{Need}
use Rattle.quorum_commit.specs.declared.quorums.Quorum.{Quorum}

-- how many members a set has
abbrev pub size : MemberSet → ℕ
size set = count_ones set.bits

-- the members of one set that aren't in the other
abbrev pub difference : MemberSet → MemberSet → MemberSet
difference one other = record { bits = one.bits - bit_and one.bits other.bits }

-- standbys and need together have fewer members than both numbers and one more
abbrev pub overlap : Quorum → Need → Bool
overlap key need = nat_lt (size (either key.standbys need.of)) (need.number + key.number + 1)

-- the members that are added, and those that might lack a commit before, are within the new number
abbrev pub adds_counted : Quorum → Quorum → Bool
adds_counted old new = nat_le (size (difference new.standbys old.standbys) + old.number) new.number

-- a quorum may be published in place of another: it overlaps the need, and its new
-- members are counted, or as many as the need wants have confirmed what was acknowledged
abbrev pub may_publish : Quorum → Quorum → Need → Bool → Bool
may_publish old new need confirmed = overlap new need && (adds_counted old new || confirmed)
