-- The sizes of sets that are put together.
use Rattle.std.proofs.Common.{◌≡◌, ◌≢◌, min, ℕ, ◌+◌, ◌-◌, ◌<◌, max, Bool, true, false, map, take, get_or, ap, ◌∙◌, arith}
use Rattle.std.specs.Int.{bit_at}
use Rattle.std.specs.List.{range_with_len}
use Rattle.std.proofs.lemmas.List.FromFn.{get_or-range_with_len}
use Rattle.pat_base.specs.declared.member_id.TheConstants.{MOST_MEMBERS}
use Rattle.pat_base.specs.declared.member_set.MemberSet.{MemberSet}
use Rattle.sync_state.specs.Sets.{both, either, set_of}
use Rattle.sync_state.proofs.SetBits.{both-is, either-is, same-set, set-in, set-out}
use Rattle.quorum_commit.specs.Quorums.{difference, size}
use Rattle.quorum_commit.proofs.Overlapping.{bit-le, bit-without}

-- a set of the members of either of two has as many as these
pub either-size : (one other result : MemberSet)
    → ((k : ℕ) → bit_at result.bits k ≡ max (bit_at one.bits k) (bit_at other.bits k))
    → size result ≡ size (either one other)
either-size one other result h = ap (λ (s : MemberSet). size s) (either-is one other result h)

-- of those of both as many as these
pub both-size : (one other result : MemberSet)
    → ((k : ℕ) → bit_at result.bits k ≡ min (bit_at one.bits k) (bit_at other.bits k))
    → size result ≡ size (both one other)
both-size one other result h = ap (λ (s : MemberSet). size s) (both-is one other result h)

-- and a set of the members of one that aren't in the other as many as those
pub difference-size : (one other result : MemberSet)
    → ((k : ℕ) → bit_at result.bits k ≡ bit_at one.bits k - bit_at other.bits k)
    → size result ≡ size (difference one other)
difference-size one other result h =
    ap (λ (s : MemberSet). size s) (same-set result (difference one other) (λ k. omega (
      arith,
      h k,
      bit-without k one.bits other.bits,
      bit-le one.bits k,
      bit-le other.bits k,
    )))

-- ---- a set that is put together member by member, by the numbers of those that are chosen
number-at : (n : ℕ) → n < MOST_MEMBERS → get_or (range_with_len 0 MOST_MEMBERS) n 0 ≡ n
number-at n below = get_or-range_with_len 0 MOST_MEMBERS n 0 below ∙ omega arith

-- one more number, which is chosen
pub numbered-in : (chosen : ℕ → Bool) (n : ℕ) (set next : MemberSet) → n < MOST_MEMBERS
    → set ≡ set_of (take n (map chosen (range_with_len 0 MOST_MEMBERS))) → chosen n ≡ true → bit_at next.bits n ≡ 1
    → ((k : ℕ) → k ≢ n → bit_at next.bits k ≡ bit_at set.bits k)
    → next ≡ set_of (take (n + 1) (map chosen (range_with_len 0 MOST_MEMBERS)))
numbered-in chosen n set next below so_far is here others =
    set-in chosen (range_with_len 0 MOST_MEMBERS) n 0 set next below so_far
    (ap chosen (number-at n below) ∙ is) here others

-- one more, which isn't
pub numbered-out : (chosen : ℕ → Bool) (n : ℕ) (set : MemberSet) → n < MOST_MEMBERS
    → set ≡ set_of (take n (map chosen (range_with_len 0 MOST_MEMBERS))) → chosen n ≡ false
    → set ≡ set_of (take (n + 1) (map chosen (range_with_len 0 MOST_MEMBERS)))
numbered-out chosen n set below so_far isnt =
    set-out chosen (range_with_len 0 MOST_MEMBERS) n 0 set below so_far
    (ap chosen (number-at n below) ∙ isnt)
