-- The bits of a word of facts.
use Rattle.std.proofs.Common.{◌≡◌, ℕ, ◌==◌, ◌<◌, ◌^◌, Bool, true, false, bit_and, bit_or, arith, refl, lit<, eq-eqb}
use Rattle.std.proofs.lemmas.Nat.{or_of_8}
use Rattle.std.proofs.lemmas.Nat.Bits.{bit_at_and, bit_at_or, same_from_bits}
use Rattle.std.specs.Int.Bits.{or_zero_l, or_zero_r}
use Rattle.rest_health.specs.Bits as bits
use Rattle.rest_health.specs.Words.{bit_if, facts_of}
use Rattle.rest_health.specs.declared.facts.Facts.{Facts}

-- the bits of these facts together
abbrev pub word_of : Facts → ℕ
word_of facts =
    bit_or (bit_or (bit_or (bit_or (bit_or (bit_or (bit_or
    (bit_if facts.primary bits.primary)
    (bit_if facts.replica bits.replica))
    (bit_if facts.has_key bits.has_key))
    (bit_if facts.no_load_balance bits.no_load_balance))
    (bit_if facts.standby bits.standby))
    (bit_if facts.within_lag bits.within_lag))
    (bit_if facts.fresh_as_primary bits.fresh_as_primary))
    (bit_if facts.fresh_otherwise bits.fresh_otherwise)

-- a mask sees of two words together what it sees of each
and-or : (a b mask : ℕ) → bit_and (bit_or a b) mask ≡ bit_or (bit_and a mask) (bit_and b mask)
and-or a b mask =
    same_from_bits (bit_and (bit_or a b) mask) (bit_or (bit_and a mask) (bit_and b mask))
    (λ i. rw (
      bit_at_and (bit_or a b) mask i,
      bit_at_or a b i,
      bit_at_or (bit_and a mask) (bit_and b mask) i,
      bit_at_and a mask i,
      bit_at_and b mask i,
    ) (omega arith))

-- what a mask sees of a bit
and-bit_if : (holds : Bool) (bit mask : ℕ) → bit_and (bit_if holds bit) mask ≡ bit_if holds (bit_and bit mask)
and-bit_if true bit mask = refl
and-bit_if false bit mask = refl

-- where a mask sees nothing, nothing is left
bit_if-zero : (holds : Bool) → bit_if holds 0 ≡ 0
bit_if-zero true = refl
bit_if-zero false = refl

-- a bit is there just where its fact holds
bit_if-set : (holds : Bool) (bit : ℕ) → (0 == bit) ≡ false → (bit_if holds bit == bit) ≡ holds
bit_if-set true bit some = eq-eqb bit bit refl
bit_if-set false bit some = some

pub facts_of-word : (facts : Facts) → facts_of (word_of facts) ≡ facts
facts_of-word facts =
    simp (and-or, and-bit_if, bit_if-zero, or_zero_l, or_zero_r)
    (rw (
      bit_if-set facts.primary bits.primary refl,
      bit_if-set facts.replica bits.replica refl,
      bit_if-set facts.has_key bits.has_key refl,
      bit_if-set facts.no_load_balance bits.no_load_balance refl,
      bit_if-set facts.standby bits.standby refl,
      bit_if-set facts.within_lag bits.within_lag refl,
      bit_if-set facts.fresh_as_primary bits.fresh_as_primary refl,
      bit_if-set facts.fresh_otherwise bits.fresh_otherwise refl,
    )
    refl)

-- a bit lies below the bound, where there is one
bit_if-lt : (holds : Bool) (bit : ℕ) → bit < 2 ^ 8 → bit_if holds bit < 2 ^ 8
bit_if-lt true bit small = small
bit_if-lt false bit small = lit< tt

pub word_of-lt : (facts : Facts) → word_of facts < bits.bound
word_of-lt facts = search (or_of_8, bit_if-lt, arith)
