-- Facts as a word, with a bit for each.
use Rattle.std.specs.Prelude.{ℕ, Bool, ◌==◌, if◌then◌else◌, bit_and}
use Rattle.rest_health.specs.Bits as bits
use Rattle.rest_health.specs.declared.facts.Facts.{Facts}

-- whether a bit of a word is set
abbrev pub is_set : ℕ → ℕ → Bool
is_set word bit = bit_and word bit == bit

-- a bit where this holds, and none else
abbrev pub bit_if : Bool → ℕ → ℕ
bit_if holds bit = if holds then bit else 0

-- the facts whose bits are set in a word
abbrev pub facts_of : ℕ → Facts
facts_of word = record {
  primary = is_set word bits.primary;
  replica = is_set word bits.replica;
  has_key = is_set word bits.has_key;
  no_load_balance = is_set word bits.no_load_balance;
  standby = is_set word bits.standby;
  within_lag = is_set word bits.within_lag;
  fresh_as_primary = is_set word bits.fresh_as_primary;
  fresh_otherwise = is_set word bits.fresh_otherwise;
}
