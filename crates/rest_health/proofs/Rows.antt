-- What the rows of the tables look for, in the words of the documentation.
use Rattle.std.proofs.Common.{◌≡◌, ℕ, ◌%◌, ◌^◌, ◌<◌, ◌≤◌, ◌==◌, ◌&&◌, not, Bool, true, bit_and, bit_or, nat_lt, arith, refl, ap, sym, ◌∙◌, lit<}
use Rattle.std.proofs.lemmas.Bool.{agree_below, agree_below_at, ltb-true}
use Rattle.std.proofs.lemmas.Nat.{and_mod, and_le_r}
use Rattle.std.proofs.Math.Nat.{mod-eq_of_lt, mod-lt}
use Rattle.rest_health.specs.Bits as bits
use Rattle.rest_health.specs.Health.{leads, takes_load, is_sync, is_async}
use Rattle.rest_health.specs.Words.{facts_of}
use Rattle.rest_health.specs.declared.facts.Facts.{Facts}

-- a mask of eight bits sees the lowest eight of a word alone
low-bits : (word mask : ℕ) → mask < 2 ^ 8 → bit_and word mask ≡ bit_and (word % 2 ^ 8) mask
low-bits word mask small =
    let low : bit_and word mask % 2 ^ 8 ≡ bit_and (word % 2 ^ 8) (mask % 2 ^ 8) = and_mod word mask 8 in
    let same : mask % 2 ^ 8 ≡ mask = mod-eq_of_lt small in
    let within : bit_and word mask ≤ mask = and_le_r word mask in
    let seen : bit_and word mask % 2 ^ 8 ≡ bit_and word mask = mod-eq_of_lt (omega (arith, within, small)) in
    sym seen ∙ low ∙ ap (bit_and (word % 2 ^ 8)) same

-- so do the facts of a word
low-facts : (word : ℕ) → facts_of word ≡ facts_of (word % 2 ^ 8)
low-facts word =
    rw (
      low-bits word bits.primary (lit< tt),
      low-bits word bits.replica (lit< tt),
      low-bits word bits.has_key (lit< tt),
      low-bits word bits.no_load_balance (lit< tt),
      low-bits word bits.standby (lit< tt),
      low-bits word bits.within_lag (lit< tt),
      low-bits word bits.fresh_as_primary (lit< tt),
      low-bits word bits.fresh_otherwise (lit< tt),
    )
    refl

-- whether a word has these bits and lacks those
abbrev looks_for : ℕ → ℕ → ℕ → Bool
looks_for holds fails word = bit_and word (bit_or holds fails) == holds

-- a row that agrees with a test of facts at each word of eight bits does so at every word
by-facts : (holds fails : ℕ) (test : Facts → Bool) → nat_lt (bit_or holds fails) 256 ≡ true
    → agree_below (looks_for holds fails) (λ word. test (facts_of word)) 256 ≡ true → (word : ℕ)
    → looks_for holds fails word ≡ test (facts_of word)
by-facts holds fails test small agrees word =
    let below : bit_or holds fails < 2 ^ 8 = ltb-true (bit_or holds fails) 256 small in
    ap (λ seen. seen == holds) (low-bits word (bit_or holds fails) below)
    ∙ agree_below_at (looks_for holds fails) (λ word. test (facts_of word)) 256 (word % 2 ^ 8) agrees
    (mod-lt word (lit< tt))
    ∙ ap test (sym (low-facts word))

-- a row for a primary with the leader key
pub leads-row : (word : ℕ) → looks_for (bit_or bits.primary bits.has_key) 0 word ≡ leads (facts_of word)
leads-row = by-facts (bit_or bits.primary bits.has_key) 0 leads refl refl

-- a row for a replica that takes load
pub load-row : (word : ℕ) → looks_for bits.replica bits.no_load_balance word ≡ takes_load (facts_of word)
load-row = by-facts bits.replica bits.no_load_balance takes_load refl refl

-- a row for such a replica within the lag
pub lag-row : (word : ℕ)
    → looks_for (bit_or bits.replica bits.within_lag) bits.no_load_balance word
    ≡ (takes_load (facts_of word) && (facts_of word).within_lag)
lag-row = by-facts (bit_or bits.replica bits.within_lag) bits.no_load_balance
    (λ facts. takes_load facts && facts.within_lag) refl refl

-- a row for a synchronous standby
pub sync-row : (word : ℕ)
    → looks_for (bit_or bits.replica bits.standby) bits.no_load_balance word ≡ is_sync (facts_of word)
sync-row = by-facts (bit_or bits.replica bits.standby) bits.no_load_balance is_sync refl refl

-- a row for an asynchronous standby within the lag
pub async-row : (word : ℕ)
    → looks_for (bit_or bits.replica bits.within_lag) (bit_or bits.no_load_balance bits.standby) word
    ≡ is_async (facts_of word)
async-row = by-facts (bit_or bits.replica bits.within_lag) (bit_or bits.no_load_balance bits.standby) is_async refl refl

-- a row for a primary whose agent had a turn of late
pub primary-turn-row : (word : ℕ)
    → looks_for (bit_or bits.primary bits.fresh_as_primary) 0 word
    ≡ ((facts_of word).primary && (facts_of word).fresh_as_primary)
primary-turn-row =
    by-facts (bit_or bits.primary bits.fresh_as_primary) 0 (λ facts. facts.primary && facts.fresh_as_primary) refl refl

-- a row for any other member whose agent had one
pub other-turn-row : (word : ℕ)
    → looks_for bits.fresh_otherwise bits.primary word
    ≡ (not (facts_of word).primary && (facts_of word).fresh_otherwise)
other-turn-row =
    by-facts bits.fresh_otherwise bits.primary (λ facts. not facts.primary && facts.fresh_otherwise) refl refl

-- what each row of several facts looks for
pub ruleset row_words = (leads-row, load-row, lag-row, sync-row, async-row, primary-turn-row, other-turn-row)
