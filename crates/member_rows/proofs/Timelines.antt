-- The order of timelines in the history.
use Rattle.std.proofs.Common.{◌≡◌, ◌∙◌, ℕ, true, List, [], ◌∷◌, map, Option, Some, None, refl, sym, ap}
use Rattle.std.specs.FinMap.{is_sorted}
use Rattle.std.specs.FinMap.Entries.{below_all}
use Rattle.std.specs.List.{AllByRecursion, cons_option, filter_map}
use Rattle.std.specs.List.Sorted.{IsStrictlySortedBy}
use Rattle.std.specs.Ordering.{is_lt, nat_cmp}
use Rattle.std.specs.declared.cmp.Ordering.TheVariants.{Less}
use Rattle.std.proofs.lemmas.Bool.{and_parts}
use Rattle.std.proofs.lemmas.Option.{none-some, same_Some}
use Rattle.store_keys.specs.declared.key.Key.{Key}
use Rattle.store_keys.specs.declared.key.Key.TheVariants as keys
use Rattle.store_keys.specs.declared.value.HistoryRow.{HistoryRow}
use Rattle.store_keys.specs.declared.value.KeyEntry.{KeyEntry}
use Rattle.store_keys.specs.declared.value.Value.{Value}
use Rattle.store_keys.specs.declared.value.Value.TheVariants as values
use Rattle.lease_store.specs.Kept.{AreOfKind}
use Rattle.lease_store.specs.KeyOrder.{key_cmp}
use Rattle.lease_store.specs.Kinds.{IsOfKind}
use Rattle.lease_store.proofs.Keeping.{less-from}
use Rattle.member_rows.specs.Endings.{ended_by, ended_of}

abbrev timeline_of : HistoryRow → ℕ
timeline_of row = row.timeline

-- a row of the history stands under the key of its timeline
under-its-timeline : (key : Key) (value : Value) (row : HistoryRow) → IsOfKind key value
    → ended_by value ≡ Some row → key ≡ keys.History row.timeline
under-its-timeline (keys.History timeline) (values.History found) row kind is =
    ap keys.History (sym kind ∙ ap timeline_of (same_Some found row is))
under-its-timeline keys.Leader (values.History found) row kind is = absurd kind
under-its-timeline keys.Config (values.History found) row kind is = absurd kind
under-its-timeline (keys.Member member) (values.History found) row kind is = absurd kind
under-its-timeline keys.Failover (values.History found) row kind is = absurd kind
under-its-timeline keys.Sync (values.History found) row kind is = absurd kind
under-its-timeline keys.Status (values.History found) row kind is = absurd kind
under-its-timeline keys.Failsafe (values.History found) row kind is = absurd kind
under-its-timeline keys.Scheduled (values.History found) row kind is = absurd kind
under-its-timeline key (values.Leader member) row kind is = absurd (none-some row is)
under-its-timeline key (values.Config config) row kind is = absurd (none-some row is)
under-its-timeline key (values.Member info) row kind is = absurd (none-some row is)
under-its-timeline key (values.Failover failover) row kind is = absurd (none-some row is)
under-its-timeline key (values.Sync sync) row kind is = absurd (none-some row is)
under-its-timeline key (values.Status end) row kind is = absurd (none-some row is)
under-its-timeline key (values.Failsafe members) row kind is = absurd (none-some row is)
under-its-timeline key (values.Scheduled planned) row kind is = absurd (none-some row is)

-- the timelines that are found rise behind this one
abbrev Behind : ℕ → List HistoryRow → Type 0
Behind timeline rows = AllByRecursion (λ later. nat_cmp timeline later ≡ Less) (map timeline_of rows)

behind-cons : (timeline : ℕ) (key : Key) (value : Value) (found : Option HistoryRow) (rows : List HistoryRow)
    → ended_by value ≡ found → IsOfKind key value
    → is_lt (key_cmp (keys.History timeline) key) ≡ true → Behind timeline rows
    → Behind timeline (cons_option found rows)
behind-cons timeline key value None rows is kind below rest = rest
behind-cons timeline key value (Some row) rows is kind below rest = (
  less-from (nat_cmp timeline row.timeline)
      (ap (λ k. is_lt (key_cmp (keys.History timeline) k)) (sym (under-its-timeline key value row kind is))
      ∙ below),
  rest,
)

behind-all : (timeline : ℕ) (pairs : List (Key × KeyEntry)) → AreOfKind pairs
    → below_all key_cmp (keys.History timeline) pairs ≡ true → Behind timeline (filter_map ended_of pairs)
behind-all timeline [] kinds below = tt
behind-all timeline (pair ∷ pairs) kinds below =
    let parts : (is_lt (key_cmp (keys.History timeline) pair.0) ≡ true)
    × (below_all key_cmp (keys.History timeline) pairs ≡ true) =
    and_parts (is_lt (key_cmp (keys.History timeline) pair.0))
    (below_all key_cmp (keys.History timeline) pairs) below in
    behind-cons timeline pair.0 pair.1.value (ended_of pair) (filter_map ended_of pairs) refl kinds.0 parts.0
    (behind-all timeline pairs kinds.1 parts.1)

-- the timelines of these rows rise
abbrev Rise : List HistoryRow → Type 0
Rise rows = IsStrictlySortedBy nat_cmp (map timeline_of rows)

rise-cons : (key : Key) (value : Value) (found : Option HistoryRow) (pairs : List (Key × KeyEntry))
    → ended_by value ≡ found → IsOfKind key value → AreOfKind pairs
    → below_all key_cmp key pairs ≡ true → Rise (filter_map ended_of pairs)
    → Rise (cons_option found (filter_map ended_of pairs))
unfolding IsStrictlySortedBy
rise-cons key value None pairs is kind kinds below rest = rest
rise-cons key value (Some row) pairs is kind kinds below rest = (
  behind-all row.timeline pairs kinds
      (ap (λ k. below_all key_cmp k pairs) (sym (under-its-timeline key value row kind is)) ∙ below),
  rest,
)

-- the timelines rise, where the keys do
pub timelines-rise : (pairs : List (Key × KeyEntry)) → AreOfKind pairs → is_sorted key_cmp pairs ≡ true
    → Rise (filter_map ended_of pairs)
unfolding IsStrictlySortedBy
timelines-rise [] kinds order = tt
timelines-rise (pair ∷ pairs) kinds order =
    let parts : (below_all key_cmp pair.0 pairs ≡ true) × (is_sorted key_cmp pairs ≡ true) =
    and_parts (below_all key_cmp pair.0 pairs) (is_sorted key_cmp pairs) order in
    rise-cons pair.0 pair.1.value (ended_of pair) pairs refl kinds.0 kinds.1 parts.0
    (timelines-rise pairs kinds.1 parts.1)
