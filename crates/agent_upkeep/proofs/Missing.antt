-- The first point of a history whose row a snapshot lacks.
use Rattle.std.proofs.Common.{◌≡◌, ℕ, ◌+◌, ◌<◌, true, false, List, [], ◌∷◌, length, Option, Some, None, refl, sym, ◌∙◌, drop, arith}
use Rattle.std.specs.List.{slice_get}
use Rattle.std.proofs.lemmas.Option.{slice_get-get_or}
use Rattle.pat_base.proofs.Lists.{drop-get}
use Rattle.wal_model.specs.declared.entry.HistoryPoint.{HistoryPoint}
use Rattle.cluster_view.specs.Snapshots.{SnapshotFacts, has_row}
use Rattle.agent_model.specs.Snapshots.{missing_point}

-- its row is missing
pub missing-here : (snapshot : SnapshotFacts) (points : List HistoryPoint) (i : ℕ) (point : HistoryPoint)
    → slice_get points i ≡ Some point → has_row point.timeline snapshot ≡ false
    → missing_point snapshot (drop i points) ≡ Some point
missing-here snapshot points i point is lacks = rw (drop-get HistoryPoint points i point is, lacks) refl

-- its row is there
pub missing-later : (snapshot : SnapshotFacts) (points : List HistoryPoint) (i : ℕ) (point : HistoryPoint)
    → slice_get points i ≡ Some point → has_row point.timeline snapshot ≡ true
    → missing_point snapshot (drop i points) ≡ missing_point snapshot (drop (i + 1) points)
missing-later snapshot points i point is has = rw (drop-get HistoryPoint points i point is, has) refl

none-some : {point : HistoryPoint} → ◌≡◌ {A = Option HistoryPoint} None (Some point) → ⊥
none-some e = cc

-- a list has an element at each place within it
pub within-some : (points : List HistoryPoint) (i : ℕ) → i < length points → slice_get points i ≡ None → ⊥
within-some (point ∷ points) i within is = none-some (sym is ∙ slice_get-get_or (point ∷ points) i point within)
within-some [] i within is = absurd (omega (arith, within))
