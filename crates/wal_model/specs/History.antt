-- The histories of timelines.
use Rattle.std.specs.Prelude.{ℕ, ◌==◌, ◌&&◌, Bool, List, Option, find}
use Rattle.std.specs.Option.{option_map}
use Rattle.std.specs.Cmp.Lexicographic.{pointwise}
use Rattle.pat_base.specs.declared.lsn.Lsn.{Lsn}
use Rattle.wal_model.specs.declared.entry.HistoryPoint.{HistoryPoint}

-- the points of a history, in the order in which they were added, and for how many more there is room
pub record Points : Type 0 where
  pub points : List HistoryPoint
  pub spare : ℕ

-- where a timeline was left, if the list has it
abbrev pub point_of : ℕ → List HistoryPoint → Option Lsn
point_of timeline points = option_map (λ point. point.at) (find (λ point. point.timeline == timeline) points)

-- two points are the same
abbrev pub is_same_point : HistoryPoint → HistoryPoint → Bool
is_same_point x y = (x.timeline == y.timeline) && (x.at.position == y.at.position)

-- whether two histories have the same points
abbrev pub same_points : List HistoryPoint → List HistoryPoint → Bool
same_points xs ys = pointwise is_same_point xs ys
