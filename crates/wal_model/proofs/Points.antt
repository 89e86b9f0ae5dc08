-- Lists of points of a history.
use Rattle.std.proofs.Common.{◌≡◌, ℕ, true, false, not, IsTrue, List, refl, sym, ap, subst, ◌∙◌, arith}
use Rattle.std.specs.Bool.{Decides}
use Rattle.std.specs.Cmp.Lexicographic.{pointwise}
use Rattle.std.proofs.lemmas.Bool.{not-false}
use Rattle.std.proofs.lemmas.Bool.Decides.{nat_tests}
use Rattle.std.proofs.lemmas.Slice.Eq.{slice_eq-Decides}
use Rattle.pat_base.proofs.Positions.{lsn-injective}
use Rattle.wal_model.specs.History.{Points, is_same_point, same_points}
use Rattle.wal_model.specs.declared.entry.HistoryPoint.{HistoryPoint}

same-fields : (a b : HistoryPoint) → a.timeline ≡ b.timeline → a.at ≡ b.at → a ≡ b
same-fields a b timelines positions = ap (λ n. record { timeline = n; at = a.at }) timelines
    ∙ ap (λ l. record { timeline = b.timeline; at = l }) positions

same-point : (a b : HistoryPoint) → is_same_point a b ≡ true → a ≡ b
same-point a b e =
    let timelines : a.timeline ≡ b.timeline = grind (arith, nat_tests) in
    let positions : a.at.position ≡ b.at.position = grind (arith, nat_tests) in
    same-fields a b timelines (lsn-injective a.at b.at positions)

is_same-self : (a : HistoryPoint) → is_same_point a a ≡ true
is_same-self a = grind (arith, nat_tests)

is_same-Decides : (a b : HistoryPoint) → Decides (is_same_point a b) (a ≡ b)
is_same-Decides a b = (same-point a b, λ e. subst (λ (z : HistoryPoint). is_same_point a z ≡ true) e (is_same-self a))

pub same-points : (xs ys : List HistoryPoint) → not (pointwise is_same_point xs ys) ≡ false → xs ≡ ys
same-points xs ys e = (slice_eq-Decides is_same-Decides xs ys (pointwise is_same_point xs ys) refl).0
    (not-false (pointwise is_same_point xs ys) e)

pub same-points-to : (xs ys : List HistoryPoint) → IsTrue (same_points xs ys) → xs ≡ ys
same-points-to xs ys h = (slice_eq-Decides is_same-Decides xs ys (same_points xs ys) refl).0 h

pub same-points-from : (xs ys : List HistoryPoint) → xs ≡ ys → IsTrue (same_points xs ys)
same-points-from xs ys e = (slice_eq-Decides is_same-Decides xs ys (same_points xs ys) refl).1 e

-- a history with the points of another one is that history with its own room
pub copied : (a b : Points) (xs ys : List HistoryPoint) (n m : ℕ) → record { points = xs; spare = n } ≡ a
    → record { points = ys; spare = m } ≡ b → xs ≡ ys → a ≡ record { points = b.points; spare = a.spare }
copied a b xs ys n m p q e =
    sym p
    ∙ ap (λ t. record { points = t; spare = n }) (e ∙ ap (λ (h : Points). h.points) q)
    ∙ ap (λ k. record { points = b.points; spare = k }) (ap (λ (h : Points). h.spare) p)
