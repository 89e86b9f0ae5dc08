-- Margins at their members' places.
use Rattle.std.proofs.Common.{◌≡◌, ℕ, ◌<◌, List, [], ◌∷◌, length, take, zero, suc, Option, Some, None, ap, sym, arith}
use Rattle.std.proofs.lemmas.Option.{same_Some}
use Rattle.std.specs.Prelude.{slice_get, slice_set}
use Rattle.pat_base.specs.declared.ticks.Ticks.{Ticks}
use Rattle.summary_model.specs.declared.answers.WatchOf.{WatchOf}
use Rattle.summary_model.specs.Heads.{filled}

-- one more member's margin at its place
pub filled-more : (places : List (Option Ticks)) (members : List WatchOf) (i : ℕ) (member : WatchOf)
    → i < length places → slice_get members i ≡ Some member
    → slice_set (filled places (take i members)) i member.margin ≡ filled places (take (suc i) members)
filled-more places [] i member within found = absurd (none-there found)
  where
    none-there : ◌≡◌ {A = Option WatchOf} None (Some member) → ⊥
    none-there e = cc
filled-more [] (w ∷ ws) i member within found = absurd (omega (arith, within))
filled-more (p ∷ ps) (w ∷ ws) zero member within found =
    ap (λ (x : WatchOf). x.margin ∷ ps) (sym (same_Some w member found))
filled-more (p ∷ ps) (w ∷ ws) (suc i) member within found =
    ap (λ xs. w.margin ∷ xs) (filled-more ps ws i member (omega (arith, within)) found)
