-- Where there is no log.
use Rattle.std.proofs.Common.{◌≡◌, ℕ, Bool, true, false, List, [], ◌∷◌, length, arith, refl, ap}
use Rattle.std.specs.Prelude.{◌↔◌, IsTrue, not}
use Rattle.wal_model.specs.Lacking.{lacks_in}

-- a server with no log lacks each commit that there is
pub lacks-all : (commits : List ℕ) (none : Bool) → (IsTrue none ↔ (commits ≡ [])) → not none ≡ lacks_in [] commits
lacks-all [] none is = ap not (is.1 refl)
lacks-all (commit ∷ commits) true is =
    let no : commit ∷ commits ≡ [] = is.0 refl in absurd (omega (arith, ap length no))
lacks-all (commit ∷ commits) false is = refl
