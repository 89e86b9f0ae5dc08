-- The watchdogs of a head, one after another.
use Rattle.std.proofs.Common.{◌≡◌, ℕ, ◌+◌, ◌≤◌, List, [], ◌∷◌, ◌++◌, length, drop, Some, append_assoc, append-nil, ◌∙◌, ap, sym}
use Rattle.std.specs.Prelude.{slice_get}
use Rattle.std.proofs.lemmas.List.{drop_all}
use Rattle.summary_model.specs.declared.answers.WatchOf.{WatchOf}
use Rattle.pat_base.proofs.Lists.{drop-get}

-- one watchdog more
pub watches-more : (all done longer : List WatchOf) (place : ℕ) (watchdog : WatchOf) → done ++ drop place all ≡ all
    → slice_get all place ≡ Some watchdog → longer ≡ done ++ watchdog ∷ [] → longer ++ drop (place + 1) all ≡ all
watches-more all done longer place watchdog so is more =
    ap (λ l. l ++ drop (place + 1) all) more
    ∙ append_assoc done (watchdog ∷ []) (drop (place + 1) all)
    ∙ ap (λ l. done ++ l) (sym (drop-get WatchOf all place watchdog is))
    ∙ so

-- no watchdog is left
pub watches-end : (all done : List WatchOf) (place : ℕ) → length all ≤ place → done ++ drop place all ≡ all → done ≡ all
watches-end all done place past so = sym (append-nil done) ∙ ap (λ l. done ++ l) (sym (drop_all place all past)) ∙ so
