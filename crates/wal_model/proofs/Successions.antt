-- Serials that follow one another.
use Rattle.std.proofs.Common.{◌≡◌, ℕ, ◌+◌, ◌-◌, ◌<◌, ◌||◌, true, false, List, [], ◌∷◌, ◌++◌, length, drop, get_or, set, zero, suc, refl, ap, arith, ◌∙◌, sym, append_assoc, append-nil, length-append}
use Rattle.std.specs.Prelude.{not}
use Rattle.std.specs.List.{range_with_len}
use Rattle.std.proofs.Math.Bool.{or_assoc, or-false}
use Rattle.std.proofs.lemmas.List.{drop_more}
use Rattle.std.proofs.lemmas.List.FromFn.{length-range_with_len}
use Rattle.wal_model.specs.declared.entry.Entry.{Entry}
use Rattle.wal_model.specs.declared.serial_run.SerialRun.{SerialRun}
use Rattle.wal_model.specs.Lacking.{has_serial, lacks_in}
use Rattle.wal_model.specs.Serials.{serials_of_run, serials_in}

-- one more number
range-more : (first count : ℕ) → range_with_len first (suc count) ≡ range_with_len first count ++ (first + count) ∷ []
range-more first zero = let at : first ≡ first + 0 = omega arith in ap (λ (n : ℕ). n ∷ []) at
range-more first (suc count) =
    let at : first + 1 + count ≡ first + suc count = omega arith in
    ap (λ (l : List ℕ). first ∷ l) (range-more (first + 1) count)
    ∙ ap (λ (n : ℕ). first ∷ (range_with_len (first + 1) count ++ n ∷ [])) at

-- a run that goes on by one
pub run-more : (run next : SerialRun) → next.first ≡ run.first → next.last ≡ run.last + 1
    → serials_of_run next ≡ serials_of_run run ++ next.last ∷ []
run-more run next same after =
    let count : next.last - next.first + 1 ≡ suc (run.last - run.first + 1) = omega (arith, same, after, run.order) in
    let end : run.first + (run.last - run.first + 1) ≡ next.last = omega (arith, after, run.order) in
    ap (λ (n : ℕ). range_with_len n (next.last - next.first + 1)) same
    ∙ ap (range_with_len run.first) count
    ∙ range-more run.first (run.last - run.first + 1)
    ∙ ap (λ (n : ℕ). serials_of_run run ++ n ∷ []) end

-- the last of some runs goes on by one
pub last-more : (runs : List SerialRun) (last : ℕ) (run next : SerialRun) → suc last ≡ length runs
    → run ≡ get_or runs last run → next.first ≡ run.first → next.last ≡ run.last + 1
    → serials_in (set runs last next) ≡ serials_in runs ++ next.last ∷ []
last-more [] last run next long is same after = absurd (omega (arith, long))
last-more (r ∷ []) zero run next long is same after =
    append-nil (serials_of_run next)
    ∙ run-more r next (same ∙ ap (λ (x : SerialRun). x.first) is) (after ∙ ap (λ (x : SerialRun). x.last + 1) is)
    ∙ ap (λ (l : List ℕ). l ++ next.last ∷ []) (sym (append-nil (serials_of_run r)))
last-more (r ∷ x ∷ rs) zero run next long is same after = absurd (omega (arith, long))
last-more (r ∷ rs) (suc last) run next long is same after =
    ap (λ (l : List ℕ). serials_of_run r ++ l) (last-more rs last run next (omega (arith, long)) is same after)
    ∙ sym (append_assoc (serials_of_run r) (serials_in rs) (next.last ∷ []))

-- where there is a run there is a serial
pub no-runs : (runs : List SerialRun) → serials_in runs ≡ [] → runs ≡ []
no-runs [] none = refl
no-runs (r ∷ rs) none =
    absurd (omega (
      arith,
      ap length none,
      length-append (serials_of_run r) (serials_in rs),
      length-range_with_len r.first (r.last - r.first + 1),
    ))

-- some of two lists of commits are lacked
lacks-append : (log : List Entry) (xs ys : List ℕ) → lacks_in log (xs ++ ys) ≡ (lacks_in log xs || lacks_in log ys)
lacks-append log [] ys = refl
lacks-append log (x ∷ xs) ys = ap (λ b. not (has_serial log x) || b) (lacks-append log xs ys)
    ∙ sym (or_assoc (not (has_serial log x)) (lacks_in log xs) (lacks_in log ys))

-- commits of the run at a place, or of the runs behind it, are lacked
pub lacks-runs : (log : List Entry) (runs : List SerialRun) (i : ℕ) (run : SerialRun) → i < length runs
    → run ≡ get_or runs i run
    → lacks_in log (serials_in (drop i runs))
    ≡ (lacks_in log (serials_of_run run) || lacks_in log (serials_in (drop (i + 1) runs)))
lacks-runs log runs i run within is =
    ap (λ (l : List SerialRun). lacks_in log (serials_in l)) (drop_more runs i run within)
    ∙ lacks-append log (serials_of_run (get_or runs i run)) (serials_in (drop (i + 1) runs))
    ∙ ap (λ (x : SerialRun). lacks_in log (serials_of_run x) || lacks_in log (serials_in (drop (i + 1) runs))) (sym is)

-- the first of some commits that follow one another isn't lacked
pub lacks-rest : (log : List Entry) (first last : ℕ) → first < last → has_serial log first ≡ true
    → lacks_in log (range_with_len (first + 1) (last - (first + 1) + 1))
    ≡ lacks_in log (range_with_len first (last - first + 1))
lacks-rest log first last before has =
    let count : last - first + 1 ≡ suc (last - (first + 1) + 1) = omega arith in
    sym (ap (λ (n : ℕ). lacks_in log (range_with_len first n)) count
    ∙ ap (λ b. not b || lacks_in log (range_with_len (first + 1) (last - (first + 1) + 1))) has)

-- it is
pub lacks-first : (log : List Entry) (first last : ℕ) → has_serial log first ≡ false
    → lacks_in log (range_with_len first (last - first + 1)) ≡ true
lacks-first log first last has =
    let count : last - first + 1 ≡ suc (last - first) = omega arith in
    ap (λ (n : ℕ). lacks_in log (range_with_len first n)) count
    ∙ ap (λ b. not b || lacks_in log (range_with_len (first + 1) (last - first))) has

-- the last of them alone
pub lacks-last : (log : List Entry) (serial : ℕ)
    → lacks_in log (range_with_len serial (serial - serial + 1)) ≡ not (has_serial log serial)
lacks-last log serial =
    let count : serial - serial + 1 ≡ 1 = omega arith in
    ap (λ (n : ℕ). lacks_in log (range_with_len serial n)) count ∙ or-false (not (has_serial log serial))
