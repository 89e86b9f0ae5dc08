use Rattle.std.proofs.Common.{ℕ, ◌≡◌, ◌≤◌, ◌+◌, ◌-◌, length, take, drop, List, Result, Ok, Err, IsErr, arith, length-drop, subst, take_all}
use Rattle.pat_outside.specs.declared.outside.Failed.{Failed}
use Rattle.pat_outside.specs.declared.outside.Sink.{Ghosts}
use Rattle.pat_outside.specs.Outside.{Rose, Grew}
use Rattle.pat_outside.specs.Prints.{Prints, failed}
use Rattle.pat_outside.proofs.Contents.{Grew-more, within-more, Grew-front, Rose-earlier, slice_rest}
use Rattle.pat_outside.proofs.transfer.write_all.Invariants.{Written}
use Rattle.pat_outside.proofs.transfer.write_all.Goals as goal

-- the rest of the bytes fits where all of them do
rest-fits : (bytes : List ℕ) (at n : ℕ) → length bytes ≤ n → length (take (length bytes - at) (drop at bytes)) ≤ n - at
rest-fits bytes at n h = rw (slice_rest at bytes) (omega (arith, length-drop at bytes))

-- a write failed that had no room for the rest
Written-stop : {K : Type 0} {sink : Ghosts K} {a b c : K} {bytes : List ℕ} {at : ℕ} (final : Result (Unit {0}) Failed)
    → IsErr final → Written sink a b bytes at → sink.content c ≡ sink.content b
    → Rose (sink.faults b) (sink.faults c) → sink.faults b ≤ sink.faults c
    → ((n : ℕ) → sink.can_take b n → length (take (length bytes - at) (drop at bytes)) ≤ n → ⊥)
    → Prints sink a c failed final bytes
Written-stop (Ok x) is w same rose grows full = absurd (no is)
  where
    no : IsErr {E = Failed} (Ok x) → ⊥
    no e = cc
Written-stop {sink = sink} {a = a} {b = b} {c = c} {bytes = bytes} {at = at} (Err e) is w same rose grows full =
    record {
      ok = tt;
      part = Grew-front (sink.content a) (sink.content b) (sink.content c) bytes at w.grew same;
      write = λ e. Rose-earlier (sink.faults a) (sink.faults b) (sink.faults c) w.grows rose;
      grows = omega (arith, w.grows);
      room = λ n can fits. absurd (full (n - at) (w.room n can fits) (rest-fits bytes at n fits));
    }

Written-end : {K : Type 0} {sink : Ghosts K} {a b : K} {bytes : List ℕ} {at : ℕ} → Written sink a b bytes at
    → length bytes ≤ at → Prints {X = Unit {0}} sink a b failed (Ok tt) bytes
Written-end {sink = sink} {a = a} {b = b} {bytes = bytes} {at = at} w end = record {
  ok = subst (λ (t : List ℕ). Grew (sink.content a) (sink.content b) t) (take_all at bytes end) w.grew;
  part = tt;
  write = λ e. cc;
  grows = w.grows;
  room = λ n can fits.
      let e : at ≡ length bytes = omega (arith, w.within) in
      subst (λ (k : ℕ). sink.can_take b (n - k)) e (w.room n can fits);
}

pub loop-at-preserved : goal.loop-at-preserved
loop-at-preserved g c = record {
  within =
      within-more c.args.bytes.now c.loop-at.at c.in_ok-at.field-0 c.loop-at.invariant.within c.in_ok-at.ensures.within;
  grew = Grew-more _ _ _ _ c.loop-at.at c.in_ok-at.field-0 c.loop-at.invariant.grew c.in_ok-at.ensures.grown;
  grows = omega arith;
  room = λ n could all.
      let taken = c.in_ok-at.ensures.room (n - c.loop-at.at) (c.loop-at.invariant.room n could all)
      (rest-fits c.args.bytes.now c.loop-at.at n all) in
      let e : (n - c.loop-at.at) - c.in_ok-at.field-0 ≡ n - (c.loop-at.at + c.in_ok-at.field-0) = omega arith in
      rw (← e) taken;
}

pub returns-in_err-at : goal.returns-in_err-at
returns-in_err-at g c =
    Written-stop c.from_residual.result c.from_residual.ensures.0 c.loop-at.invariant c.in_err-at.ensures.same
    c.in_err-at.ensures.failed c.write.ensures.grows
    (λ n can fits. c.in_err-at.ensures.room n can fits)

pub returns : goal.returns
returns g c = Written-end c.loop-at.invariant c.loop-at-test.false
