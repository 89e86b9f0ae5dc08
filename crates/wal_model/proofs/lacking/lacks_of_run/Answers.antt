use Rattle.std.proofs.Common.{◌≡◌, ◌∙◌, ◌-◌, ◌+◌, ℕ, not, sym, ap, arith}
use Rattle.std.specs.List.{range_with_len}
use Rattle.wal_model.specs.Lacking.{lacks_in}
use Rattle.wal_model.proofs.Successions.{lacks-first, lacks-rest, lacks-last}
use Rattle.wal_model.proofs.lacking.lacks_of_run.Goals as goal

pub returns-then-not-contains : goal.returns-then-not-contains
returns-then-not-contains c = λ log same.
    let serial = c.loop-serial.serial-counter in
    sym (lacks-first log serial c.args.run.last (sym (same serial) ∙ sym c.contains.ensures ∙ c.if-not-contains.true))
    ∙ c.loop-serial.invariant log same

pub loop-serial-preserved : goal.loop-serial-preserved
loop-serial-preserved c = λ log same.
    let serial = c.loop-serial.serial-counter in
    lacks-rest log serial c.args.run.last c.loop-serial-test.true
    (sym (same serial) ∙ sym c.contains.ensures ∙ c.if-not-contains.false)
    ∙ c.loop-serial.invariant log same

pub returns : goal.returns
returns c = λ log same.
    let last = c.args.run.last in
    let at : c.loop-serial.serial-counter ≡ last = omega arith in
    ap not (c.contains-2.ensures ∙ same last)
    ∙ sym (lacks-last log last)
    ∙ ap (λ (n : ℕ). lacks_in log (range_with_len n (last - n + 1))) (sym at)
    ∙ c.loop-serial.invariant log same
