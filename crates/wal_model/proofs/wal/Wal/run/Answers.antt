use Rattle.std.proofs.Common.{◌≡◌, ◌++◌, ◌-◌, ◌≤◌, length, take, drop, min, subst, sym, ap, arith}
use Rattle.wal_model.specs.Log.{IsPrefixOf}
use Rattle.wal_model.proofs.Runs.{run-of-tail}
use Rattle.wal_model.proofs.wal.Wal.run.Goals as goal

pub returns-clause-front : goal.returns-clause-front
returns-clause-front c =
    let front = c.self.inside.pieces in
    let tail = c.self.inside.tail.items in
    let n = c.min-first.result in
    let past : length front ≤ c.args.place = omega (arith, c.len-sealed.ensures.count, c.if-place-sealed.false) in
    let is : n ≡ min (c.args.place - length front) (length tail) = omega (
      arith,
      c.min-first.ensures,
      c.len.ensures,
      c.deref.ensures.len,
      ap length c.deref.ensures.value,
      c.len-sealed.ensures.count,
    ) in
    subst (λ t. IsPrefixOf (take (length c.deref.result.now - n) (drop n c.deref.result.now)) (drop c.args.place t))
    c.self.view_is
    (subst (λ t. IsPrefixOf (take (length t - n) (drop n t)) (drop c.args.place (front ++ tail)))
    (sym c.deref.ensures.value)
    (run-of-tail front tail c.args.place n past is))
