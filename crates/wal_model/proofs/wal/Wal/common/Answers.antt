use Rattle.std.proofs.Common.{◌≡◌, ℕ, ◌≤◌, ◌<◌, ◌⊎◌, min, length, length-take-le, sym, ap, arith, ◌∙◌}
use Rattle.wal_model.specs.Log.{common_of}
use Rattle.wal_model.proofs.Entries.{common-end}
use Rattle.wal_model.proofs.Runs.{common-further, common-parted}
use Rattle.wal_model.proofs.wal.Wal.common.Goals as goal

ends : (m n k place : ℕ) → k ≡ min m n → k ≤ place → (m ≤ place) ⊎ (n ≤ place)
ends m n k place e h = grind arith

pub returns-then-same-eq0-clause-front : goal.returns-then-same-eq0-clause-front
returns-then-same-eq0-clause-front c =
    let x = c.args.self.now in
    let y = c.args.other.now in
    let place = c.loop-place.place in
    let inx : place < length x = omega (arith, c.loop-place-test.true, c.min-most.ensures, c.len.ensures) in
    let iny : place < length y = omega (arith, c.loop-place-test.true, c.min-most.ensures, c.len-2.ensures) in
    common-parted x y c.run.result.now c.run-in-loop-place.result.now place c.common_len-same.result
    c.loop-place.invariant c.run.ensures.front c.run-in-loop-place.ensures.front
    (c.run.ensures.some inx) (c.run-in-loop-place.ensures.some iny) c.common_len-same.ensures.common c.if-same-eq0.true

pub returns-then-same-eq0-clause-count : goal.returns-then-same-eq0-clause-count
returns-then-same-eq0-clause-count c =
    sym (length-take-le c.loop-place.place c.args.self.now c.loop-place.invariant.within)
    ∙ ap length (returns-then-same-eq0-clause-front c)

pub loop-place-preserved : goal.loop-place-preserved
loop-place-preserved c =
    common-further c.args.self.now c.args.other.now c.run.result.now c.run-in-loop-place.result.now
    c.loop-place.place c.common_len-same.result c.loop-place.invariant
    c.run.ensures.front c.run-in-loop-place.ensures.front c.common_len-same.ensures.common
    c.common_len-same.ensures.within

pub overflow_add-place : goal.overflow_add-place
overflow_add-place c = omega (arith, (loop-place-preserved c).within, c.len.ensures, c.len.type_inv)

pub returns-clause-front : goal.returns-clause-front
returns-clause-front c =
    let x = c.args.self.now in
    let y = c.args.other.now in
    common-end x y (common_of x y) c.loop-place.place
    (ends (length x) (length y) c.min-most.result c.loop-place.place
    (omega (arith, c.min-most.ensures, c.len.ensures, c.len-2.ensures)) c.loop-place-test.false)
    c.loop-place.invariant.common

pub returns-clause-count : goal.returns-clause-count
returns-clause-count c =
    sym (length-take-le c.loop-place.place c.args.self.now c.loop-place.invariant.within)
    ∙ ap length (returns-clause-front c)
