use Rattle.std.proofs.Common.{ℕ, ◌≡◌, ◌+◌, ◌-◌, ◌<◌, length, string_bytes, arith}
use Rattle.picture.proofs.Steps.{bars-step, until-step}
use Rattle.picture.proofs.bars.push_bars.Goals as goal

pub loop-left-preserved : goal.loop-left-preserved
loop-left-preserved c =
    let sights = c.args.sights.now in
    let i : ℕ = c.loop-left.left - 1 in
    let h : i < length sights = omega (arith, c.loop-left.invariant, c.loop-left-test.true) in
    let one : c.loop-left.left ≡ i + 1 = omega (arith, c.loop-left-test.true) in
    let s = c.index-sights-left.result in (
      bars-step c.args.frame.end c.args.row i c.loop-left.left c.loop-left.until c.in_ok-until.until sights s
          (string_bytes c.args.out.now) (string_bytes c.loop-left.out) (string_bytes c.push_bar_if.new.out) h
          one c.index-sights-left.is c.loop-left.invariant.0 c.loop-left.invariant.1 c.in_ok-until.ensures.text,
      until-step c.args.frame.end c.args.row i c.loop-left.left c.loop-left.until c.in_ok-until.until sights s
          h one c.index-sights-left.is c.loop-left.invariant.1 c.in_ok-until.ensures.until,
      c.in_ok-until.ensures.most,
      omega (arith, h),
    )
