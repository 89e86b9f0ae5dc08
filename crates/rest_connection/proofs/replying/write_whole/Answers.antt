use Rattle.std.proofs.Common.{◌≡◌, ◌+◌, ◌-◌, ◌∙◌, ◌<◌, arith, refl, take}
use Rattle.pat_door.specs.Doors.{after_write}
use Rattle.pat_outside.proofs.Contents.{OnErr-holds, within-more}
use Rattle.rest_connection.proofs.Writing.{written-nothing, written-more, written-front, written-all, rest-fits}
use Rattle.rest_connection.proofs.replying.write_whole.Goals as goal

pub loop-at-init : goal.loop-at-init
loop-at-init g c =
    let none : 0 < 0 → ⊥ = λ some. omega (arith, some) in
    record {
      within = omega arith;
      grew = written-nothing (g.D.Door.told c.args.door.now);
      present = λ some. absurd (none some);
      grows = omega arith;
      calm = refl;
      served = λ n serves. serves;
      room = λ n takes fits.
          let e : n - 0 ≡ n = omega arith in
          rw e takes;
      spare = λ n has.
          let e : n - 0 ≡ n = omega arith in
          rw e has;
      heard = λ calls had. had;
      counts = λ counts had. had;
    }

pub returns-in_err-at-clause-front : goal.returns-in_err-at-clause-front
returns-in_err-at-clause-front g c =
    OnErr-holds _ (written-front _ _ _ c.args.bytes.now c.loop-at.at c.loop-at.invariant.grew c.in_err-at.ensures.same)

pub loop-at-preserved : goal.loop-at-preserved
loop-at-preserved g c = record {
  within =
      within-more c.args.bytes.now c.loop-at.at c.in_ok-at.field-0 c.loop-at.invariant.within c.in_ok-at.ensures.within;
  grew = written-more _ _ _ c.args.bytes.now c.loop-at.at c.in_ok-at.field-0 c.loop-at.invariant.grew
      c.in_ok-at.ensures.grown;
  present = λ some facts is. c.in_ok-at.ensures.present (after_write (take c.loop-at.at c.args.bytes.now) facts)
      (c.loop-at.invariant.grew facts is);
  grows = omega arith;
  calm = c.write.ensures.door ∙ c.loop-at.invariant.calm;
  served = λ n serves. c.write.ensures.served n (c.loop-at.invariant.served n serves);
  room = λ n takes all.
      let taken = c.in_ok-at.ensures.room (n - c.loop-at.at) (c.loop-at.invariant.room n takes all)
      (rest-fits c.args.bytes.now c.loop-at.at n all) in
      let e : (n - c.loop-at.at) - c.in_ok-at.field-0 ≡ n - (c.loop-at.at + c.in_ok-at.field-0) = omega arith in
      rw (← e) taken;
  spare = λ n has.
      let left = c.in_ok-at.ensures.spare (n - c.loop-at.at) (c.loop-at.invariant.spare n has) in
      let e : (n - c.loop-at.at) - c.in_ok-at.field-0 ≡ n - (c.loop-at.at + c.in_ok-at.field-0) = omega arith in
      rw (← e) left;
  heard = λ calls had. c.in_ok-at.ensures.heard calls (c.loop-at.invariant.heard calls had);
  counts = λ counts had. c.write.ensures.counts counts (c.loop-at.invariant.counts counts had);
}

pub returns-clause-written : goal.returns-clause-written
returns-clause-written g c = written-all _ _ c.args.bytes.now c.loop-at.at c.loop-at-test.false c.loop-at.invariant.grew
