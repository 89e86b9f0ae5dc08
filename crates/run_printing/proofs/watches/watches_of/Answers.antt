use Rattle.std.proofs.Common.{◌≤◌, length, arith, ap}
use Rattle.std.proofs.lemmas.List.{length-map}
use Rattle.run_model.specs.Watches.{watches_of}
use Rattle.run_printing.proofs.Watching.{watches-more, watches-end}
use Rattle.run_printing.proofs.watches.watches_of.Goals as goal

pub loop-place-preserved : goal.loop-place-preserved
loop-place-preserved c = watches-more _ _ _ c.loop-place.place c.watch_at.result c.loop-place.invariant
    c.watch_at.ensures c.in_ok-push.ensures.items

pub returns-clause-value : goal.returns-clause-value
returns-clause-value c =
    let past : length (watches_of c.args.head.now) ≤ c.loop-place.place =
    rw length-map (omega (arith, c.loop-place-test.false, c.member_count-place-end.ensures.value)) in
    watches-end (watches_of c.args.head.now) _ c.loop-place.place past c.loop-place.invariant

pub returns-clause-few : goal.returns-clause-few
returns-clause-few c =
    let past : length (watches_of c.args.head.now) ≤ c.loop-place.place =
    rw length-map (omega (arith, c.loop-place-test.false, c.member_count-place-end.ensures.value)) in
    let most : length (watches_of c.args.head.now) ≤ 16 = rw length-map (c.member_count-place-end.ensures.head).few in
    omega
    (arith, most, ap length (watches-end (watches_of c.args.head.now) _ c.loop-place.place past c.loop-place.invariant))
