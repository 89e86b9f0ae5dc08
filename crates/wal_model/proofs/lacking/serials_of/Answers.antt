use Rattle.std.proofs.Common.{◌∙◌, ◌<◌, ◌||◌, length, take, sym, ap, arith, add-one}
use Rattle.wal_model.specs.Lacking.{has_serial, is_entry_of}
use Rattle.wal_model.proofs.Lookups.{has-more}
use Rattle.wal_model.proofs.lacking.serials_of.Goals as goal

pub loop-place-preserved : goal.loop-place-preserved
loop-place-preserved c = λ q.
    let log = c.args.log.now in
    let place = c.loop-place.place in
    let within : place < length log = omega (arith, c.len-place-end.ensures, c.loop-place-test.true) in
    rw add-one (c.in_ok-put_serial.ensures q
    ∙ ap (λ b. is_entry_of c.get.result q || b) (c.loop-place.invariant q)
    ∙ ap (λ o. is_entry_of o q || has_serial (take place log) q) c.get.ensures
    ∙ sym (has-more log place q within))
