use Rattle.std.proofs.Common.{◌≡◌, ◌∙◌, ◌-◌, drop, suc, false, sym, subst, ap, arith}
use Rattle.wal_model.specs.Lacking.{has_serial, is_entry_of}
use Rattle.wal_model.proofs.Lookups.{has-at, has-none}
use Rattle.wal_model.proofs.lacking.has_serial.Goals as goal

pub returns-then-is_entry_of : goal.returns-then-is_entry_of
returns-then-is_entry_of c =
    sym (has-at c.args.log.now (c.loop-place.place - 1) c.args.serial
    (ap (λ o. is_entry_of o c.args.serial) (sym c.get.ensures) ∙ sym c.is_entry_of.ensures ∙ c.if-is_entry_of.true))

pub loop-place-preserved : goal.loop-place-preserved
loop-place-preserved c =
    let place = c.loop-place.place in
    let back : place ≡ suc (place - 1) = omega (arith, c.loop-place-test.true) in (
      omega (arith, c.loop-place.invariant.0),
      has-none c.args.log.now (place - 1) c.args.serial
          (ap (λ o. is_entry_of o c.args.serial) (sym c.get.ensures) ∙ sym c.is_entry_of.ensures
          ∙ c.if-is_entry_of.false)
          (subst (λ n. has_serial (drop n c.args.log.now) c.args.serial ≡ false) back c.loop-place.invariant.1),
    )
