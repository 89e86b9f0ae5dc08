use Rattle.std.proofs.Common.{◌≡◌, Bool, true, false, refl}
use Rattle.wal_model.specs.Log.{is_prefix}
use Rattle.wal_model.proofs.Entries.{is_prefix-to}
use Rattle.wal_model.proofs.Runs.{counted-to, counted-from, counted-test}
use Rattle.wal_model.proofs.wal.Wal.is_prefix.Goals as goal

never : (test last : Bool) → (test ≡ true → last ≡ true) → last ≡ false → last ≡ test
never true last h e = h refl
never false last h e = e

pub returns-then-last_stands_in-clause-test : goal.returns-then-last_stands_in-clause-test
returns-then-last_stands_in-clause-test c =
    counted-test c.args.self.now c.args.of.now c.common.result c.len.result c.common.ensures.count c.len.ensures

pub returns-then-last_stands_in-clause-prefix : goal.returns-then-last_stands_in-clause-prefix
returns-then-last_stands_in-clause-prefix c = (
  counted-to c.args.self.now c.args.of.now c.common.result c.len.result c.common.ensures.count c.len.ensures,
  counted-from c.args.self.now c.args.of.now c.common.result c.len.result c.common.ensures.count c.len.ensures,
)

pub returns-else-last_stands_in-clause-test : goal.returns-else-last_stands_in-clause-test
returns-else-last_stands_in-clause-test c =
    never (is_prefix c.args.self.now c.args.of.now) c.last_stands_in.result
    (λ h. c.last_stands_in.ensures (is_prefix-to _ _ h)) c.if-last_stands_in.false
