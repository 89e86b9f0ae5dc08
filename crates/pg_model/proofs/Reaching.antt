-- What was confirmed is at or past the end of a commit: as a test, and as a fact.
use Rattle.std.proofs.Common.{◌≡◌, false, true, Option, Some, None, arith}
use Rattle.std.proofs.lemmas.Bool.Decides.{nat_tests}
use Rattle.pat_base.specs.declared.lsn.Lsn.{Lsn}
use Rattle.pg_model.specs.Replication.{reaches, Reaches}

pub reaches-to : (end : Lsn) (c : Option Lsn) → reaches end c ≡ true → Reaches end c
reaches-to end None h = absurd (clash h)
  where
    clash : false ≡ true → ⊥
    clash h = cc
reaches-to end (Some position) h = grind (arith, nat_tests)

pub reaches-from : (end : Lsn) (c : Option Lsn) → Reaches end c → reaches end c ≡ true
reaches-from end None h = absurd h
reaches-from end (Some position) h = grind (arith, nat_tests)
