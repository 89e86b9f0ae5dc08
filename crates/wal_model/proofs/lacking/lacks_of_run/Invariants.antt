use Rattle.std.proofs.Common.{◌≡◌, ◌+◌, ◌-◌, ℕ, List}
use Rattle.std.specs.BTreeSet.{contains}
use Rattle.std.specs.List.{range_with_len}
use Rattle.std.specs.Ordering.{nat_cmp}
use Rattle.wal_model.specs.declared.entry.Entry.{Entry}
use Rattle.wal_model.specs.Lacking.{has_serial, lacks_in}
use Rattle.wal_model.specs.Serials.{serials_of_run}
use Rattle.wal_model.proofs.lacking.lacks_of_run.Given as goal

abbrev pub invariant-loop-serial : goal.invariant-loop-serial
invariant-loop-serial l = (log : List Entry) → ((q : ℕ) → contains nat_cmp l.serials q ≡ has_serial log q)
    → lacks_in log (range_with_len l.serial-counter (l.run.last - l.serial-counter + 1))
    ≡ lacks_in log (serials_of_run l.run)
