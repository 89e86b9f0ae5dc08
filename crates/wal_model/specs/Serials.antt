-- Serials of commits, kept as runs.
use Rattle.std.specs.Prelude.{ℕ, ◌+◌, ◌-◌, List}
use Rattle.std.specs.List.{flat_map, range_with_len}
use Rattle.wal_model.specs.declared.serial_run.SerialRun.{SerialRun}

-- the serials of a run, from its first to its last
abbrev pub serials_of_run : SerialRun → List ℕ
serials_of_run run = range_with_len run.first (run.last - run.first + 1)

-- the serials of runs, one run after another
abbrev pub serials_in : List SerialRun → List ℕ
serials_in runs = flat_map serials_of_run runs
