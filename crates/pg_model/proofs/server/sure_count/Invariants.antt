use Rattle.std.proofs.Common.{◌≡◌, ◌+◌, ◌≤◌, drop}
use Rattle.pg_model.specs.Replication.{sure_count}
use Rattle.pg_model.proofs.server.sure_count.Given as goal

abbrev pub invariant-loop-number : goal.invariant-loop-number
invariant-loop-number l =
    (l.sure + sure_count l.number l.members l.end (drop l.number l.confirmed)
    ≡ sure_count 0 l.members l.end l.confirmed)
    × (l.sure ≤ l.number)
