use Rattle.std.proofs.Common.{◌≡◌, drop}
use Rattle.pg_model.specs.Replication.{all_reach}
use Rattle.pg_model.proofs.server.all_reach.Given as goal

abbrev pub invariant-loop-number : goal.invariant-loop-number
invariant-loop-number l =
    all_reach l.number l.members l.end (drop l.number l.confirmed) ≡ all_reach 0 l.members l.end l.confirmed
