use Rattle.std.proofs.Common.{◌≡◌, drop}
use Rattle.pg_cluster.specs.Completing.{first_completion}
use Rattle.pg_cluster.proofs.completing.first_completion.Given as goal

-- the first of what is left, from the first so far on, is the first of all
abbrev pub invariant-loop-server : goal.invariant-loop-server
invariant-loop-server l =
    first_completion l.first.0 (drop l.server-index l.servers) ≡ first_completion l.fn.most.0 l.servers
