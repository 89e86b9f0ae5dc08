use Rattle.std.proofs.Common.{◌≡◌, ℕ, ◌<◌, get_or, length, None}
use Rattle.cluster_model.specs.Machines.{connected_end}
use Rattle.world_parts.proofs.replication.connected_ends.Given as goal
use Rattle.pat_base.specs.declared.member_id.TheConstants.{MOST_MEMBERS}

abbrev pub invariant-loop-number : goal.invariant-loop-number
invariant-loop-number l = (length l.ends ≡ MOST_MEMBERS)
    × ((k : ℕ) → k < l.number →
    get_or l.ends k None ≡ connected_end l.members l.servers l.cuts l.member l.server.confirmed k)
