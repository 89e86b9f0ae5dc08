use Rattle.std.proofs.Common.{◌≡◌, ◌++◌, drop}
use Rattle.cluster_model.specs.Machines.{hosts_of}
use Rattle.world_parts.proofs.from_head.hosts_of.Given as goal

-- the hosts of the members from this place on are still to be listed
abbrev pub invariant-loop-member : goal.invariant-loop-member
invariant-loop-member l =
    l.hosts.items ++ hosts_of l.options (drop l.member-index l.members) ≡ hosts_of l.options l.members
