use Rattle.std.proofs.Common.{◌≡◌, ◌++◌, drop, length, map}
use Rattle.std.specs.Prelude.{vec_capacity, vec_len}
use Rattle.cluster_model.specs.Starting.{first_agent}
use Rattle.world_agents.proofs.places.first_agents.Given as goal

-- the agents of the members from this place on are still to start, and there is a place for each
abbrev pub invariant-loop-member : goal.invariant-loop-member
invariant-loop-member l = record {
  made : l.agents.items ++ map (first_agent l.scope l.options l.members) (drop l.member-index l.members)
      ≡ map (first_agent l.scope l.options l.members) l.members;
  len : vec_len l.agents ≡ l.member-index;
  capacity : vec_capacity l.agents ≡ length l.members;
}
