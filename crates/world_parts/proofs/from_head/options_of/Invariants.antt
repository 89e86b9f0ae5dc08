use Rattle.std.proofs.Common.{◌≡◌, ◌++◌, drop}
use Rattle.cluster_model.specs.Starting.{options_of}
use Rattle.world_parts.proofs.from_head.options_of.Given as goal

-- the options of the members from this place on are still to be listed
abbrev pub invariant-loop-place : goal.invariant-loop-place
invariant-loop-place l = l.options.items ++ drop l.place (options_of l.head) ≡ options_of l.head
