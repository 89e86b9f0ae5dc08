use Rattle.std.proofs.Common.{◌≡◌, drop}
use Rattle.event_list.specs.Listed.{◌+++◌}
use Rattle.cluster_model.specs.Losing.{losses_of}
use Rattle.cluster_model.specs.Parts.{events_at}
use Rattle.world_fields.proofs.acknowledging.tell_losses.Given as goal

-- what the servers of the members from this place on lack is still to be written down
abbrev pub invariant-loop-member : goal.invariant-loop-member
invariant-loop-member l =
    l.events +++ events_at l.tick (losses_of l.commit l.servers (drop l.member-index l.members))
    ≡ l.fn.events +++ events_at l.tick (losses_of l.commit l.servers l.members)
