use Rattle.std.proofs.Common.{◌≡◌, drop}
use Rattle.event_list.specs.Listed.{◌+++◌}
use Rattle.cluster_model.specs.Parts.{events_at}
use Rattle.cluster_model.specs.Ticking.{expiries_of}
use Rattle.world_ticks.proofs.ticks.tell_expiries.Given as goal

-- what is written down, and the expiries of the keys that are left, are all
abbrev pub invariant-loop-key : goal.invariant-loop-key
invariant-loop-key l = l.events +++ events_at l.tick (expiries_of l.holder (drop l.key-index l.keys))
    ≡ l.fn.events +++ events_at l.tick (expiries_of l.holder l.keys)
