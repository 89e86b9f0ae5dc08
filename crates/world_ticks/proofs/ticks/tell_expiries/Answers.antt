use Rattle.world_ticks.proofs.Expiring.{expiries-more}
use Rattle.world_ticks.proofs.ticks.tell_expiries.Goals as goal

pub loop-key-preserved : goal.loop-key-preserved
loop-key-preserved c =
    expiries-more _ _ _ _ _ _ _ _ c.loop-key-test.true c.key-item.is c.loop-key.invariant c.in_ok-tell_expiry.ensures
