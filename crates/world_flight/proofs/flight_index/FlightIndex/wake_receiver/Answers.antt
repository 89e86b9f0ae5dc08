use Rattle.std.proofs.Common.{arith, below_more}
use Rattle.world_flight.specs.FlightIndex.{way_of}
use Rattle.world_flight.proofs.Tending.{looser-same, looser-then}
use Rattle.world_flight.proofs.flight_index.FlightIndex.wake_receiver.Goals as goal

pub loop-from-init : goal.loop-from-init
loop-from-init c = record { looser = looser-same c.args.self.now; woken = λ from below. absurd (omega (arith, below)) }

pub loop-from-preserved : goal.loop-from-preserved
loop-from-preserved c = record {
  looser = looser-then _ _ _ c.loop-from.invariant.looser c.wake.ensures.looser;
  woken = below_more _ _ (λ from below. c.wake.ensures.empty (way_of _ from) (c.loop-from.invariant.woken from below))
      c.in_ok-wake.ensures.woken;
}

pub returns-in_err-wake-clause-looser : goal.returns-in_err-wake-clause-looser
returns-in_err-wake-clause-looser c = looser-then _ _ _ c.loop-from.invariant.looser c.wake.ensures.looser
