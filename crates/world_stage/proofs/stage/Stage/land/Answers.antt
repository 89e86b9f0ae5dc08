use Rattle.std.proofs.Common.{◌≡◌, ◌∙◌, Some, ap, sym, subst}
use Rattle.event_book.specs.Flight.{in_flight}
use Rattle.cluster_model.specs.State.{Cluster}
use Rattle.world_model.specs.Room.{HasRoom, hearing_cost}
use Rattle.world_model.proofs.Rooms.{HasRoom-landed}
use Rattle.world_flight.proofs.Tending.{numbered-fewer, tended-fewer, tended-without}
use Rattle.world_stage.specs.Arrivals.{Landed}
use Rattle.world_stage.proofs.Landing.{landed-as}
use Rattle.world_stage.proofs.Worlds.{seen}
use Rattle.world_stage.proofs.stage.Stage.land.Goals as goal

pub invariant_of-self : goal.invariant_of-self
invariant_of-self c =
    let w = c.self.inside in (
      c.self.invariant.0,
      numbered-fewer w.sent w.flight c.land.new.self c.land.ensures.others c.self.invariant.1,
      tended-fewer w.index w.flight c.land.new.self w.processes.items w.cuts c.land.ensures.others c.self.invariant.2,
      c.self.invariant.3,
      c.self.invariant.4,
    )

pub invariant_of-self-2 : goal.invariant_of-self-2
invariant_of-self-2 c =
    let w = c.self.inside in (
      c.self.invariant.0,
      numbered-fewer w.sent w.flight c.land.new.self c.land.ensures.others c.self.invariant.1,
      tended-without w.index c.remove.new.self c.args.number c.land.new.self w.processes.items w.cuts
          c.remove.ensures.looser c.land.ensures.gone
          (tended-fewer w.index w.flight c.land.new.self w.processes.items w.cuts c.land.ensures.others
          c.self.invariant.2),
      c.self.invariant.3,
      c.self.invariant.4,
    )

pub reach-requires-clause-room : goal.reach-requires-clause-room
reach-requires-clause-room c = HasRoom-landed (seen c.self.inside) c.land.new.self hearing_cost
    (subst (λ (b : Cluster). HasRoom b hearing_cost) (sym c.self.view_is) c.requires.room)

pub returns : goal.returns
returns c =
    let before = seen c.self.inside in
    let carried = c.in-Some.carried in
    let found : in_flight before.facts.flight c.args.number ≡ Some carried = sym c.land.ensures.message
    ∙ c.in-Some.is in
    record {
      landed =
          subst (λ (b : Cluster).
          Landed b c.reach.new.self c.args.events.now c.write_down.new.events c.reach.new.outputs.outputs c.args.number
          (in_flight b.facts.flight c.args.number) (Some c.in_ok-arrival.arrival))
          c.self.view_is
          (landed-as before c.reach.new.self c.land.new.self c.args.events.now c.write_down.new.events
          c.reach.new.outputs.outputs c.args.number carried c.in_ok-arrival.arrival c.self-2.inside.clock
          c.land.ensures.flight found c.in-Some.ensures.sent c.in_ok-arrival.ensures.reached
          (ap (λ (b : Cluster). b.facts.clock) c.self-2.view_is) c.in_ok-write_down.ensures);
    }
