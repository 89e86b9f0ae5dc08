use Rattle.std.proofs.Common.{◌≡◌, None, sym, subst}
use Rattle.event_book.specs.Flight.{in_flight}
use Rattle.cluster_model.specs.State.{Cluster}
use Rattle.world_flight.proofs.Tending.{tended-without}
use Rattle.world_stage.proofs.stage.Stage.forget.Goals as goal

pub invariant_of-self : goal.invariant_of-self
invariant_of-self c =
    let w = c.self.inside in
    let gone : in_flight w.flight c.args.number ≡ None =
    subst (λ (b : Cluster). in_flight b.facts.flight c.args.number ≡ None) (sym c.self.view_is) c.requires in (
      c.self.invariant.0,
      c.self.invariant.1,
      tended-without w.index c.remove.new.self c.args.number w.flight w.processes.items w.cuts
          c.remove.ensures.looser gone c.self.invariant.2,
      c.self.invariant.3,
      c.self.invariant.4,
    )
