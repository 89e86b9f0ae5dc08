use Rattle.std.proofs.Common.{◌≡◌, ◌∙◌, ℕ, true, Option, Some, ap, sym, subst}
use Rattle.std.specs.Prelude.{IfSome, option_copied}
use Rattle.event_book.specs.Flight.{InFlightFacts, in_flight}
use Rattle.cluster_model.specs.declared.delivery.Delivery.TheVariants.{Suspended}
use Rattle.cluster_model.specs.Deliveries.{delivery_of}
use Rattle.cluster_model.specs.State.{Cluster}
use Rattle.world_flight.specs.FlightIndex.{AreTended, IndexFacts, is_kept, message_way}
use Rattle.world_flight.proofs.Tending.{tended-kept}
use Rattle.world_stage.proofs.stage.Stage.keep.Goals as goal

pub invariant_of-self : goal.invariant_of-self
invariant_of-self c =
    let w = c.self.inside in (
      c.self.invariant.0,
      c.self.invariant.1,
      subst (λ (index : IndexFacts). AreTended index w.flight w.processes.items w.cuts)
          (sym c.in_err-keep.ensures.err) c.self.invariant.2,
      c.self.invariant.3,
      c.self.invariant.4,
    )

pub invariant_of-self-2 : goal.invariant_of-self-2
invariant_of-self-2 c =
    let w = c.self.inside in
    let message = c.in-Some.carried.now in
    let found : in_flight w.flight c.args.number ≡ Some message = sym c.get.ensures ∙ ap option_copied c.in-Some.is in
    let seen_so =
    subst (λ (b : Cluster). IfSome (in_flight b.facts.flight c.args.number)
    (λ m. delivery_of b.facts.cuts b.facts.processes m.message ≡ Suspended))
    (sym c.self.view_is) c.requires in
    let suspended =
    subst (λ (o : Option InFlightFacts). IfSome o (λ m. delivery_of w.cuts w.processes.items m.message ≡ Suspended))
    found seen_so in
    let way = c.message_way.ensures.way ∙ ap message_way c.get-2.ensures
    ∙ ap (λ (m : InFlightFacts). message_way m.message) c.carried.view_is in
    let listed = subst (λ (n : ℕ). is_kept c.keep.new.self n c.args.number ≡ true) way c.in_ok-keep.ensures.kept in (
      c.self.invariant.0,
      c.self.invariant.1,
      tended-kept w.index c.keep.new.self c.args.number message w.flight w.processes.items w.cuts found
          c.keep.ensures.others listed suspended c.self.invariant.2,
      c.self.invariant.3,
      c.self.invariant.4,
    )
