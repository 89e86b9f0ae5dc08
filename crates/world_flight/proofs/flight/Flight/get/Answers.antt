use Rattle.std.proofs.Common.{ap, sym, ◌∙◌}
use Rattle.std.specs.BTreeMap.{is_at}
use Rattle.std.specs.Ordering.{nat_cmp}
use Rattle.event_book.specs.Flight.{Flight, in_flight}
use Rattle.world_flight.proofs.Flights.{not-latest, taken-latest}
use Rattle.world_flight.proofs.Rising.{lookup-before}
use Rattle.world_flight.proofs.flight.Flight.get.Goals as goal

pub returns-in-Some : goal.returns-in-Some
returns-in-Some c =
    let w = c.self.inside in
    sym (taken-latest w.earlier.entries w.latest.items c.deref.result.now c.args.number c.in-Some.place
    c.index.result.now c.place_of.result c.self.invariant c.deref.ensures.value c.place_of.ensures
    c.in-Some.is c.index.ensures).1
    ∙ ap (λ (flight : Flight). in_flight flight c.args.number) c.self.view_is

pub returns-in-None : goal.returns-in-None
returns-in-None c =
    let w = c.self.inside in
    c.get.ensures.value
    ∙ sym (lookup-before (is_at (nat_cmp c.args.number)) w.earlier.entries w.latest.items
    (not-latest w.latest.items c.deref.result.now c.args.number c.place_of.result c.deref.ensures.value
    c.place_of.ensures c.in-None.is))
    ∙ ap (λ (flight : Flight). in_flight flight c.args.number) c.self.view_is
