use Rattle.std.proofs.Common.{◌≡◌, ◌++◌, Option, Some, None, IfSome, ap, sym, subst, ◌∙◌}
use Rattle.std.specs.BTreeMap.{is_at}
use Rattle.std.specs.Ordering.{nat_cmp}
use Rattle.event_book.specs.Flight.{Flight, InFlightFacts, in_flight, without_message}
use Rattle.world_model.specs.Short.{IsSent}
use Rattle.world_flight.specs.Launches.{IsFlight}
use Rattle.world_flight.proofs.Flights.{flight-without, is-sent, not-latest, others-left, taken-latest}
use Rattle.world_flight.proofs.Rising.{lookup-before, without-before, without-gone}
use Rattle.world_flight.proofs.flight.Flight.land.Goals as goal

-- the message stands in the row of the latest
without-it : (c : goal.After-remove-message)
    → without_message (c.self.inside.earlier.entries ++ c.self.inside.latest.items) c.args.number
    ≡ c.self.inside.earlier.entries ++ c.remove-message.new.self.items
without-it c =
    let w = c.self.inside in
    (taken-latest w.earlier.entries w.latest.items c.deref.result.now c.args.number c.in-Some.place
    c.remove-message.result c.place_of.result c.self.invariant c.deref.ensures.value c.place_of.ensures
    c.in-Some.is c.remove-message.ensures.value).0
    ∙ ap (λ (latest : Flight). w.earlier.entries ++ latest) (sym c.remove-message.ensures.items)

it : (c : goal.After-remove-message)
    → in_flight (c.self.inside.earlier.entries ++ c.self.inside.latest.items) c.args.number
    ≡ Some c.remove-message.result.1
it c =
    let w = c.self.inside in
    (taken-latest w.earlier.entries w.latest.items c.deref.result.now c.args.number c.in-Some.place
    c.remove-message.result c.place_of.result c.self.invariant c.deref.ensures.value c.place_of.ensures
    c.in-Some.is c.remove-message.ensures.value).1

pub invariant_of-self : goal.invariant_of-self
invariant_of-self c = subst IsFlight (without-it c)
    (flight-without (c.self.inside.earlier.entries ++ c.self.inside.latest.items) c.args.number c.self.invariant)

pub returns-in-Some-clause-flight : goal.returns-in-Some-clause-flight
returns-in-Some-clause-flight c =
    sym (without-it c) ∙ ap (λ (flight : Flight). without_message flight c.args.number) c.self.view_is

pub returns-in-Some-clause-message : goal.returns-in-Some-clause-message
returns-in-Some-clause-message c = sym (it c) ∙ ap (λ (flight : Flight). in_flight flight c.args.number) c.self.view_is

pub returns-in-Some-clause-sent : goal.returns-in-Some-clause-sent
returns-in-Some-clause-sent c = subst (λ (o : Option InFlightFacts). IfSome o IsSent) (it c)
    (is-sent (c.self.inside.earlier.entries ++ c.self.inside.latest.items) c.args.number c.self.invariant)

pub returns-in-Some-clause-gone : goal.returns-in-Some-clause-gone
returns-in-Some-clause-gone c =
    let w = c.self.inside in
    ap (λ (flight : Flight). in_flight flight c.args.number) (sym (without-it c))
    ∙ without-gone c.args.number 0 c.self.invariant.rise.0 (w.earlier.entries ++ w.latest.items) c.self.invariant.rise.1

pub returns-in-Some-clause-others : goal.returns-in-Some-clause-others
returns-in-Some-clause-others c = λ n message is.
    let flight = c.self.inside.earlier.entries ++ c.self.inside.latest.items in
    ap (λ (f : Flight). in_flight f n) (sym c.self.view_is)
    ∙ others-left flight c.args.number n message c.self.invariant
    (ap (λ (f : Flight). in_flight f n) (without-it c) ∙ is)

-- it doesn't
not-there : (c : goal.After-remove) → in_flight c.self.inside.latest.items c.args.number ≡ None
not-there c = not-latest c.self.inside.latest.items c.deref.result.now c.args.number c.place_of.result
    c.deref.ensures.value c.place_of.ensures c.in-None.is

without-earlier : (c : goal.After-remove)
    → without_message (c.self.inside.earlier.entries ++ c.self.inside.latest.items) c.args.number
    ≡ c.remove.new.self.entries ++ c.self.inside.latest.items
without-earlier c =
    let w = c.self.inside in
    without-before (is_at (nat_cmp c.args.number)) w.earlier.entries w.latest.items (not-there c)
    ∙ ap (λ (earlier : Flight). earlier ++ w.latest.items) (sym c.remove.ensures.entries)

pub invariant_of-self-in-None : goal.invariant_of-self-in-None
invariant_of-self-in-None c = subst IsFlight (without-earlier c)
    (flight-without (c.self.inside.earlier.entries ++ c.self.inside.latest.items) c.args.number c.self.invariant)

pub returns-in-None-clause-flight : goal.returns-in-None-clause-flight
returns-in-None-clause-flight c =
    sym (without-earlier c) ∙ ap (λ (flight : Flight). without_message flight c.args.number) c.self.view_is

in-earlier : (c : goal.After-remove)
    → in_flight (c.self.inside.earlier.entries ++ c.self.inside.latest.items) c.args.number ≡ c.remove.result
in-earlier c =
    lookup-before (is_at (nat_cmp c.args.number)) c.self.inside.earlier.entries c.self.inside.latest.items (not-there c)
    ∙ sym c.remove.ensures.value

pub returns-in-None-clause-message : goal.returns-in-None-clause-message
returns-in-None-clause-message c =
    sym (in-earlier c) ∙ ap (λ (flight : Flight). in_flight flight c.args.number) c.self.view_is

pub returns-in-None-clause-sent : goal.returns-in-None-clause-sent
returns-in-None-clause-sent c = subst (λ (o : Option InFlightFacts). IfSome o IsSent) (in-earlier c)
    (is-sent (c.self.inside.earlier.entries ++ c.self.inside.latest.items) c.args.number c.self.invariant)

pub returns-in-None-clause-gone : goal.returns-in-None-clause-gone
returns-in-None-clause-gone c =
    let w = c.self.inside in
    ap (λ (flight : Flight). in_flight flight c.args.number) (sym (without-earlier c))
    ∙ without-gone c.args.number 0 c.self.invariant.rise.0 (w.earlier.entries ++ w.latest.items) c.self.invariant.rise.1

pub returns-in-None-clause-others : goal.returns-in-None-clause-others
returns-in-None-clause-others c = λ n message is.
    let flight = c.self.inside.earlier.entries ++ c.self.inside.latest.items in
    ap (λ (f : Flight). in_flight f n) (sym c.self.view_is)
    ∙ others-left flight c.args.number n message c.self.invariant
    (ap (λ (f : Flight). in_flight f n) (without-earlier c) ∙ is)
