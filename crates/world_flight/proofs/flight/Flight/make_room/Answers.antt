use Rattle.std.proofs.Common.{◌≡◌, ◌++◌, arith, ap, sym, subst, ◌∙◌}
use Rattle.event_book.specs.Flight.{Flight, in_flight, without_message}
use Rattle.world_flight.specs.Launches.{IsFlight}
use Rattle.world_flight.proofs.Flights.{flight-without, moved-on, others-left}
use Rattle.world_flight.proofs.flight.Flight.make_room.Goals as goal

-- where the message isn't put among the earlier ones, it is lost
lost : (c : goal.After-from_residual)
    → without_message (c.self.inside.earlier.entries ++ c.self.inside.latest.items) c.remove-number.result.0
    ≡ c.insert.new.self.entries ++ c.remove-number.new.self.items
lost c =
    let w = c.self.inside in
    (moved-on w.earlier.entries w.latest.items c.remove-number.new.self.items c.remove-number.result c.self.invariant
    (omega (arith, c.len.ensures, c.if-len-lt-LATEST.false)) c.remove-number.ensures.value
    c.remove-number.ensures.items).1
    ∙ ap (λ (earlier : Flight). earlier ++ c.remove-number.new.self.items) (sym c.in_err-insert.ensures.err)

pub invariant_of-self : goal.invariant_of-self
invariant_of-self c = subst IsFlight (lost c)
    (flight-without (c.self.inside.earlier.entries ++ c.self.inside.latest.items) c.remove-number.result.0
    c.self.invariant)

pub returns-in_err-insert-clause-others : goal.returns-in_err-insert-clause-others
returns-in_err-insert-clause-others c = λ n message is.
    let flight = c.self.inside.earlier.entries ++ c.self.inside.latest.items in
    ap (λ (f : Flight). in_flight f n) (sym c.self.view_is)
    ∙ others-left flight c.remove-number.result.0 n message c.self.invariant
    (ap (λ (f : Flight). in_flight f n) (lost c) ∙ is)

-- else all is as it was
same : (c : goal.Joined-branch-2)
    → c.insert.new.self.entries ++ c.remove-number.new.self.items
    ≡ c.self.inside.earlier.entries ++ c.self.inside.latest.items
same c =
    let w = c.self.inside in
    ap (λ (earlier : Flight). earlier ++ c.remove-number.new.self.items) c.in_ok-insert.ensures.entries
    ∙ (moved-on w.earlier.entries w.latest.items c.remove-number.new.self.items c.remove-number.result c.self.invariant
    (omega (arith, c.len.ensures, c.if-len-lt-LATEST.false)) c.remove-number.ensures.value
    c.remove-number.ensures.items).0

pub invariant_of-self-2 : goal.invariant_of-self-2
invariant_of-self-2 c = subst IsFlight (sym (same c)) c.self.invariant

pub returns-clause-same : goal.returns-clause-same
returns-clause-same c = same c ∙ c.self.view_is

pub returns-clause-others : goal.returns-clause-others
returns-clause-others c = λ n message is. ap (λ (f : Flight). in_flight f n) (sym c.self.view_is ∙ sym (same c)) ∙ is
