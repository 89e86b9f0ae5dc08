use Rattle.std.proofs.Common.{◌≡◌, ◌++◌, ◌∷◌, [], false, nat_le, append_assoc, length, ap, sym, subst, ◌∙◌}
use Rattle.event_book.specs.Flight.{Flight, in_flight}
use Rattle.cluster_model.specs.Limits.{most_in_flight}
use Rattle.world_flight.specs.Launches.{IsFlight}
use Rattle.world_flight.specs.Rising.{RiseTo}
use Rattle.world_flight.proofs.Flights.{launched-behind, launched-full, more-flight, newest-rise}
use Rattle.world_flight.proofs.Rising.{lookup-others}
use Rattle.world_flight.proofs.flight.Flight.launch.Goals as goal

pub returns-then-is_full-clause-flight : goal.returns-then-is_full-clause-flight
returns-then-is_full-clause-flight c =
    sym (launched-full c.args.self.now c.args.number c.args.message (sym c.is_full.ensures.full ∙ c.if-is_full.true)
    (newest-rise c.args.self.now c.args.number c.is_full.ensures.flight c.requires.newest))

-- what is in flight stays there
stays : (c : goal.In_ok-push) → c.self.inside.earlier.entries ++ c.self.inside.latest.items ≡ c.args.self.now
stays c = c.self.view_is ∙ c.in_ok-make_room.ensures.same

-- and the message goes behind it
behind : (c : goal.In_ok-push)
    → c.self.inside.earlier.entries ++ c.push.new.self.items ≡ c.args.self.now ++ (c.args.number, c.args.message) ∷ []
behind c =
    let w = c.self.inside in
    ap (λ (row : Flight). w.earlier.entries ++ row) c.in_ok-push.ensures.items
    ∙ sym (append_assoc w.earlier.entries w.latest.items ((c.args.number, c.args.message) ∷ []))
    ∙ ap (λ (flight : Flight). flight ++ (c.args.number, c.args.message) ∷ []) (stays c)

-- where there is room
room : (c : goal.In_ok-push) → nat_le most_in_flight (length c.args.self.now) ≡ false
room c = sym c.is_full.ensures.full ∙ c.if-is_full.false

rises : (c : goal.In_ok-push) → RiseTo 0 c.args.self.now c.args.number
rises c = newest-rise c.args.self.now c.args.number (subst IsFlight (stays c) c.self.invariant) c.requires.newest

pub invariant_of-self-2 : goal.invariant_of-self-2
invariant_of-self-2 c = subst IsFlight (sym (behind c))
    (more-flight c.args.self.now c.args.number c.args.message (subst IsFlight (stays c) c.self.invariant)
    (room c) c.requires.sent (rises c))

pub returns-clause-flight : goal.returns-clause-flight
returns-clause-flight c =
    behind c ∙ sym (launched-behind c.args.self.now c.args.number c.args.message (room c) (rises c))

pub returns-clause-others : goal.returns-clause-others
returns-clause-others c = λ n message other is. sym (lookup-others c.args.number n c.args.message c.args.self.now other)
    ∙ ap (λ (flight : Flight). in_flight flight n) (sym (behind c)) ∙ is
