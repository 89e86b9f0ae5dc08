use Rattle.std.proofs.Common.{◌∙◌, ap, sym, rules}
use Rattle.std.proofs.lemmas.Option.{none-some}
use Rattle.event_book.specs.Flight.{Flight, in_flight}
use Rattle.world_stage.proofs.stage.Stage.of_head.Goals as goal

pub invariant_of-result : goal.invariant_of-result
invariant_of-result c = (
  c.in_ok-members.ensures.few,
  λ n message is.
      absurd (none-some message (ap (λ (flight : Flight). in_flight flight n) (sym c.in_ok-flight.ensures) ∙ is)),
  λ n message is out.
      absurd (none-some message (ap (λ (flight : Flight). in_flight flight n) (sym c.in_ok-flight.ensures) ∙ is)),
  search rules,
  search rules,
)
